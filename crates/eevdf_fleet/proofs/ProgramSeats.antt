-- The seats of programs that run, each by a thread of its own, and what their fleet is closed to.
use Rattle.std.proofs.Common.{◌≡◌, ℕ, ◌+◌, ◌*◌, ◌<◌, ◌≤◌, Bool, true, false, cond, List, [], ◌∷◌, ◌++◌, length, get_or, inl, inr, refl, sym, ap, subst, ◌∙◌, arith}
use Rattle.std.proofs.{Math.Nat.mul-le-mul_right, lemmas.Bool.and_parts, lemmas.Bool.cases_lt, lemmas.Bool.ltb-true, lemmas.Bool.Decides.nat_tests, lemmas.List.get_or_past}
use Rattle.std.proofs.{lemmas.List.Elements.All-get_or, lemmas.Option.slice_get-get_or}
use Rattle.std.specs.Prelude.{◌==◌, All, Some, nat_lt, slice_get}
use Rattle.std.specs.List.{list_all}
use Rattle.eevdf_ops.specs.{declared.deeds.Deed.Deed, declared.deeds.Line.Line, declared.deeds.Op.Op, Followed.FollowsPrograms}
use Rattle.eevdf_ops.specs.{Followed.program_of, Outcome.Outcome, OwnRequests.AllFitWaiting, OwnRequests.TakesOwnRequests}
use Rattle.eevdf_ops.specs.Parts.{decider}
use Rattle.eevdf_ops.proofs.DeedNames.{decider_below}
use Rattle.eevdf_ops.specs.declared.deeds.Deed.TheVariants.{Wake}
use Rattle.eevdf_ops.specs.Programs.{FitsProgram, deeds_of, lines_by, posts_in, wake_from, wakes_from}
use Rattle.eevdf_ops.specs.Setup.{Setup, allows, cpus_of, homes_of, is_allowed}
use Rattle.eevdf_fleet.specs.Fleets.{AllPostsTold, Seat, fresh}
use Rattle.eevdf_fleet.specs.{ProgramRuns.AreRun, ProgramRuns.HasRun, SeatWorks.AreDone}
use Rattle.eevdf_fleet.proofs.Takes.{wake-other}

-- where each thread's work is its CPU's program, the programs are run
pub done-run : (s : Setup) (seats : List Seat) → AreDone (cpus_of s) (λ cpu seat. HasRun s cpu (program_of s cpu) seat) seats → AreRun s seats
done-run s seats done = record { all = done.all; each = done.each }

line_of_another : (b : Bool) (l : Line) (lines : List Line) → b ≡ false → cond b (l ∷ lines) lines ≡ lines
line_of_another false l lines e = refl
line_of_another true l lines e = cc

-- a CPU that isn't there has no lines
no_lines : (cpus : ℕ) (hs : List ℕ) (p : ℕ) (lines : List Line) → cpus ≤ p → list_all (is_allowed cpus hs) (deeds_of lines) ≡ true → lines_by p lines ≡ []
no_lines cpus hs p [] past ok = refl
no_lines cpus hs p (l ∷ lines) past ok =
    let there : decider l.deed < cpus = decider_below cpus hs l.deed (and_parts _ _ ok).0 in
    let other : (decider l.deed == p) ≡ false = grind (arith, nat_tests) in
    line_of_another (decider l.deed == p) l (lines_by p lines) other ∙ no_lines cpus hs p lines past (and_parts (is_allowed cpus hs l.deed) _ ok).1

-- and has asked for no wake
no_wake : (cpus : ℕ) (hs : List ℕ) (q : ℕ) (d : Deed) → cpus ≤ q → is_allowed cpus hs d ≡ true → wake_from q d ≡ []
no_wake cpus hs q (Wake cpu task sender) past ok =
    let there : sender < cpus = ltb-true sender cpus (and_parts (nat_lt sender cpus) _ (and_parts (nat_lt cpu cpus) _ ok).1).0 in
    wake-other cpu task q sender (λ same. absurd (omega (arith, same, there, past)))
no_wake cpus hs q other past ok = refl

no_wakes : (cpus : ℕ) (hs : List ℕ) (q c : ℕ) (lines : List Line) → cpus ≤ q → list_all (is_allowed cpus hs) (deeds_of lines) ≡ true → wakes_from q (lines_by c lines) ≡ []
no_wakes cpus hs q c [] past ok = refl
no_wakes cpus hs q c (l ∷ lines) past ok =
    with_line (decider l.deed == c) (no_wake cpus hs q l.deed past (and_parts _ _ ok).0) (no_wakes cpus hs q c lines past (and_parts (is_allowed cpus hs l.deed) _ ok).1)
  where
    with_line : (b : Bool) → wake_from q l.deed ≡ [] → wakes_from q (lines_by c lines) ≡ [] → wakes_from q (cond b (l ∷ lines_by c lines) (lines_by c lines)) ≡ []
    with_line false none rest = rest
    with_line true none rest = ap (λ (ts : List ℕ). ts ++ wakes_from q (lines_by c lines)) none ∙ rest

no_program : (s : Setup) (p : ℕ) → cpus_of s ≤ p → program_of s p ≡ []
no_program s p past = get_or_past s.programs p [] past

-- what holds of each seat's lines and of its program holds of the lines of each CPU
each-program : (s : Setup) (seats : List Seat) (o : Outcome) (Holds : ℕ → List Line → List Op → Type 0) → AreRun s seats → list_all (allows s) (deeds_of o.lines) ≡ true
    → All (λ (seat : Seat). lines_by seat.cpu o.lines ≡ seat.log) seats → ((p : ℕ) (seat : Seat) → HasRun s p (program_of s p) seat → Holds p seat.log (program_of s p))
    → ((p : ℕ) → Holds p [] []) → (p : ℕ) → Holds p (lines_by p o.lines) (program_of s p)
each-program s seats o Holds run ok logs here nowhere p =
    elim (cases_lt p (cpus_of s)) [
      | inl less ↦
          let seat : Seat = get_or seats p (fresh 0 0 0) in
          let within : p < length seats = subst (λ (m : ℕ). p < m) (sym run.all) less in
          let has : HasRun s p (program_of s p) seat = run.each p seat (slice_get-get_or seats p (fresh 0 0 0) within) in
          let own : lines_by p o.lines ≡ seat.log
          = ap (λ (k : ℕ). lines_by k o.lines) (sym has.own) ∙ All-get_or (λ (x : Seat). lines_by x.cpu o.lines ≡ x.log) seats p (fresh 0 0 0) within logs in
          subst (λ (lines : List Line). Holds p lines (program_of s p)) (sym own) (here p seat has)
      | inr past ↦
          subst (λ (lines : List Line). Holds p lines (program_of s p)) (sym (no_lines (cpus_of s) (homes_of s) p o.lines past ok))
          (subst (Holds p []) (sym (no_program s p past)) (nowhere p))
    ]

-- what the seats of programs that have run are closed to follows the programs
pub runs-follow : (s : Setup) (seats : List Seat) (o : Outcome) → AreRun s seats → list_all (allows s) (deeds_of o.lines) ≡ true
    → All (λ (seat : Seat). lines_by seat.cpu o.lines ≡ seat.log) seats → AllPostsTold (cpus_of s) seats o.lines o.left
    → length o.left ≡ cpus_of s * cpus_of s → FollowsPrograms s o
runs-follow s seats o run ok logs told each =
    let n : ℕ = cpus_of s in
    let at : ℕ → Seat = λ p. get_or seats p (fresh 0 0 0) in
    let stands : (p : ℕ) → p < n → slice_get seats p ≡ Some (at p)
    = λ p less. slice_get-get_or seats p (fresh 0 0 0) (subst (λ (m : ℕ). p < m) (sym run.all) less) in
    record {
      operations = each-program s seats o FitsProgram run ok logs (λ p seat has. has.operations) (λ p. refl);
      requests = λ q c there.
          elim (cases_lt q n) [
            | inl less ↦ sym ((run.each q (at q) (stands q less)).posts c there) ∙ told q c (at q) (stands q less) there
            | inr past ↦
                let beyond : n * n ≤ q * n = mul-le-mul_right n past in
                ap (posts_in (homes_of s) c) (no_program s q past)
                ∙ sym (ap (λ (ts : List ℕ). ts ++ get_or o.left (q * n + c) []) (no_wakes n (homes_of s) q c o.lines past ok)
                ∙ get_or_past o.left (q * n + c) [] (omega (arith, each, beyond)))
          ];
    }

-- and its drains take the requests that each program has posted to its own CPU
pub runs-take-own : (s : Setup) (seats : List Seat) (o : Outcome) → AreRun s seats → list_all (allows s) (deeds_of o.lines) ≡ true
    → All (λ (seat : Seat). lines_by seat.cpu o.lines ≡ seat.log) seats → TakesOwnRequests s o
runs-take-own s seats o run ok logs = record {
  each = each-program s seats o (λ p lines ops. AllFitWaiting (homes_of s) p [] (deeds_of lines) ops) run ok logs (λ p seat has. has.takes) (λ p. refl);
}
