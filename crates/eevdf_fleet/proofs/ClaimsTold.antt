-- Claims of a history, with one line more.
use Rattle.std.proofs.Common.{◌≡◌, ℕ, zero, suc, ◌<◌, ◌≤◌, Bool, true, false, cond, List, [], ◌∷◌, ◌++◌, length, map, take, drop, append-nil, eq-eqb, refl, sym, ap, subst, ◌∙◌, arith}
use Rattle.std.specs.{Prelude.◌==◌, Prelude.Option, Prelude.Some, Prelude.None, Prelude.IfSome, Prelude.is_some, List.list_all}
use Rattle.std.proofs.{Math.ListN.length-append, lemmas.Bool.Decides.nat_tests, lemmas.List.append_assoc}
use mathlib.Core.List.{IsPrefix}
use Rattle.eevdf_ops.specs.{declared.deeds.Deed.Deed, declared.deeds.Line.Line, Machine.Machine, Machine.queue_at, Parts.decider}
use Rattle.eevdf_ops.specs.{PartsLaws.Fits, Places.AreCpus, Places.IsPlaced, Programs.deeds_of, Programs.lines_by, Whole.whole}
use Rattle.eevdf_ops.specs.Setup.{allows, cpus_of, is_allowed}
use Rattle.eevdf_ops.specs.Parts as parts
use Rattle.eevdf_ops.proofs.{LocalParts.others_stay, WholePlaces.whole-placed}
use Rattle.eevdf_fleet.specs.{declared.board.claims.Terms.Terms, declared.board.claims.Claim.Claim}
use Rattle.eevdf_fleet.specs.declared.board.claims.Said.{Said}
use Rattle.eevdf_fleet.specs.declared.board.claims.Claim.TheVariants.{Seat, Queue, Journal, Past}
use Rattle.eevdf_fleet.specs.Claims.{Subject, seat, queue, journal, once, here, times, alters, homes, told, IsOnTerms, FitsQuota, HasRoom, Tells, AllTell, HasClaimed, HasAllClaimed, Owes, advanced}
use Rattle.eevdf_fleet.specs.Board.{held}
use Rattle.eevdf_fleet.proofs.Told.{length-told, told-more, lines_by-more, list_all-more, history-more, deeds-more}

-- the lines of a CPU among one
by_one : (cpu : ℕ) (l : Line) (b : Bool) → (decider l.deed == cpu) ≡ b → lines_by cpu (l ∷ []) ≡ cond b (l ∷ []) []
by_one cpu l b e = ap (λ (x : Bool). cond x (l ∷ []) []) e

is_once : (n : ℕ) → once (n == n) ≡ 1
is_once n = ap once (eq-eqb n n refl)

pub prefix-more : (seen lines more : List Line) → IsPrefix seen lines → IsPrefix seen (lines ++ more)
prefix-more seen lines more h = (h.0 ++ more, sym (append_assoc seen h.0 more) ∙ ap (λ (l : List Line). l ++ more) h.1)

-- a claim of what a line doesn't change holds with that line too
seat_stays : (t : Terms) (lines : List Line) (l : Line) (cpu : ℕ) (own : List Line) (b : Bool) → (decider l.deed == cpu) ≡ b
    → (b ≡ true → once (cpu == cpu) ≡ 0) → lines_by cpu lines ≡ own → lines_by cpu (lines ++ l ∷ []) ≡ own
seat_stays t lines l cpu own true e none h = absurd (let one : once (cpu == cpu) ≡ 1 = is_once cpu in let zeros : once (cpu == cpu) ≡ 0 = none refl in omega arith)
seat_stays t lines l cpu own false e none h =
    lines_by-more cpu lines l ∙ ap (λ (x : List Line). lines_by cpu lines ++ x) (by_one cpu l false e) ∙ append-nil (lines_by cpu lines) ∙ h

queue_stays : (t : Terms) (lines : List Line) (l : Line) (cpu : ℕ) (b : Bool) → parts.touches (homes t) l.deed cpu ≡ b
    → (b ≡ true → once (cpu == cpu) ≡ 0) → queue_at (told t (lines ++ l ∷ [])) cpu ≡ queue_at (told t lines) cpu
queue_stays t lines l cpu true e none = absurd (let one : once (cpu == cpu) ≡ 1 = is_once cpu in let zeros : once (cpu == cpu) ≡ 0 = none refl in omega arith)
queue_stays t lines l cpu false e none =
    ap (λ (m : Machine). queue_at m cpu) (told-more t lines l) ∙ others_stay (homes t) l.deed (told t lines) cpu e

journal_stays : (quota : Option ℕ) (lines more all : List Line) → (is_some quota ≡ true → ◌≡◌ {A = ℕ} 1 0) → IfSome quota (λ (most : ℕ). lines ≡ all) → IfSome quota (λ (most : ℕ). more ≡ all)
journal_stays None lines more all none h = tt
journal_stays (Some most) lines more all none h = absurd (let one : ◌≡◌ {A = ℕ} 1 0 = none refl in omega arith)

stays : (t : Terms) (lines : List Line) (l : Line) (c : Claim) → ((k : Subject) → alters t k l.deed ≡ true → here k c ≡ 0) → Tells t lines c → Tells t (lines ++ l ∷ []) c
stays t lines l (Seat cpu own) none h = seat_stays t lines l cpu own (decider l.deed == cpu) refl (none (seat cpu)) h
stays t lines l (Queue cpu q) none h = queue_stays t lines l cpu (parts.touches (homes t) l.deed cpu) refl (none (queue cpu)) ∙ h
stays t lines l (Journal all) none h = journal_stays t.quota lines (lines ++ l ∷ []) all (none journal) h
stays t lines l (Past seen) none h = prefix-more seen lines (l ∷ []) h

pub all_stay : (t : Terms) (lines : List Line) (l : Line) (cs : List Claim) → ((k : Subject) → alters t k l.deed ≡ true → times k cs ≡ 0) → AllTell t lines cs → AllTell t (lines ++ l ∷ []) cs
all_stay t lines l [] none h = tt
all_stay t lines l (c ∷ cs) none h = (
  stays t lines l c (λ k e. omega (arith, none k e)) h.0,
  all_stay t lines l cs (λ k e. omega (arith, none k e)) h.1,
)

-- the claims of who commits a line hold with it
journal_advances : (quota : Option ℕ) (lines all : List Line) (l : Line) → IfSome quota (λ (most : ℕ). lines ≡ all) → IfSome quota (λ (most : ℕ). lines ++ l ∷ [] ≡ all ++ l ∷ [])
journal_advances None lines all l h = tt
journal_advances (Some most) lines all l h = ap (λ (x : List Line). x ++ l ∷ []) h

advances : (t : Terms) (lines : List Line) (s : Said) (c : Claim) → Tells t lines c → HasClaimed (whole (homes t) s.line.deed (told t lines)).1 (advanced s c) → Tells t (lines ++ s.line ∷ []) (advanced s c)
advances t lines s (Seat cpu own) h a = lines_by-more cpu lines s.line ∙ ap (λ (x : List Line). x ++ lines_by cpu (s.line ∷ [])) h
advances t lines s (Queue cpu q) h a = ap (λ (m : Machine). queue_at m cpu) (told-more t lines s.line) ∙ a
advances t lines s (Journal all) h a = journal_advances t.quota lines all s.line h
advances t lines s (Past seen) h a = prefix-more seen lines (s.line ∷ []) h

pub all_advance : (t : Terms) (lines : List Line) (s : Said) (cs : List Claim) → AllTell t lines cs → HasAllClaimed (whole (homes t) s.line.deed (told t lines)).1 (map (advanced s) cs) → AllTell t (lines ++ s.line ∷ []) (map (advanced s) cs)
all_advance t lines s [] h a = tt
all_advance t lines s (c ∷ cs) h a = (advances t lines s c h.0 a.0, all_advance t lines s cs h.1 a.1)

agrees : (t : Terms) (lines : List Line) (c : Claim) → Tells t lines c → HasClaimed (told t lines) c
agrees t lines (Seat cpu own) h = tt
agrees t lines (Queue cpu q) h = h
agrees t lines (Journal all) h = tt
agrees t lines (Past seen) h = tt

pub all_agree : (t : Terms) (lines : List Line) (cs : List Claim) → AllTell t lines cs → HasAllClaimed (told t lines) cs
all_agree t lines [] h = tt
all_agree t lines (c ∷ cs) h = (agrees t lines c h.0, all_agree t lines cs h.1)

-- a CPU still has room, or the line is another CPU's
room_by : (cpu quota : ℕ) (lines : List Line) (l : Line) (b : Bool) → (decider l.deed == cpu) ≡ b → length (lines_by (decider l.deed) lines) < quota → length (lines_by cpu lines) ≤ quota
    → length (lines_by cpu lines ++ lines_by cpu (l ∷ [])) ≤ quota
room_by cpu quota lines l true e some had =
    let same : decider l.deed ≡ cpu = grind (arith, nat_tests) in
    let own : length (lines_by (decider l.deed) lines) ≡ length (lines_by cpu lines) = ap (λ (p : ℕ). length (lines_by p lines)) same in
    omega (arith, length-append (lines_by cpu lines) (lines_by cpu (l ∷ [])), ap (λ (x : List Line). length x) (by_one cpu l true e))
room_by cpu quota lines l false e some had =
    omega (arith, length-append (lines_by cpu lines) (lines_by cpu (l ∷ [])), ap (λ (x : List Line). length x) (by_one cpu l false e))

fits-more : (quota : Option ℕ) (lines : List Line) (l : Line) → HasRoom quota (length (lines_by (decider l.deed) lines)) → FitsQuota quota lines → FitsQuota quota (lines ++ l ∷ [])
fits-more None lines l some had = tt
fits-more (Some most) lines l some had = λ cpu. subst (λ (x : List Line). length x ≤ most) (sym (lines_by-more cpu lines l))
    (room_by cpu most lines l (decider l.deed == cpu) refl some (had cpu))

-- a line that is owed is allowed on the machine so far
pub suited : (t : Terms) (lines : List Line) (cs : List Claim) (s : Said) → IsOnTerms t lines → Owes t cs s → Fits (homes t) s.line.deed (told t lines)
suited t lines cs s kept owed =
    let many : length (told t lines) ≡ cpus_of t.setup.value = length-told t lines in
    record {
      allowed = ap (λ (n : ℕ). is_allowed n (homes t) s.line.deed) many ∙ owed.allowed;
      cpus = subst (λ (n : ℕ). AreCpus n (homes t)) (sym many) kept.cpus;
    }

-- the history goes on by a line that is owed
pub kept-more : (t : Terms) (lines : List Line) (cs : List Claim) (s : Said) → IsOnTerms t lines → AllTell t lines cs → Owes t cs s → IsOnTerms t (lines ++ s.line ∷ [])
kept-more t lines cs s kept tell owed =
    let m : Machine = told t lines in
    let suits : Fits (homes t) s.line.deed m = suited t lines cs s kept owed in
    let answer : (whole (homes t) s.line.deed m).0 ≡ s.line.answer = owed.answers m suits (all_agree t lines cs tell) in
    record {
      history = history-more t lines s.line kept.history answer;
      allowed = subst (λ (ds : List Deed). list_all (allows t.setup.value) ds ≡ true) (sym (deeds-more lines s.line)) (list_all-more (allows t.setup.value) (deeds_of lines) s.line.deed kept.allowed owed.allowed);
      fits = fits-more t.quota lines s.line (owed.room lines tell) kept.fits;
      cpus = kept.cpus;
      placed = subst (λ (n : Machine). IsPlaced (homes t) n) (sym (told-more t lines s.line))
          (whole-placed (homes t) s.line.deed m suits.allowed suits.cpus kept.placed);
    }

-- claims of a list stand in its beginning, in its rest, and without the past
pub tell-take : (t : Terms) (lines : List Line) (n : ℕ) (cs : List Claim) → AllTell t lines cs → AllTell t lines (take n cs)
tell-take t lines zero cs h = tt
tell-take t lines (suc n) [] h = tt
tell-take t lines (suc n) (c ∷ cs) h = (h.0, tell-take t lines n cs h.1)

pub tell-drop : (t : Terms) (lines : List Line) (n : ℕ) (cs : List Claim) → AllTell t lines cs → AllTell t lines (drop n cs)
tell-drop t lines zero cs h = h
tell-drop t lines (suc n) [] h = tt
tell-drop t lines (suc n) (c ∷ cs) h = tell-drop t lines n cs h.1

pub tell-append : (t : Terms) (lines : List Line) (cs ds : List Claim) → AllTell t lines cs → AllTell t lines ds → AllTell t lines (cs ++ ds)
tell-append t lines [] ds h g = g
tell-append t lines (c ∷ cs) ds h g = (h.0, tell-append t lines cs ds h.1 g)

pub tell-held : (t : Terms) (lines : List Line) (cs : List Claim) → AllTell t lines cs → AllTell t lines (held cs)
tell-held t lines [] h = tt
tell-held t lines (Seat cpu own ∷ cs) h = (h.0, tell-held t lines cs h.1)
tell-held t lines (Queue cpu q ∷ cs) h = (h.0, tell-held t lines cs h.1)
tell-held t lines (Journal all ∷ cs) h = (h.0, tell-held t lines cs h.1)
tell-held t lines (Past seen ∷ cs) h = tell-held t lines cs h.1
