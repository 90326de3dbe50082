-- The turns of a CPU are no longer than what is kept of them.
use Rattle.std.proofs.Common.{◌≡◌, ℕ, ◌+◌, ◌<◌, ◌≤◌, ◌^◌, ◌-◌, Bool, true, false, cond, ◌||◌, List, [], ◌∷◌, ◌++◌, Option, Some, None, refl, sym, ap, ◌∙◌, subst, arith}
use Rattle.std.specs.Prelude.{◌==◌, ℤ, max, min}
use Rattle.std.proofs.lemmas.Bool.Decides.{nat_tests}
use Rattle.std.proofs.lemmas.List.Elements.{filter-append}
use Rattle.eevdf_queue.specs.State.{State}
use Rattle.eevdf_ops.specs.{declared.deeds.Answer.Answer, declared.deeds.Deed.Deed, declared.deeds.Line.Line}
use Rattle.eevdf_ops.specs.declared.deeds.Answer.TheVariants as answered
use Rattle.eevdf_ops.specs.declared.deeds.Deed.TheVariants as deed
use Rattle.eevdf_ops.specs.{Machine.Machine, Machine.queue_at, Origins.decider, Programs.deeds_of, Programs.lines_by, Setup.home_of, Setup.homes_of, Setup.Setup, Whole.whole}
use Rattle.eevdf_ops.specs.Parts.{touches}
use Rattle.eevdf_dozes.specs.Stretches.{Watch}
use Rattle.eevdf_dozes.specs.Histories as call
use Rattle.eevdf_dozes.specs.{Histories.Call, Calls.IsDozing}
use Rattle.eevdf_dozes.specs.{OneCpu.call_of, OneCpu.call_at, OneCpu.calls_at, OneCpu.and_then, OneCpuStretches.KeepTo, OneCpuStretches.BeginsOnCpu}
use Rattle.eevdf_dozes.specs.{OneCpuHistories.machine_by, OneCpuStretches.from_pick}
use Rattle.eevdf_fair_seat.specs.declared.seat_bound.SeatBound.{SeatBound}
use Rattle.eevdf_fair_seat.specs.Turns.{after, grown, handed, picked, BeginsAt, GoesOn, TurnsAreNoLonger, WasHanded}

-- ---- what is kept of a call
abbrev Told : Option Call → SeatBound → SeatBound → Type 0
Told (Some (call.Tick ns)) b c = c ≡ grown b ns
Told (Some call.Pick) b c = c ≡ record b { turn = 0 }
Told o b c = c ≡ b

-- and of any deed of the machine: those of other CPUs change nothing
abbrev after_at : ℕ → SeatBound → Deed → SeatBound
after_at cpu b d = cond (decider d == cpu) (after b d) b

abbrev after_all : ℕ → SeatBound → List Deed → SeatBound
after_all cpu b [] = b
after_all cpu b (d ∷ ds) = after_all cpu (after_at cpu b d) ds

same : (b : SeatBound) (x : Bool) → cond x b b ≡ b
same b true = refl
same b false = refl

-- a deed that is neither a tick nor a pick
other : (o : Option Call) (x y : Bool) (b : SeatBound) → Told o b b → Told (cond x o None) b (cond y b b)
other o true true b told = told
other o true false b told = told
other o false true b told = refl
other o false false b told = refl

same_test : (at cpu : ℕ) (x : Bool) → (cpu == at) ≡ x → (at == cpu) ≡ x
same_test at cpu true e = grind (arith, nat_tests)
same_test at cpu false e = grind (arith, nat_tests)

own_tick : (ns : ℕ) (b : SeatBound) (x : Bool) → Told (cond (x || (x || x)) (Some (call.Tick ns)) None) b (cond x (grown b ns) b)
own_tick ns b true = refl
own_tick ns b false = refl

own_pick : (b : SeatBound) (x : Bool) → Told (cond (x || (x || x)) (Some call.Pick) None) b (cond x (record b { turn = 0 }) b)
own_pick b true = refl
own_pick b false = refl

module _ (homes : List ℕ) (r : State) (b : SeatBound) where
  wakes : (at task sender : ℕ) (a : Answer) → Told (call_of homes (deed.Wake at task sender) a r) b b
  wakes at task sender answered.Woken = refl
  wakes at task sender a = refl

  dozes : (at task : ℕ) (x : Bool) → Told (Some (cond x (call.Doze task) (call.Touch task r))) b b
  dozes at task true = refl
  dozes at task false = refl

  dozes_off : (at task : ℕ) (a : Answer) → Told (call_of homes (deed.Doze at task) a r) b b
  dozes_off at task (answered.Slept lag) = dozes at task (home_of homes task == at)
  dozes_off at task a = refl

  sleeps : (at task : ℕ) (a : Answer) → Told (call_of homes (deed.Sleep at task) a r) b b
  sleeps at task (answered.Slept lag) = refl
  sleeps at task a = refl

  pulls : (at source : ℕ) (a : Answer) → Told (call_of homes (deed.Pull at source) a r) b b
  pulls at source (answered.Pulled task) = refl
  pulls at source a = refl

  renices : (at task : ℕ) (nice : ℤ) (a : Answer) → Told (call_of homes (deed.Renice at task nice) a r) b b
  renices at task nice answered.Reniced = refl
  renices at task nice a = refl

  begins : (at task : ℕ) (nice : ℤ) (slice : ℕ) (a : Answer) → Told (call_of homes (deed.Begin at task nice slice) a r) b b
  begins at task nice slice answered.Begun = refl
  begins at task nice slice a = refl

  ends : (at task : ℕ) (a : Answer) → Told (call_of homes (deed.End at task) a r) b b
  ends at task answered.Ended = refl
  ends at task a = refl

  sets : (at task : ℕ) (nice : ℤ) (slice : ℕ) (a : Answer) → Told (call_of homes (deed.Set at task nice slice) a r) b b
  sets at task nice slice answered.Set = refl
  sets at task nice slice a = refl

module _ (homes : List ℕ) (cpu : ℕ) (m : Machine) (b : SeatBound) where
  abbrev r : Deed → State
  r d = queue_at (whole homes d m).1 cpu

  abbrev a : Deed → Answer
  a d = (whole homes d m).0

  told : (d : Deed) → Told (call_at homes cpu m d) b (after_at cpu b d)
  told (deed.Tick at ns) =
      subst (λ (x : Bool). Told (call_at homes cpu m (deed.Tick at ns)) b (cond x (grown b ns) b)) (sym (same_test at cpu (cpu == at) refl)) (own_tick ns b (cpu == at))
  told (deed.Pick at) =
      subst (λ (x : Bool). Told (call_at homes cpu m (deed.Pick at)) b (cond x (record b { turn = 0 }) b)) (sym (same_test at cpu (cpu == at) refl)) (own_pick b (cpu == at))
  told (deed.Yield at) = other (Some call.Yield) (touches homes (deed.Yield at) cpu) (at == cpu) b refl
  told (deed.Rebase at) = other (Some call.Rebase) (touches homes (deed.Rebase at) cpu) (at == cpu) b refl
  told (deed.Wake at task sender) =
      other (call_of homes (deed.Wake at task sender) (a (deed.Wake at task sender)) (r (deed.Wake at task sender)))
      (touches homes (deed.Wake at task sender) cpu) (at == cpu) b (wakes homes (r (deed.Wake at task sender)) b at task sender (a (deed.Wake at task sender)))
  told (deed.Sleep at task) =
      other (call_of homes (deed.Sleep at task) (a (deed.Sleep at task)) (r (deed.Sleep at task)))
      (touches homes (deed.Sleep at task) cpu) (at == cpu) b (sleeps homes (r (deed.Sleep at task)) b at task (a (deed.Sleep at task)))
  told (deed.Doze at task) =
      other (call_of homes (deed.Doze at task) (a (deed.Doze at task)) (r (deed.Doze at task)))
      (touches homes (deed.Doze at task) cpu) (at == cpu) b (dozes_off homes (r (deed.Doze at task)) b at task (a (deed.Doze at task)))
  told (deed.Pull at source) =
      other (call_of homes (deed.Pull at source) (a (deed.Pull at source)) (r (deed.Pull at source)))
      (touches homes (deed.Pull at source) cpu) (at == cpu) b (pulls homes (r (deed.Pull at source)) b at source (a (deed.Pull at source)))
  told (deed.Renice at task nice) =
      other (call_of homes (deed.Renice at task nice) (a (deed.Renice at task nice)) (r (deed.Renice at task nice)))
      (touches homes (deed.Renice at task nice) cpu) (at == cpu) b (renices homes (r (deed.Renice at task nice)) b at task nice (a (deed.Renice at task nice)))
  told (deed.Begin at task nice slice) =
      other (call_of homes (deed.Begin at task nice slice) (a (deed.Begin at task nice slice)) (r (deed.Begin at task nice slice)))
      (touches homes (deed.Begin at task nice slice) cpu) (at == cpu) b (begins homes (r (deed.Begin at task nice slice)) b at task nice slice (a (deed.Begin at task nice slice)))
  told (deed.End at task) =
      other (call_of homes (deed.End at task) (a (deed.End at task)) (r (deed.End at task)))
      (touches homes (deed.End at task) cpu) (at == cpu) b (ends homes (r (deed.End at task)) b at task (a (deed.End at task)))
  told (deed.Set at task nice slice) =
      other (call_of homes (deed.Set at task nice slice) (a (deed.Set at task nice slice)) (r (deed.Set at task nice slice)))
      (touches homes (deed.Set at task nice slice) cpu) (at == cpu) b (sets homes (r (deed.Set at task nice slice)) b at task nice slice (a (deed.Set at task nice slice)))

-- ---- the longest turn only grows
longer : (b : SeatBound) (d : Deed) → b.longest ≤ (after b d).longest
longer b (deed.Tick at ns) = omega arith
longer b (deed.Pick at) = omega arith
longer b d = omega arith

longer_at : (cpu : ℕ) (b : SeatBound) (d : Deed) (x : Bool) → b.longest ≤ (cond x (after b d) b).longest
longer_at cpu b d true = longer b d
longer_at cpu b d false = omega arith

no_shorter : (cpu : ℕ) (b : SeatBound) (ds : List Deed) → b.longest ≤ (after_all cpu b ds).longest
no_shorter cpu b [] = omega arith
no_shorter cpu b (d ∷ ds) = omega (arith, longer_at cpu b d (decider d == cpu), no_shorter cpu (after_at cpu b d) ds)

-- ---- one call more
module _ (w : Watch) (ns : ℕ) where
  abbrev short : Watch
  short = record w { turn = ns }

  abbrev Rest : ℕ → List Call → Type 0
  Rest turn calls = (ran : ℕ) → KeepTo w ran calls → KeepTo short turn calls

  turn_is : (b c : SeatBound) (t : ℕ) → c ≡ grown b t → c.longest ≤ ns → ns < 2 ^ 64 - 1 → c.turn ≡ b.turn + t
  turn_is b c t is no_longer few = omega (arith, ap (λ (x : SeatBound). x.turn) is, ap (λ (x : SeatBound). x.longest) is, no_longer, few)

  within : (b c : SeatBound) (t : ℕ) → c ≡ grown b t → c.longest ≤ ns → ns < 2 ^ 64 - 1 → b.turn + t ≤ ns
  within b c t is no_longer few = omega (arith, ap (λ (x : SeatBound). x.turn) is, ap (λ (x : SeatBound). x.longest) is, no_longer, few)

  first : (o : Option Call) (b c : SeatBound) (ran : ℕ) (calls : List Call) → Told o b c → c.longest ≤ ns → ns < 2 ^ 64 - 1 → KeepTo w ran (and_then o calls)
      → Rest c.turn calls → KeepTo short b.turn (and_then o calls)
  first None b c ran calls told no_longer few keep rest = subst (λ (x : SeatBound). KeepTo short x.turn calls) told (rest ran keep)
  first (Some call.Pick) b c ran calls told no_longer few keep rest = (tt, subst (λ (x : SeatBound). KeepTo short x.turn calls) told (rest 0 keep.1))
  first (Some (call.Tick t)) b c ran calls told no_longer few keep rest =
      (within b c t told no_longer few, subst (λ (x : ℕ). KeepTo short x calls) (turn_is b c t told no_longer few) (rest (ran + t) keep.1))
  first (Some (call.Doze task)) b c ran calls told no_longer few keep rest = (keep.0, subst (λ (x : SeatBound). KeepTo short x.turn calls) told (rest ran keep.1))
  first (Some (call.Wake task)) b c ran calls told no_longer few keep rest = (keep.0, subst (λ (x : SeatBound). KeepTo short x.turn calls) told (rest ran keep.1))
  first (Some call.Yield) b c ran calls told no_longer few keep rest = (tt, subst (λ (x : SeatBound). KeepTo short x.turn calls) told (rest ran keep.1))
  first (Some (call.SetSlice task slice)) b c ran calls told no_longer few keep rest = (tt, subst (λ (x : SeatBound). KeepTo short x.turn calls) told (rest ran keep.1))
  first (Some call.Stop) b c ran calls told no_longer few keep rest = (tt, subst (λ (x : SeatBound). KeepTo short x.turn calls) told (rest ran keep.1))
  first (Some call.Rebase) b c ran calls told no_longer few keep rest = (tt, subst (λ (x : SeatBound). KeepTo short x.turn calls) told (rest ran keep.1))
  first (Some (call.Touch task r)) b c ran calls told no_longer few keep rest = (keep.0, subst (λ (x : SeatBound). KeepTo short x.turn calls) told (rest ran keep.1))

  -- ---- all of them
  keeps : (homes : List ℕ) (cpu : ℕ) (m : Machine) (b : SeatBound) (ds : List Deed) (ran : ℕ) → (after_all cpu b ds).longest ≤ ns → ns < 2 ^ 64 - 1
      → KeepTo w ran (calls_at homes cpu m ds) → KeepTo short b.turn (calls_at homes cpu m ds)
  keeps homes cpu m b [] ran no_longer few keep = tt
  keeps homes cpu m b (d ∷ ds) ran no_longer few keep =
      first (call_at homes cpu m d) b (after_at cpu b d) ran (calls_at homes cpu (whole homes d m).1 ds) (told homes cpu m b d)
      (omega (arith, no_longer, no_shorter cpu (after_at cpu b d) ds)) few keep
      (λ r k. keeps homes cpu (whole homes d m).1 (after_at cpu b d) ds r no_longer few k)

-- ---- the lines that were handed over are those of the CPU
handed_one : (cpu : ℕ) (b : SeatBound) (l : Line) (ls : List Line) (x : Bool)
    → handed b (cond x (l ∷ lines_by cpu ls) (lines_by cpu ls)) ≡ handed (cond x (after b l.deed) b) (lines_by cpu ls)
handed_one cpu b l ls true = refl
handed_one cpu b l ls false = refl

handed_all : (cpu : ℕ) (b : SeatBound) (ls : List Line) → handed b (lines_by cpu ls) ≡ after_all cpu b (deeds_of ls)
handed_all cpu b [] = refl
handed_all cpu b (l ∷ ls) = handed_one cpu b l ls (decider l.deed == cpu) ∙ handed_all cpu (after_at cpu b l.deed) ls

-- ---- what the laws ask
module _ (b : SeatBound) (w : Watch) (s : Setup) (cpu : ℕ) (before : List Line) (answer : Answer) (lines : List Line) (few : b.longest < 2 ^ 64 - 1) (h : WasHanded b cpu answer lines) where
  abbrev start : SeatBound
  start = record h.earlier { turn = 0 }

  from_start : after_all cpu start (from_pick cpu (deeds_of lines)) ≡ b
  from_start =
      ap (λ (x : SeatBound). after_all cpu x (deeds_of lines)) (same start (cpu == cpu)) ∙ sym (handed_all cpu start lines) ∙ sym h.handed

  begins_short : BeginsAt w s cpu before lines → BeginsAt (record w { turn = b.longest }) s cpu before lines
  begins_short begins = record {
    allowed = begins.allowed;
    watched = record { here = begins.watched.here; levels = begins.watched.levels; due = begins.watched.due };
    doze = λ t x counts here.
        let d : IsDozing w (queue_at (machine_by s before) cpu) t x = begins.doze t x counts here in
        record { level = d.level; place = d.place; kept = d.kept; no_debt = d.no_debt; not_runnable = d.not_runnable; not_running = d.not_running };
    keep = keeps w b.longest (homes_of s) cpu (machine_by s before) start (from_pick cpu (deeds_of lines)) 0
        (subst (λ (x : SeatBound). x.longest ≤ b.longest) (sym from_start) (omega arith)) few begins.keep;
  }

pub turns_are_no_longer : (b : SeatBound) → b.longest < 2 ^ 64 - 1 → TurnsAreNoLonger b b.longest
turns_are_no_longer b few w s cpu before answer lines h begins = begins_short b w s cpu before answer lines few h begins

-- ---- what was handed over
pub unchanged : (b : SeatBound) (d : Deed) → ((at ns : ℕ) → d ≡ deed.Tick at ns → ⊥) → ((at : ℕ) → d ≡ deed.Pick at → ⊥) → b ≡ after b d
unchanged b (deed.Tick at ns) no_tick no_pick = absurd (no_tick at ns refl)
unchanged b (deed.Pick at) no_tick no_pick = absurd (no_pick at refl)
unchanged b d no_tick no_pick = refl

handed_then : (b : SeatBound) (xs ys : List Line) → handed b (xs ++ ys) ≡ handed (handed b xs) ys
handed_then b [] ys = refl
handed_then b (x ∷ xs) ys = handed_then (after b x.deed) xs ys

own_line : (cpu : ℕ) (l : Line) (x : Bool) → (decider l.deed == cpu) ≡ x → decider l.deed ≡ cpu → lines_by cpu (l ∷ []) ≡ l ∷ []
own_line cpu l true e is = ap (λ (x : Bool). cond x (l ∷ []) []) e
own_line cpu l false e is = grind (arith, nat_tests)

module _ (cpu : ℕ) (lines others : List Line) (l : Line) where
  abbrev is_own : Line → Bool
  is_own x = decider x.deed == cpu

  one_more : lines_by cpu others ≡ [] → lines_by cpu (l ∷ []) ≡ l ∷ [] → lines_by cpu (lines ++ (others ++ l ∷ [])) ≡ lines_by cpu lines ++ l ∷ []
  one_more none own =
      filter-append is_own lines (others ++ l ∷ [])
      ∙ ap (λ (xs : List Line). lines_by cpu lines ++ xs) (filter-append is_own others (l ∷ []) ∙ ap (λ (xs : List Line). xs ++ lines_by cpu (l ∷ [])) none ∙ own)

pub goes_on : (b c : SeatBound) (d : Deed) → c ≡ after b d → GoesOn b d c
goes_on b c d is cpu first answer lines others h none own =
    let l : Line = record { deed = d; answer = answer } in
    let start : SeatBound = record h.earlier { turn = 0 } in
    record {
      earlier = h.earlier;
      handed = is ∙ ap (λ (x : SeatBound). after x d) h.handed ∙ sym (handed_then start (lines_by cpu lines) (l ∷ []))
          ∙ ap (handed start) (sym (one_more cpu lines others l none (own_line cpu l (decider d == cpu) refl own)));
    }
