-- A CPU's own deeds, its picks, ticks and rebases: where no others touch its queue, the queue goes by them, and so do its answers.
use Rattle.std.proofs.Common.{◌≡◌, ℕ, ◌==◌, ◌<◌, Bool, true, false, ◌||◌, cond, List, [], ◌∷◌, ◌++◌, append_assoc, length, refl, sym, ap, ◌∙◌, subst, arith}
use Rattle.std.proofs.lemmas.{Bool.Decides.nat_tests, List.append-nil, List.get_or-set_same}
use Rattle.eevdf_queue.specs.{State.State, State.empty_state, Pick.after_pick, Tick.tick, Rebase.rebase}
use Rattle.eevdf_ops.specs.{declared.deeds.Deed.Deed, declared.deeds.Line.Line, declared.deeds.Answer.Answer, declared.deeds.Answer.TheVariants.Range, declared.deeds.Answer.TheVariants.Idle}
use Rattle.eevdf_ops.specs.declared.deeds.Deed.TheVariants.{Tick, Pick, Rebase}
use Rattle.eevdf_ops.specs.{OneQueue.one_tick, OneQueue.one_pick, OneQueue.one_rebase, Machine.Machine, Machine.queue_at, Parts.decider, Parts.touches, PartsLaws.OthersStay}
use Rattle.eevdf_ops.specs.{Programs.lines_by, Whole.whole, Whole.lines_of, Whole.machine_after}
use Rattle.eevdf_ops.proofs.WholePlaces.{length-whole}
use Rattle.eevdf_fairness.specs.{Turns.Turn, Turns.after_ticks, Turns.after_turns, OneCpu.ticks_on, OneCpu.turns_on, OneCpu.touching, MachineDays.NoneIsRange}

pub is_apart : (at cpu : ℕ) → (at == cpu) ≡ false → cpu ≡ at → ⊥
is_apart at cpu is same = grind (arith, nat_tests)

-- a pick, a tick or a rebase of a CPU
abbrev pub IsOwn : ℕ → Deed → Type 0
IsOwn cpu (Tick at ns) = at ≡ cpu
IsOwn cpu (Pick at) = at ≡ cpu
IsOwn cpu (Rebase at) = at ≡ cpu
IsOwn cpu deed = ⊥

abbrev pub AreOwn : ℕ → List Deed → Type 0
AreOwn cpu [] = Unit {0}
AreOwn cpu (d ∷ ds) = IsOwn cpu d × AreOwn cpu ds

-- what a pick, a tick and a rebase of its CPU do to a queue
abbrev pub own : Deed → State → Answer × State
own (Tick at ns) q = one_tick q ns
own (Pick at) q = one_pick q
own (Rebase at) q = one_rebase q
own deed q = (Idle, q)

abbrev pub own_after : List Deed → State → State
own_after [] q = q
own_after (d ∷ ds) q = own_after ds (own d q).1

-- none of them is out of range
abbrev pub AreFine : List Deed → State → Type 0
AreFine [] q = Unit {0}
AreFine (d ∷ ds) q = ((own d q).0 ≡ Range → ⊥) × AreFine ds (own d q).1

-- ---- turns are such deeds
pub both_own : (cpu : ℕ) (ds more : List Deed) → AreOwn cpu ds → AreOwn cpu more → AreOwn cpu (ds ++ more)
both_own cpu [] more h k = k
both_own cpu (d ∷ ds) more h k = (h.0, both_own cpu ds more h.1 k)

ticks_own : (cpu : ℕ) (turn : Turn) → AreOwn cpu (ticks_on cpu turn)
ticks_own cpu [] = tt
ticks_own cpu (ns ∷ turn) = (refl, ticks_own cpu turn)

pub turns_own : (cpu : ℕ) (turns : List Turn) → AreOwn cpu (turns_on cpu turns)
turns_own cpu [] = tt
turns_own cpu (turn ∷ turns) = (refl, both_own cpu (ticks_on cpu turn) (turns_on cpu turns) (ticks_own cpu turn) (turns_own cpu turns))

-- ---- what turns leave
ticks_done : (cpu : ℕ) (turn : Turn) (more : List Deed) (q : State) → own_after (ticks_on cpu turn ++ more) q ≡ own_after more (after_ticks q turn)
ticks_done cpu [] more q = refl
ticks_done cpu (ns ∷ turn) more q = ticks_done cpu turn more ((tick q ns).1)

pub turns_done : (cpu : ℕ) (turns : List Turn) (more : List Deed) (q : State) → own_after (turns_on cpu turns ++ more) q ≡ own_after more (after_turns q turns)
turns_done cpu [] more q = refl
turns_done cpu (turn ∷ turns) more q =
    ap (λ (ds : List Deed). own_after ds (after_pick q)) (append_assoc (ticks_on cpu turn) (turns_on cpu turns) more)
    ∙ ticks_done cpu turn (turns_on cpu turns ++ more) (after_pick q)
    ∙ turns_done cpu turns more (after_ticks (after_pick q) turn)

pub turns_alone : (cpu : ℕ) (turns : List Turn) (q : State) → own_after (turns_on cpu turns) q ≡ after_turns q turns
turns_alone cpu turns q = ap (λ (ds : List Deed). own_after ds q) (sym (append-nil (turns_on cpu turns))) ∙ turns_done cpu turns [] q

-- ---- what one does on a machine
module _ (homes : List ℕ) (cpu : ℕ) where
  pub answer_own : (m : Machine) (d : Deed) → IsOwn cpu d → (whole homes d m).0 ≡ (own d (queue_at m cpu)).0
  answer_own m (Tick at ns) is = ap (λ (c : ℕ). (one_tick (queue_at m c) ns).0) is
  answer_own m (Pick at) is = ap (λ (c : ℕ). (one_pick (queue_at m c)).0) is
  answer_own m (Rebase at) is = ap (λ (c : ℕ). (one_rebase (queue_at m c)).0) is
  answer_own m deed is = absurd is

  pub queue_own : (m : Machine) (d : Deed) → cpu < length m → IsOwn cpu d → queue_at (whole homes d m).1 cpu ≡ (own d (queue_at m cpu)).1
  queue_own m (Tick at ns) h is =
      subst (λ (c : ℕ). queue_at (whole homes (Tick at ns) m).1 c ≡ (tick (queue_at m c) ns).1) is
      (get_or-set_same m at ((tick (queue_at m at) ns).1) empty_state (subst (λ (c : ℕ). c < length m) (sym is) h))
  queue_own m (Pick at) h is =
      subst (λ (c : ℕ). queue_at (whole homes (Pick at) m).1 c ≡ after_pick (queue_at m c)) is
      (get_or-set_same m at (after_pick (queue_at m at)) empty_state (subst (λ (c : ℕ). c < length m) (sym is) h))
  queue_own m (Rebase at) h is =
      subst (λ (c : ℕ). queue_at (whole homes (Rebase at) m).1 c ≡ (rebase (queue_at m c)).1) is
      (get_or-set_same m at ((rebase (queue_at m at)).1) empty_state (subst (λ (c : ℕ). c < length m) (sym is) h))
  queue_own m deed h is = absurd is

-- ---- deeds of all CPUs
-- a CPU's own deeds touch its queue
or_false : (a b : Bool) → (a || b) ≡ false → a ≡ false
or_false true b e = cc
or_false false b e = refl

undecided : (at cpu : ℕ) (b : Bool) → ((cpu == at) || b) ≡ false → (at == cpu) ≡ true → ⊥
undecided at cpu b e is = let apart = or_false (cpu == at) b e in grind (arith, nat_tests)

-- a line, where it is one of the CPU
one_line : (l : Line) (ls : List Line) (b : Bool) → (b ≡ true → l.answer ≡ Range → ⊥) → NoneIsRange ls → NoneIsRange (cond b (l ∷ ls) ls)
one_line l ls true f h = (f refl, h)
one_line l ls false f h = h

-- the queue goes by the deeds that touch it, and so do the CPU's answers
pub record HasGone (homes : List ℕ) (cpu : ℕ) (m : Machine) (deeds own_deeds : List Deed) : Type 0 where
  pub after : queue_at (machine_after homes m deeds) cpu ≡ own_after own_deeds (queue_at m cpu)
  pub lines : AreFine own_deeds (queue_at m cpu) → NoneIsRange (lines_by cpu (lines_of homes m deeds))

module _ (stay : OthersStay) (homes : List ℕ) (cpu : ℕ) where
  one_more : (m : Machine) (d : Deed) (ds : List Deed) (b : Bool) → touches homes d cpu ≡ b → cpu < length m
      → (AreOwn cpu (touching homes cpu ds) → HasGone homes cpu (whole homes d m).1 ds (touching homes cpu ds))
      → AreOwn cpu (cond b (d ∷ touching homes cpu ds) (touching homes cpu ds))
      → HasGone homes cpu m (d ∷ ds) (cond b (d ∷ touching homes cpu ds) (touching homes cpu ds))
  one_more m d ds true is h rest these =
      let went : HasGone homes cpu (whole homes d m).1 ds (touching homes cpu ds) = rest these.1 in
      let there : queue_at (whole homes d m).1 cpu ≡ (own d (queue_at m cpu)).1 = queue_own homes cpu m d h these.0 in
      record {
        after = went.after ∙ ap (own_after (touching homes cpu ds)) there;
        lines = λ fine.
            one_line (record { deed = d; answer = (whole homes d m).0 }) (lines_by cpu (lines_of homes (whole homes d m).1 ds)) (decider d == cpu)
            (λ by_it range. fine.0 (sym (answer_own homes cpu m d these.0) ∙ range))
            (went.lines (subst (AreFine (touching homes cpu ds)) (sym there) fine.1));
      }
  one_more m d ds false is h rest these =
      let went : HasGone homes cpu (whole homes d m).1 ds (touching homes cpu ds) = rest these in
      let there : queue_at (whole homes d m).1 cpu ≡ queue_at m cpu = stay homes d m cpu is in
      record {
        after = went.after ∙ ap (own_after (touching homes cpu ds)) there;
        lines = λ fine.
            one_line (record { deed = d; answer = (whole homes d m).0 }) (lines_by cpu (lines_of homes (whole homes d m).1 ds)) (decider d == cpu)
            (λ by_it range. undecided (decider d) cpu _ is by_it)
            (went.lines (subst (AreFine (touching homes cpu ds)) (sym there) fine));
      }

  pub has_gone : (m : Machine) (deeds : List Deed) → cpu < length m → AreOwn cpu (touching homes cpu deeds) → HasGone homes cpu m deeds (touching homes cpu deeds)
  has_gone m [] h these = record { after = refl; lines = λ fine. tt }
  has_gone m (d ∷ ds) h these =
      one_more m d ds (touches homes d cpu) refl h
      (has_gone (whole homes d m).1 ds (subst (λ (n : ℕ). cpu < n) (sym (length-whole homes d m)) h)) these
