-- The lines of a history tell how long a CPU and its tasks ran.
use Rattle.std.proofs.Common.{◌≡◌, ℕ, ◌+◌, ◌<◌, Bool, true, false, cond, List, [], ◌∷◌, ◌++◌, length, Some, refl, sym, ap, ◌∙◌, subst, arith}
use Rattle.std.specs.Prelude.{◌==◌, ◌||◌}
use Rattle.std.specs.FinMap.{get}
use Rattle.std.proofs.lemmas.Bool.Decides.{nat_tests}
use Rattle.eevdf_weight.specs.Weight.{weight_of}
use Rattle.eevdf_queue.specs.{declared.entry.Entry.Entry, declared.answers.TickAnswer.TickAnswer, State.State, Pick.after_pick, Tick.tick, Sums.total_weight}
use Rattle.eevdf_queue.specs.declared.answers.TickAnswer.TheVariants as ticked
use Rattle.eevdf_ops.specs.{declared.deeds.Deed.Deed, declared.deeds.Answer.Answer, declared.deeds.Line.Line, Machine.Machine, Machine.queue_at, Parts.touches, PartsLaws.OthersStay}
use Rattle.eevdf_ops.specs.{Whole.whole, Whole.lines_of, Whole.machine_after, OneQueue.answer_of_tick}
use Rattle.eevdf_ops.specs.declared.deeds.Deed.TheVariants.{Tick, Pick}
use Rattle.eevdf_ops.specs.declared.deeds.Answer.TheVariants as answered
use Rattle.eevdf_ops.proofs.{MapCounts.itself, WholePlaces.length-after, WholePlaces.length-whole}
use Rattle.eevdf_fairness.specs.{Turns.Turn, Turns.after_ticks, Turns.after_turn, Turns.after_turns, Tallies.Measure, Tallies.over_ticks, Tallies.over_turns}
use Rattle.eevdf_fairness.specs.{Tallies.if_charged, Tallies.if_charged_to, Tallies.task_time, Share.HasItsShare, Share.TurnsGiveShares}
use Rattle.eevdf_fairness.specs.{Share.swing, Share.IsShareOfTime, OneCpu.ticks_on, OneCpu.turns_on, OneCpu.touching, OneCpu.OnlyTurnsTouch}
use Rattle.eevdf_fairness.specs.Lines.{ticked_on, charged, charged_to, over_lines, TellTime, HasItsShareOfLines, LinesTellTime, OneCpuGivesShares}
use Rattle.eevdf_fairness.proofs.{OneCpu.turns_of_one_cpu, OwnDeeds.AreOwn, OwnDeeds.own, OwnDeeds.turns_own, OwnDeeds.answer_own, OwnDeeds.queue_own}

other_way : (a b : ℕ) → (a == b) ≡ false → (b == a) ≡ false
other_way a b h = grind (arith, nat_tests)

neither : (b : Bool) → (b || (b || b)) ≡ false → b ≡ false
neither true h = cc
neither false h = refl

pub sums : (a b c d : ℕ) → a ≡ c → b ≡ d → a + b ≡ c + d
sums a b c d h k = omega (arith, h, k)

first_none : (a b c : ℕ) → a ≡ 0 → b ≡ c → a + b ≡ c
first_none a b c h k = omega (arith, h, k)

three : (a b c d e : ℕ) → a ≡ c → b ≡ d + e → a + b ≡ c + d + e
three a b c d e h k = omega (arith, h, k)

-- a number for each answer of a tick, by its nanoseconds
module _ (stay : OthersStay) (homes : List ℕ) (cpu : ℕ) (f : Answer → ℕ → ℕ) (none : (a : Answer) → f a 0 ≡ 0) where
  -- what a deed of the CPU adds
  abbrev added : Deed → State → ℕ
  added d q = f (own d q).0 (ticked_on cpu d)

  abbrev all_added : List Deed → State → ℕ
  all_added [] q = 0
  all_added (d ∷ ds) q = added d q + all_added ds (own d q).1

  no_tick : (d : Deed) (a : Answer) → touches homes d cpu ≡ false → f a (ticked_on cpu d) ≡ 0
  no_tick (Tick at ns) a apart = ap (λ (b : Bool). f a (cond b ns 0)) (other_way cpu at (neither (cpu == at) apart)) ∙ none a
  no_tick deed a apart = none a

  one_line : (m : Machine) (d : Deed) (ds : List Deed) (b : Bool) → touches homes d cpu ≡ b → cpu < length m
      → (AreOwn cpu (touching homes cpu ds) → over_lines f cpu (lines_of homes (whole homes d m).1 ds) ≡ all_added (touching homes cpu ds) (queue_at (whole homes d m).1 cpu))
      → AreOwn cpu (cond b (d ∷ touching homes cpu ds) (touching homes cpu ds))
      → f (whole homes d m).0 (ticked_on cpu d) + over_lines f cpu (lines_of homes (whole homes d m).1 ds)
      ≡ all_added (cond b (d ∷ touching homes cpu ds) (touching homes cpu ds)) (queue_at m cpu)
  one_line m d ds true is h rest these =
      sums (f (whole homes d m).0 (ticked_on cpu d)) (over_lines f cpu (lines_of homes (whole homes d m).1 ds)) (added d (queue_at m cpu))
      (all_added (touching homes cpu ds) (own d (queue_at m cpu)).1) (ap (λ (a : Answer). f a (ticked_on cpu d)) (answer_own homes cpu m d these.0))
      (rest these.1 ∙ ap (all_added (touching homes cpu ds)) (queue_own homes cpu m d h these.0))
  one_line m d ds false is h rest these =
      first_none (f (whole homes d m).0 (ticked_on cpu d)) (over_lines f cpu (lines_of homes (whole homes d m).1 ds)) (all_added (touching homes cpu ds) (queue_at m cpu))
      (no_tick d (whole homes d m).0 is) (rest these ∙ ap (all_added (touching homes cpu ds)) (stay homes d m cpu is))

  in_lines : (m : Machine) (deeds : List Deed) → cpu < length m → AreOwn cpu (touching homes cpu deeds)
      → over_lines f cpu (lines_of homes m deeds) ≡ all_added (touching homes cpu deeds) (queue_at m cpu)
  in_lines m [] h these = refl
  in_lines m (d ∷ ds) h these =
      one_line m d ds (touches homes d cpu) refl h
      (in_lines (whole homes d m).1 ds (subst (λ (n : ℕ). cpu < n) (sym (length-whole homes d m)) h)) these

  module _ (g : Measure) (alike : (q : State) (ns : ℕ) → f (answer_of_tick (tick q ns).0) ns ≡ g q ns) where
    in_ticks : (turn : Turn) (more : List Deed) (q : State) → all_added (ticks_on cpu turn ++ more) q ≡ over_ticks g q turn + all_added more (after_ticks q turn)
    in_ticks [] more q = omega arith
    in_ticks (ns ∷ turn) more q =
        three (added (Tick cpu ns) q) (all_added (ticks_on cpu turn ++ more) ((tick q ns).1)) (g q ns) (over_ticks g ((tick q ns).1) turn)
        (all_added more (after_ticks ((tick q ns).1) turn)) (ap (λ (b : Bool). f (answer_of_tick (tick q ns).0) (cond b ns 0)) (itself cpu) ∙ alike q ns) (in_ticks turn more ((tick q ns).1))

    in_turns : (turns : List Turn) (q : State) → all_added (turns_on cpu turns) q ≡ over_turns g q turns
    in_turns [] q = refl
    in_turns (turn ∷ turns) q =
        first_none (added (Pick cpu) q) (all_added (ticks_on cpu turn ++ turns_on cpu turns) (after_pick q)) (over_turns g q (turn ∷ turns)) (none (own (Pick cpu) q).0)
        (in_ticks turn (turns_on cpu turns) (after_pick q) ∙ ap (λ (x : ℕ). over_ticks g (after_pick q) turn + x) (in_turns turns (after_turn q turn)))

    told : (m : Machine) (deeds : List Deed) (turns : List Turn) → cpu < length m → OnlyTurnsTouch homes cpu deeds turns
        → over_lines f cpu (lines_of homes m deeds) ≡ over_turns g (queue_at m cpu) turns
    told m deeds turns h only =
        in_lines m deeds h (subst (AreOwn cpu) (sym only) (turns_own cpu turns))
        ∙ ap (λ (ds : List Deed). all_added ds (queue_at m cpu)) only
        ∙ in_turns turns (queue_at m cpu)

-- ---- the time of all, and of one task
pub none_charged : (a : Answer) → charged a 0 ≡ 0
none_charged (answered.Charged task resched) = refl
none_charged answer = refl

either : (n : ℕ) (b : Bool) → cond b n n ≡ n
either n true = refl
either n false = refl

pub none_charged_to : (t : ℕ) (a : Answer) → charged_to t a 0 ≡ 0
none_charged_to t (answered.Charged task resched) = either 0 (task == t)
none_charged_to t answer = refl

pub charged_alike : (a : TickAnswer) (ns : ℕ) → charged (answer_of_tick a) ns ≡ if_charged a ns
charged_alike (ticked.Charged task resched) ns = refl
charged_alike ticked.Idle ns = refl
charged_alike ticked.Range ns = refl

pub charged_to_alike : (t : ℕ) (a : TickAnswer) (ns : ℕ) → charged_to t (answer_of_tick a) ns ≡ if_charged_to t a ns
charged_to_alike t (ticked.Charged task resched) ns = refl
charged_to_alike t ticked.Idle ns = refl
charged_to_alike t ticked.Range ns = refl

pub lines_tell_time : OthersStay → LinesTellTime
lines_tell_time stay homes m cpu deeds turns h only = record {
  of_all = told stay homes cpu charged none_charged (λ q ns. if_charged (tick q ns).0 ns) (λ q ns. charged_alike (tick q ns).0 ns) m deeds turns h only;
  of_each = λ t. told stay homes cpu (charged_to t) (none_charged_to t) (λ q ns. if_charged_to t (tick q ns).0 ns) (λ q ns. charged_to_alike t (tick q ns).0 ns) m deeds turns h only;
}

-- ---- shares
-- a task's share of the time that lines tell
pub shares_told : (ns cpu : ℕ) (lines : List Line) (q : State) (turns : List Turn) (t : ℕ) (e : Entry) → HasItsShare ns q turns t e → TellTime cpu lines q turns
    → HasItsShareOfLines ns cpu lines q turns t e
shares_told ns cpu lines q turns t e share tell = record {
  share = share;
  told = tell;
  in_time = λ least most long none.
      subst (λ (s : ℕ). IsShareOfTime (weight_of e.nice) (total_weight q.runnable) (swing ns q.runnable e) least most (over_lines charged cpu lines) s) (sym (tell.of_each t))
      (subst (λ (x : ℕ). IsShareOfTime (weight_of e.nice) (total_weight q.runnable) (swing ns q.runnable e) least most x (task_time t q turns)) (sym tell.of_all)
      (share.in_time least most long none));
}

-- the shares over turns that begin at the queue that earlier turns leave
pub shares_of_lines : OthersStay → (homes : List ℕ) (m : Machine) (cpu : ℕ) (earlier deeds : List Deed) (ns : ℕ) (before turns : List Turn) → cpu < length m
    → OnlyTurnsTouch homes cpu earlier before → OnlyTurnsTouch homes cpu deeds turns
    → ((u : ℕ) (f : Entry) → get (after_turns (queue_at m cpu) before).runnable u ≡ Some f → HasItsShare ns (after_turns (queue_at m cpu) before) turns u f)
    → (t : ℕ) (e : Entry) → get (queue_at (machine_after homes m earlier) cpu).runnable t ≡ Some e
    → HasItsShareOfLines ns cpu (lines_of homes (machine_after homes m earlier) deeds) (queue_at (machine_after homes m earlier) cpu) turns t e
shares_of_lines stay homes m cpu earlier deeds ns before turns h only these shares t e here =
    let n : Machine = machine_after homes m earlier in
    let share : HasItsShare ns (queue_at n cpu) turns t e =
    subst (λ (q : State). (u : ℕ) (f : Entry) → get q.runnable u ≡ Some f → HasItsShare ns q turns u f)
    (sym (turns_of_one_cpu stay homes m cpu earlier before h only)) shares t e here in
    let tell : TellTime cpu (lines_of homes n deeds) (queue_at n cpu) turns =
    lines_tell_time stay homes n cpu deeds turns (subst (λ (n : ℕ). cpu < n) (sym (length-after homes m earlier)) h) these in
    shares_told ns cpu (lines_of homes n deeds) (queue_at n cpu) turns t e share tell

pub one_cpu_gives_shares : OthersStay → TurnsGiveShares → OneCpuGivesShares
one_cpu_gives_shares stay shares homes m cpu earlier deeds v ns before turns h only these fresh short more t e here =
    shares_of_lines stay homes m cpu earlier deeds ns before turns h only these (shares (queue_at m cpu) v ns before turns fresh short more) t e here
