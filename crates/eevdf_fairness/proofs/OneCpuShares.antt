-- While nothing but its turns changes a CPU's runnable tasks and who runs there, lines tell its time, and its tasks have their shares.
use Rattle.std.proofs.Common.{◌≡◌, ℕ, suc, zero, ◌+◌, ◌*◌, ◌<◌, Bool, true, false, cond, List, [], ◌∷◌, ◌++◌, length, map, Option, Some, None, refl, sym, ap, ◌∙◌, subst, arith}
use Rattle.std.specs.Prelude.{◌==◌, ℤ, pos, negsuc, ◌+ℤ◌, ◌*ℤ◌, ◌<ℤ◌}
use Rattle.std.specs.{Ordering.nat_cmp, FinMap.FinMap, FinMap.get, FinMap.contains_key, FinMap.insert}
use Rattle.eevdf_queue.specs.declared.sleeper.Sleeper.{Sleeper}
use Rattle.eevdf_queue.specs.{declared.entry.Entry.Entry, declared.answers.TickAnswer.TickAnswer, State.State, Moves.is_entry_in_range, Pick.after_pick}
use Rattle.eevdf_queue.specs.{Tick.tick, Tick.tick_running, Tick.tick_entry, Tick.is_used_up, Tick.charged as charged_entry, Sums.Tasks, Sums.total_weight, Sums.total_moment}
use Rattle.eevdf_queue.specs.declared.answers.TickAnswer.TheVariants as ticked
use Rattle.eevdf_ops.specs.{declared.deeds.Deed.Deed, declared.deeds.Answer.Answer, Machine.Machine, Machine.queue_at, OneQueue.answer_of_tick, Whole.whole, Whole.lines_of, Whole.machine_after}
use Rattle.eevdf_ops.specs.declared.deeds.Deed.TheVariants.{Tick, Pick, Yield, Sleep, Doze, Wake, Pull, Renice, Begin, End, Set, Rebase}
use Rattle.eevdf_ops.specs.declared.deeds.Answer.TheVariants as answered
use Rattle.eevdf_ops.proofs.{MapCounts.equal, WholePlaces.length-after, WholePlaces.length-whole}
use Rattle.eevdf_fairness.specs.{Turns.Turn, Turns.after_ticks, Turns.after_turn, Turns.after_turns, Tallies.Measure, Tallies.over_ticks, Tallies.over_turns, Fair.turns_of_others}
use Rattle.eevdf_fairness.specs.{Tallies.if_charged, Tallies.if_charged_to, Tallies.remainder, Tallies.remainder_of, Tallies.cpu_time, Tallies.cpu_rounding, Share.HasItsShare, Share.TurnsGiveShares}
use Rattle.eevdf_fairness.specs.{Leavings.Takes, Leavings.after_steps, Leavings.HaveSameRunnable, Leavings.HaveSameTimes, Healing.HasCaughtUp, Healing.HealedTurnsGiveShares}
use Rattle.eevdf_fairness.specs.OneCpuSteps.{Change, Picks, Ticks, Loses, Lowers, Gains, Yields, own_change, change_at, and_then, changes_at, changes_of}
use Rattle.eevdf_fairness.specs.Lines.{ticked_on, charged, charged_to, over_lines, HasItsShareOfLines}
use Rattle.eevdf_fairness.specs.OneCpuShares.{OnlyTurnsChange, ChangesTellTime, ChangesGiveShares, HealedChangesGiveShares}
use Rattle.eevdf_fairness.proofs.{SameRunnable.then, SameRunnable.ticked as tick_alike, SameRunnable.of_turns, SameRunnable.picked as pick_alike}
use Rattle.eevdf_fairness.proofs.{RestOfQueue.KeepsRest, RestOfQueue.turns_rest}
use Rattle.eevdf_fairness.proofs.SameTimes as times
use Rattle.eevdf_fairness.proofs.{OwnChanges.changed, OwnChanges.changed_by, OwnChanges.told_step, OneCpuSteps.all_changed, OneCpuSteps.AreOfSteps, OneCpuSteps.one_change, OneCpuSteps.changed_by_alike}
use Rattle.eevdf_fairness.proofs.OneCpuSteps.{first_of, rest_of, as_changed, are_of_steps, steps_changed}
use Rattle.eevdf_fairness.proofs.Lines.{sums, none_charged, none_charged_to, charged_alike, charged_to_alike, shares_told}

-- ---- a measure of ticks that reads of a queue its runnable tasks and who runs
abbrev Reads : Measure → Type 0
Reads g = (q r : State) (ns : ℕ) → HaveSameRunnable q r → g q ns ≡ g r ns

answer_to : (q r : State) (t : ℕ) (e : Entry) (resched b : Bool)
    → (cond {A = TickAnswer × State} b (ticked.Charged t resched, record q { runnable = insert q.runnable t e }) (ticked.Range, q)).0
    ≡ (cond {A = TickAnswer × State} b (ticked.Charged t resched, record r { runnable = insert r.runnable t e }) (ticked.Range, r)).0
answer_to q r t e resched true = refl
answer_to q r t e resched false = refl

answer_of : (q r : State) (t ns : ℕ) (o : Option Entry) → (tick_entry q t o ns).0 ≡ (tick_entry r t o ns).0
answer_of q r t ns None = refl
answer_of q r t ns (Some e) = answer_to q r t (charged_entry e ns) (is_used_up e ns) (is_entry_in_range (charged_entry e ns))

answer_by : (q r : State) (ns : ℕ) (o : Option ℕ) → HaveSameRunnable q r → (tick_running q o ns).0 ≡ (tick_running r o ns).0
answer_by q r ns None same = refl
answer_by q r ns (Some t) same = answer_of q r t ns (get q.runnable t) ∙ ap (λ (m : Tasks). (tick_entry r t (get m t) ns).0) same.runnable

same_answer : (q r : State) (ns : ℕ) → HaveSameRunnable q r → (tick q ns).0 ≡ (tick r ns).0
same_answer q r ns same = answer_by q r ns q.running same ∙ ap (λ (o : Option ℕ). (tick_running r o ns).0) same.running

reads_time : Reads (λ q ns. if_charged (tick q ns).0 ns)
reads_time q r ns same = ap (λ (a : TickAnswer). if_charged a ns) (same_answer q r ns same)

reads_time_of : (t : ℕ) → Reads (λ q ns. if_charged_to t (tick q ns).0 ns)
reads_time_of t q r ns same = ap (λ (a : TickAnswer). if_charged_to t a ns) (same_answer q r ns same)

same_remainder : (q r : State) (ns : ℕ) → HaveSameRunnable q r → remainder q q.running ns ≡ remainder r r.running ns
same_remainder q r ns same = by q.running ∙ ap (λ (o : Option ℕ). remainder r o ns) same.running
  where
    by : (o : Option ℕ) → remainder q o ns ≡ remainder r o ns
    by None = refl
    by (Some t) = ap (λ (m : Tasks). remainder_of (get m t) ns) same.runnable

reads_rounding : Reads (λ q ns. if_charged (tick q ns).0 (remainder q q.running ns))
reads_rounding q r ns same =
    ap (λ (a : TickAnswer). if_charged a (remainder q q.running ns)) (same_answer q r ns same) ∙ ap (if_charged (tick r ns).0) (same_remainder q r ns same)

module _ (g : Measure) (reads : Reads g) where
  same_ticks : (q r : State) (turn : Turn) → HaveSameRunnable q r → over_ticks g q turn ≡ over_ticks g r turn
  same_ticks q r [] same = refl
  same_ticks q r (ns ∷ turn) same =
      sums (g q ns) (over_ticks g (tick q ns).1 turn) (g r ns) (over_ticks g (tick r ns).1 turn) (reads q r ns same) (same_ticks (tick q ns).1 (tick r ns).1 turn (tick_alike q r ns same))

  same_turns : (q r : State) (turns : List Turn) → HaveSameRunnable q r → over_turns g q turns ≡ over_turns g r turns
  same_turns q r [] same = refl
  same_turns q r (turn ∷ turns) same =
      sums (over_ticks g (after_pick q) turn) (over_turns g (after_turn q turn) turns) (over_ticks g (after_pick r) turn) (over_turns g (after_turn r turn) turns)
      (same_ticks (after_pick q) (after_pick r) turn (pick_alike q r same)) (same_turns (after_turn q turn) (after_turn r turn) turns (of_turns q r (turn ∷ []) same))

-- ---- over changes
abbrev over_change : Measure → Option Change → State → ℕ
over_change g (Some (Ticks ns)) q = g q ns
over_change g change q = 0

abbrev over_changes : Measure → List Change → State → ℕ
over_changes g [] q = 0
over_changes g (change ∷ changes) q = over_change g (Some change) q + over_changes g changes (changed change q)

module _ (g : Measure) (reads : Reads g) where
  same_change : (change : Option Change) (q r : State) → HaveSameRunnable q r → over_change g change q ≡ over_change g change r
  same_change None q r same = refl
  same_change (Some Picks) q r same = refl
  same_change (Some (Ticks ns)) q r same = reads q r ns same
  same_change (Some (Loses task)) q r same = refl
  same_change (Some Lowers) q r same = refl
  same_change (Some (Gains task)) q r same = refl
  same_change (Some Yields) q r same = refl

  and_then_over : (o : Option Change) (rest : List Change) (q : State) → over_change g o q + over_changes g rest (changed_by o q) ≡ over_changes g (and_then o rest) q
  and_then_over None rest q = omega arith
  and_then_over (Some change) rest q = refl

  three : (a b c d e : ℕ) → a ≡ c → b ≡ d + e → a + b ≡ c + d + e
  three a b c d e h k = omega (arith, h, k)

  in_ticks : (turn : Turn) (more : List Change) (q : State) → over_changes g (map Ticks turn ++ more) q ≡ over_ticks g q turn + over_changes g more (after_ticks q turn)
  in_ticks [] more q = omega arith
  in_ticks (ns ∷ turn) more q =
      three (g q ns) (over_changes g (map Ticks turn ++ more) (tick q ns).1) (g q ns) (over_ticks g (tick q ns).1 turn) (over_changes g more (after_ticks (tick q ns).1 turn)) refl
      (in_ticks turn more (tick q ns).1)

  after_pick_too : (a b : ℕ) → a ≡ b → 0 + a ≡ b
  after_pick_too a b h = omega (arith, h)

  in_turns : (turns : List Turn) (q : State) → over_changes g (changes_of (map Takes turns)) q ≡ over_turns g q turns
  in_turns [] q = refl
  in_turns (turn ∷ turns) q =
      after_pick_too (over_changes g (map Ticks turn ++ changes_of (map Takes turns)) (after_pick q)) (over_turns g q (turn ∷ turns))
      (in_ticks turn (changes_of (map Takes turns)) (after_pick q) ∙ ap (λ (x : ℕ). over_ticks g (after_pick q) turn + x) (in_turns turns (after_turn q turn)))

  -- ---- what is no tick
  none_of : (q : State) (b : Bool) (change : Option Change) → over_change g change q ≡ 0 → over_change g (cond b change None) q ≡ 0
  none_of q true change none = none
  none_of q false change none = refl

  own_none : (q : State) (d : Deed) (a : Answer) → ((at ns : ℕ) → d ≡ Tick at ns → ⊥) → over_change g (own_change q d a) q ≡ 0
  own_none q (Tick at ns) a other = absurd (other at ns refl)
  own_none q (Pick at) (answered.Picked task) other = refl
  own_none q (Pick at) a other = refl
  own_none q (Yield at) answered.Yielded other = refl
  own_none q (Yield at) a other = refl
  own_none q (Sleep at task) (answered.Slept lag) other = refl
  own_none q (Sleep at task) a other = refl
  own_none q (Doze at task) (answered.Slept lag) other = refl
  own_none q (Doze at task) a other = refl
  own_none q (Wake at task sender) answered.Woken other = refl
  own_none q (Wake at task sender) a other = refl
  own_none q (Pull at source) a other = refl
  own_none q (Renice at task nice) answered.Reniced other = refl
  own_none q (Renice at task nice) a other = refl
  own_none q (Begin at task nice slice) a other = refl
  own_none q (End at task) answered.Ended other = refl
  own_none q (End at task) a other = refl
  own_none q (Set at task nice slice) answered.Set other = none_of q (contains_key q.runnable task) (Some (Gains task)) refl
  own_none q (Set at task nice slice) a other = refl
  own_none q (Rebase at) (answered.Rebased (pos zero)) other = refl
  own_none q (Rebase at) (answered.Rebased (pos (suc n))) other = refl
  own_none q (Rebase at) (answered.Rebased (negsuc n)) other = refl
  own_none q (Rebase at) a other = refl

  pulled_none : (q : State) (task : ℕ) (b c : Bool) → over_change g (cond b (Some (Loses task)) (cond c (Some (Gains task)) None)) q ≡ 0
  pulled_none q task true c = refl
  pulled_none q task false true = refl
  pulled_none q task false false = refl

  pull_none : (q : State) (cpu at source : ℕ) (a : Answer) → over_change g (change_at cpu q (Pull at source) a) q ≡ 0
  pull_none q cpu at source (answered.Pulled task) = pulled_none q task (source == cpu) (at == cpu)
  pull_none q cpu at source a = none_of q (at == cpu) None refl

  -- ---- lines
  module _ (f : Answer → ℕ → ℕ) (none : (a : Answer) → f a 0 ≡ 0) (idle : (n : ℕ) → f answered.Idle n ≡ 0) (range : (n : ℕ) → f answered.Range n ≡ 0)
      (told : (q : State) (ns : ℕ) → f (answer_of_tick (tick q ns).0) ns ≡ g q ns) (homes : List ℕ) (cpu : ℕ) where
    tick_amount : (q : State) (at ns : ℕ) (a : TickAnswer) → (tick q ns).0 ≡ a → f (answer_of_tick a) ns ≡ over_change g (own_change q (Tick at ns) (answer_of_tick a)) q
    tick_amount q at ns (ticked.Charged task resched) is = ap (λ (a : TickAnswer). f (answer_of_tick a) ns) (sym is) ∙ told q ns
    tick_amount q at ns ticked.Idle is = idle ns
    tick_amount q at ns ticked.Range is = range ns

    tick_line : (m : Machine) (at ns : ℕ) (b : Bool) → (at == cpu) ≡ b
        → f (answer_of_tick (tick (queue_at m at) ns).0) (cond b ns 0)
        ≡ over_change g (cond b (own_change (queue_at m cpu) (Tick at ns) (answer_of_tick (tick (queue_at m at) ns).0)) None) (queue_at m cpu)
    tick_line m at ns true is =
        subst (λ (c : ℕ). f (answer_of_tick (tick (queue_at m c) ns).0) ns ≡ over_change g (own_change (queue_at m cpu) (Tick at ns) (answer_of_tick (tick (queue_at m c) ns).0)) (queue_at m cpu))
        (sym (equal at cpu is)) (tick_amount (queue_at m cpu) at ns (tick (queue_at m cpu) ns).0 refl)
    tick_line m at ns false is = none (answer_of_tick (tick (queue_at m at) ns).0)

    own_line : (m : Machine) (d : Deed) (at : ℕ) → ((c n : ℕ) → d ≡ Tick c n → ⊥)
        → f (whole homes d m).0 0 ≡ over_change g (cond (at == cpu) (own_change (queue_at m cpu) d (whole homes d m).0) None) (queue_at m cpu)
    own_line m d at other =
        none (whole homes d m).0
        ∙ sym (none_of (queue_at m cpu) (at == cpu) (own_change (queue_at m cpu) d (whole homes d m).0) (own_none (queue_at m cpu) d (whole homes d m).0 other))

    line_amount : (m : Machine) (d : Deed) → f (whole homes d m).0 (ticked_on cpu d) ≡ over_change g (change_at cpu (queue_at m cpu) d (whole homes d m).0) (queue_at m cpu)
    line_amount m (Tick at ns) = tick_line m at ns (at == cpu) refl
    line_amount m (Pick at) = own_line m (Pick at) at (λ c n same. cc)
    line_amount m (Yield at) = own_line m (Yield at) at (λ c n same. cc)
    line_amount m (Sleep at task) = own_line m (Sleep at task) at (λ c n same. cc)
    line_amount m (Doze at task) = own_line m (Doze at task) at (λ c n same. cc)
    line_amount m (Wake at task sender) = own_line m (Wake at task sender) at (λ c n same. cc)
    line_amount m (Pull at source) = none (whole homes (Pull at source) m).0 ∙ sym (pull_none (queue_at m cpu) cpu at source (whole homes (Pull at source) m).0)
    line_amount m (Renice at task nice) = own_line m (Renice at task nice) at (λ c n same. cc)
    line_amount m (Begin at task nice slice) = own_line m (Begin at task nice slice) at (λ c n same. cc)
    line_amount m (End at task) = own_line m (End at task) at (λ c n same. cc)
    line_amount m (Set at task nice slice) = own_line m (Set at task nice slice) at (λ c n same. cc)
    line_amount m (Rebase at) = own_line m (Rebase at) at (λ c n same. cc)

    in_lines : (m : Machine) (deeds : List Deed) (q : State) → cpu < length m → HaveSameTimes (queue_at m cpu) q → AreOfSteps (changes_at homes cpu m deeds)
        → over_lines f cpu (lines_of homes m deeds) ≡ over_changes g (changes_at homes cpu m deeds) q
    in_lines m [] q h same these = refl
    in_lines m (d ∷ ds) q h same these =
        let n : Machine = (whole homes d m).1 in
        let change : Option Change = change_at cpu (queue_at m cpu) d (whole homes d m).0 in
        let rest : List Change = changes_at homes cpu n ds in
        sums (f (whole homes d m).0 (ticked_on cpu d)) (over_lines f cpu (lines_of homes n ds)) (over_change g change q) (over_changes g rest (changed_by change q))
        (line_amount m d ∙ same_change change (queue_at m cpu) q same.tasks)
        (in_lines n ds (changed_by change q) (subst (λ (k : ℕ). cpu < k) (sym (length-whole homes d m)) h)
        (times.then _ _ _ (told_step change _ _ (one_change homes m cpu h d) (first_of change rest these)) (changed_by_alike change (queue_at m cpu) q same)) (rest_of change rest these))
        ∙ and_then_over change rest q

    tells : (m : Machine) (deeds : List Deed) (turns : List Turn) → cpu < length m → OnlyTurnsChange homes cpu m deeds turns
        → over_lines f cpu (lines_of homes m deeds) ≡ over_turns g (queue_at m cpu) turns
    tells m deeds turns h only =
        in_lines m deeds (queue_at m cpu) h (times.alike (queue_at m cpu)) (subst AreOfSteps (sym only) (are_of_steps (map Takes turns)))
        ∙ ap (λ (changes : List Change). over_changes g changes (queue_at m cpu)) only ∙ in_turns turns (queue_at m cpu)

pub changes_tell_time : ChangesTellTime
changes_tell_time homes m cpu deeds turns h only = record {
  of_all = tells (λ q ns. if_charged (tick q ns).0 ns) reads_time charged none_charged (λ n. refl) (λ n. refl) (λ q ns. charged_alike (tick q ns).0 ns) homes cpu m deeds turns h only;
  of_each = λ t. tells (λ q ns. if_charged_to t (tick q ns).0 ns) (reads_time_of t) (charged_to t) (none_charged_to t) (λ n. refl) (λ n. refl)
      (λ q ns. charged_to_alike t (tick q ns).0 ns) homes cpu m deeds turns h only;
}

-- ---- the queue that turns leave
turns_are_steps : (q : State) (turns : List Turn) → after_steps q (map Takes turns) ≡ after_turns q turns
turns_are_steps q [] = refl
turns_are_steps q (turn ∷ turns) = turns_are_steps (after_turn q turn) turns

turns_leave : (homes : List ℕ) (m : Machine) (cpu : ℕ) (deeds : List Deed) (turns : List Turn) → cpu < length m → OnlyTurnsChange homes cpu m deeds turns
    → HaveSameTimes (queue_at (machine_after homes m deeds) cpu) (after_turns (queue_at m cpu) turns)
turns_leave homes m cpu deeds turns h only =
    times.then _ _ _ (as_changed homes m cpu deeds (queue_at m cpu) h (times.alike (queue_at m cpu)) (subst AreOfSteps (sym only) (are_of_steps (map Takes turns))))
    (times.of_same _ _ (ap (λ (changes : List Change). all_changed changes (queue_at m cpu)) only ∙ steps_changed (map Takes turns) (queue_at m cpu) ∙ turns_are_steps (queue_at m cpu) turns))

all_the_same : (q r : State) → HaveSameRunnable q r → KeepsRest r q → q ≡ r
all_the_same q r same rest =
    ap (λ (m : Tasks). record q { runnable = m }) same.runnable ∙ ap (λ (o : Option ℕ). record q { runnable = r.runnable; running = o }) same.running
    ∙ ap (λ (a : FinMap nat_cmp Sleeper). record r { asleep = a; base = q.base; places = q.places; shift = q.shift }) rest.asleep
    ∙ ap (λ (b : ℤ). record r { base = b; places = q.places; shift = q.shift }) rest.base
    ∙ ap (λ (p : FinMap nat_cmp ℤ). record r { places = p; shift = q.shift }) rest.places ∙ ap (λ (z : ℤ). record r { shift = z }) rest.shift

-- who sleeps in a queue, and the times that stand, as in another one
abbrev with_rest : State → State → State
with_rest q n = record q { asleep = n.asleep; base = n.base; places = n.places; shift = n.shift }

-- ---- shares
module _ (homes : List ℕ) (m : Machine) (cpu : ℕ) (earlier deeds : List Deed) (ns : ℕ) (before turns : List Turn) (h : cpu < length m)
    (first : OnlyTurnsChange homes cpu m earlier before) (only : OnlyTurnsChange homes cpu (machine_after homes m earlier) deeds turns) where
  -- from the first queue on, with who sleeps, and the times that stand, as they are in the last one, turns lead to that
  ends : after_turns (with_rest (queue_at m cpu) (queue_at (machine_after homes m earlier) cpu)) before
      ≡ queue_at (machine_after homes m earlier) cpu
  ends =
      let n : State = queue_at (machine_after homes m earlier) cpu in
      let q : State = with_rest (queue_at m cpu) n in
      let same : HaveSameRunnable n (after_turns q before) =
      then n (after_turns (queue_at m cpu) before) (after_turns q before) (turns_leave homes m cpu earlier before h first).tasks
      (of_turns (queue_at m cpu) q before (record { runnable = refl; running = refl })) in
      let rest : KeepsRest q (after_turns q before) = turns_rest q before in
      sym (all_the_same n (after_turns q before) same (record { asleep = sym rest.asleep; base = sym rest.base; places = sym rest.places; shift = sym rest.shift }))

  given : ((u : ℕ) (f : Entry)
      → get (after_turns (with_rest (queue_at m cpu) (queue_at (machine_after homes m earlier) cpu)) before).runnable u ≡ Some f
      → HasItsShare ns (after_turns (with_rest (queue_at m cpu) (queue_at (machine_after homes m earlier) cpu)) before) turns u f)
      → (t : ℕ) (e : Entry) → get (queue_at (machine_after homes m earlier) cpu).runnable t ≡ Some e
      → HasItsShareOfLines ns cpu (lines_of homes (machine_after homes m earlier) deeds) (queue_at (machine_after homes m earlier) cpu) turns t e
  given shares t e here =
      shares_told ns cpu (lines_of homes (machine_after homes m earlier) deeds) (queue_at (machine_after homes m earlier) cpu) turns t e
      (subst (λ (q : State). (u : ℕ) (f : Entry) → get q.runnable u ≡ Some f → HasItsShare ns q turns u f) ends shares t e here)
      (changes_tell_time homes (machine_after homes m earlier) cpu deeds turns (subst (λ (n : ℕ). cpu < n) (sym (length-after homes m earlier)) h) only)

pub changes_give_shares : TurnsGiveShares → ChangesGiveShares
changes_give_shares shares homes m cpu earlier deeds v ns before turns h first only fresh short more =
    given homes m cpu earlier deeds ns before turns h first only
    (shares (with_rest (queue_at m cpu) (queue_at (machine_after homes m earlier) cpu)) v ns before turns fresh short more)

caught_up_too : (q r : State) (front : ℤ) (ns : ℕ) (before : List Turn) → HaveSameRunnable q r → q.runnable ≡ r.runnable → HasCaughtUp front ns q before → HasCaughtUp front ns r before
caught_up_too q r front ns before same tasks up =
    subst (λ (x : ℕ). ((front *ℤ pos (total_weight r.runnable)) +ℤ pos (turns_of_others ns r.runnable + x)) <ℤ (total_moment r.runnable +ℤ pos (1024 * cpu_time r before)))
    (same_turns (λ q ns. if_charged (tick q ns).0 (remainder q q.running ns)) reads_rounding q r before same)
    (subst (λ (x : ℕ). ((front *ℤ pos (total_weight r.runnable)) +ℤ pos (turns_of_others ns r.runnable + cpu_rounding q before)) <ℤ (total_moment r.runnable +ℤ pos (1024 * x)))
    (same_turns (λ q ns. if_charged (tick q ns).0 ns) reads_time q r before same)
    (subst (λ (tasks : Tasks). ((front *ℤ pos (total_weight tasks)) +ℤ pos (turns_of_others ns tasks + cpu_rounding q before)) <ℤ (total_moment tasks +ℤ pos (1024 * cpu_time q before))) tasks up))

pub healed_changes_give_shares : HealedTurnsGiveShares → HealedChangesGiveShares
healed_changes_give_shares shares homes m cpu earlier deeds front ns before turns h first only past yielded short more up =
    let q : State = with_rest (queue_at m cpu) (queue_at (machine_after homes m earlier) cpu) in
    given homes m cpu earlier deeds ns before turns h first only
    (shares q front ns before turns past yielded short more (caught_up_too (queue_at m cpu) q front ns before (record { runnable = refl; running = refl }) refl up))
