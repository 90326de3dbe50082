-- What no turn, no rebase and no pull that is refused changes: which tasks are runnable on a CPU, and what each of them weighs.
use Rattle.std.proofs.Common.{◌≡◌, ℕ, Bool, true, false, cond, List, set, refl, sym, ap, ◌∙◌}
use Rattle.std.specs.Prelude.{ℤ, pos, ◌==◌, Option, Some, None, Result, Ok, Err}
use Rattle.std.specs.{Option.option_map, Cmp.nat_cmp_total, Cmp.unsigned_tied}
use Rattle.std.specs.FinMap.{get, insert, get-insert}
use Rattle.eevdf_weight.specs.Limits.{is_in_range}
use Rattle.eevdf_queue.specs.{declared.entry.Entry.Entry, State.State, State.Contents, Sums.Tasks, Sums.total_weight, Sums.virtual_time}
use Rattle.eevdf_queue.specs.Tick.{tick, tick_entry, tick_running, charged, aged, is_used_up}
use Rattle.eevdf_queue.specs.Yield.{yield_now, yield_entry, yield_running, yielded}
use Rattle.eevdf_queue.specs.{Pick.pick_of, Pick.picked_by, Pick.after_pick, Moves.fresh_entry, Moves.is_entry_in_range}
use Rattle.eevdf_queue.specs.Rebase.{can_rebase, rebased, rebase, lowered_entry}
use Rattle.eevdf_queue.specs.declared.answers.TickAnswer.{TickAnswer}
use Rattle.eevdf_queue.specs.declared.answers.YieldAnswer.{YieldAnswer}
use Rattle.eevdf_queue.specs.declared.answers.TickAnswer.TheVariants.{Charged, Range, Idle}
use Rattle.eevdf_queue.specs.declared.answers.YieldAnswer.TheVariants as yield_answer
use Rattle.eevdf_queue.proofs.LoweredMaps.{get-lowered, weight-lowered}
use Rattle.eevdf_ops.specs.{declared.deeds.Deed.Deed, declared.deeds.Answer.Answer, declared.deeds.Answer.TheVariants.Pulled}
use Rattle.eevdf_ops.specs.declared.deeds.Deed.TheVariants.{Tick, Pick, Yield, Pull, Rebase}
use Rattle.eevdf_ops.specs.{Machine.Machine, Machine.queue_at, Transfers.pulled, Whole.at_two, Whole.whole}
use Rattle.eevdf_ops.specs.OneQueue.{answer_of_tick, answer_of_pick, answer_of_yield}
use Rattle.eevdf_ops.specs.WholePull.{decision, load_of, offer}
use Rattle.eevdf_ops.proofs.{MapCounts.equal, MachinePlaces.each-set}
use Rattle.eevdf_balance.specs.{Sweeps.taken, Squares.is_turn_or_pull}
use Rattle.eevdf_balance.proofs.Weights.{weight-kept}

-- the nice level of a task, if it is runnable
abbrev pub nice_in : Option Entry → Option ℤ
nice_in o = option_map (λ (e : Entry). e.nice) o

-- the same numbers, with the same weights
pub record WeighTheSame (m n : Tasks) : Type 0 where
  pub load : total_weight n ≡ total_weight m
  pub each : (u : ℕ) → nice_in (get n u) ≡ nice_in (get m u)

pub itself : (m : Tasks) → WeighTheSame m m
itself m = record { load = refl; each = λ u. refl }

pub both : (m n o : Tasks) → WeighTheSame m n → WeighTheSame n o → WeighTheSame m o
both m n o a b = record { load = b.load ∙ a.load; each = λ u. b.each u ∙ a.each u }

either : {X : Type 0} (m : Tasks) (b : Bool) (x y : X × State) → WeighTheSame m x.1.runnable → WeighTheSame m y.1.runnable → WeighTheSame m (cond b x y).1.runnable
either m true x y h k = h
either m false x y h k = k

-- an entry changes, but not its level
nice_at : (m : Tasks) (t u : ℕ) (e f : Entry) (b : Bool) → (u == t) ≡ b → get m t ≡ Some f → e.nice ≡ f.nice → nice_in (cond b (Some e) (get m u)) ≡ nice_in (get m u)
nice_at m t u e f true at here same = ap (λ (n : ℤ). Some n) same ∙ sym (ap nice_in (ap (get m) (equal u t at) ∙ here))
nice_at m t u e f false at here same = refl

changed : (m : Tasks) (t : ℕ) (e f : Entry) → get m t ≡ Some f → e.nice ≡ f.nice → WeighTheSame m (insert m t e)
changed m t e f here same = record {
  load = weight-kept m t e f here same;
  each = λ u.
      ap nice_in (get-insert nat_cmp_total m t e u ∙ ap (λ (b : Bool). cond b (Some e) (get m u)) (unsigned_tied u t)) ∙ nice_at m t u e f (u == t) refl here same;
}

charged_level : (e : Entry) (ns : ℕ) (b : Bool) → (cond b (fresh_entry (aged e ns) e.nice e.slice) (record e { v = aged e ns })).nice ≡ e.nice
charged_level e ns true = refl
charged_level e ns false = refl

tick_entry-same : (q : State) (t : ℕ) (o : Option Entry) (ns : ℕ) → get q.runnable t ≡ o → WeighTheSame q.runnable (tick_entry q t o ns).1.runnable
tick_entry-same q t None ns here = itself q.runnable
tick_entry-same q t (Some e) ns here =
    either q.runnable (is_entry_in_range (charged e ns)) (Charged t (is_used_up e ns), record q { runnable = insert q.runnable t (charged e ns) }) (Range, q)
    (changed q.runnable t (charged e ns) e here (charged_level e ns (is_used_up e ns))) (itself q.runnable)

tick_running-same : (q : State) (o : Option ℕ) (ns : ℕ) → WeighTheSame q.runnable (tick_running q o ns).1.runnable
tick_running-same q None ns = itself q.runnable
tick_running-same q (Some t) ns = tick_entry-same q t (get q.runnable t) ns refl

yield_entry-same : (q : State) (t : ℕ) (o : Option Entry) → get q.runnable t ≡ o → WeighTheSame q.runnable (yield_entry q t o).1.runnable
yield_entry-same q t None here = itself q.runnable
yield_entry-same q t (Some e) here =
    either q.runnable (is_in_range (yielded e).d) (yield_answer.Yielded, record q { runnable = insert q.runnable t (yielded e) }) (yield_answer.Range, q)
    (changed q.runnable t (yielded e) e here refl) (itself q.runnable)

yield_running-same : (q : State) (o : Option ℕ) → WeighTheSame q.runnable (yield_running q o).1.runnable
yield_running-same q None = itself q.runnable
yield_running-same q (Some t) = yield_entry-same q t (get q.runnable t) refl

picked-same : (q : State) (o : Option ℕ) → WeighTheSame q.runnable (picked_by q o).runnable
picked-same q None = itself q.runnable
picked-same q (Some t) = itself q.runnable

lowered_level : (by : ℤ) (o : Option Entry) → nice_in (option_map (lowered_entry by) o) ≡ nice_in o
lowered_level by None = refl
lowered_level by (Some e) = refl

rebase-same : (q : State) → WeighTheSame q.runnable (rebase q).1.runnable
rebase-same q =
    let by : ℤ = virtual_time q in
    either q.runnable (can_rebase q) (by, rebased q) (pos 0, q)
    (record { load = weight-lowered by q.runnable; each = λ u. ap nice_in (get-lowered by q.runnable u) ∙ lowered_level by (get q.runnable u) }) (itself q.runnable)

-- ---- machines
abbrev pub AllWeighTheSame : Machine → Machine → Type 0
AllWeighTheSame m n = (k : ℕ) → WeighTheSame (queue_at m k).runnable (queue_at n k).runnable

one : (m : Machine) (cpu : ℕ) (q : State) → WeighTheSame (queue_at m cpu).runnable q.runnable → AllWeighTheSame m (set m cpu q)
one m cpu q here = each-set (λ k r. WeighTheSame (queue_at m k).runnable r.runnable) m cpu q here (λ k. itself (queue_at m k).runnable)

refused-same : (m : Machine) (cpu source : ℕ) (d : Result Contents Answer) → taken (pulled d (queue_at m cpu) (queue_at m source)).0 ≡ None
    → AllWeighTheSame m (at_two m cpu source (pulled d (queue_at m cpu) (queue_at m source))).1
refused-same m cpu source (Err why) none =
    let n : Machine = set m cpu (queue_at m cpu) in
    each-set (λ k r. WeighTheSame (queue_at m k).runnable r.runnable) n source (queue_at m source) (itself (queue_at m source).runnable)
    (one m cpu (queue_at m cpu) (itself (queue_at m cpu).runnable))
refused-same m cpu source (Ok p) none = cc

pub weighs-the-same : (homes : List ℕ) (deed : Deed) (m : Machine) → is_turn_or_pull deed ≡ true → taken (whole homes deed m).0 ≡ None → AllWeighTheSame m (whole homes deed m).1
weighs-the-same homes (Tick cpu ns) m kind none = one m cpu (tick (queue_at m cpu) ns).1 (tick_running-same (queue_at m cpu) (queue_at m cpu).running ns)
weighs-the-same homes (Pick cpu) m kind none = one m cpu (after_pick (queue_at m cpu)) (picked-same (queue_at m cpu) (pick_of (queue_at m cpu).runnable))
weighs-the-same homes (Yield cpu) m kind none = one m cpu (yield_now (queue_at m cpu)).1 (yield_running-same (queue_at m cpu) (queue_at m cpu).running)
weighs-the-same homes (Pull cpu source) m kind none =
    refused-same m cpu source (decision (queue_at m cpu) (load_of (queue_at m source)) (offer (queue_at m source))) none
weighs-the-same homes (Rebase cpu) m kind none = one m cpu (rebase (queue_at m cpu)).1 (rebase-same (queue_at m cpu))
weighs-the-same homes deed m kind none = cc

-- ---- of these deeds only a pull takes a task
tick_takes : (a : TickAnswer) → taken (answer_of_tick a) ≡ None
tick_takes (Charged t resched) = refl
tick_takes Idle = refl
tick_takes Range = refl

pick_takes : (o : Option ℕ) → taken (answer_of_pick o) ≡ None
pick_takes None = refl
pick_takes (Some t) = refl

yield_takes : (a : YieldAnswer) → taken (answer_of_yield a) ≡ None
yield_takes yield_answer.Yielded = refl
yield_takes yield_answer.Idle = refl
yield_takes yield_answer.Range = refl

-- what such a deed does, by whether it is a pull that takes a task
pub turn_or_pull : (homes : List ℕ) (m : Machine) (deed : Deed) (P : Deed → Type 0) → is_turn_or_pull deed ≡ true
    → (taken (whole homes deed m).0 ≡ None → P deed) → ((cpu source task : ℕ) → deed ≡ Pull cpu source → taken (whole homes (Pull cpu source) m).0 ≡ Some task → P deed) → P deed
turn_or_pull homes m (Tick cpu ns) P kind other pull = other (tick_takes (tick (queue_at m cpu) ns).0)
turn_or_pull homes m (Pick cpu) P kind other pull = other (pick_takes (pick_of (queue_at m cpu).runnable))
turn_or_pull homes m (Yield cpu) P kind other pull = other (yield_takes (yield_now (queue_at m cpu)).0)
turn_or_pull homes m (Rebase cpu) P kind other pull = other refl
turn_or_pull homes m (Pull cpu source) P kind other pull = by (taken (whole homes (Pull cpu source) m).0) refl
  where
    by : (o : Option ℕ) → taken (whole homes (Pull cpu source) m).0 ≡ o → P (Pull cpu source)
    by None e = other e
    by (Some t) e = pull cpu source t refl e
turn_or_pull homes m deed P kind other pull = cc

pub took : (a : Answer) (t : ℕ) → taken a ≡ Some t → a ≡ Pulled t
took (Pulled u) t e = let is : u ≡ t = cc in ap (λ (n : ℕ). Pulled n) is
took a t e = cc
