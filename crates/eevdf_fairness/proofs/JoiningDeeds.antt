-- A wake, a pull and a renice that are done let a task join the others.
use Rattle.std.proofs.Common.{◌≡◌, ℕ, ◌≤◌, true, Option, Some, None, refl, sym, ap, subst, arith}
use Rattle.std.specs.Prelude.{ℤ, pos, nat_le, is_some, unsigned_abs, ◌*ℤ◌}
use Rattle.std.specs.{FinMap.get, Option.unwrap_or}
use Rattle.std.proofs.{lemmas.Bool.Decides.nat_tests}
use Rattle.eevdf_weight.specs.{Weight.weight_of, Charge.lag_limit_of, Placement.floor_div}
use Rattle.eevdf_queue.specs.{declared.entry.Entry.Entry, declared.answers.WakeAnswer.TheVariants.Woken, declared.answers.ReniceAnswer.TheVariants.Reniced}
use Rattle.eevdf_queue.specs.{State.State, declared.sleeper.Sleeper.Sleeper, Lag.is_lag, Lag.kept_lag, Leaving.leave, Moves.sleeper_of, Moves.with_runnable}
use Rattle.eevdf_queue.specs.{Placing.put, Placing.placed_entry, Wake.wake, Wake.wake_to, Wake.wake_sleeper, Wake.waking_entry, Renice.renice, Renice.renice_to, Renice.renice_entry, Renice.reniced}
use Rattle.eevdf_queue.proofs.Bounds.{cut_small}
use Rattle.eevdf_fairness.specs.{Joining.Joins, JoiningDeeds.HasOthers, JoiningDeeds.DeedsJoin}

fits : (a b : ℕ) → a ≤ b → nat_le a b ≡ true
fits a b h = grind (arith, nat_tests)

-- what is asked of a task before it joins
module _ (q : State) (task : ℕ) (s : Sleeper) (others : HasOthers q task) (limited : is_lag s.lag s.nice s.slice ≡ true) where
  joins : (placed r : State) → put q task s ≡ Some placed → r.runnable ≡ placed.runnable → Joins q task s r
  joins placed r is same = record {
    some = others.some;
    absent = others.absent;
    limited = limited;
    placed = placed;
    is_put = is;
    runnable = same;
  }

  woken_by : (o : Option State) → put q task s ≡ o → (wake_to q task o).0 ≡ Woken → Joins q task s (wake_to q task o).1
  woken_by None is woken = cc
  woken_by (Some placed) is woken = joins placed _ is refl

  woken : get q.asleep task ≡ Some s → get q.places task ≡ None → (wake q task).0 ≡ Woken → Joins q task s (wake q task).1
  woken here none =
      subst (λ (o : Option Sleeper). (wake_sleeper q task o).0 ≡ Woken → Joins q task s (wake_sleeper q task o).1) (sym here)
      (subst (λ (o : Option ℤ). (wake_to q task (with_runnable q task (waking_entry q s o))).0 ≡ Woken → Joins q task s (wake_to q task (with_runnable q task (waking_entry q s o))).1)
      (sym none) (woken_by (put q task s) refl))

  placed_by : (o : Option Entry) → placed_entry q s ≡ o → is_some o ≡ true → Joins q task s (unwrap_or (put q task s) q)
  placed_by None is some = cc
  placed_by (Some e) is some =
      let put_is : put q task s ≡ with_runnable q task (Some e) = ap (with_runnable q task) is in
      subst (λ (o : Option State). put q task s ≡ o → Joins q task s (unwrap_or o q)) (sym put_is) (λ same. joins _ _ same refl) refl

  reniced_by : (p : State) (o : Option State) → put q task s ≡ o → (renice_to p o).0 ≡ Reniced → Joins q task s (renice_to p o).1
  reniced_by p None is done = cc
  reniced_by p (Some placed) is done = joins placed _ is refl

within_limit : (q : State) (e : Entry) (nice : ℤ) → is_lag (reniced q e nice).lag nice e.slice ≡ true
within_limit q e nice =
    fits (unsigned_abs (reniced q e nice).lag) (lag_limit_of e.slice (weight_of nice))
    (cut_small (floor_div (kept_lag q e *ℤ pos (weight_of e.nice)) (weight_of nice)) (lag_limit_of e.slice (weight_of nice)))

pub reniced_joins : (q : State) (task : ℕ) (nice : ℤ) (e : Entry) → get q.runnable task ≡ Some e → HasOthers (leave q task) task
    → (renice q task nice).0 ≡ Reniced → Joins (leave q task) task (reniced q e nice) (renice q task nice).1
reniced_joins q task nice e here others =
    subst (λ (o : Option Entry). (renice_entry q task nice o).0 ≡ Reniced → Joins (leave q task) task (reniced q e nice) (renice_entry q task nice o).1) (sym here)
    (reniced_by (leave q task) task (reniced q e nice) others (within_limit q e nice) q (put (leave q task) task (reniced q e nice)) refl)

pub deeds_join : DeedsJoin
deeds_join = record {
  wakes = λ q task s others limited. woken q task s others limited;
  pulls = λ q p others limited can. placed_by q p.task (sleeper_of p) others limited (placed_entry q (sleeper_of p)) refl can;
  renices = reniced_joins;
}
