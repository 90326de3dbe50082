-- A task that joins again the queue that it has left.
use Rattle.std.proofs.Common.{◌≡◌, ℕ, true, Option, Some, None, sym, ap, ◌∙◌, arith}
use Rattle.std.specs.Prelude.{ℤ, is_some}
use Rattle.std.specs.{Cmp.nat_cmp_total, Ordering.nat_cmp}
use Rattle.std.specs.FinMap.{FinMap, insert, remove, get, get-insert, get-remove, same_map, nat_cmp-IsAntisymmetric}
use Rattle.std.proofs.lemmas.Bool.Decides.{nat_tests}
use Rattle.eevdf_weight.specs.{Limits.is_in_range}
use Rattle.eevdf_queue.specs.{declared.entry.Entry.Entry, State.State, State.Sleeper, Leaving.leave, Leaving.without_entry}
use Rattle.eevdf_queue.specs.{Placing.runtime_of, Placing.placed_entry, Kept.AreSound}
use Rattle.eevdf_queue.specs.Sums.{Tasks, time_over, total_weight, total_moment}
use Rattle.eevdf_queue.specs.Moves.{entry_in_range, fresh_entry, with_runnable}
use Rattle.eevdf_queue.specs.Renice.{reniced, renice, renice_entry, renice_to}
use Rattle.eevdf_queue.specs.declared.answers.ReniceAnswer.TheVariants.{Reniced, NotHere, Range}
use Rattle.eevdf_queue.proofs.Sound.{Asleep, sound_change}

-- where a task is placed beside the others, once it has left
pub placed_again : (q : State) (task : ℕ) (e : Entry) (s : Sleeper) (total : ℕ) (moment time : ℤ) → get q.runnable task ≡ Some e
    → total ≡ total_weight (remove q.runnable task) → moment ≡ total_moment (remove q.runnable task) → time ≡ time_over total moment e.v
    → entry_in_range (fresh_entry (runtime_of time total s.lag s.nice) s.nice s.slice) ≡ placed_entry (leave q task) s
placed_again q task e s total moment time here w m t =
    let of_time : ℤ → ℕ → Option Entry = λ x y. entry_in_range (fresh_entry (runtime_of x y s.lag s.nice) s.nice s.slice) in
    let rest : Tasks = remove q.runnable task in
    ap (λ (x : ℤ). of_time x total) (t ∙ ap (λ (y : ℕ). time_over y moment e.v) w ∙ ap (λ (z : ℤ). time_over (total_weight rest) z e.v) m)
    ∙ ap (λ (y : ℕ). of_time (time_over (total_weight rest) (total_moment rest) e.v) y) w
    ∙ ap (λ (o : Option Entry). placed_entry (without_entry q task o) s) (sym here)

put_back : {X : Type 0} (m : FinMap nat_cmp X) (k u : ℕ) (e : X) → get (insert (remove m k) k e) u ≡ get (insert m k e) u
put_back m k u e = grind (arith, nat_tests, get-insert nat_cmp_total (remove m k) k e u, get-remove nat_cmp_total m k u, get-insert nat_cmp_total m k e u)

-- a task that is taken out and put in again
pub joined_again : {X : Type 0} (m : FinMap nat_cmp X) (k : ℕ) (e : X) → insert (remove m k) k e ≡ insert m k e
joined_again m k e = same_map nat_cmp_total nat_cmp-IsAntisymmetric _ _ (λ u. put_back m k u e)

-- the queue once the task has its new entry
pub after_renice : (q : State) (task : ℕ) (nice : ℤ) (e f : Entry) (tasks : Tasks) → get q.runnable task ≡ Some e → placed_entry (leave q task) (reniced q e nice) ≡ Some f
    → tasks ≡ insert q.runnable task f → record q { runnable = tasks; base = e.v } ≡ (renice q task nice).1
after_renice q task nice e f tasks here placed is =
    ap (λ (m : Tasks). record q { runnable = m; base = e.v }) (is ∙ sym (joined_again q.runnable task f))
    ∙ ap (λ (r : State). (renice_to q (with_runnable r task (Some f))).1) (ap (without_entry q task) (sym here))
    ∙ ap (λ (o : Option Entry). (renice_to q (with_runnable (leave q task) task o)).1) (sym placed)
    ∙ ap (λ (o : Option Entry). (renice_entry q task nice o).1) (sym here)

pub not_here : (q : State) (task : ℕ) (nice : ℤ) → get q.runnable task ≡ None → renice q task nice ≡ (NotHere, q)
not_here q task nice h = ap (renice_entry q task nice) h

pub out_of_range : (q : State) (task : ℕ) (nice : ℤ) (e : Entry) → get q.runnable task ≡ Some e → placed_entry (leave q task) (reniced q e nice) ≡ None
    → renice q task nice ≡ (Range, q)
out_of_range q task nice e here placed =
    ap (renice_entry q task nice) here ∙ ap (λ (o : Option Entry). renice_to q (with_runnable (leave q task) task o)) placed

pub has_level : (q : State) (task : ℕ) (nice : ℤ) (e f : Entry) → get q.runnable task ≡ Some e → placed_entry (leave q task) (reniced q e nice) ≡ Some f
    → (renice q task nice).0 ≡ Reniced
has_level q task nice e f here placed =
    ap (λ (o : Option Entry). (renice_entry q task nice o).0) here
    ∙ ap (λ (o : Option Entry). (renice_to q (with_runnable (leave q task) task o)).0) placed

-- what the queue keeps
pub sound_renice : (m m' : Tasks) (r : Option ℕ) (n : Asleep) (b b' : ℤ) (t : ℕ) (e f : Entry) → m' ≡ insert m t f → get m t ≡ Some e → is_in_range b' ≡ true
    → AreSound m r n b → AreSound m' r n b'
sound_renice m m' r n b b' t e f is here based h =
    let kept : AreSound m' r n b = sound_change m m' r n b t f is (ap is_some here) h in
    record { runs = kept.runs; apart = kept.apart; based = based }
