-- How a load changes when a task leaves or joins.
use Rattle.std.proofs.Common.{◌≡◌, ℕ, ◌+◌, Bool, true, false, cond, List, [], ◌∷◌, refl, sym, ap, subst, ◌∙◌, arith}
use Rattle.std.specs.Prelude.{◌==◌, is_some, Option, Some, None}
use Rattle.std.specs.{Option.unwrap_or, declared.cmp.Ordering.Ordering, Cmp.nat_cmp_total, Cmp.unsigned_tied}
use Rattle.std.specs.FinMap.Entries.{by_order}
use Rattle.std.specs.declared.cmp.Ordering.TheVariants.{Less, Equal, Greater}
use Rattle.std.specs.Ordering.{nat_cmp, is_eq, eq_by_cmp}
use Rattle.std.specs.FinMap.{empty, insert, remove, get, entries, find, put, get-entries, get-insert, get-remove, entries-insert, same_map, nat_cmp-IsAntisymmetric}
use Rattle.eevdf_weight.specs.Weight.{weight_of}
use Rattle.eevdf_queue.specs.{declared.entry.Entry.Entry, State.State, State.Contents, Leaving.leave, Leaving.without_entry}
use Rattle.eevdf_queue.specs.Sums.{Tasks, sum_weights, total_weight}
use Rattle.eevdf_queue.specs.Moves.{fresh_entry, is_entry_in_range, sleeper_of, with_runnable}
use Rattle.eevdf_queue.specs.Placing as placing
use Rattle.eevdf_queue.proofs.{MapFolds.entries-empty, Sound.gone}
use Rattle.eevdf_ops.specs.WholePull.{load_of, with_task}
use Rattle.eevdf_ops.proofs.{MapCounts.equal, QueueValues.in_range_only}

placed_in : (k : ℕ) (v : Entry) (e : ℕ × Entry) (es : List (ℕ × Entry)) (o : Ordering) → cond (is_eq o) (Some e.1) (find nat_cmp k es) ≡ None
    → (find nat_cmp k es ≡ None → sum_weights (put nat_cmp k v es) ≡ weight_of v.nice + sum_weights es)
    → sum_weights (by_order o ((k, v) ∷ e ∷ es) ((e.0, v) ∷ es) (e ∷ put nat_cmp k v es)) ≡ weight_of v.nice + sum_weights (e ∷ es)
placed_in k v e es Less none rest = refl
placed_in k v e es Equal none rest = cc
placed_in k v e es Greater none rest = omega (arith, rest none)

weights-put : (k : ℕ) (v : Entry) (es : List (ℕ × Entry)) → find nat_cmp k es ≡ None → sum_weights (put nat_cmp k v es) ≡ weight_of v.nice + sum_weights es
weights-put k v [] none = refl
weights-put k v (e ∷ es) none = placed_in k v e es (nat_cmp k e.0) none (weights-put k v es)

weight-insert : (m : Tasks) (k : ℕ) (v : Entry) → get m k ≡ None → total_weight (insert m k v) ≡ weight_of v.nice + total_weight m
weight-insert m k v none =
    ap sum_weights (entries-insert nat_cmp_total m k v) ∙ weights-put k v (entries m) (sym (get-entries m k) ∙ none)

-- a task that was taken out, put in again
restored_at : (m : Tasks) (k u : ℕ) (v : Entry) (b : Bool) → (b ≡ true → u ≡ k) → get m k ≡ Some v → cond b (Some v) (cond b None (get m u)) ≡ get m u
restored_at m k u v true at here = sym (ap (get m) (at refl) ∙ here)
restored_at m k u v false at here = refl

pub restored : (m : Tasks) (k : ℕ) (v : Entry) → get m k ≡ Some v → insert (remove m k) k v ≡ m
restored m k v here = same_map nat_cmp_total nat_cmp-IsAntisymmetric _ _ (λ u.
    get-insert nat_cmp_total (remove m k) k v u ∙ ap (λ o. cond (eq_by_cmp nat_cmp u k) (Some v) o) (get-remove nat_cmp_total m k u)
    ∙ ap (λ (b : Bool). cond b (Some v) (cond b None (get m u))) (unsigned_tied u k) ∙ restored_at m k u v (u == k) (equal u k) here)

weight-remove : (m : Tasks) (k : ℕ) (v : Entry) → get m k ≡ Some v → weight_of v.nice + total_weight (remove m k) ≡ total_weight m
weight-remove m k v here = sym (weight-insert (remove m k) k v (gone m k)) ∙ ap total_weight (restored m k v here)

-- a runnable task leaves
pub load-leave : (q : State) (t : ℕ) (e : Entry) → get q.runnable t ≡ Some e → weight_of e.nice + load_of (leave q t) ≡ load_of q
load-leave q t e here =
    subst (λ (o : Option Entry). weight_of e.nice + load_of (without_entry q t o) ≡ load_of q) (sym here) (weight-remove q.runnable t e here)

with_by : (q : State) (t : ℕ) (o : Option Entry) (nice : _) → get q.runnable t ≡ None → is_some o ≡ true → ((e : Entry) → o ≡ Some e → e.nice ≡ nice)
    → load_of (unwrap_or (with_runnable q t o) q) ≡ weight_of nice + load_of q
with_by q t None nice none room named = cc
with_by q t (Some e) nice none room named = weight-insert q.runnable t e none ∙ ap (λ n. weight_of n + load_of q) (named e refl)

-- a task joins that isn't runnable there
pub load-with : (q : State) (p : Contents) → get q.runnable p.task ≡ None → placing.can_place q (sleeper_of p) ≡ true → load_of (with_task q p) ≡ weight_of p.nice + load_of q
load-with q p none room =
    let fresh : Entry = fresh_entry (placing.placement q (sleeper_of p)) p.nice p.slice in
    with_by q p.task (placing.placed_entry q (sleeper_of p)) p.nice none room (λ e f. ap (λ (x : Entry). x.nice) (sym (in_range_only fresh e (is_entry_in_range fresh) f)))

-- no load without tasks
pub load-empty : (q : State) → q.runnable ≡ empty → load_of q ≡ 0
load-empty q e = ap total_weight e ∙ ap sum_weights entries-empty
