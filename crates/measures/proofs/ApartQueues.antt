-- Two queues that share no task still share none when one of them gains or loses a task.
use Rattle.std.proofs.Common.{◌≡◌, ℕ, ◌<◌, Bool, true, false, cond, Option, Some, None, refl, sym, ap, ◌∙◌, arith}
use Rattle.std.specs.Prelude.{is_some, ◌&&◌, ◌||◌}
use Rattle.std.specs.Option.{option_map}
use Rattle.std.specs.Ordering.{nat_cmp, eq_by_cmp}
use Rattle.std.specs.Cmp.{nat_cmp_total}
use Rattle.std.specs.FinMap.{insert, get, get-insert, get-remove}
use Rattle.std.proofs.lemmas.Bool.Decides.{nat_tests}
use Rattle.eevdf_queue.specs.{declared.entry.Entry.Entry, declared.sleeper.Sleeper.Sleeper}
use Rattle.eevdf_queue.specs.State.{State, Contents}
use Rattle.eevdf_queue.specs.Moves.{with_runnable, put_asleep, sleeper_of}
use Rattle.eevdf_queue.specs.Placing.{put, placed_entry}
use Rattle.eevdf_queue.specs.Leaving.{leave, without_entry, carried, leaving, IsNowhere}
use Rattle.eevdf_queue.specs.Lag.{kept_lag}
use Rattle.eevdf_queue.specs.Kept.{IsKept}
use Rattle.measures.specs.SharedTasks.{stands_in, ShareNoTask}

both_none : (o : Option Entry) (s : Option Sleeper) → o ≡ None → s ≡ None → (is_some o || is_some s) ≡ false
both_none None None e f = refl
both_none None (Some s) e f = cc
both_none (Some o) s e f = cc

stands_nowhere : (q : State) (t : ℕ) → IsNowhere q t → stands_in q t ≡ false
stands_nowhere q t h = both_none (get q.runnable t) (get q.asleep t) h.not_runnable h.not_asleep

-- all other tasks stand where they stood
abbrev DiffersAt : State → State → ℕ → Type 0
DiffersAt q r t = (u : ℕ) → eq_by_cmp nat_cmp u t ≡ false → stands_in r u ≡ stands_in q u

and_false : (a b : Bool) → b ≡ false → (a && b) ≡ false
and_false true b h = h
and_false false b h = refl

swapped : (a b : Bool) → (a && b) ≡ false → (b && a) ≡ false
swapped true b h = grind arith
swapped false true h = refl
swapped false false h = refl

pub apart_swapped : (a b : State) → ShareNoTask a b → ShareNoTask b a
apart_swapped a b h = λ u. swapped (stands_in a u) (stands_in b u) (h u)

changed_at : (a b b' : State) (t u : ℕ) (x : Bool) → eq_by_cmp nat_cmp u t ≡ x → ShareNoTask a b → DiffersAt b b' t
    → (stands_in a t && stands_in b' t) ≡ false → (stands_in a u && stands_in b' u) ≡ false
changed_at a b b' t u true k h d at =
    let same : u ≡ t = grind (arith, nat_tests) in ap (λ (n : ℕ). stands_in a n && stands_in b' n) same ∙ at
changed_at a b b' t u false k h d at = ap (λ (x : Bool). stands_in a u && x) (d u k) ∙ h u

-- one of them changes at a task that then stands in one at most
apart_changed : (a b b' : State) (t : ℕ) → ShareNoTask a b → DiffersAt b b' t → (stands_in a t && stands_in b' t) ≡ false → ShareNoTask a b'
apart_changed a b b' t h d at = λ u. changed_at a b b' t u (eq_by_cmp nat_cmp u t) refl h d at

is_other : (q : State) (t u : ℕ) (e : Entry) → eq_by_cmp nat_cmp u t ≡ false → get (insert q.runnable t e) u ≡ get q.runnable u
is_other q t u e k = get-insert nat_cmp_total q.runnable t e u ∙ ap (λ x. cond x (Some e) (get q.runnable u)) k

differs_put : (q r : State) (t : ℕ) (o : Option Entry) → with_runnable q t o ≡ Some r → DiffersAt q r t
differs_put q r t None h = cc
differs_put q r t (Some e) h =
    let is : record q { runnable = insert q.runnable t e } ≡ r = grind arith in
    λ u k. ap (λ (x : State). stands_in x u) (sym is) ∙ ap (λ o. is_some o || is_some (get q.asleep u)) (is_other q t u e k)

differs_asleep : (q : State) (p : Contents) → DiffersAt q (put_asleep q p) p.task
differs_asleep q p = λ u k.
    ap (λ o. is_some (get q.runnable u) || is_some o)
    (get-insert nat_cmp_total q.asleep p.task (sleeper_of p) u ∙ ap (λ x. cond x (Some (sleeper_of p)) (get q.asleep u)) k)

differs_without : (q : State) (t : ℕ) (o : Option Entry) → DiffersAt q (without_entry q t o) t
differs_without q t None = λ u k. refl
differs_without q t (Some e) = λ u k.
    ap (λ o. is_some o || is_some (get q.asleep u))
    (get-remove nat_cmp_total q.runnable t u ∙ ap (λ x. cond x None (get q.runnable u)) k)

-- a task that stands in neither joins the second
pub apart_put : (a b b' : State) (t : ℕ) (s : Sleeper) → ShareNoTask a b → IsNowhere a t → put b t s ≡ Some b' → ShareNoTask a b'
apart_put a b b' t s h nowhere is =
    apart_changed a b b' t h (differs_put b b' t (placed_entry b s) is) (ap (λ (x : Bool). x && stands_in b' t) (stands_nowhere a t nowhere))

-- or falls asleep in the first
pub apart_asleep : (a b : State) (p : Contents) → ShareNoTask a b → IsNowhere b p.task → ShareNoTask (put_asleep a p) b
apart_asleep a b p h nowhere =
    let b_a : ShareNoTask b (put_asleep a p) = apart_changed b a (put_asleep a p) p.task (apart_swapped a b h) (differs_asleep a p)
    (ap (λ (x : Bool). x && stands_in (put_asleep a p) p.task) (stands_nowhere b p.task nowhere)) in
    apart_swapped b (put_asleep a p) b_a

left_number : (q : State) (t : ℕ) (o : Option Entry) (p : Contents) → option_map (λ (e : Entry). leaving t (kept_lag q e) e) o ≡ Some p → p.task ≡ t
left_number q t None p h = cc
left_number q t (Some e) p h =
    let same : leaving t (kept_lag q e) e ≡ p = grind arith in sym (ap (λ (c : Contents). c.task) same)

-- a task leaves the first
pub apart_left : (a a' b : State) (t : ℕ) (p : Contents) → ShareNoTask a b → carried a t ≡ Some p → a' ≡ leave a t → IsNowhere a' p.task → ShareNoTask a' b
apart_left a a' b t p h c is nowhere =
    let number : p.task ≡ t = left_number a t (get a.runnable t) p c in
    let b_a : ShareNoTask b a' =
    apart_changed b a a' t (apart_swapped a b h)
    (λ u k. ap (λ (x : State). stands_in x u) is ∙ differs_without a t (get a.runnable t) u k)
    (and_false (stands_in b t) (stands_in a' t) (ap (stands_in a') (sym number) ∙ stands_nowhere a' p.task nowhere)) in
    apart_swapped b a' b_a

apart_at : (a b : State) (t : ℕ) (o : Option Entry) (s : Option Sleeper) → get a.runnable t ≡ o → get a.asleep t ≡ s → IsKept a
    → (t < 1024 → (stands_in a t && stands_in b t) ≡ false) → (stands_in a t && stands_in b t) ≡ false
apart_at a b t (Some e) s r z k h = h ((k.in_range t e r).0)
apart_at a b t None (Some s) r z k h = h ((k.limited t s z).0)
apart_at a b t None None r z k h = ap (λ (x : Bool). x && stands_in b t) (both_none (get a.runnable t) (get a.asleep t) r z)

-- numbers are below 1024, so a scan to there finds each task that stands in both
pub apart_by_scan : (a b : State) → IsKept a → ((t : ℕ) → t < 1024 → (stands_in a t && stands_in b t) ≡ false) → ShareNoTask a b
apart_by_scan a b k h = λ t. apart_at a b t (get a.runnable t) (get a.asleep t) refl refl k (h t)
