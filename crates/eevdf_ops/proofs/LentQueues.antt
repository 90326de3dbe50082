-- Two queues of a list that are lent at once: one of its front, and the first of its back.
use Rattle.std.proofs.Common.{◌≡◌, ℕ, zero, suc, ◌+◌, ◌<◌, List, [], ◌∷◌, ◌++◌, length, get_or, set, refl, sym, ap, subst, ◌∙◌, arith}
use Rattle.std.proofs.lemmas.List.{get_or_append_left, get_or-append-add}
use Rattle.std.proofs.Math.ListN.{length-append}
use Rattle.eevdf_queue.specs.State.{State, View}
use Rattle.eevdf_ops.specs.{Machine.queue_at, Outcome.machine_of, Transfers.NoneTwice}
use Rattle.eevdf_ops.proofs.Machines.{machine_with, queue_read}

set-front : (front back : List View) (i : ℕ) (x : View) → i < length front → set front i x ++ back ≡ set (front ++ back) i x
set-front [] back i x h = absurd (omega arith)
set-front (f ∷ front) back zero x h = refl
set-front (f ∷ front) back (suc i) x h = ap (λ (l : List View). f ∷ l) (set-front front back i x (omega arith))

set-back : (front back : List View) (y : View) → front ++ set back 0 y ≡ set (front ++ back) (length front) y
set-back [] back y = refl
set-back (f ∷ front) back y = ap (λ (l : List View). f ∷ l) (set-back front back y)

-- the machine once both are written
pub lent-written : (front back all : List View) (i at k : ℕ) (x y : View) (a b : State) → all ≡ front ++ back → i < length front → i ≡ at → length front ≡ k → x.state ≡ a → y.state ≡ b
    → machine_of (set front i x ++ set back 0 y) ≡ set (set (machine_of all) k b) at a
lent-written front back all i at k x y a b whole within here seam ex ey =
    ap machine_of (set-front front (set back 0 y) i x within ∙ ap (λ (l : List View). set l i x) (set-back front back y ∙ ap (λ (l : List View). set l (length front) y) (sym whole)))
    ∙ machine_with (set all (length front) y) at i x a here ex ∙ ap (λ (m : List State). set m at a) (machine_with all k (length front) y b seam ey)

-- each as it is read
pub read-front : (front back all : List View) (i at : ℕ) (d : View) → all ≡ front ++ back → i < length front → i ≡ at → queue_at (machine_of all) at ≡ (get_or front i d).state
read-front front back all i at d whole within here =
    ap (λ (l : List View). queue_at (machine_of l) at) whole
    ∙ queue_read (front ++ back) at i d here (omega (arith, length-append front back)) ∙ ap (λ (v : View). v.state) (get_or_append_left front back d i within)

pub read-back : (front back all : List View) (k : ℕ) (d : View) → all ≡ front ++ back → 0 < length back → length front ≡ k → queue_at (machine_of all) k ≡ (get_or back 0 d).state
read-back front back all k d whole some seam =
    ap (λ (l : List View). queue_at (machine_of l) k) whole
    ∙ queue_read (front ++ back) k (length front + 0) d (omega (arith, seam)) (omega (arith, length-append front back)) ∙ ap (λ (v : View). v.state) (get_or-append-add front back 0 d)

-- no task stands in both of two queues that are these
pub none-in-both : (q r s t : State) → s ≡ q → t ≡ r → NoneTwice s t → NoneTwice q r
none-in-both q r s t e f none = subst (λ (x : State). NoneTwice x r) e (subst (λ (x : State). NoneTwice s x) f none)

-- what comes of two queues as they were read comes of these
pub as-read : (f : State → State → State) (x q r s t : State) → s ≡ q → t ≡ r → x ≡ f q r → x ≡ f s t
as-read f x q r s t e g is = is ∙ ap (λ (y : State). f y r) (sym e) ∙ ap (f s) (sym g)
