-- A pull that takes a task lowers the sum of the squares of the loads.
use Rattle.std.proofs.Common.{◌≡◌, ℕ, zero, suc, ◌+◌, ◌-◌, ◌*◌, ◌<◌, ◌≤◌, [], ◌∷◌, length, set, refl, sym, ap, subst, arith}
use Rattle.std.specs.Prelude.{Some, Result, Ok, Err}
use Rattle.std.specs.FinMap.{get}
use Rattle.std.proofs.{lemmas.Nat.mul-le, Math.ListN.length-set}
use Rattle.eevdf_weight.specs.Weight.{weight_of}
use Rattle.eevdf_weight.proofs.Weighing.{weight_of-least}
use Rattle.eevdf_queue.specs.{declared.entry.Entry.Entry, State.State, State.Contents, Leaving.leave}
use Rattle.eevdf_ops.specs.{declared.deeds.Answer.Answer, declared.deeds.Answer.TheVariants.Pulled, declared.deeds.Deed.TheVariants.Pull}
use Rattle.eevdf_ops.specs.{Machine.Machine, Machine.queue_at, Transfers.NoneTwice, Transfers.pulled, Whole.whole}
use Rattle.eevdf_ops.specs.WholePull.{offer, load_of, decision, with_task}
use Rattle.eevdf_ops.proofs.{Carried.Carries, Carried.offer-carries, DeedNames.PullNames, DeedNames.pull_names, MachinePlaces.none-twice, MachinePlaces.other_queue}
use Rattle.eevdf_ops.proofs.{Pulling.decision-taken, Pulling.unpulled, PullLaws.IsLevelled, PullLaws.taken_levels}
use Rattle.eevdf_balance.specs.Squares.{load_at, sum_of_squares, PullLowersSquares}

-- a queue is written
squares-set : (m : Machine) (c : ℕ) (q : State) → c < length m → sum_of_squares (set m c q) + load_at m c * load_at m c ≡ sum_of_squares m + load_of q * load_of q
squares-set [] c q h = absurd (omega (arith, h))
squares-set (x ∷ m) zero q h = omega arith
squares-set (x ∷ m) (suc c) q h = let rest = squares-set m c q (omega (arith, h)) in omega (arith, rest)

pub squares-same : (m : Machine) (c : ℕ) (q : State) → load_of q ≡ load_at m c → sum_of_squares (set m c q) ≡ sum_of_squares m
squares-same [] c q same = refl
squares-same (x ∷ m) zero q same = ap (λ (n : ℕ). n * n + sum_of_squares m) same
squares-same (x ∷ m) (suc c) q same = ap (λ (n : ℕ). load_of x * load_of x + n) (squares-same m c q same)

-- a weight goes from the greater of two loads to the other one, and the greater is then greater by so much, or less
moved : (w a d sum one two : ℕ) → one + a * a ≡ sum + (w + a) * (w + a) → two + (w + (a + d)) * (w + (a + d)) ≡ one + (a + d) * (a + d) → two + 2 * (w * d) ≡ sum
moved w a d sum one two h k = omega (arith, h, k)

lower : (w a b c r sum one two : ℕ) → c ≡ w + a → w + r ≡ b → a + w < b → one + a * a ≡ sum + c * c → two + b * b ≡ one + r * r → two + 2 * (w * (b - (a + w))) ≡ sum
lower w a b c r sum one two ec er less h k =
    let d : ℕ = b - (a + w) in
    let rd : r ≡ a + d = omega (arith, er, less) in
    let bd : b ≡ w + (a + d) = omega (arith, less) in
    moved w a d sum one two (subst (λ (x : ℕ). one + a * a ≡ sum + x * x) ec h)
    (subst (λ (x : ℕ). two + x * x ≡ one + (a + d) * (a + d)) bd (subst (λ (x : ℕ). two + b * b ≡ one + x * x) rd k))

-- what is between them is some weight, and twice the least weight is 30
by_thirty : (w d sum two : ℕ) → 15 ≤ w → 1 ≤ d → two + 2 * (w * d) ≡ sum → two + 30 ≤ sum
by_thirty w d sum two some apart h = omega (arith, mul-le 15 1 w d some apart, h)

-- the two queues that a pull leaves, written one after the other
record IsLowered (m after : Machine) (cpu source task : ℕ) : Type 0 where
  entry : Entry
  here : get (queue_at m source).runnable task ≡ Some entry
  lighter : load_at m cpu + weight_of entry.nice < load_at m source
  exact : sum_of_squares after + 2 * (weight_of entry.nice * (load_at m source - (load_at m cpu + weight_of entry.nice))) ≡ sum_of_squares m

taken : (m : Machine) (cpu source : ℕ) (p : Contents) → PullNames (length m) cpu source → NoneTwice (queue_at m cpu) (queue_at m source)
    → decision (queue_at m cpu) (load_at m source) (offer (queue_at m source)) ≡ Ok p
    → IsLowered m (set (set m cpu (with_task (queue_at m cpu) p)) source (leave (queue_at m source) p.task)) cpu source p.task
taken m cpu source p named once e =
    let q : State = queue_at m cpu in
    let s : State = queue_at m source in
    let n : Machine = set m cpu (with_task q p) in
    let c : Carries s p.task p = offer-carries s p (decision-taken q (load_of s) (offer s) p e).offered_it in
    let weighs : weight_of p.nice ≡ weight_of c.entry.nice = ap weight_of c.same_nice in
    let l : IsLevelled q s (with_task q p) (leave s p.task) (weight_of p.nice) = taken_levels q s p once e in
    let kept : queue_at n source ≡ s = other_queue m cpu source (with_task q p) (λ same. named.apart (sym same)) in
    let first = squares-set m cpu (with_task q p) named.puller in
    let second = squares-set n source (leave s p.task) (subst (λ (k : ℕ). source < k) (sym (length-set m cpu (with_task q p))) named.from) in
    let second_of : sum_of_squares (set n source (leave s p.task)) + load_of s * load_of s ≡ sum_of_squares n + load_of (leave s p.task) * load_of (leave s p.task) =
    subst (λ (x : State). sum_of_squares (set n source (leave s p.task)) + load_of x * load_of x ≡ sum_of_squares n + load_of (leave s p.task) * load_of (leave s p.task)) kept second in
    let exact = lower (weight_of p.nice) (load_of q) (load_of s) (load_of (with_task q p)) (load_of (leave s p.task)) (sum_of_squares m) (sum_of_squares n)
    (sum_of_squares (set n source (leave s p.task))) l.puller l.source l.lighter first second_of in
    record {
      entry = c.entry;
      here = c.here;
      lighter = subst (λ (w : ℕ). load_of q + w < load_of s) weighs l.lighter;
      exact = subst (λ (w : ℕ). sum_of_squares (set n source (leave s p.task)) + 2 * (w * (load_of s - (load_of q + w))) ≡ sum_of_squares m) weighs exact;
    }

same_task : (a b : ℕ) → Pulled a ≡ Pulled b → a ≡ b
same_task a b h = cc

lowered_by : (m : Machine) (cpu source task : ℕ) (d : Result Contents Answer) → PullNames (length m) cpu source → NoneTwice (queue_at m cpu) (queue_at m source)
    → decision (queue_at m cpu) (load_at m source) (offer (queue_at m source)) ≡ d → (pulled d (queue_at m cpu) (queue_at m source)).0 ≡ Pulled task
    → IsLowered m (set (set m cpu (pulled d (queue_at m cpu) (queue_at m source)).1.0) source (pulled d (queue_at m cpu) (queue_at m source)).1.1) cpu source task
lowered_by m cpu source task (Err why) named once e answered =
    absurd (unpulled (queue_at m cpu) (load_at m source) task (offer (queue_at m source)) why e answered)
lowered_by m cpu source task (Ok p) named once e answered =
    subst (λ (t : ℕ). IsLowered m (set (set m cpu (with_task (queue_at m cpu) p)) source (leave (queue_at m source) p.task)) cpu source t) (same_task p.task task answered)
    (taken m cpu source p named once e)

pub pull_lowers_squares : PullLowersSquares 30
pull_lowers_squares homes m cpu source task pulls =
    let named : PullNames (length m) cpu source = pull_names (length m) homes cpu source pulls.allowed in
    let l : IsLowered m (whole homes (Pull cpu source) m).1 cpu source task =
    lowered_by m cpu source task (decision (queue_at m cpu) (load_at m source) (offer (queue_at m source))) named
    (none-twice homes m cpu source pulls.placed named.apart named.puller named.from) refl pulls.answered in
    record {
      entry = l.entry;
      here = l.here;
      lighter = l.lighter;
      exact = l.exact;
      least =
          let w : ℕ = weight_of l.entry.nice in
          by_thirty w (load_at m source - (load_at m cpu + w)) (sum_of_squares m) (sum_of_squares (whole homes (Pull cpu source) m).1) (weight_of-least l.entry.nice) (omega (arith, l.lighter)) l.exact;
    }
