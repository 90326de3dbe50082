-- Queues and machines that are lowered twice, back, or by nothing.
use Rattle.std.proofs.Common.{◌≡◌, ℕ, zero, suc, Bool, true, false, cond, [], ◌∷◌, length, set, Option, Some, None, refl, sym, ap, ◌∙◌, subst, arith}
use Rattle.std.specs.Prelude.{ℤ, pos, ◌+ℤ◌, ◌-ℤ◌}
use Rattle.std.specs.{Option.option_map, Ordering.nat_cmp, Cmp.nat_cmp_total}
use Rattle.std.specs.FinMap.{get, empty, same_map, nat_cmp-IsAntisymmetric, get-empty}
use Rattle.std.proofs.{lemmas.Int.ints, Math.ListN.length-set}
use Rattle.eevdf_queue.specs.{declared.entry.Entry.Entry, State.State, State.empty_state, Sums.Tasks, Sums.virtual_time, Sums.sum_weights, Sums.sum_moments, Sums.time_over}
use Rattle.eevdf_queue.specs.Rebase.{lowered_entry, lowered_tasks, can_rebase, rebased, rebase}
use Rattle.eevdf_queue.specs.LoweredQueues.{IsLower, RebasedIsLower}
use Rattle.eevdf_queue.proofs.LoweredMaps.{get-lowered}
use Rattle.eevdf_ops.specs.Machine.{Machine, queue_at}
use Rattle.eevdf_queue.proofs.MapFolds.{entries-empty}
use Rattle.eevdf_fairness.specs.LoweredMachines.{IsLowerMachine}

-- ---- tasks
entry_again : (a b : ℤ) (e : Entry) → lowered_entry b (lowered_entry a e) ≡ lowered_entry (a +ℤ b) e
entry_again a b e =
    ap (λ (v : ℤ). record e { v = v; d = (e.d -ℤ a) -ℤ b }) (twice e.v) ∙ ap (λ (d : ℤ). record e { v = e.v -ℤ (a +ℤ b); d = d }) (twice e.d)
  where
    twice : (z : ℤ) → (z -ℤ a) -ℤ b ≡ z -ℤ (a +ℤ b)
    twice z = omega (arith, ints)

entry_same : (e : Entry) → lowered_entry (pos 0) e ≡ e
entry_same e =
    ap (λ (v : ℤ). record e { v = v; d = e.d -ℤ pos 0 }) (less_nothing e.v) ∙ ap (λ (d : ℤ). record e { v = e.v; d = d }) (less_nothing e.d)
  where
    less_nothing : (z : ℤ) → z -ℤ pos 0 ≡ z
    less_nothing z = omega (arith, ints)

option_again : (a b : ℤ) (o : Option Entry) → option_map (lowered_entry b) (option_map (lowered_entry a) o) ≡ option_map (lowered_entry (a +ℤ b)) o
option_again a b None = refl
option_again a b (Some e) = ap (λ (x : Entry). Some x) (entry_again a b e)

option_same : (o : Option Entry) → option_map (lowered_entry (pos 0)) o ≡ o
option_same None = refl
option_same (Some e) = ap (λ (x : Entry). Some x) (entry_same e)

tasks_again : (a b : ℤ) (m : Tasks) → lowered_tasks b (lowered_tasks a m) ≡ lowered_tasks (a +ℤ b) m
tasks_again a b m =
    same_map nat_cmp_total nat_cmp-IsAntisymmetric _ _ (λ t.
    get-lowered b (lowered_tasks a m) t
    ∙ ap (option_map (lowered_entry b)) (get-lowered a m t)
    ∙ option_again a b (get m t)
    ∙ sym (get-lowered (a +ℤ b) m t))

pub tasks_same : (m : Tasks) → lowered_tasks (pos 0) m ≡ m
tasks_same m = same_map nat_cmp_total nat_cmp-IsAntisymmetric _ _ (λ t. get-lowered (pos 0) m t ∙ option_same (get m t))

pub none_lowered : (by : ℤ) → lowered_tasks by empty ≡ empty
none_lowered by =
    same_map nat_cmp_total nat_cmp-IsAntisymmetric _ _ (λ t.
    get-lowered by empty t ∙ ap (option_map (lowered_entry by)) (get-empty nat_cmp t) ∙ sym (get-empty nat_cmp t))

-- ---- queues
pub lower_same : (q : State) → IsLower (pos 0) q q
lower_same q = record {
  runnable = sym (tasks_same q.runnable);
  running = refl;
  asleep = refl;
  base = λ none. omega (arith, ints);
  places = refl;
  shift = omega (arith, ints);
}

pub lower_again : (a b : ℤ) (q r s : State) → IsLower a q r → IsLower b r s → IsLower (a +ℤ b) q s
lower_again a b q r s h k = record {
  runnable = k.runnable ∙ ap (lowered_tasks b) h.runnable ∙ tasks_again a b q.runnable;
  running = k.running ∙ h.running;
  asleep = k.asleep ∙ h.asleep;
  base = λ none. further q.base r.base s.base (h.base none) (k.base (h.runnable ∙ ap (lowered_tasks a) none ∙ none_lowered a));
  places = k.places ∙ h.places;
  shift = more q.shift r.shift s.shift h.shift k.shift;
}
  where
    more : (x y z : ℤ) → y ≡ x +ℤ a → z ≡ y +ℤ b → z ≡ x +ℤ (a +ℤ b)
    more x y z e f = omega (arith, ints, e, f)

    further : (x y z : ℤ) → y ≡ x -ℤ a → z ≡ y -ℤ b → z ≡ x -ℤ (a +ℤ b)
    further x y z e f = omega (arith, ints, e, f)

pub lower_back : (a : ℤ) (q r : State) → IsLower a q r → IsLower (pos 0 -ℤ a) r q
lower_back a q r h = record {
  runnable = sym back;
  running = sym h.running;
  asleep = sym h.asleep;
  base = λ none. up q.base r.base (h.base (sym back ∙ ap (lowered_tasks (pos 0 -ℤ a)) none ∙ none_lowered (pos 0 -ℤ a)));
  places = sym h.places;
  shift = less q.shift r.shift h.shift;
}
  where
    nothing : a +ℤ (pos 0 -ℤ a) ≡ pos 0
    nothing = omega (arith, ints)

    back : lowered_tasks (pos 0 -ℤ a) r.runnable ≡ q.runnable
    back =
        ap (lowered_tasks (pos 0 -ℤ a)) h.runnable ∙ tasks_again a (pos 0 -ℤ a) q.runnable
        ∙ ap (λ (z : ℤ). lowered_tasks z q.runnable) nothing ∙ tasks_same q.runnable

    up : (x y : ℤ) → y ≡ x -ℤ a → x ≡ y -ℤ (pos 0 -ℤ a)
    up x y e = omega (arith, ints, e)

    less : (x y : ℤ) → y ≡ x +ℤ a → x ≡ y +ℤ (pos 0 -ℤ a)
    less x y e = omega (arith, ints, e)

pub lower_by : (a b : ℤ) (q r : State) → a ≡ b → IsLower a q r → IsLower b q r
lower_by a b q r e h = subst (λ (z : ℤ). IsLower z q r) e h

-- a rebase lowers a queue by the number that it answers
pub rebase_lowers : RebasedIsLower → (q : State) → IsLower ((rebase q).0) q ((rebase q).1)
rebase_lowers lower q = by_can (can_rebase q)
  where
    by_can : (b : Bool) → IsLower ((cond {A = ℤ × State} b (virtual_time q, rebased q) (pos 0, q)).0) q ((cond {A = ℤ × State} b (virtual_time q, rebased q) (pos 0, q)).1)
    by_can true = lower q
    by_can false = lower_same q

-- of a queue of no CPU it answers 0
pub rebase_of_nobody : (rebase empty_state).0 ≡ pos 0
rebase_of_nobody = by_can (can_rebase empty_state)
  where
    by_can : (b : Bool) → (cond {A = ℤ × State} b (virtual_time empty_state, rebased empty_state) (pos 0, empty_state)).0 ≡ pos 0
    by_can true = ap (λ es. time_over (sum_weights es) (sum_moments es) (pos 0)) entries-empty
    by_can false = refl

-- ---- machines
pub machine_same : (m : Machine) → IsLowerMachine (λ (cpu : ℕ). pos 0) m m
machine_same m = record { cpus = refl; queues = λ cpu. lower_same (queue_at m cpu) }

pub machine_by : (a b : ℕ → ℤ) (m n : Machine) → ((cpu : ℕ) → a cpu ≡ b cpu) → IsLowerMachine a m n → IsLowerMachine b m n
machine_by a b m n e h = record { cpus = h.cpus; queues = λ cpu. lower_by (a cpu) (b cpu) (queue_at m cpu) (queue_at n cpu) (e cpu) (h.queues cpu) }

-- what holds of the queues that are written, and of all others, holds of each
both_set : (P : ℕ → State → State → Type 0) (m n : Machine) (c : ℕ) (q r : State) → length n ≡ length m → P c q r
    → ((k : ℕ) → P k (queue_at m k) (queue_at n k)) → (k : ℕ) → P k (queue_at (set m c q) k) (queue_at (set n c r) k)
both_set P [] [] c q r same p all k = all k
both_set P [] (y ∷ n) c q r same p all k = absurd (omega (arith, same))
both_set P (x ∷ m) [] c q r same p all k = absurd (omega (arith, same))
both_set P (x ∷ m) (y ∷ n) zero q r same p all zero = p
both_set P (x ∷ m) (y ∷ n) zero q r same p all (suc k) = all (suc k)
both_set P (x ∷ m) (y ∷ n) (suc c) q r same p all zero = all zero
both_set P (x ∷ m) (y ∷ n) (suc c) q r same p all (suc k) = both_set (λ i. P (suc i)) m n c q r (omega (arith, same)) p (λ i. all (suc i)) k

pub machine_set : (by : ℕ → ℤ) (m n : Machine) (cpu : ℕ) (q r : State) → IsLowerMachine by m n → IsLower (by cpu) q r
    → IsLowerMachine by (set m cpu q) (set n cpu r)
machine_set by m n cpu q r h k = record {
  cpus = length-set n cpu r ∙ h.cpus ∙ sym (length-set m cpu q);
  queues = both_set (λ c. IsLower (by c)) m n cpu q r h.cpus k h.queues;
}

-- the queue that is written is there, unless there is no such CPU
pub written : (P : State → Type 0) (m : Machine) (c : ℕ) (q : State) → P q → (queue_at m c ≡ empty_state → P empty_state) → P (queue_at (set m c q) c)
written P [] c q p none = none refl
written P (x ∷ m) zero q p none = p
written P (x ∷ m) (suc c) q p none = written P m c q p none
