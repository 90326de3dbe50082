-- How many tasks are runnable where one comes, where one goes, and where the same stay.
use Rattle.std.proofs.Common.{◌≡◌, ℕ, zero, suc, ◌+◌, ◌-◌, ◌≤◌, Bool, true, false, cond, arith}
use Rattle.std.specs.{Cmp.nat_cmp_total}
use Rattle.std.specs.FinMap.{insert, remove, contains_key, len, len-insert, len-remove}
use Rattle.eevdf_queue.specs.{declared.entry.Entry.Entry, Sums.Tasks}
use Rattle.eevdf_balance.proofs.Kept.{AreSame}

-- at most so many more, and at most so many fewer
abbrev pub IsWithin : ℕ → ℕ → Tasks → Tasks → Type 0
IsWithin came went m n = (len n ≤ len m + came) × (len m ≤ len n + went)

pub same-within : (came went : ℕ) (m n : Tasks) → AreSame m n → IsWithin came went m n
same-within came went m n h = (omega (arith, h.many), omega (arith, h.many))

more_by : (b : Bool) (n : ℕ) → (cond b n (n + 1) ≤ n + 1) × (n ≤ cond b n (n + 1))
more_by true n = (omega arith, omega arith)
more_by false n = (omega arith, omega arith)

fewer_by : (b : Bool) (n : ℕ) → (cond b (n - 1) n ≤ n) × (n ≤ cond b (n - 1) n + 1)
fewer_by true n = (omega arith, omega arith)
fewer_by false n = (omega arith, omega arith)

pub inserted-within : (went : ℕ) (m : Tasks) (t : ℕ) (e : Entry) → IsWithin 1 went m (insert m t e)
inserted-within went m t e =
    let by = more_by (contains_key m t) (len m) in
    let is : len (insert m t e) ≡ cond (contains_key m t) (len m) (len m + 1) = len-insert nat_cmp_total m t e in
    (omega (arith, is, by.0), omega (arith, is, by.1))

pub removed-within : (came : ℕ) (m : Tasks) (t : ℕ) → IsWithin came 1 m (remove m t)
removed-within came m t =
    let by = fewer_by (contains_key m t) (len m) in
    let is : len (remove m t) ≡ cond (contains_key m t) (len m - 1) (len m) = len-remove nat_cmp_total m t in
    (omega (arith, is, by.0), omega (arith, is, by.1))

pub at_most_one : (n : ℕ) → (2 ≤ n → ⊥) → n ≤ 1
at_most_one zero h = omega arith
at_most_one (suc zero) h = omega arith
at_most_one (suc (suc n)) h = absurd (h (omega arith))
