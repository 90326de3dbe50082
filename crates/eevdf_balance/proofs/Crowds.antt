-- The lines of deeds tell how many tasks a CPU has.
use Rattle.std.proofs.Common.{◌≡◌, ℕ, ◌+◌, ◌≤◌, Bool, true, List, [], ◌∷◌, sym, subst, arith}
use Rattle.std.specs.FinMap.{remove, insert}
use Rattle.eevdf_queue.specs.{declared.entry.Entry.Entry, Sums.Tasks}
use Rattle.eevdf_ops.specs.{declared.deeds.Deed.Deed, declared.deeds.Answer.Answer, Machine.Machine, Places.count, Whole.whole}
use Rattle.eevdf_balance.specs.Crowds.{tasks_at, comes, goes, LinesTellTasks}
use Rattle.eevdf_balance.proofs.{Counts.IsWithin, Counts.same-within, Counts.inserted-within, Counts.removed-within, Steps.stepped}

-- as many more at most, and as many fewer, as the line tells
abbrev IsTold : Deed → Answer → ℕ → Tasks → Tasks → Type 0
IsTold d a k m n = IsWithin (count (comes k d a)) (count (goes k d a)) m n

went : (d : Deed) (a : Answer) (k : ℕ) (m : Tasks) (t : ℕ) → goes k d a ≡ true → IsTold d a k m (remove m t)
went d a k m t h = subst (λ (b : Bool). IsWithin (count (comes k d a)) (count b) m (remove m t)) (sym h) (removed-within (count (comes k d a)) m t)

came : (d : Deed) (a : Answer) (k : ℕ) (m : Tasks) (t : ℕ) (e : Entry) → comes k d a ≡ true → IsTold d a k m (insert m t e)
came d a k m t e h = subst (λ (b : Bool). IsWithin (count b) (count (goes k d a)) m (insert m t e)) (sym h) (inserted-within (count (goes k d a)) m t e)

pub told-by-line : (homes : List ℕ) (deed : Deed) (m : Machine) (k : ℕ)
    → (tasks_at (whole homes deed m).1 k ≤ tasks_at m k + count (comes k deed (whole homes deed m).0)) × (tasks_at m k ≤ tasks_at (whole homes deed m).1 k + count (goes k deed (whole homes deed m).0))
told-by-line = stepped IsTold (λ d a k m n h. same-within (count (comes k d a)) (count (goes k d a)) m n h) went came

pub lines_tell_tasks : LinesTellTasks
lines_tell_tasks homes m [] cpu = record { most = omega arith; least = omega arith }
lines_tell_tasks homes m (d ∷ ds) cpu =
    let step = told-by-line homes d m cpu in
    let rest = lines_tell_tasks homes (whole homes d m).1 ds cpu in
    record { most = omega (arith, step.0, rest.most); least = omega (arith, step.1, rest.least) }
