-- The last task that isn't the running one.
use Rattle.std.proofs.Common.{◌≡◌, ℕ, true, false, cond, List, [], ◌∷◌, ◌++◌, Option, Some, None, refl, ap, ◌∙◌, arith}
use Rattle.std.specs.Option.{unwrap_or}
use Rattle.std.proofs.lemmas.Bool.Decides.{nat_tests}
use Rattle.eevdf_queue.specs.{declared.task.Task.Task, Candidate.is_running}
use Rattle.eevdf_queue.specs.TreeTasks.{last_waiting, last_or}

-- the last that isn't the running one, or else the one that was seen before
abbrev pub last_seen : Option Task → Option ℕ → List Task → Option Task
last_seen before running [] = before
last_seen before running (t ∷ ts) =
    last_seen (cond (is_running running t.number) before (Some t)) running ts

pub seen-append : (b : Option Task) (r : Option ℕ) (xs ys : List Task) → last_seen b r (xs ++ ys) ≡ last_seen (last_seen b r xs) r ys
seen-append b r [] ys = refl
seen-append b r (x ∷ xs) ys = seen-append (cond (is_running r x.number) b (Some x)) r xs ys

-- past one that waits, nothing before it does
pub past_waiting : (b : Option Task) (r : Option ℕ) (ts xs : List Task) (u : Task) (ys : List Task) → ts ≡ xs ++ u ∷ ys → is_running r u.number ≡ false
    → last_seen b r ts ≡ last_seen (Some u) r ys
past_waiting b r ts xs u ys e p =
    ap (last_seen b r) e
    ∙ seen-append b r xs (u ∷ ys)
    ∙ ap (λ z. last_seen (cond z (last_seen b r xs) (Some u)) r ys) p

-- the task itself, or else the one before it
abbrev task_or : Option Task → Option Task → Option Task
task_or b None = b
task_or b (Some t) = Some t

own_or : (b : Option Task) (r : Option ℕ) (t : Task) (o : Option Task) → task_or (cond (is_running r t.number) b (Some t)) o ≡ task_or b (last_or t r o)
own_or b r t None = grind (arith, nat_tests)
own_or b r t (Some u) = refl

seen-last : (b : Option Task) (r : Option ℕ) (ts : List Task) → last_seen b r ts ≡ task_or b (last_waiting r ts)
seen-last b r [] = refl
seen-last b r (t ∷ ts) = seen-last (cond (is_running r t.number) b (Some t)) r ts ∙ own_or b r t (last_waiting r ts)

pub seen_after : (b : Task) (r : Option ℕ) (ts : List Task) → last_seen (Some b) r ts ≡ Some (unwrap_or (last_waiting r ts) b)
seen_after b r ts = seen-last (Some b) r ts ∙ by (last_waiting r ts)
  where
    by : (o : Option Task) → task_or (Some b) o ≡ Some (unwrap_or o b)
    by None = refl
    by (Some t) = refl

-- past a task that runs, the last on its left counts
pub past_running : (b : Task) (r : Option ℕ) (ts xs : List Task) (u : Task) (ys : List Task) → ts ≡ xs ++ u ∷ ys → is_running r u.number ≡ true
    → last_seen (Some b) r ts ≡ last_seen (Some (unwrap_or (last_waiting r xs) b)) r ys
past_running b r ts xs u ys e p =
    ap (last_seen (Some b) r) e
    ∙ seen-append (Some b) r xs (u ∷ ys)
    ∙ ap (λ z. last_seen (cond z (last_seen (Some b) r xs) (Some u)) r ys) p
    ∙ ap (λ (z : Option Task). last_seen z r ys) (seen_after b r xs)

or_none : (o : Option Task) → task_or None o ≡ o
or_none None = refl
or_none (Some t) = refl

pub seen_from_none : (r : Option ℕ) (ts : List Task) → last_seen None r ts ≡ last_waiting r ts
seen_from_none r ts = seen-last None r ts ∙ or_none (last_waiting r ts)
