-- The last of all tasks: where it waits, it is the last that waits.
use Rattle.std.proofs.Common.{◌≡◌, ℕ, Bool, true, false, cond, List, [], ◌∷◌, Option, Some, None, refl, sym, ap, ◌∙◌, arith}
use Rattle.std.specs.Option.{unwrap_or}
use Rattle.std.proofs.lemmas.Bool.Decides.{nat_tests}
use Rattle.eevdf_queue.specs.{declared.task.Task.Task, Candidate.is_running, TreeTasks.last_waiting, TreeTasks.last_or}

pub none_at_all : (r : Option ℕ) (ts : List Task) → last_waiting None ts ≡ None → last_waiting r ts ≡ None
none_at_all r [] h = refl
none_at_all r (t ∷ ts) h = absurd (never (last_waiting None ts) h)
  where
    never : (o : Option Task) → last_or t None o ≡ None → ⊥
    never None k = cc
    never (Some u) k = cc

last_by : (r : Option ℕ) (t n : Task) (o p : Option Task) → (o ≡ Some n → p ≡ Some n) → (o ≡ None → p ≡ None) → last_or t None o ≡ Some n → is_running r n.number ≡ false
    → last_or t r p ≡ Some n
last_by r t n (Some u) p k l h w = ap (last_or t r) (k h)
last_by r t n None p k l h w =
    let same : t ≡ n = cc in
    ap (last_or t r) (l refl)
    ∙ ap (λ b. cond b None (Some t)) (ap (λ (x : Task). is_running r x.number) same ∙ w)
    ∙ h

pub last_waits : (r : Option ℕ) (n : Task) (ts : List Task) → last_waiting None ts ≡ Some n → is_running r n.number ≡ false → last_waiting r ts ≡ Some n
last_waits r n [] h w = h
last_waits r n (t ∷ ts) h w =
    last_by r t n (last_waiting None ts) (last_waiting r ts) (λ e. last_waits r n ts e w) (none_at_all r ts) h w

-- where it runs, it is who runs
pub who_runs : (r : Option ℕ) (n : ℕ) → is_running r n ≡ true → Some n ≡ r
who_runs None n h = cc
who_runs (Some m) n h = grind (arith, nat_tests)

-- the last that waits has another number than who runs
pub other_number : (n : ℕ) (ts : List Task) (u : Task) → last_waiting (Some n) ts ≡ Some u → is_running (Some n) u.number ≡ false
other_number n [] u h = cc
other_number n (t ∷ ts) u h = by (last_waiting (Some n) ts) (other_number n ts u) h
  where
    own : (w : Bool) → is_running (Some n) t.number ≡ w → cond w None (Some t) ≡ Some u → is_running (Some n) u.number ≡ false
    own true k e = cc
    own false k e = let same : t ≡ u = cc in ap (λ (x : Task). is_running (Some n) x.number) (sym same) ∙ k

    by : (o : Option Task) → (o ≡ Some u → is_running (Some n) u.number ≡ false) → last_or t (Some n) o ≡ Some u → is_running (Some n) u.number ≡ false
    by (Some w) k e = k e
    by None k e = own (is_running (Some n) t.number) refl e

-- what is found behind the running task, or else that task itself
pub none_found : (t f : Task) (o : Option Task) → ((u : Task) → o ≡ Some u → is_running (Some t.number) u.number ≡ false) → f ≡ unwrap_or o t
    → is_running (Some t.number) f.number ≡ true → None ≡ o
none_found t f None h e r = refl
none_found t f (Some u) h e r =
    absurd (let w = h u refl in let k : true ≡ false = sym r ∙ ap (λ (x : Task). is_running (Some t.number) x.number) e ∙ w in cc)

pub some_found : (t f : Task) (o : Option Task) → f ≡ unwrap_or o t → is_running (Some t.number) f.number ≡ false → Some f ≡ o
some_found t f None e r =
    absurd (let own : is_running (Some t.number) t.number ≡ true = grind (arith, nat_tests) in
    let k : true ≡ false = sym own ∙ ap (λ (x : Task). is_running (Some t.number) x.number) (sym e) ∙ r in cc)
some_found t f (Some u) e r = ap Some e
