-- A CPU that has nothing tries others, one after the other.
use Rattle.std.proofs.Common.{◌≡◌, ℕ, zero, suc, ◌≤◌, Bool, true, false, cond, List, [], ◌∷◌, ◌++◌, refl, sym, ap, subst, ◌∙◌, inl, inr, arith}
use Rattle.std.specs.Prelude.{◌⊎◌, ◌==◌, Some, None}
use Rattle.std.proofs.lemmas.List.{append_assoc}
use Rattle.eevdf_queue.specs.{Moves.sleeper_of, Placing.can_place}
use Rattle.eevdf_ops.specs.{declared.deeds.Answer.Answer, declared.deeds.Deed.Deed, declared.deeds.Line.Line}
use Rattle.eevdf_ops.specs.declared.deeds.Deed.TheVariants.{Wake, Pull}
use Rattle.eevdf_ops.specs.declared.deeds.Answer.TheVariants.{Pulled, Range, Woken}
use Rattle.eevdf_ops.specs.{Machine.Machine, Machine.queue_at, Parts.decider, Places.count, Programs.deeds_of, Programs.lines_by, Whole.whole, Whole.lines_of, Whole.machine_after}
use Rattle.eevdf_ops.specs.Histories.{AreHistory, machine_told}
use Rattle.eevdf_balance.specs.{Crowds.tasks_at, Crowds.IsIdle, Crowds.IsCrowded, Crowds.comes, Crowds.comings, Refusals.Takes, Sweeps.taken, Sweeps.TryTells, Sweeps.OwnLinesTellIdle}
use Rattle.eevdf_balance.proofs.{Crowds.lines_tell_tasks, IdlePulls.idle_pull_takes, Excuses.deeds-joined, Excuses.machine-joined, Excuses.told-behind, Excuses.same-parts}

-- who comes to a CPU comes by a line of that CPU
pub comes_none : (c : ℕ) (d : Deed) (a : Answer) → (decider d == c) ≡ false → comes c d a ≡ false
comes_none c (Wake cpu task sender) a h = woken a
  where
    woken : (a : Answer) → comes c (Wake cpu task sender) a ≡ false
    woken Woken = h
    woken a = refl
comes_none c (Pull cpu source) a h = pulled a
  where
    pulled : (a : Answer) → comes c (Pull cpu source) a ≡ false
    pulled (Pulled task) = h
    pulled a = refl
comes_none c d a h = refl

came_by : (c : ℕ) (l : Line) (ls : List Line) (b : Bool) → (decider l.deed == c) ≡ b → comings c ls ≡ comings c (lines_by c ls) → comings c (l ∷ ls) ≡ comings c (cond b (l ∷ lines_by c ls) (lines_by c ls))
came_by c l ls true e rest = omega (arith, rest)
came_by c l ls false e rest = omega (arith, ap count (comes_none c l.deed l.answer e), rest)

own-come : (c : ℕ) (ls : List Line) → comings c ls ≡ comings c (lines_by c ls)
own-come c [] = refl
own-come c (l ∷ ls) = came_by c l ls (decider l.deed == c) refl (own-come c ls)

-- a CPU to which nobody comes by further lines stays idle
idle-longer : (homes : List ℕ) (start : Machine) (lines more : List Line) (cpu : ℕ) → AreHistory homes start (lines ++ more) → comings cpu more ≡ 0 → IsIdle (machine_told homes start lines) cpu
    → IsIdle (machine_told homes start (lines ++ more)) cpu
idle-longer homes start lines more cpu history none idle =
    let m : Machine = machine_told homes start lines in
    let told : more ≡ lines_of homes m (deeds_of more) = told-behind homes start lines more history in
    let most = (lines_tell_tasks homes m (deeds_of more) cpu).most in
    let came : comings cpu (lines_of homes m (deeds_of more)) ≡ 0 = ap (comings cpu) (sym told) ∙ none in
    let after : machine_told homes start (lines ++ more) ≡ machine_after homes m (deeds_of more) =
    ap (machine_after homes start) (deeds-joined lines more) ∙ machine-joined homes start (deeds_of lines) (deeds_of more) in
    subst (λ (n : Machine). IsIdle n cpu) (sym after) (let still : tasks_at (machine_after homes m (deeds_of more)) cpu ≡ 0 = omega (arith, most, came, idle) in still)

-- what an idle CPU learns of a source that gives it nothing
few_by : (n : ℕ) (a : Answer) → (2 ≤ n → a ≡ Range) → (n ≤ 1) ⊎ (a ≡ Range)
few_by zero a h = inl (omega arith)
few_by (suc zero) a h = inl (omega arith)
few_by (suc (suc n)) a h = inr (h (omega arith))

ranged : (b : Bool) (t : ℕ) (a : Answer) → a ≡ cond b (Pulled t) Range → taken a ≡ None → a ≡ Range
ranged true t a e none = let took : taken a ≡ Some t = ap taken e in cc
ranged false t a e none = e

ranged_by : (homes : List ℕ) (m : Machine) (cpu source : ℕ) (a : Answer) → a ≡ (whole homes (Pull cpu source) m).0 → IsIdle m cpu → taken a ≡ None → IsCrowded m source → a ≡ Range
ranged_by homes m cpu source a is idle none crowded =
    let t : Takes homes m cpu source = idle_pull_takes homes m cpu source idle crowded in
    ranged (can_place (queue_at m cpu) (sleeper_of t.task)) t.task.task a (is ∙ t.answered) none

pub few-or-range : (homes : List ℕ) (m : Machine) (cpu source : ℕ) (a : Answer) → a ≡ (whole homes (Pull cpu source) m).0 → IsIdle m cpu → taken a ≡ None → (tasks_at m source ≤ 1) ⊎ (a ≡ Range)
few-or-range homes m cpu source a is idle none = few_by (tasks_at m source) a (λ crowded. ranged_by homes m cpu source a is idle none crowded)

tried : (homes : List ℕ) (start : Machine) (before : List Line) (cpu source : ℕ) (a : Answer) → AreHistory homes start (before ++ record { deed = Pull cpu source; answer = a } ∷ [])
    → IsIdle (machine_told homes start before) cpu → taken a ≡ None → (tasks_at (machine_told homes start before) source ≤ 1) ⊎ (a ≡ Range)
tried homes start before cpu source a history idle none =
    let m : Machine = machine_told homes start before in
    let line : Line = record { deed = Pull cpu source; answer = a } in
    let told : line ∷ [] ≡ lines_of homes m (deeds_of (line ∷ [])) = told-behind homes start before (line ∷ []) history in
    let same = same-parts (Pull cpu source) a (whole homes (Pull cpu source) m).0 [] [] told in
    few-or-range homes m cpu source a same.0 idle none

-- the first lines of a history are one
told-before : (homes : List ℕ) (m : Machine) (xs ys : List Line) → xs ++ ys ≡ lines_of homes m (deeds_of (xs ++ ys)) → xs ≡ lines_of homes m (deeds_of xs)
told-before homes m [] ys h = refl
told-before homes m (x ∷ xs) ys h =
    let step : Machine = (whole homes x.deed m).1 in
    let first : Line = record { deed = x.deed; answer = (whole homes x.deed m).0 } in
    let head : x ≡ first = cc in
    let rest : xs ++ ys ≡ lines_of homes step (deeds_of (xs ++ ys)) = cc in
    ap (λ (l : Line). l ∷ xs) head ∙ ap (λ (ls : List Line). first ∷ ls) (told-before homes step xs ys rest)

pub history-before : (homes : List ℕ) (start : Machine) (xs ys : List Line) → AreHistory homes start (xs ++ ys) → AreHistory homes start xs
history-before homes start xs ys h = told-before homes start xs ys h

pub own_lines_tell_idle : OwnLinesTellIdle
own_lines_tell_idle homes start lines more cpu history none idle = idle-longer homes start lines more cpu history (own-come cpu more ∙ none) idle

pub try_tells : TryTells
try_tells homes start before later cpu source answer history idle none =
    let line : Line = record { deed = Pull cpu source; answer = answer } in
    tried homes start before cpu source answer
    (history-before homes start (before ++ line ∷ []) later (subst (λ (ls : List Line). AreHistory homes start ls) (sym (append_assoc before (line ∷ []) later)) history)) idle none
