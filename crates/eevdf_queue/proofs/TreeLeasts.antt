-- The least virtual runtime of some tasks from those of its parts.
use Rattle.std.proofs.Common.{◌≡◌, ℕ, true, false, cond, eqb, Option, Some, refl, List, [], ◌∷◌, ◌++◌, sym, ap, subst, ◌∙◌, arith}
use Rattle.std.specs.Prelude.{ℤ, pos, ◌≤ℤ◌, ◌<ℤ◌, IfSome}
use Rattle.std.specs.Int.{int_min}
use Rattle.std.proofs.lemmas.Int.{ints, clamps}
use Rattle.eevdf_queue.specs.{declared.entry.Entry.Entry, declared.task.Task.Task, declared.tree.least.Least.Least}
use Rattle.eevdf_queue.specs.{TaskLists.find_task, TaskLists.set_entry, TreeTasks.insert_task}
use Rattle.eevdf_queue.specs.TreeLeast.{least_runtime, least_of, lesser}

least_below : (ts : List Task) → least_runtime ts ≤ℤ pos 0x7fff_ffff_ffff_ffff
least_below [] = grind (arith, ints)
least_below (t ∷ ts) = let k = least_below ts in grind (arith, ints)

int_min_assoc : (a b c : ℤ) → int_min a (int_min b c) ≡ int_min (int_min a b) c
int_min_assoc a b c = omega (arith, ints, clamps)

least-append : (xs ys : List Task) → least_runtime (xs ++ ys) ≡ int_min (least_runtime xs) (least_runtime ys)
least-append [] ys = let k = least_below ys in grind (arith, ints)
least-append (x ∷ xs) ys = ap (int_min x.entry.v) (least-append xs ys) ∙ int_min_assoc x.entry.v (least_runtime xs) (least_runtime ys)

least-around : (xs : List Task) (t : Task) (ys : List Task) → least_runtime (xs ++ t ∷ ys) ≡ int_min (least_runtime xs) (int_min (least_runtime (t ∷ [])) (least_runtime ys))
least-around xs t ys = least-append xs (t ∷ ys) ∙ ap (int_min (least_runtime xs)) (least-append (t ∷ []) ys)

pub least-node : (s a m b e : Least) (xs : List Task) (t : Task) (ys : List Task) → s ≡ lesser a m → m ≡ lesser b e
    → a ≡ least_of xs → b ≡ least_of (t ∷ []) → e ≡ least_of ys → s ≡ least_of (xs ++ t ∷ ys)
least-node s a m b e xs t ys es em ea eb ee =
    es
    ∙ ap (λ (z : Least). lesser z m) ea
    ∙ ap (lesser (least_of xs)) (em ∙ ap (λ (z : Least). lesser z e) eb ∙ ap (lesser (least_of (t ∷ []))) ee)
    ∙ sym (ap (λ (z : ℤ). record { runtime = z }) (least-around xs t ys))

-- where one side has the same least, so has the whole
pub least-same_left : (xs zs : List Task) (t : Task) (ys : List Task) → least_of zs ≡ least_of xs → least_of (zs ++ t ∷ ys) ≡ least_of (xs ++ t ∷ ys)
least-same_left xs zs t ys h =
    ap (λ (z : ℤ). record { runtime = z }) (least-around zs t ys ∙ ap (λ (l : Least). int_min l.runtime (int_min (least_runtime (t ∷ [])) (least_runtime ys))) h ∙ sym (least-around xs t ys))

pub least-same_right : (xs : List Task) (t : Task) (ys zs : List Task) → least_of zs ≡ least_of ys → least_of (xs ++ t ∷ zs) ≡ least_of (xs ++ t ∷ ys)
least-same_right xs t ys zs h =
    ap (λ (z : ℤ). record { runtime = z }) (least-around xs t zs ∙ ap (λ (l : Least). int_min (least_runtime xs) (int_min (least_runtime (t ∷ [])) l.runtime)) h ∙ sym (least-around xs t ys))

-- a task more
less_swapped : (a b c : ℤ) → int_min a (int_min b c) ≡ int_min b (int_min a c)
less_swapped a b c = omega (arith, ints, clamps)

least-insert : (t : Task) (ts : List Task) → least_runtime (insert_task t ts) ≡ int_min t.entry.v (least_runtime ts)
least-insert t [] = refl
least-insert t (u ∷ us) = grind (arith, least-insert t us, less_swapped u.entry.v t.entry.v (least_runtime us))

least_both : (a b : ℤ) → a ≤ℤ pos 0x7fff_ffff_ffff_ffff → b ≤ℤ pos 0x7fff_ffff_ffff_ffff → int_min a (int_min b (pos 0x7fff_ffff_ffff_ffff)) ≡ int_min b a
least_both a b h k = omega (arith, ints, clamps)

-- the lesser of the least of some tasks and of one that is put in
pub least-inserted : (s a b : Least) (ns : List Task) (t : Task) (ts rs : List Task) → s ≡ lesser a b → a ≡ least_of ts → b ≡ least_of ns → ns ≡ t ∷ []
    → t.entry.v ≤ℤ pos 0x7fff_ffff_ffff_ffff → rs ≡ insert_task t ts → s ≡ least_of rs
least-inserted s a b ns t ts rs es ea eb en h er =
    es
    ∙ ap (λ (z : Least). lesser z b) ea
    ∙ ap (lesser (least_of ts)) (eb ∙ ap least_of en)
    ∙ ap (λ (z : ℤ). record { runtime = z }) (least_both (least_runtime ts) t.entry.v (least_below ts) h ∙ sym (least-insert t ts))
    ∙ ap least_of (sym er)

-- a task with another entry: neither its own virtual runtime nor the new one is below a floor
abbrev IsFrom : ℤ → Option Task → Type 0
IsFrom b o = IfSome o (λ t. b ≤ℤ t.entry.v)

least_from : (q : ℕ) (b : ℤ) (e : Entry) (ts : List Task) → IsFrom b (find_task q ts) → b ≤ℤ e.v
    → int_min b (least_runtime (set_entry q e ts)) ≡ int_min b (least_runtime ts)
least_from q b e [] h k = refl
least_from q b e (t ∷ ts) h k =
    elim (eqb t.number q) as (λ c. IsFrom b (cond c (Some t) (find_task q ts))
    → int_min b (least_runtime (cond c (record t { entry = e } ∷ ts) (t ∷ set_entry q e ts))) ≡ int_min b (int_min t.entry.v (least_runtime ts))) [
      | true ↦ λ above. omega (arith, ints, clamps, above, k)
      | false ↦ λ above. let i = least_from q b e ts above k in omega (arith, ints, clamps, i)
    ] h

under_floor : (b x y : ℤ) → int_min b x ≡ int_min b y → y <ℤ b → x ≡ y
under_floor b x y h l = omega (arith, ints, clamps)

-- then a least one below the floor is another task's, and stays
pub least-set : (q : ℕ) (b : ℤ) (e : Entry) (s : Least) (ts us : List Task) → s ≡ least_of ts → IsFrom b (find_task q ts) → b ≤ℤ e.v → s.runtime <ℤ b → us ≡ set_entry q e ts
    → s ≡ least_of us
least-set q b e s ts us is h k l i =
    let low : least_runtime ts <ℤ b = subst (λ (z : Least). z.runtime <ℤ b) is l in
    is
    ∙ ap (λ (z : ℤ). record { runtime = z }) (sym (under_floor b (least_runtime (set_entry q e ts)) (least_runtime ts) (least_from q b e ts h k) low))
    ∙ ap least_of (sym i)
