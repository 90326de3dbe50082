-- The sums over a list of tasks after an insertion, a removal and a change.
use Rattle.std.proofs.Common.{◌≡◌, ℕ, ◌+◌, ◌*◌, ◌^◌, ◌≤◌, List, [], ◌∷◌, Option, Some, None, refl, sym, ap, ◌∙◌, arith}
use Rattle.std.specs.Prelude.{ℤ, pos, ◌+ℤ◌, ◌*ℤ◌, unsigned_abs}
use Rattle.std.specs.Option.{option_map}
use Rattle.std.proofs.lemmas.Int.{ints}
use Rattle.eevdf_weight.specs.Weight.{weight_of}
use Rattle.eevdf_queue.specs.{declared.entry.Entry.Entry, declared.task.Task.Task, declared.tree.totals.Totals.Totals}
use Rattle.eevdf_queue.specs.{Sums.sum_weights, Sums.sum_moments, TreeStores.AreTotals, TreeStores.IsSummedStore}
use Rattle.eevdf_queue.specs.TaskLists.{find_task, set_entry, entries_of}
use Rattle.eevdf_queue.specs.TreeTasks.{insert_task, without}
use Rattle.eevdf_queue.proofs.{RunnableMaps.light, Bounds.sum_moments_small}

-- of any sum
module _ {A : Type 0} (F : List Task → A) (op : Task → A → A) (more : (t : Task) (ts : List Task) → F (t ∷ ts) ≡ op t (F ts))
    (swap : (a b : Task) (x : A) → op a (op b x) ≡ op b (op a x)) where
  pub sum-insert : (t : Task) (ts : List Task) → F (insert_task t ts) ≡ op t (F ts)
  sum-insert t [] = more t []
  sum-insert t (u ∷ us) = grind (arith, more t (u ∷ us), more u us, more u (insert_task t us), sum-insert t us, swap t u (F us))

  pub sum-without : (q : ℕ) (t : Task) (ts : List Task) → find_task q ts ≡ Some t → F ts ≡ op t (F (without q ts))
  sum-without q t [] h = cc
  sum-without q t (u ∷ us) h = grind (arith, more u us, more u (without q us), sum-without q t us, swap t u (F (without q us)))

  pub sum-set : (q : ℕ) (e : Entry) (t : Task) (ts : List Task) → find_task q ts ≡ Some t → F (set_entry q e ts) ≡ op (record t { entry = e }) (F (without q ts))
  sum-set q e t [] h = cc
  sum-set q e t (u ∷ us) h =
      grind (arith, more (record u { entry = e }) us, more u (set_entry q e us), more u (without q us), sum-set q e t us, swap (record t { entry = e }) u (F (without q us)))

abbrev weights : List Task → ℕ
weights ts = sum_weights (entries_of ts)

abbrev heavier : Task → ℕ → ℕ
heavier t n = weight_of t.entry.nice + n

abbrev moments : List Task → ℤ
moments ts = sum_moments (entries_of ts)

abbrev further : Task → ℤ → ℤ
further t z = (t.entry.v *ℤ pos (weight_of t.entry.nice)) +ℤ z

weights-insert : (t : Task) (ts : List Task) → weights (insert_task t ts) ≡ heavier t (weights ts)
weights-insert = sum-insert weights heavier (λ t ts. refl) (λ a b x. omega arith)

moments-insert : (t : Task) (ts : List Task) → moments (insert_task t ts) ≡ further t (moments ts)
moments-insert = sum-insert moments further (λ t ts. refl) (λ a b x. omega (arith, ints))

weights-without : (q : ℕ) (t : Task) (ts : List Task) → find_task q ts ≡ Some t → weights ts ≡ heavier t (weights (without q ts))
weights-without = sum-without weights heavier (λ t ts. refl) (λ a b x. omega arith)

moments-without : (q : ℕ) (t : Task) (ts : List Task) → find_task q ts ≡ Some t → moments ts ≡ further t (moments (without q ts))
moments-without = sum-without moments further (λ t ts. refl) (λ a b x. omega (arith, ints))

weights-set : (q : ℕ) (e : Entry) (t : Task) (ts : List Task) → find_task q ts ≡ Some t → weights (set_entry q e ts) ≡ heavier (record t { entry = e }) (weights (without q ts))
weights-set = sum-set weights heavier (λ t ts. refl) (λ a b x. omega arith)

moments-set : (q : ℕ) (e : Entry) (t : Task) (ts : List Task) → find_task q ts ≡ Some t → moments (set_entry q e ts) ≡ further (record t { entry = e }) (moments (without q ts))
moments-set = sum-set moments further (λ t ts. refl) (λ a b x. omega (arith, ints))

added : (a b c x y : ℤ) → a ≡ x +ℤ b → b ≡ c → y ≡ x +ℤ c → a ≡ y
added a b c x y h k l = omega (arith, ints)

taken : (a b c x : ℤ) → a ≡ x +ℤ b → a ≡ x +ℤ c → b ≡ c
taken a b c x h k = omega (arith, ints)

swapped : (a b c x y z : ℤ) → x +ℤ b ≡ y +ℤ a → a ≡ x +ℤ c → z ≡ y +ℤ c → b ≡ z
swapped a b c x y z h k l = omega (arith, ints)

-- how large they are
module _ (table : List ℤ) (s : Totals) (ts : List Task) (a : IsSummedStore table s ts) where
  pub totals_few : s.weight ≤ 88761 * 1024
  totals_few = omega (arith, a.totals.weight, light ts a.store.runnable)

  pub totals_small : unsigned_abs s.moment ≤ 2 ^ 60 * s.weight
  totals_small = omega (arith, a.totals.weight, ap unsigned_abs a.totals.moment, sum_moments_small ts a.store.runnable)

  pub totals_near : unsigned_abs s.moment ≤ 2 ^ 110
  totals_near = omega (arith, totals_few, totals_small)

-- the share of a task is a part of them
pub totals_part : (q : ℕ) (t : Task) (x : Entry) (s : Totals) (ts : List Task) → AreTotals s ts → find_task q ts ≡ Some t → t.entry ≡ x → weight_of x.nice ≤ s.weight
totals_part q t x s ts a f j = omega (arith, a.weight, weights-without q t ts f, ap (λ (z : Entry). weight_of z.nice) j)

-- with one task more
pub totals-insert : (t : Task) (ts us : List Task) (s r : Totals) (w : ℕ) (m : ℤ) → AreTotals s ts → us ≡ insert_task t ts
    → w ≡ weight_of t.entry.nice → m ≡ t.entry.v *ℤ pos (weight_of t.entry.nice) → r.weight ≡ w + s.weight → r.moment ≡ m +ℤ s.moment → AreTotals r us
totals-insert t ts us s r w m a e i j h k = record {
  weight = omega (arith, h, i, a.weight, weights-insert t ts, ap weights e);
  moment = added r.moment s.moment (moments ts) m (moments us) k a.moment (ap moments e ∙ moments-insert t ts ∙ ap (λ (z : ℤ). z +ℤ moments ts) (sym j));
}

-- without one of the tasks
pub totals-without : (q : ℕ) (t : Task) (x : Entry) (ts rs : List Task) (s r : Totals) (w : ℕ) (m : ℤ) → AreTotals s ts → find_task q ts ≡ Some t → t.entry ≡ x → rs ≡ without q ts
    → w ≡ weight_of x.nice → m ≡ x.v *ℤ pos (weight_of x.nice) → s.weight ≡ w + r.weight → s.moment ≡ m +ℤ r.moment → AreTotals r rs
totals-without q t x ts rs s r w m a f l e i j h k =
    let i' : w ≡ weight_of t.entry.nice = i ∙ ap (λ (z : Entry). weight_of z.nice) (sym l) in
    let j' : m ≡ t.entry.v *ℤ pos (weight_of t.entry.nice) = j ∙ ap (λ (z : Entry). z.v *ℤ pos (weight_of z.nice)) (sym l) in
    record {
      weight = omega (arith, h, i', a.weight, weights-without q t ts f, ap weights e);
      moment = taken s.moment r.moment (moments rs) m k (a.moment ∙ moments-without q t ts f ∙ ap (λ (z : ℤ). z +ℤ moments (without q ts)) (sym j') ∙ ap (λ (z : List Task). m +ℤ moments z) (sym e));
    }

-- where a task gets another entry
module _ (q : ℕ) (t : Task) (x e : Entry) (ts us : List Task) (s r : Totals) (a : AreTotals s ts) (f : find_task q ts ≡ Some t) (l : t.entry ≡ x)
    (h : weight_of x.nice + r.weight ≡ weight_of e.nice + s.weight)
    (k : (x.v *ℤ pos (weight_of x.nice)) +ℤ r.moment ≡ (e.v *ℤ pos (weight_of e.nice)) +ℤ s.moment) where
  exchanged : weights us ≡ weight_of e.nice + weights (without q ts) → moments us ≡ (e.v *ℤ pos (weight_of e.nice)) +ℤ moments (without q ts) → AreTotals r us
  exchanged i j = record {
    weight = omega (arith, h, a.weight, weights-without q t ts f, ap (λ (z : Entry). weight_of z.nice) l, i);
    moment =
        swapped s.moment r.moment (moments (without q ts)) (x.v *ℤ pos (weight_of x.nice)) (e.v *ℤ pos (weight_of e.nice)) (moments us) k
        (a.moment ∙ moments-without q t ts f ∙ ap (λ (z : Entry). (z.v *ℤ pos (weight_of z.nice)) +ℤ moments (without q ts)) l) j;
  }

  pub totals-set : us ≡ set_entry q e ts → AreTotals r us
  totals-set i = exchanged (ap weights i ∙ weights-set q e t ts f) (ap moments i ∙ moments-set q e t ts f)

  pub totals-moved : us ≡ insert_task (record t { entry = e }) (without q ts) → AreTotals r us
  totals-moved i = exchanged (ap weights i ∙ weights-insert (record t { entry = e }) (without q ts)) (ap moments i ∙ moments-insert (record t { entry = e }) (without q ts))

-- a task that has an entry
pub entry_found : (o : Option Task) (e : Entry) → option_map (λ (t : Task). t.entry) o ≡ Some e → (t : Task) × ((o ≡ Some t) × (t.entry ≡ e))
entry_found None e h = cc
entry_found (Some t) e h = (t, (refl, cc))
