-- A recursion over the entries of a finite map: an entry may be taken first, whatever its place.
use Rattle.std.proofs.Common.{◌≡◌, ◌≢◌, ℕ, ◌<◌, cond, List, [], ◌∷◌, length, Some, None, refl, sym, ap, ◌∙◌, arith}
use Rattle.std.specs.{declared.cmp.Ordering.Ordering, Ordering.nat_cmp, Ordering.is_eq, Cmp.nat_cmp_total, Cmp.ranked}
use Rattle.std.specs.FinMap.Entries.{by_order}
use Rattle.std.specs.declared.cmp.Ordering.TheVariants.{Less, Equal, Greater}
use Rattle.std.specs.FinMap.{FinMap, empty, insert, get, entries, find, put, from_entries, len-entries, len-empty, get-entries, get-from_entries, entries-insert}

pub no_entries : {X : Type 0} (es : List (ℕ × X)) → length es ≡ 0 → es ≡ []
no_entries [] h = refl
no_entries (e ∷ es) h = absurd (omega arith)

pub entries-empty : {X : Type 0} → entries (empty {X = X} {R = nat_cmp}) ≡ []
entries-empty {X} = no_entries _ (sym (len-entries (empty {X = X} {R = nat_cmp})) ∙ len-empty nat_cmp X)

apart : (k x : ℕ) → nat_cmp k x ≡ Greater → k ≢ x
apart k x g e = let lt : x < k = ranked k x Greater (sym g) in absurd (omega arith)

-- no two entries have one number
abbrev pub AreDistinct : {X : Type 0} → List (ℕ × X) → Type 0
AreDistinct [] = Unit {0}
AreDistinct (e ∷ es) = (find nat_cmp e.0 es ≡ None) × AreDistinct es

module _ {X A : Type 0} (F : List (ℕ × X) → A) (op : ℕ × X → A → A)
    (first : (e : ℕ × X) (es : List (ℕ × X)) → F (e ∷ es) ≡ op e (F es))
    (swap : (a b : ℕ × X) (x : A) → a.0 ≢ b.0 → op a (op b x) ≡ op b (op a x)) where
  placed : (k : ℕ) (v : X) (e : ℕ × X) (es : List (ℕ × X)) (o : Ordering) → nat_cmp k e.0 ≡ o → cond (is_eq o) (Some e.1) (find nat_cmp k es) ≡ None
      → (find nat_cmp k es ≡ None → F (put nat_cmp k v es) ≡ op (k, v) (F es))
      → F (by_order o ((k, v) ∷ e ∷ es) ((e.0, v) ∷ es) (e ∷ put nat_cmp k v es)) ≡ op (k, v) (F (e ∷ es))
  placed k v e es Less o none rest = first (k, v) (e ∷ es)
  placed k v e es Equal o none rest = cc
  placed k v e es Greater o none rest =
      first e (put nat_cmp k v es)
      ∙ ap (op e) (rest none)
      ∙ sym (swap (k, v) e (F es) (apart k e.0 o))
      ∙ ap (op (k, v)) (sym (first e es))

  fold-put : (k : ℕ) (v : X) (es : List (ℕ × X)) → find nat_cmp k es ≡ None → F (put nat_cmp k v es) ≡ op (k, v) (F es)
  fold-put k v [] none = first (k, v) []
  fold-put k v (e ∷ es) none = placed k v e es (nat_cmp k e.0) refl none (fold-put k v es)

  pub fold-insert : (m : FinMap nat_cmp X) (k : ℕ) (v : X) → get m k ≡ None → F (entries (insert m k v)) ≡ op (k, v) (F (entries m))
  fold-insert m k v none =
      ap F (entries-insert nat_cmp_total m k v) ∙ fold-put k v (entries m) (sym (get-entries m k) ∙ none)

  pub fold-from_entries : (es : List (ℕ × X)) → AreDistinct es → F (entries (from_entries {R = nat_cmp} es)) ≡ F es
  fold-from_entries [] h = ap F entries-empty
  fold-from_entries (e ∷ es) h =
      fold-insert (from_entries es) e.0 e.1 (get-from_entries nat_cmp_total es e.0 ∙ h.0)
      ∙ ap (op e) (fold-from_entries es h.1)
      ∙ sym (first e es)
