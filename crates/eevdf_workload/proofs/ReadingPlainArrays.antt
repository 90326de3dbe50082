-- Arrays, as they are read without a tree.
use Rattle.std.proofs.Common.{◌≡◌, ℕ, suc, ◌-◌, ◌<◌, ◌≤◌, true, false, ◌==◌, List, [], ◌∷◌, ◌++◌, length, drop, Some, refl, sym, ap, ◌∙◌, arith}
use Rattle.toml_parser.specs.Lexical.{first, skip_blank}
use Rattle.toml.specs.Data.{Data, Items, array, no_items, item, push_item}
use Rattle.toml.specs.Parse.{val, items, after_element}
use Rattle.toml.proofs.Turns.{items_end, items_more, val_array}
use Rattle.eevdf_workload.specs.Fronts.{AreRead}

module _ {A : Type 0} (depth : ℕ) (reads : Data → A → Type 0) where
  -- one element more is read as one value more
  read_push : (found : Items) (values : List A) (d : Data) (a : A) → AreRead reads found values → reads d a → AreRead reads (push_item found d) (values ++ a ∷ [])
  read_push no_items [] d a were is = (is, tt)
  read_push (item e found) (b ∷ values) d a were is = (were.0, read_push found values d a were.1 is)
  read_push no_items (b ∷ values) d a were is = absurd were
  read_push (item e found) [] d a were is = absurd were

  -- these values were found at the front of an array
  abbrev pub AreReadSoFar : List ℕ → List A → List ℕ → Type 0
  AreReadSoFar text values left =
      (found : Items) × (m : ℕ) × (length left < m) × (items (val depth) (length text) no_items (drop 1 text) ≡ items (val depth) m found left) × AreRead reads found values

  pub array_begin : (text left : List ℕ) (values : List A) → values ≡ [] → left ≡ drop 1 text → length left < length text → AreReadSoFar text values left
  array_begin text left values none is shorter = (no_items, length text, shorter, ap (items (val depth) (length text) no_items) (sym is), rw none tt)

  pub array_end : (text left : List ℕ) (values : List A) → (first text == 91) ≡ true → AreReadSoFar text values left → (first (skip_blank left) == 93) ≡ true
      → (elements : Items) × (val (suc depth) text ≡ Some (array elements, drop 1 (skip_blank left))) × AreRead reads elements values
  array_end text left values bracket so closing =
      let (found, m, room, read, are) = so in
      (found, val_array depth text bracket ∙ rw (read, items_end (val depth) m found left (omega arith) closing) refl, are)

  pub array_more : (text left after next : List ℕ) (values : List A) (a : A) → AreReadSoFar text values left → (first (skip_blank left) == 93) ≡ false → ((d : Data) × (val depth (skip_blank left) ≡ Some (d, after)) × reads d a)
      → after_element 93 after ≡ Some next → length (skip_blank left) ≤ length left → length after < length (skip_blank left) → length next ≤ length after → AreReadSoFar text (values ++ a ∷ []) next
  array_more text left after next values a so other one element within shorter no_longer =
      let (found, m, room, read, are) = so in
      let (d, value, is) = one in
      (push_item found d, m - 1, omega arith, read ∙ items_more (val depth) m found left d after next (omega arith) other value element, read_push found values d a are is)
