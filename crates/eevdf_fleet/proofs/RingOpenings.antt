-- How the rings are opened, one row after the other.
use Rattle.std.proofs.Common.{◌≡◌, ℕ, ◌+◌, ◌<◌, ⊎_elim, List, [], ◌∷◌, ◌++◌, length, get_or, set, replicate, refl, sym, ap, subst, ◌∙◌, arith, get_or-set_same, get_or-set_other}
use Rattle.std.proofs.{lemmas.Bool.cases_lt, lemmas.Option.none-some}
use Rattle.std.proofs.lemmas.List.{length-append, map-append, map-set, get_or-map, length-map, length-set, length-replicate, get_or_append_left, get_or_push, get_or-replicate}
use Rattle.std.specs.Prelude.{slice_get, Option, Some}
use Rattle.std.specs.{Option.IsSomeAnd, declared.alloc.Global.Global, declared.vec.Vec.Vec}
use Rattle.eevdf_fleet.specs.Requests.{Source}
use Rattle.eevdf_fleet.specs.RingEnds.{Pushing, Popping, Each, lists_of}
use Rattle.eevdf_fleet.proofs.RingPlaces.{each-push, got_some}
use Rattle.eevdf_fleet.specs.OpenedRings.{IsFresh, Begins, AreOpened, Adds, AreRow, list_at, ring_in}

pub length-lists : {A : Type 0} (lists : List (Vec A Global)) → length (lists_of lists) ≡ length lists
length-lists {A} lists = length-map lists (λ (l : Vec A Global). l.items)

-- the ends of one ring more in a row
pub row-more : {capacity : ℕ} {source : Source} {home : ℕ} {row : List Pushing} {before columns : List (List Popping)} (ring : Pushing) (column : List Popping) → AreRow capacity source home row before columns
    → home < length before → Adds capacity source home ring (list_at columns home) column → AreRow capacity source (home + 1) (row ++ ring ∷ []) before (set columns home column)
row-more {capacity} {source} {home} {row} {before} {columns} ring column h within adds = record {
  to_all = length-append row (ring ∷ []) ∙ ap (λ (n : ℕ). n + 1) h.to_all;
  columns_are = length-set columns home column ∙ h.columns_are;
  each = each-push _ row ring
      (λ k x lower got. subst (λ (c : List Popping). Adds capacity source k x (list_at before k) c) (sym (get_or-set_other columns home k column [] (omega (arith, h.to_all)))) (h.each k x got))
      (subst (λ (k : ℕ). Adds capacity source k ring (list_at before k) (list_at (set columns home column) k)) (sym h.to_all)
      (subst (λ (c : List Popping). Adds capacity source home ring (list_at before home) c) (sym (get_or-set_same columns home column [] (omega (arith, h.columns_are))))
      (subst (λ (c : List Popping). Adds capacity source home ring c column) (h.others home (omega arith)) adds)));
  others = λ k above. get_or-set_other columns home k column [] (omega arith) ∙ h.others k (omega arith);
}

-- the same, of the lists as they were read and are put back
pub row-pushed : {capacity : ℕ} {source : Source} {home : ℕ} {row : List Pushing} {before : List (List Popping)} (columns : List (Vec Popping Global)) (row' : List Pushing) (ring : Pushing) (end : Popping)
    (column column' : Vec Popping Global) → AreRow capacity source home row before (lists_of columns) → home < length before → row' ≡ row ++ ring ∷ []
    → IsFresh capacity source home ring → Begins capacity source home ring end → column ≡ get_or columns home column → column'.items ≡ column.items ++ end ∷ []
    → AreRow capacity source (home + 1) row' before (lists_of (set columns home column'))
row-pushed {capacity} {source} {home} {row} {before} columns row' ring end column column' h within pushed fresh begins at added =
    let in_columns : home < length columns = omega (arith, length-lists columns, h.columns_are) in
    let here : list_at (lists_of columns) home ≡ column.items
    = get_or-map (λ (l : Vec Popping Global). l.items) columns home column [] in_columns ∙ ap (λ (l : Vec Popping Global). l.items) (sym at) in
    subst (λ (r : List Pushing). AreRow capacity source (home + 1) r before (lists_of (set columns home column'))) (sym pushed)
    (subst (λ (cs : List (List Popping)). AreRow capacity source (home + 1) (row ++ ring ∷ []) before cs) (sym (map-set (λ (l : Vec Popping Global). l.items) columns home column'))
    (row-more ring column'.items h within
    (record { fresh = fresh; end = end; begins = begins; added = added ∙ ap (λ (l : List Popping). l ++ end ∷ []) (sym here) })))

module _ (capacity : ℕ) (sources : ℕ → Source) (cpus : ℕ) (rows : List (List Pushing)) (row : List Pushing) (before after : List (List Popping)) (h : AreOpened capacity sources cpus rows before) (new : AreRow capacity (sources (length rows)) cpus row before after) where
  abbrev rows_after : List (List Pushing)
  rows_after = rows ++ row ∷ []

  row_before : (sender : ℕ) → sender < length rows → list_at rows_after sender ≡ list_at rows sender
  row_before sender within = get_or_append_left rows (row ∷ []) [] sender within

  row_new : (sender : ℕ) → sender ≡ length rows → list_at rows_after sender ≡ row
  row_new sender same = get_or_push rows row [] sender (sym same)

  more_to_all : (sender : ℕ) → sender < length rows_after → length (list_at rows_after sender) ≡ cpus
  more_to_all sender within =
      ⊎_elim
      (λ lower. ap length (row_before sender lower) ∙ h.to_all sender lower)
      (λ above. ap length (row_new sender (omega (arith, length-append rows (row ∷ [])))) ∙ new.to_all)
      (cases_lt sender (length rows))

  more_fresh : (sender : ℕ) → sender < length rows_after → Each (IsFresh capacity (sources sender)) (list_at rows_after sender)
  more_fresh sender within =
      ⊎_elim
      (λ lower. subst (λ (r : List Pushing). Each (IsFresh capacity (sources sender)) r) (sym (row_before sender lower)) (h.fresh sender lower))
      (λ above.
      let last : sender ≡ length rows = omega (arith, length-append rows (row ∷ [])) in
      subst (λ (r : List Pushing). Each (IsFresh capacity (sources sender)) r) (sym (row_new sender last))
      (subst (λ (k : ℕ). Each (IsFresh capacity (sources k)) row) (sym last) (λ k x got. (new.each k x got).fresh)))
      (cases_lt sender (length rows))

  adds_at : (home : ℕ) → home < cpus → (ring : Pushing) × (slice_get row home ≡ Some ring) × Adds capacity (sources (length rows)) home ring (list_at before home) (list_at after home)
  adds_at home within =
      let got = got_some row home (omega (arith, new.to_all)) in (got.0, got.1, new.each home got.0 got.1)

  more_from_all : (home : ℕ) → home < cpus → length (list_at after home) ≡ length rows_after
  more_from_all home within =
      let adds = adds_at home within in
      ap length adds.2.added ∙ length-append (list_at before home) (adds.2.end ∷ []) ∙ ap (λ (n : ℕ). n + 1) (h.from_all home within) ∙ sym (length-append rows (row ∷ []))

  more_pairs : (home : ℕ) → home < cpus → Each (λ sender end. IsSomeAnd (ring_in rows_after sender home) (λ r. Begins capacity (sources sender) home r end)) (list_at after home)
  more_pairs home within =
      let adds = adds_at home within in
      subst (λ (column : List Popping). Each (λ sender end. IsSomeAnd (ring_in rows_after sender home) (λ r. Begins capacity (sources sender) home r end)) column) (sym adds.2.added)
      (each-push _ (list_at before home) adds.2.end
      (λ sender x lower got. subst (λ (r : List Pushing). IsSomeAnd (slice_get r home) (λ p. Begins capacity (sources sender) home p x)) (sym (row_before sender (omega (arith, h.from_all home within)))) (h.pairs home within sender x got))
      (subst (λ (k : ℕ). IsSomeAnd (ring_in rows_after k home) (λ p. Begins capacity (sources k) home p adds.2.end)) (sym (h.from_all home within))
      (subst (λ (r : List Pushing). IsSomeAnd (slice_get r home) (λ p. Begins capacity (sources (length rows)) home p adds.2.end)) (sym (row_new (length rows) refl))
      (subst (λ (o : Option Pushing). IsSomeAnd o (λ p. Begins capacity (sources (length rows)) home p adds.2.end)) (sym adds.1) adds.2.begins))))

opened_with : {capacity : ℕ} {sources : ℕ → Source} {cpus : ℕ} {rows : List (List Pushing)} {row : List Pushing} {before after : List (List Popping)} → AreOpened capacity sources cpus rows before
    → AreRow capacity (sources (length rows)) cpus row before after → AreOpened capacity sources cpus (rows ++ row ∷ []) after
opened_with {capacity} {sources} {cpus} {rows} {row} {before} {after} h new = record {
  columns_are = new.columns_are ∙ h.columns_are;
  to_all = more_to_all capacity sources cpus rows row before after h new;
  from_all = more_from_all capacity sources cpus rows row before after h new;
  fresh = more_fresh capacity sources cpus rows row before after h new;
  pairs = more_pairs capacity sources cpus rows row before after h new;
}

-- one row more
pub opened-more : {capacity : ℕ} {sources : ℕ → Source} {cpus : ℕ} {before after : List (List Popping)} (rows rows' : List (Vec Pushing Global)) (row : Vec Pushing Global)
    → AreOpened capacity sources cpus (lists_of rows) before → AreRow capacity (sources (length rows)) (length before) row.items before after → rows' ≡ rows ++ row ∷ []
    → AreOpened capacity sources cpus (lists_of rows') after
opened-more {capacity} {sources} {cpus} {before} {after} rows rows' row h new more =
    subst (λ (r : List (List Pushing)). AreOpened capacity sources cpus r after) (sym (ap lists_of more ∙ map-append (λ (l : Vec Pushing Global). l.items) rows (row ∷ [])))
    (opened_with h (subst (λ (n : ℕ). AreRow capacity (sources (length (lists_of rows))) n row.items before after) h.columns_are
    (subst (λ (n : ℕ). AreRow capacity (sources n) (length before) row.items before after) (sym (length-lists rows)) new)))

-- no row yet
pub opened-none : (capacity : ℕ) (sources : ℕ → Source) (cpus : ℕ) → AreOpened capacity sources cpus [] (replicate cpus [])
opened-none capacity sources cpus = record {
  columns_are = length-replicate cpus [];
  to_all = λ sender within. absurd (omega arith);
  from_all = λ home within. ap length (get_or-replicate cpus home [] [] within);
  fresh = λ sender within. absurd (omega arith);
  pairs = λ home within. subst (λ (column : List Popping). Each (λ sender end. IsSomeAnd (ring_in [] sender home) (λ r. Begins capacity (sources sender) home r end)) column)
      (sym (get_or-replicate cpus home [] [] within)) (λ k x got. absurd (none-some x got));
}
