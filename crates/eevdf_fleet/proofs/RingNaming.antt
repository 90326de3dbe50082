-- The ends of the rings, by the CPUs that keep them.
use Rattle.std.proofs.Common.{◌≡◌, ℕ, suc, ◌<◌, List, [], ◌∷◌, ◌++◌, length, map, get_or, replicate, refl, sym, ap, subst, ◌∙◌, arith}
use Rattle.std.proofs.lemmas.List.{length-append, get_or-map}
use Rattle.std.proofs.lemmas.List.FromFn.{length-map-range_with_len, map-range_with_len_more}
use Rattle.std.specs.{List.range_with_len, Option.IsSomeAnd, declared.alloc.Global.Global, declared.vec.Vec.Vec}
use Rattle.std.specs.Prelude.{slice_get, Option, Some, None}
use Rattle.eevdf_fleet.specs.Rings.{Ring, Rings, ring_at, no_posts, no_takes, source_of}
use Rattle.atomic_table.specs.Seated.{TableId}
use Rattle.eevdf_fleet.specs.{declared.board.claims.Terms.Terms, Requests.Source, Requests.source_at}
use Rattle.eevdf_fleet.specs.RingEnds.{Pushing, Popping, PushesInto, PopsFrom, Each, lists_of, AreProducers, AreConsumers, free_in, posted_into, posts, slots_for, taken_out, takes}
use Rattle.eevdf_fleet.specs.OpenedRings.{IsFresh, Begins, AreOpened, ring_in, AreNewRows, AreNewColumns, list_at}
use Rattle.rtrb.specs.Ring.{known_free}
use Rattle.eevdf_fleet.proofs.{RingEnds.posts_of, RingEnds.takes_of, RingOpenings.length-lists}

list_read : {A : Type 0} (lists : List (Vec A Global)) (k : ℕ) (list : Vec A Global) → k < length lists → list ≡ get_or lists k list → list_at (lists_of lists) k ≡ list.items
list_read {A} lists k list within at =
    get_or-map (λ (l : Vec A Global). l.items) lists k list [] within ∙ ap (λ (l : Vec A Global). l.items) (sym at)

-- the ends of one CPU, of which something holds in the list of all
list-named : {E S : Type 0} (Are : ℕ → List E → Type 0) (view : ℕ → List E → S) (none : ℕ → ℕ → S) (lists : List (Vec E Global)) (k : ℕ) (list : Vec E Global)
    → ((j : ℕ) → j < length (lists_of lists) → Are j (list_at (lists_of lists) j) × (view j (list_at (lists_of lists) j) ≡ none (length (lists_of lists)) j))
    → (k < length lists) × (list ≡ get_or lists k list) → Are k list.items × (view k list.items ≡ none (length lists) k)
list-named {E} {S} Are view none lists k list h read =
    let at = h k (omega (arith, length-lists lists, read.0)) in
    let is = list_read lists k list read.0 read.1 in (
      subst (λ (es : List E). Are k es) is at.0,
      ap (λ (es : List E). view k es) (sym is) ∙ at.1 ∙ ap (λ (n : ℕ). none n k) (length-lists lists),
    )

-- a row that was read
pub row-read : {r : Rings} (capacity : ℕ) (rows : List (Vec Pushing Global)) (sender : ℕ) (row : Vec Pushing Global) → AreNewRows r (lists_of rows) → capacity ≡ r.capacity
    → (sender < length rows) × (row ≡ get_or rows sender row)
    → AreProducers r sender row.items × (posts capacity sender row.items ≡ no_posts capacity (length rows) sender)
row-read {r} capacity rows sender row h same read =
    subst (λ (n : ℕ). AreProducers r sender row.items × (posts n sender row.items ≡ no_posts n (length rows) sender)) (sym same)
    (list-named (AreProducers r) (posts r.capacity) (no_posts r.capacity) rows sender row h read)

-- a column that was read
pub column-read : {r : Rings} (columns : List (Vec Popping Global)) (home : ℕ) (column : Vec Popping Global) → AreNewColumns r (lists_of columns)
    → (home < length columns) × (column ≡ get_or columns home column)
    → AreConsumers r home column.items × (takes home column.items ≡ no_takes (length columns) home)
column-read {r} columns home column h read = list-named (AreConsumers r) takes no_takes columns home column h read

-- one more element of a list by places
pub next-place : {A : Type 0} (f : ℕ → A) (xs : List A) (n : ℕ) → xs ≡ map f (range_with_len 0 n) → length xs ≡ n
next-place f xs n is = ap length is ∙ length-map-range_with_len f 0 n

pub by-place-more : {A B : Type 0} (f : ℕ → A) (xs xs' : List A) (x : A) (ys : List B) (y : B) → xs ≡ map f (range_with_len 0 (length ys)) → xs' ≡ xs ++ x ∷ [] → x ≡ f (length ys)
    → xs' ≡ map f (range_with_len 0 (length (ys ++ y ∷ [])))
by-place-more f xs xs' x ys y is pushed there =
    pushed ∙ ap (λ (l : List _). l ++ x ∷ []) is ∙ ap (λ (a : _). map f (range_with_len 0 (length ys)) ++ a ∷ []) there
    ∙ sym (map-range_with_len_more f 0 (length ys) (length ys) (omega arith)) ∙ ap (λ (n : ℕ). map f (range_with_len 0 n)) (sym (length-append ys (y ∷ [])))

all_shown : {E X : Type 0} (shown : E → X) (x : X) (es : List E) → Each (λ k e. shown e ≡ x) es → map shown es ≡ replicate (length es) x
all_shown shown x [] h = refl
all_shown shown x (e ∷ es) h =
    ap (λ (y : _). y ∷ map shown es) (h 0 e refl) ∙ ap (λ (ys : List _). x ∷ ys) (all_shown shown x es (λ k y got. h (suc k) y got))

same_shown : {E X : Type 0} (shown : E → X) (x : X) (es : List E) (cpus : ℕ) → length es ≡ cpus → Each (λ k e. shown e ≡ x) es → map shown es ≡ replicate cpus x
same_shown shown x es cpus is h = all_shown shown x es h ∙ ap (λ (n : ℕ). replicate n x) is

begins_pops : (capacity : ℕ) (source : Source) (home : ℕ) (o : Option Ring) (end : Popping) → IsSomeAnd o (λ r. Begins capacity source home r end)
    → IsSomeAnd o (λ r. PopsFrom capacity source home r end)
begins_pops capacity source home None end h = absurd h
begins_pops capacity source home (Some r) end h = h.pops

begins_empty : (capacity : ℕ) (source : Source) (home : ℕ) (o : Option Ring) (end : Popping) → IsSomeAnd o (λ r. Begins capacity source home r end) → taken_out end ≡ []
begins_empty capacity source home None end h = absurd h
begins_empty capacity source home (Some r) end h = h.none

-- as many requests are known to fit as the ring has room for
all_free : (capacity : ℕ) (end : Pushing) → known_free end ≡ slots_for capacity → free_in capacity end ≡ capacity
all_free capacity end is = omega (arith, is)

-- the ends of rings that were opened, under the rings' names
module _ (r : Rings) (rows : List (List Pushing)) (columns : List (List Popping)) (is : rows ≡ r.rings) (h : AreOpened r.capacity (source_of r) (length rows) rows columns) where
  ring_is : (sender home : ℕ) → ring_at r sender home ≡ ring_in rows sender home
  ring_is sender home = ap (λ (x : List (List Pushing)). ring_in x sender home) (sym is)

  pushes_new : (sender home : ℕ) (end : Pushing) → IsFresh r.capacity (source_of r sender) home end → slice_get (list_at rows sender) home ≡ Some end
      → IsSomeAnd (ring_at r sender home) (λ x. PushesInto r.capacity (source_of r sender) home x end)
  pushes_new sender home end fresh got =
      subst (λ (o : Option Ring). IsSomeAnd o (λ x. PushesInto r.capacity (source_of r sender) home x end)) (sym (ring_is sender home ∙ got))
      (record { same = ((refl, refl, refl, refl), refl); capacity_is = fresh.capacity_is; room = omega (arith, fresh.free_is, ap length fresh.marked.are); marked = fresh.marked })

  pub new-rows : AreNewRows r rows
  new-rows sender within = (
    record { each = λ home end got. pushes_new sender home end (h.fresh sender within home end got) got },
    ap (λ (l : List (List ℕ)). posts_of sender l (map (free_in r.capacity) (list_at rows sender)))
        (same_shown posted_into [] (list_at rows sender) (length rows) (h.to_all sender within) (λ home end got. (h.fresh sender within home end got).none))
        ∙ ap (λ (l : List ℕ). posts_of sender (replicate (length rows) []) l)
        (same_shown (free_in r.capacity) r.capacity (list_at rows sender) (length rows) (h.to_all sender within) (λ home end got. all_free r.capacity end (h.fresh sender within home end got).free_is)),
  )

  pops_new : (sender home : ℕ) (end : Popping) → IsSomeAnd (ring_in rows sender home) (λ x. Begins r.capacity (source_of r sender) home x end)
      → IsSomeAnd (ring_at r sender home) (λ x. PopsFrom r.capacity (source_of r sender) home x end)
  pops_new sender home end begins =
      subst (λ (o : Option Ring). IsSomeAnd o (λ x. PopsFrom r.capacity (source_of r sender) home x end)) (sym (ring_is sender home))
      (begins_pops r.capacity (source_of r sender) home (ring_in rows sender home) end begins)

  pub new-columns : AreNewColumns r columns
  new-columns home within = (
    record { each = λ sender end got. pops_new sender home end (h.pairs home (omega (arith, h.columns_are)) sender end got) },
    ap (λ (l : List (List ℕ)). takes_of home l) (same_shown taken_out [] (list_at columns home) (length columns) (h.from_all home (omega (arith, h.columns_are)) ∙ sym h.columns_are)
        (λ sender end got. begins_empty r.capacity (source_of r sender) home (ring_in rows sender home) end (h.pairs home (omega (arith, h.columns_are)) sender end got))),
  )

-- the same, of rings that are seen as these
pub opened-as : (r : Rings) (board : TableId) (terms : Option Terms) (capacity : ℕ) (homes : List ℕ) (rows : List (List Pushing)) (columns : List (List Popping))
    → record { board = board; terms = terms; capacity = capacity; homes = homes; rings = rows } ≡ r
    → AreOpened capacity (source_at board terms homes) (length rows) rows columns → AreNewRows r rows × AreNewColumns r columns
opened-as r board terms capacity homes rows columns named h =
    let opened = subst (λ (x : Rings). AreOpened x.capacity (source_of x) (length rows) rows columns) named h in
    let is : rows ≡ r.rings = ap (λ (x : Rings). x.rings) named in
    (new-rows r rows columns is opened, new-columns r rows columns is opened)
