-- Values that stand in the root of a document before its lines are read, at keys that no line touches.
use Rattle.std.proofs.Common.{◌≡◌, ℕ, zero, suc, ◌≤◌, Bool, true, false, cond, ◌==◌, List, [], ◌∷◌, ◌++◌, length, Option, Some, None, option_map, option_and_then, refl, sym, ap, ◌∙◌, inl, inr, arith, Ordering, Less, Equal, Greater, nat_cmp, is_eq}
use Rattle.std.specs.Prelude.{◌⊎◌}
use Rattle.std.proofs.lemmas.Bool.{cases_Bool, false≢true}
use Rattle.std.proofs.lemmas.Cmp.{nat_list_cmp_total}
use Rattle.std.proofs.lemmas.Option.{none-some, same_Some}
use Rattle.std.specs.Cmp.Lexicographic.{slice_cmp}
use Rattle.std.specs.Ordering.{ordering_reverse}
use Rattle.toml_parser.specs.Lexical.{skip_blank}
use Rattle.toml_parser.specs.Strings.{Key}
use Rattle.toml.specs.Data.{Data, same_key, get_member}
use Rattle.toml.specs.Tables.{Node, Nodes, no_nodes, node, value, implicit, dotted, open_table, get_node, insert, replace, close, close_node, Edit, header_node, dot_node, by_header, by_dot, along_header, along_dots, Definition, key_value, std_table, array_table, new_node, redefine, at_found, at_key, put, Expression, Document, define}
use Rattle.toml.specs.Parse.{line, lines}
use Rattle.toml.proofs.NodeLaws.{get_node-insert, get_node-replace}

cases_ordering : (o : Ordering) → (o ≡ Less) ⊎ ((o ≡ Equal) ⊎ (o ≡ Greater))
cases_ordering Less = inl refl
cases_ordering Equal = inr (inl refl)
cases_ordering Greater = inr (inr refl)

pub equal_from : (o : Ordering) → is_eq o ≡ true → o ≡ Equal
equal_from Less h = absurd (false≢true h)
equal_from Equal h = refl
equal_from Greater h = absurd (false≢true h)

-- a key that ties with another finds what it finds
pub same_found : (j k : List ℕ) (ns : Nodes) → slice_cmp nat_cmp j k ≡ Equal → get_node j ns ≡ get_node k ns
same_found j k no_nodes h = refl
same_found j k (node l x ns) h = rw (nat_list_cmp_total.congr j k l h, same_found j k ns h) refl

-- keys that tie stand alike to a third
tied_before : (l j m : List ℕ) → slice_cmp nat_cmp j m ≡ Equal → same_key l m ≡ same_key l j
tied_before l j m h =
    ap is_eq (nat_list_cmp_total.antisymm l m ∙ ap ordering_reverse (sym (nat_list_cmp_total.congr j m l h)) ∙ sym (nat_list_cmp_total.antisymm l j))

-- what another key finds after a write
pub get_node-insert-other : (l j : List ℕ) (x : Node) (ns : Nodes) → same_key l j ≡ false → get_node l (insert j x ns) ≡ get_node l ns
get_node-insert-other l j x no_nodes h = rw h refl
get_node-insert-other l j x (node m y ns) h =
    elim (cases_ordering (slice_cmp nat_cmp j m)) [
      | inl less ↦ rw (less, h) refl
      | inr other ↦ elim other [
        | inl tie ↦
            let off : same_key l m ≡ false = tied_before l j m tie ∙ h in
            rw (tie, off) refl
        | inr more ↦ rw (more, get_node-insert-other l j x ns h) refl
      ]
    ]

get_node-replace-other : (l j : List ℕ) (x : Node) (ns : Nodes) → same_key l j ≡ false → get_node l (replace j x ns) ≡ get_node l ns
get_node-replace-other l j x no_nodes h = refl
get_node-replace-other l j x (node m y ns) h =
    elim (cases_Bool (same_key j m)) [
      | inl same ↦
          let off : same_key l m ≡ false = tied_before l j m (equal_from (slice_cmp nat_cmp j m) same) ∙ h in
          rw (same, off) refl
      | inr other ↦ rw (other, get_node-replace-other l j x ns h) refl
    ]

-- a node is written at a key, by what the key held
abbrev write : List ℕ → Nodes → Option Node → Node → Nodes
write j ns None x = insert j x ns
write j ns (Some y) x = replace j x ns

written : (j : List ℕ) (ns : Nodes) (o : Option Node) (x : Node) → get_node j ns ≡ o → get_node j (write j ns o x) ≡ Some x
written j ns None x h = get_node-insert j x ns
written j ns (Some y) x h = get_node-replace j x ns y h

written-other : (l j : List ℕ) (ns : Nodes) (o : Option Node) (x : Node) → same_key l j ≡ false → get_node l (write j ns o x) ≡ get_node l ns
written-other l j ns None x h = get_node-insert-other l j x ns h
written-other l j ns (Some y) x h = get_node-replace-other l j x ns h

-- an edit that looks at one key of the root alone, and writes there
pub record AtOne (e : Edit) : Type 0 where
  pub key : List ℕ
  pub step : Option Node → Option Node
  pub is : (ns : Nodes) → e ns ≡ option_map (write key ns (get_node key ns)) (step (get_node key ns))

abbrev header_step : Edit → Option Node → Option Node
header_step e None = option_map (open_table implicit) (e no_nodes)
header_step e (Some x) = header_node e x

abbrev dot_step : Edit → Option Node → Option Node
dot_step e None = option_map (open_table dotted) (e no_nodes)
dot_step e (Some x) = dot_node e x

abbrev found_step : Definition → Option Node → Option Node
found_step what None = Some (new_node what)
found_step what (Some x) = redefine what x

mapped_twice : {A B C : Type 0} (f : B → C) (g : A → B) (o : Option A) → option_map (λ a. f (g a)) o ≡ option_map f (option_map g o)
mapped_twice f g None = refl
mapped_twice f g (Some a) = refl

by_header-one : (k : List ℕ) (e : Edit) (ns : Nodes) (o : Option Node) → by_header k e ns o ≡ option_map (write k ns o) (header_step e o)
by_header-one k e ns None = mapped_twice (λ x. insert k x ns) (open_table implicit) (e no_nodes)
by_header-one k e ns (Some x) = refl

by_dot-one : (k : List ℕ) (e : Edit) (ns : Nodes) (o : Option Node) → by_dot k e ns o ≡ option_map (write k ns o) (dot_step e o)
by_dot-one k e ns None = mapped_twice (λ x. insert k x ns) (open_table dotted) (e no_nodes)
by_dot-one k e ns (Some x) = refl

at_found-one : (k : List ℕ) (what : Definition) (ns : Nodes) (o : Option Node) → at_found k what ns o ≡ option_map (write k ns o) (found_step what o)
at_found-one k what ns None = refl
at_found-one k what ns (Some x) = refl

at_key-one : (k : List ℕ) (what : Definition) → AtOne (at_key k what)
unfolding at_key
at_key-one k what = record { key = k; step = found_step what; is = λ ns. at_found-one k what ns (get_node k ns) }

along_dots-one : (path : List (List ℕ)) (e : Edit) → AtOne e → AtOne (along_dots path e)
unfolding along_dots
along_dots-one [] e h = record { key = h.key; step = h.step; is = h.is }
along_dots-one (k ∷ path) e h = record { key = k; step = dot_step (along_dots path e); is = λ ns. by_dot-one k (along_dots path e) ns (get_node k ns) }

along_header-one : (path : List (List ℕ)) (e : Edit) → AtOne e → AtOne (along_header path e)
unfolding along_header
along_header-one [] e h = record { key = h.key; step = h.step; is = h.is }
along_header-one (k ∷ path) e h = record { key = k; step = header_step (along_header path e); is = λ ns. by_header-one k (along_header path e) ns (get_node k ns) }

-- a value, or else what stood there
abbrev pub over : Option Data → Option Node → Option Node
over (Some d) o = Some (value d)
over None o = o

-- the second has these values, and else what the first has
abbrev pub Adds : (List ℕ → Option Data) → Nodes → Nodes → Type 0
Adds values a b = (l : List ℕ) → get_node l b ≡ over (values l) (get_node l a)

-- nothing stands where there are values
abbrev pub Lacks : (List ℕ → Option Data) → Nodes → Type 0
Lacks values ns = (l : List ℕ) (d : Data) → values l ≡ Some d → get_node l ns ≡ None

no_value : (values : List ℕ → Option Data) (l : List ℕ) (ns : Nodes) (x : Node) → Lacks values ns → get_node l ns ≡ Some x → values l ≡ None
no_value values l ns x lacks there = go (values l) refl
  where
    go : (o : Option Data) → values l ≡ o → values l ≡ None
    go None is = is
    go (Some d) is = absurd (none-some x (sym (lacks l d is) ∙ there))

-- what an edit wrote, where it wrote
wrote : (j : List ℕ) (ns : Nodes) (o s : Option Node) (r : Nodes) → option_map (write j ns o) s ≡ Some r → (x : Node) × (s ≡ Some x) × (r ≡ write j ns o x)
wrote j ns o None r h = absurd (none-some r h)
wrote j ns o (Some x) r h = (x, refl, sym (same_Some _ _ h))

untouched : (k j : List ℕ) (ns : Nodes) (o : Option Node) (x : Node) → get_node j ns ≡ o → get_node k (write j ns o x) ≡ None → same_key k j ≡ false
untouched k j ns o x h none =
    elim (cases_Bool (same_key k j)) [
      | inl same ↦
          let found : get_node k (write j ns o x) ≡ Some x = same_found k j (write j ns o x) (equal_from (slice_cmp nat_cmp k j) same) ∙ written j ns o x h in
          absurd (none-some x (sym none ∙ found))
      | inr other ↦ other
    ]

absent_before : (e : Edit) (one : AtOne e) (k : List ℕ) (a r : Nodes) → e a ≡ Some r → get_node k r ≡ None → get_node k a ≡ None
absent_before e one k a r h none =
    let (x, step, is) = wrote one.key a (get_node one.key a) (one.step (get_node one.key a)) r (sym (one.is a) ∙ h) in
    let gone : get_node k (write one.key a (get_node one.key a) x) ≡ None = ap (get_node k) (sym is) ∙ none in
    let off = untouched k one.key a (get_node one.key a) x refl gone in
    sym (written-other k one.key a (get_node one.key a) x off) ∙ gone

pub record Goes (values : List ℕ → Option Data) (e : Edit) (b r : Nodes) : Type 0 where
  pub result : Nodes
  pub is : e b ≡ Some result
  pub adds : Adds values r result

one_edit : (values : List ℕ → Option Data) (e : Edit) (one : AtOne e) (a b r : Nodes) → Adds values a b → e a ≡ Some r → Lacks values r → Goes values e b r
one_edit values e one a b r adds read lacks =
    let j = one.key in
    let o = get_node j a in
    let (x, step, is) = wrote j a o (one.step o) r (sym (one.is a) ∙ read) in
    let there : get_node j r ≡ Some x = ap (get_node j) is ∙ written j a o x refl in
    let same : get_node j b ≡ o = adds j ∙ ap (λ v. over v o) (no_value values j r x lacks there) in
    let made : e b ≡ Some (write j b o x) = one.is b ∙ ap (λ p. option_map (write j b p) (one.step p)) same ∙ ap (option_map (write j b o)) step in
    record {
      result = write j b o x;
      is = made;
      adds = λ l. elim (cases_Bool (same_key l j)) [
        | inl same_name ↦
            let tie = equal_from (slice_cmp nat_cmp l j) same_name in
            let now : get_node l (write j b o x) ≡ Some x = same_found l j (write j b o x) tie ∙ written j b o x same in
            let then : get_node l r ≡ Some x = ap (get_node l) is ∙ same_found l j (write j a o x) tie ∙ written j a o x refl in
            now ∙ sym (ap (λ v. over v (get_node l r)) (no_value values l r x lacks then) ∙ then)
        | inr apart ↦
            written-other l j b o x apart ∙ adds l ∙ ap (over (values l)) (sym (ap (get_node l) is ∙ written-other l j a o x apart))
      ];
    }

-- the edit of the root that a line is, and the section after it
abbrev edit_of : List (List ℕ) → Key → Definition → Edit
edit_of section key (key_value d) = along_header section (put key d)
edit_of section key std_table = along_header key.0 (at_key key.1 std_table)
edit_of section key array_table = along_header key.0 (at_key key.1 array_table)

abbrev section_of : List (List ℕ) → Key → Definition → List (List ℕ)
section_of section key (key_value d) = section
section_of section key std_table = key.0 ++ key.1 ∷ []
section_of section key array_table = key.0 ++ key.1 ∷ []

edit_of-one : (section : List (List ℕ)) (key : Key) (what : Definition) → AtOne (edit_of section key what)
edit_of-one section key (key_value d) = along_header-one section (put key d) (along_dots-one key.0 (at_key key.1 (key_value d)) (at_key-one key.1 (key_value d)))
edit_of-one section key std_table = along_header-one key.0 (at_key key.1 std_table) (at_key-one key.1 std_table)
edit_of-one section key array_table = along_header-one key.0 (at_key key.1 array_table) (at_key-one key.1 array_table)

define-is : (root : Nodes) (section : List (List ℕ)) (key : Key) (what : Definition) → define (root, section) (key, what) ≡ option_map (λ r. (r, section_of section key what)) (edit_of section key what root)
unfolding define
define-is root section key (key_value d) = refl
define-is root section key std_table = refl
define-is root section key array_table = refl

-- what is left of a document behind a line
went : (root : Nodes) (section : List (List ℕ)) (e : Expression) (next : Document) → define (root, section) e ≡ Some next
    → (edit_of section e.0 e.1 root ≡ Some next.0) × (section_of section e.0 e.1 ≡ next.1)
went root section (key, what) next h = made (edit_of section key what root) (sym (define-is root section key what) ∙ h)
  where
    made : (o : Option Nodes) → option_map (λ r. (r, section_of section key what)) o ≡ Some next → (o ≡ Some next.0) × (section_of section key what ≡ next.1)
    made None none = absurd (none-some next none)
    made (Some r) is =
        let same : (r, section_of section key what) ≡ next = same_Some _ _ is in
        (ap (λ (p : Document). Some p.0) same, ap (λ (p : Document). p.1) same)

-- the rest of the lines, behind those of one line
abbrev after_line : ℕ → Document → Option (Expression × List ℕ) → Option Document
after_line n doc None = None
after_line n doc (Some e) = option_and_then (λ next. lines n next e.1) (define doc e.0)

lines_turn : (n : ℕ) (doc : Document) (text : List ℕ) → lines (suc n) doc text ≡ cond (length (skip_blank text) == 0) (Some doc) (after_line n doc (line (skip_blank text)))
unfolding lines
lines_turn n doc text = go (length (skip_blank text) == 0) (line (skip_blank text))
  where
    go : (b : Bool) (o : Option (Expression × List ℕ)) → cond b (Some doc) (option_and_then (λ e. option_and_then (λ next. lines n next e.1) (define doc e.0)) o) ≡ cond b (Some doc) (after_line n doc o)
    go b None = refl
    go b (Some e) = refl

lines_none : (doc : Document) (text : List ℕ) → lines 0 doc text ≡ None
unfolding lines
lines_none doc text = refl

-- a key that is absent at the end was never there
lines_absent : (k : List ℕ) (n : ℕ) (doc : Document) (text : List ℕ) (end : Document) → lines n doc text ≡ Some end → get_node k end.0 ≡ None → get_node k doc.0 ≡ None
lines_absent k zero doc text end h none = absurd (none-some end (sym (lines_none doc text) ∙ h))
lines_absent k (suc n) doc text end h none =
    go (λ next rest more. lines_absent k n next rest end more none) (length (skip_blank text) == 0) (line (skip_blank text)) (sym (lines_turn n doc text) ∙ h)
  where
    next_line : ((next : Document) (rest : List ℕ) → lines n next rest ≡ Some end → get_node k next.0 ≡ None) → (e : Expression × List ℕ) (o : Option Document) → define doc e.0 ≡ o → option_and_then (λ next. lines n next e.1) o ≡ Some end → get_node k doc.0 ≡ None
    next_line before e None is more = absurd (none-some end more)
    next_line before e (Some next) is more =
        let (edit, section) = went doc.0 doc.1 e.0 next is in
        absent_before (edit_of doc.1 e.0.0 e.0.1) (edit_of-one doc.1 e.0.0 e.0.1) k doc.0 next.0 edit (before next e.1 more)

    go : ((next : Document) (rest : List ℕ) → lines n next rest ≡ Some end → get_node k next.0 ≡ None) → (b : Bool) (o : Option (Expression × List ℕ)) → cond b (Some doc) (after_line n doc o) ≡ Some end → get_node k doc.0 ≡ None
    go before true o is = ap (λ (d : Document). get_node k d.0) (same_Some _ _ is) ∙ none
    go before false None is = absurd (none-some end is)
    go before false (Some e) is = next_line before e (define doc e.0) refl is

pub record ReadBeside (values : List ℕ → Option Data) (n : ℕ) (b : Nodes) (section : List (List ℕ)) (text : List ℕ) (end : Document) : Type 0 where
  pub root : Nodes
  pub is : lines n (b, section) text ≡ Some (root, end.1)
  pub adds : Adds values end.0 root

-- the lines are read the same beside values at keys that they leave absent
pub lines_beside : (values : List ℕ → Option Data) (n : ℕ) (a b : Nodes) (section : List (List ℕ)) (text : List ℕ) (end : Document)
    → Adds values a b → lines n (a, section) text ≡ Some end → Lacks values end.0 → ReadBeside values n b section text end
lines_beside values zero a b section text end adds read lacks = absurd (none-some end (sym (lines_none (a, section) text) ∙ read))
lines_beside values (suc n) a b section text end adds read lacks = go (λ x y s rest both more. lines_beside values n x y s rest end both more lacks) (length (skip_blank text) == 0) refl (line (skip_blank text)) refl (sym (lines_turn n (a, section) text) ∙ read)
  where
    next_line : ((x y : Nodes) (s : List (List ℕ)) (rest : List ℕ) → Adds values x y → lines n (x, s) rest ≡ Some end → ReadBeside values n y s rest end) → (e : Expression × List ℕ) → line (skip_blank text) ≡ Some e → (length (skip_blank text) == 0) ≡ false → (o : Option Document) → define (a, section) e.0 ≡ o
        → option_and_then (λ next. lines n next e.1) o ≡ Some end → ReadBeside values (suc n) b section text end
    next_line beside e here some None is more = absurd (none-some end more)
    next_line beside e here some (Some next) is more =
        let (edit, after) = went a section e.0 next is in
        let one = edit_of-one section e.0.0 e.0.1 in
        let gone : Lacks values next.0 = λ l d has. lines_absent l n next e.1 end more (lacks l d has) in
        let goes = one_edit values (edit_of section e.0.0 e.0.1) one a b next.0 adds edit gone in
        let rest = beside next.0 goes.result next.1 e.1 goes.adds more in
        let made : define (b, section) e.0 ≡ Some (goes.result, next.1) =
        define-is b section e.0.0 e.0.1 ∙ ap (option_map (λ r. (r, section_of section e.0.0 e.0.1))) goes.is ∙ ap (λ s. Some (goes.result, s)) after in
        record {
          root = rest.root;
          is = lines_turn n (b, section) text
              ∙ rw (some, here) (ap (option_and_then (λ next. lines n next e.1)) made ∙ rest.is);
          adds = rest.adds;
        }

    go : ((x y : Nodes) (s : List (List ℕ)) (rest : List ℕ) → Adds values x y → lines n (x, s) rest ≡ Some end → ReadBeside values n y s rest end) → (t : Bool) → (length (skip_blank text) == 0) ≡ t → (o : Option (Expression × List ℕ)) → line (skip_blank text) ≡ o → cond t (Some (a, section)) (after_line n (a, section) o) ≡ Some end → ReadBeside values (suc n) b section text end
    go beside true over_now o here is =
        let same : (a, section) ≡ end = same_Some _ _ is in
        record {
          root = b;
          is = lines_turn n (b, section) text ∙ rw over_now (ap (λ (p : Document). Some (b, p.1)) same);
          adds = λ l. adds l ∙ ap (λ (p : Document). over (values l) (get_node l p.0)) same;
        }
    go beside false some None here is = absurd (none-some end is)
    go beside false some (Some e) here is = next_line beside e here some (define (a, section) e.0) refl is

-- more turns than are needed do no harm
pub lines_longer : (n m : ℕ) (doc : Document) (text : List ℕ) (end : Document) → n ≤ m → lines n doc text ≡ Some end → lines m doc text ≡ Some end
lines_longer zero m doc text end h read = absurd (none-some end (sym (lines_none doc text) ∙ read))
lines_longer (suc n) zero doc text end h read = absurd (omega (arith, h))
lines_longer (suc n) (suc m) doc text end h read = lines_turn m doc text ∙ go (λ next rest more. lines_longer n m next rest end (omega (arith, h)) more) (length (skip_blank text) == 0) (line (skip_blank text)) (sym (lines_turn n doc text) ∙ read)
  where
    next_line : ((next : Document) (rest : List ℕ) → lines n next rest ≡ Some end → lines m next rest ≡ Some end) → (e : Expression × List ℕ) (o : Option Document) → option_and_then (λ next. lines n next e.1) o ≡ Some end → option_and_then (λ next. lines m next e.1) o ≡ Some end
    next_line longer e None more = absurd (none-some end more)
    next_line longer e (Some next) more = longer next e.1 more

    go : ((next : Document) (rest : List ℕ) → lines n next rest ≡ Some end → lines m next rest ≡ Some end) → (b : Bool) (o : Option (Expression × List ℕ)) → cond b (Some doc) (after_line n doc o) ≡ Some end → cond b (Some doc) (after_line m doc o) ≡ Some end
    go longer true o is = is
    go longer false None is = is
    go longer false (Some e) is = next_line longer e (define doc e.0) is

-- what a key of the closed root holds
pub member_of_node : (k : List ℕ) (ns : Nodes) → get_member k (close ns) ≡ option_map close_node (get_node k ns)
member_of_node k no_nodes = refl
member_of_node k (node l x ns) =
    elim (cases_ordering (slice_cmp nat_cmp k l)) [
      | inl less ↦ rw (less, member_of_node k ns) refl
      | inr other ↦ elim other [
        | inl tie ↦ rw tie refl
        | inr more ↦ rw (more, member_of_node k ns) refl
      ]
    ]
