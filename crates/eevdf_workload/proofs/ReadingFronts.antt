-- The front of a document, a member at a time.
use Rattle.std.proofs.Common.{◌≡◌, ℕ, suc, ◌-◌, ◌<◌, ◌≤◌, true, false, cond, ◌==◌, List, [], length, codes, Option, Some, None, option_map, Result, refl, sym, ap, ◌∙◌, inl, inr, arith, nat_cmp, is_eq}
use Rattle.std.proofs.lemmas.Bool.{cases_Bool}
use Rattle.std.proofs.lemmas.Bool.Decides.{nat_tests}
use Rattle.std.proofs.lemmas.Cmp.{nat_list_cmp_total}
use Rattle.std.proofs.lemmas.Option.{none-some, same_Some}
use Rattle.std.proofs.lemmas.Iterator.Adapters.{option_map_id}
use Rattle.std.specs.Cmp.Lexicographic.{slice_cmp}
use Rattle.std.specs.Option.{option_or}
use Rattle.std.specs.Prelude.{IfSome}
use Rattle.toml_parser.specs.Lexical.{first, skip_blank, skip_ws}
use Rattle.toml.specs.Data.{Data, same_key, Members, get_member}
use Rattle.toml.specs.Tables.{Node, Nodes, no_nodes, value, get_node, insert, close, close_node, key_value, Document, define, along_header, along_dots, at_key}
use Rattle.toml.specs.Parse.{ends_line, expression, key_equals, line, lines, skip_bom, parse_document, val}
use Rattle.toml.proofs.NodeLaws.{get_node-insert}
use Rattle.toml.proofs.Turns.{document_some, lines_more}
use Rattle.eevdf_workload.specs.{declared.version.Version.Version, declared.load_fault.LoadFault.LoadFault, Versions.limits_of}
use Rattle.eevdf_workload.specs.Meaning.{order_of, programs_of, script_of, version_of}
use Rattle.eevdf_workload.specs.declared.reading.front.Front.{Front}
use Rattle.eevdf_workload.specs.declared.reading.front.Member as kind
use Rattle.eevdf_workload.specs.Fronts.{is_mark, limits_in, member_key, programs_in, BeginsWith, HasTaken, Holds, IsMember, IsReadAs}
use Rattle.eevdf_workload.proofs.ReadingBesides.{over, Adds, Lacks, equal_from, same_found, get_node-insert-other, lines_beside, lines_longer, member_of_node}

-- the text is read up to what is left, and these values were found
abbrev pub IsReadUpTo : (List ℕ → Option Data) → List ℕ → List ℕ → Type 0
IsReadUpTo values text left =
    (root : Nodes) × (m : ℕ) × (length left < m) × (Adds values no_nodes root)
    × (lines (suc (length text)) (no_nodes, []) text ≡ lines m (root, []) left)

-- a pair on a line of its own
pub line_read : (text at_value after k : List ℕ) (d : Data) → (first text == 91) ≡ false → key_equals text ≡ Some (([], k), at_value) → val 80 at_value ≡ Some (d, after) → ends_line (skip_ws after) ≡ true
    → line text ≡ Some ((([], k), key_value d), after)
unfolding line expression
line_read text at_value after k d other read_key read_value ends = rw (other, read_key, read_value, ends) refl

-- ---- nothing is found yet

abbrev pub nothing : List ℕ → Option Data
nothing l = None

pub unread : (text : List ℕ) → IsReadUpTo nothing text text
unread text = (no_nodes, suc (length text), omega arith, λ l. refl, refl)

pub holds_nothing : Holds nothing None None None None
holds_nothing = record { version_is = tt; order_is = tt; programs_is = tt; script_is = tt; others = λ key a b c d. refl }

-- ---- one more member

put_new : (root : Nodes) (k : List ℕ) (d : Data) → get_node k root ≡ None → define (root, []) (([], k), key_value d) ≡ Some (insert k (value d) root, [])
unfolding define along_header along_dots at_key
put_new root k d none = rw none refl

-- the values, and one more at a key
abbrev pub with : List ℕ → Data → (List ℕ → Option Data) → List ℕ → Option Data
with k d values l = cond (same_key l k) (Some d) (values l)

with_more : (k : List ℕ) (d : Data) (values : List ℕ → Option Data) (root : Nodes) → Adds values no_nodes root → Adds (with k d values) no_nodes (insert k (value d) root)
with_more k d values root adds l =
    elim (cases_Bool (same_key l k)) [
      | inl same ↦
          let found = same_found l k (insert k (value d) root) (equal_from (slice_cmp nat_cmp l k) same) ∙ get_node-insert k (value d) root in
          found ∙ sym (ap (λ t. over (cond t (Some d) (values l)) None) same)
      | inr apart ↦
          let kept = get_node-insert-other l k (value d) root apart ∙ adds l in
          kept ∙ sym (ap (λ t. over (cond t (Some d) (values l)) None) apart)
    ]

pub next_member : (values : List ℕ → Option Data) (text left after : List ℕ) (k : List ℕ) (d : Data) → IsReadUpTo values text left → values k ≡ None → line (skip_blank left) ≡ Some ((([], k), key_value d), after)
    → length after < length (skip_blank left) → length (skip_blank left) ≤ length left → IsReadUpTo (with k d values) text after
next_member values text left after k d so new read shorter within =
    let (root, m, room, adds, loop) = so in
    let none : get_node k root ≡ None = adds k ∙ ap (λ v. over v None) new in
    let some : (length (skip_blank left) == 0) ≡ false = grind (arith, nat_tests) in (
      insert k (value d) root,
      m - 1,
      omega arith,
      with_more k d values root adds,
      loop ∙ lines_more m (root, []) (insert k (value d) root, []) left _ after (omega arith) some read (put_new root k d none),
    )

-- what isn't found has no value, whatever it would be read as
no_value_at : {A B : Type 0} (read : Data → Result B LoadFault) (f : A → B) (v : Option Data) (found : Option A) → found ≡ None → IsReadAs read v (option_map f found) → v ≡ None
no_value_at read f None found none is = refl
no_value_at read f (Some d) None none is = absurd is
no_value_at read f (Some d) (Some a) none is = absurd (none-some a (sym none))

still_absent : {A B : Type 0} (one other : Data → Result B LoadFault) (f : A → B) (v : Option Data) (found : Option A) → found ≡ None → IsReadAs one v (option_map f found) → IsReadAs other v (option_map f found)
still_absent one other f None None none is = tt
still_absent one other f (Some d) None none is = absurd is
still_absent one other f v (Some a) none is = absurd (none-some a (sym none))

module _ (values : List ℕ → Option Data) (d : Data) (before after : Front) where
  -- no value stood at the key of a member that was taken
  pub taken_alone : (m : kind.Member) → HasTaken m before after → Holds values before.version before.order before.programs before.script → values (member_key m) ≡ None
  taken_alone (kind.TheVariants.Version v) taken h = no_value_at version_of (λ v. v) (values (codes "version")) before.version taken.0 (rw (option_map_id before.version) h.version_is)
  taken_alone (kind.TheVariants.Order callers) taken h = no_value_at order_of (λ v. v.items) (values (codes "order")) before.order taken.0 h.order_is
  taken_alone (kind.TheVariants.Programs programs) taken h = no_value_at (programs_of (limits_in before.version)) (λ v. programs_in v) (values (codes "program")) before.programs taken.0 h.programs_is
  taken_alone (kind.TheVariants.Script deeds) taken h = no_value_at (script_of (limits_in before.version)) (λ v. v.items) (values (codes "script")) before.script taken.0 h.script_is

  -- another key than that of the member has the value that it had
  other_key : (k key : List ℕ) → same_key key k ≡ false → values key ≡ None → with k d values key ≡ None
  other_key k key apart none = ap (λ t. cond t (Some d) (values key)) apart ∙ none

  -- a front that has taken a member holds its value besides
  pub holds_taken : (m : kind.Member) → HasTaken m before after → Holds values before.version before.order before.programs before.script → IsMember (limits_in before.version) m d → Holds (with (member_key m) d values) after.version after.order after.programs after.script
  holds_taken (kind.TheVariants.Version v) taken h read = rw taken.3 (record {
    version_is = read;
    order_is = h.order_is;
    programs_is = still_absent (programs_of (limits_in before.version)) (programs_of (limits_of v)) (λ v. programs_in v) (values (codes "program")) before.programs taken.1 h.programs_is;
    script_is = still_absent (script_of (limits_in before.version)) (script_of (limits_of v)) (λ v. v.items) (values (codes "script")) before.script taken.2 h.script_is;
    others = λ key a b c e. other_key (codes "version") key a (h.others key a b c e);
  })
  holds_taken (kind.TheVariants.Order callers) taken h read = rw taken.1 (record {
    version_is = h.version_is;
    order_is = read;
    programs_is = h.programs_is;
    script_is = h.script_is;
    others = λ key a b c e. other_key (codes "order") key b (h.others key a b c e);
  })
  holds_taken (kind.TheVariants.Programs programs) taken h read = rw taken.1 (record {
    version_is = h.version_is;
    order_is = h.order_is;
    programs_is = read;
    script_is = h.script_is;
    others = λ key a b c e. other_key (codes "program") key c (h.others key a b c e);
  })
  holds_taken (kind.TheVariants.Script deeds) taken h read = rw taken.1 (record {
    version_is = h.version_is;
    order_is = h.order_is;
    programs_is = h.programs_is;
    script_is = read;
    others = λ key a b c e. other_key (codes "script") key e (h.others key a b c e);
  })

-- ---- the document behind the front

document_from : (left : List ℕ) (other : Members) → parse_document left ≡ Some other → (end : Document) × (lines (suc (length left)) (no_nodes, []) (skip_bom left) ≡ Some end) × (close end.0 ≡ other)
unfolding parse_document
document_from left other h = go (lines (suc (length left)) (no_nodes, []) (skip_bom left)) refl h
  where
    go : (o : Option Document) → lines (suc (length left)) (no_nodes, []) (skip_bom left) ≡ o → option_map (λ doc. close doc.0) o ≡ Some other
        → (end : Document) × (lines (suc (length left)) (no_nodes, []) (skip_bom left) ≡ Some end) × (close end.0 ≡ other)
    go None is none = absurd (none-some other none)
    go (Some end) is some = (end, is, same_Some _ _ some)

no_bom : (text : List ℕ) → (first text == 0xEF) ≡ false → skip_bom text ≡ text
unfolding skip_bom
no_bom text other = rw other refl

unmapped : (o : Option Node) → option_map close_node o ≡ None → o ≡ None
unmapped None none = refl
unmapped (Some x) none = absurd (none-some (close_node x) (sym none))

closed : (v : Option Data) (o : Option Node) → option_map close_node (over v o) ≡ option_or v (option_map close_node o)
closed (Some d) o = refl
closed None o = refl

pub front_read : (values : List ℕ → Option Data) (text left : List ℕ) → IsReadUpTo values text left → (first text == 0xEF) ≡ false → (first left == 0xEF) ≡ false → BeginsWith values left text
front_read values text left so unmarked left_unmarked other parsed lacks =
    let (root, m, room, adds, loop) = so in
    let (end, rest, is) = document_from left other parsed in
    let read : lines (suc (length left)) (no_nodes, []) left ≡ Some end = ap (lines (suc (length left)) (no_nodes, [])) (sym (no_bom left left_unmarked)) ∙ rest in
    let absent : Lacks values end.0 = λ l d has. unmapped (get_node l end.0) (sym (member_of_node l end.0) ∙ ap (get_member l) is ∙ lacks l d has) in
    let both = lines_beside values (suc (length left)) no_nodes root [] left end adds read absent in
    let whole = loop ∙ lines_longer (suc (length left)) m (root, []) left (both.root, end.1) (omega arith) both.is in
    let whole_text : lines (suc (length text)) (no_nodes, []) (skip_bom text) ≡ Some (both.root, end.1) = ap (lines (suc (length text)) (no_nodes, [])) (no_bom text unmarked) ∙ whole in (
      close both.root,
      document_some text (both.root, end.1) whole_text,
      λ key. member_of_node key both.root ∙ ap (option_map close_node) (both.adds key) ∙ closed (values key) (get_node key end.0)
          ∙ ap (option_or (values key)) (sym (member_of_node key end.0) ∙ ap (get_member key) is),
    )

-- what is found where no mark may stand
pub front_found : (values : List ℕ → Option Data) (text : List ℕ) (front : Front) (found : Option Front) → Holds values front.version front.order front.programs front.script → IsReadUpTo values text front.left.now → IfSome found (λ f. f ≡ front) → IfSome found (λ f. is_mark (first text) ≡ false)
    → IfSome found (λ f. is_mark (first front.left.now) ≡ false) → IfSome found (λ f. (at : List ℕ → Option Data) × Holds at f.version f.order f.programs f.script × BeginsWith at f.left.now text)
front_found values text front None holds so same unmarked left_unmarked = tt
front_found values text front (Some f) holds so same unmarked left_unmarked = rw same (values, holds, front_read values text front.left.now so unmarked left_unmarked)
