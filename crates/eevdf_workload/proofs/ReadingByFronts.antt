-- A workload of which lists stand in front of its document.
use Rattle.std.proofs.Common.{◌≡◌, ◌∙◌, ℕ, List, true, is_some, Option, Some, None, Result, Ok, Err, codes, refl, sym, ap, option_map, inl, inr, Vec, Global}
use Rattle.std.proofs.lemmas.Bool.{cases_Bool}
use Rattle.std.proofs.lemmas.Option.{none-some}
use Rattle.std.proofs.lemmas.Map.Text.{is_eq-slice_cmp}
use Rattle.std.proofs.lemmas.Slice.Eq.{bytes_eq-Decides}
use Rattle.std.specs.Prelude.{IfOk}
use Rattle.std.specs.Option.{option_or}
use Rattle.std.specs.Str.{IsUtf8}
use Rattle.toml.specs.Data.{Data, Members, get_member, same_key}
use Rattle.toml.specs.Parse.{parse_document}
use Rattle.eevdf_ops.specs.declared.deeds.{Deed.Deed, Op.Op}
use Rattle.eevdf_workload.specs.{declared.version.Limits.Limits, declared.version.Version.Version, declared.load_fault.LoadFault.LoadFault, Versions.limits_of}
use Rattle.eevdf_workload.specs.declared.load_fault.Key.{Key}
use Rattle.eevdf_workload.specs.declared.load_fault.Key.TheVariants as keys
use Rattle.eevdf_workload.specs.declared.version.Version.TheVariants.{One, Two, Three, Four}
use Rattle.eevdf_workload.specs.MeaningSteps.{◌>>=◌, if_present, required, Reads}
use Rattle.eevdf_workload.specs.Meaning.{order, order_of, programs, programs_of, script, script_of, tasks, version, version_of, workload_in, workload_of, Workload}
use Rattle.eevdf_workload.specs.Fronts.{programs_in, version_value, described, BeginsWith, HasBesides, HasNone, Holds, IsReadAs}
use Rattle.eevdf_workload.proofs.ReadingDocuments.{document_of-read}
use Rattle.eevdf_workload.proofs.VersionMeanings.{in_version}

pub version_read : (v : Version) → version_of (version_value v) ≡ Ok v
version_read One = refl
version_read Two = refl
version_read Three = refl
version_read Four = refl

-- ---- a document and what stands in front of it

found_list : {A : Type 0} (read : Data → Result A LoadFault) (a : A) (d whole other : Option Data) → IsReadAs read d (Some a) → whole ≡ option_or d other → if_present read whole ≡ Ok (Some a)
found_list read a (Some d) whole other is at = rw (at, is) refl
found_list read a None whole other is at = absurd is

needed_list : {A : Type 0} (name : Key) (read : Data → Result A LoadFault) (a : A) (d whole other : Option Data) → IsReadAs read d (Some a) → whole ≡ option_or d other → required name read whole ≡ Ok a
needed_list name read a (Some d) whole other is at = rw (at, is) refl
needed_list name read a None whole other is at = absurd is

list_behind : {A : Type 0} (read : Data → Result A LoadFault) (d whole other : Option Data) → IsReadAs read d None → whole ≡ option_or d other → whole ≡ other
list_behind read None whole other is at = at
list_behind read (Some d) whole other is at = absurd is

pub script_found : (limits : Limits) (deeds : List Deed) (d other : Option Data) (whole : Members) → IsReadAs (script_of limits) d (Some deeds) → get_member (codes "script") whole ≡ option_or d other → script limits whole ≡ Ok (Some deeds)
unfolding script
script_found limits deeds d other whole is at = found_list (script_of limits) deeds d (get_member (codes "script") whole) other is at

pub script_left : (limits : Limits) (d : Option Data) (document whole : Members) → IsReadAs (script_of limits) d None → get_member (codes "script") whole ≡ option_or d (get_member (codes "script") document) → script limits whole ≡ script limits document
unfolding script
script_left limits d document whole is at = ap (if_present (script_of limits)) (list_behind (script_of limits) d _ _ is at)

pub order_found : (callers : List ℕ) (d other : Option Data) (whole : Members) → IsReadAs order_of d (Some callers) → get_member (codes "order") whole ≡ option_or d other → order whole ≡ Ok (Some callers)
unfolding order
order_found callers d other whole is at = found_list order_of callers d (get_member (codes "order") whole) other is at

pub order_left : (d : Option Data) (document whole : Members) → IsReadAs order_of d None → get_member (codes "order") whole ≡ option_or d (get_member (codes "order") document) → order whole ≡ order document
unfolding order
order_left d document whole is at = ap (if_present order_of) (list_behind order_of d _ _ is at)

pub programs_found : (limits : Limits) (operations : List (List Op)) (d other : Option Data) (whole : Members) → IsReadAs (programs_of limits) d (Some operations) → get_member (codes "program") whole ≡ option_or d other → programs limits whole ≡ Ok operations
unfolding programs
programs_found limits operations d other whole is at = needed_list keys.Programs (programs_of limits) operations d (get_member (codes "program") whole) other is at

programs_left : (limits : Limits) (d : Option Data) (document whole : Members) → IsReadAs (programs_of limits) d None → get_member (codes "program") whole ≡ option_or d (get_member (codes "program") document) → programs limits whole ≡ programs limits document
unfolding programs
programs_left limits d document whole is at = ap (required keys.Programs (programs_of limits)) (list_behind (programs_of limits) d _ _ is at)

-- what the readers of the document behind find, or their fault, where nothing was found in front
pub script_behind : (limits : Limits) (document : Members) (r : Result (Option (Vec Deed Global)) LoadFault) → Reads (λ found. option_map (λ ds. ds.items) found) (script limits document) r → (d : Option Data) (whole : Members) → IsReadAs (script_of limits) d None
    → get_member (codes "script") whole ≡ option_or d (get_member (codes "script") document) → Reads (λ found. option_map (λ ds. ds.items) found) (script limits whole) r
script_behind limits document r read d whole is at = rw (script_left limits d document whole is at) read

pub programs_behind : (limits : Limits) (document : Members) (r : Result (Vec (Vec Op Global) Global) LoadFault) → Reads (λ ps. programs_in ps) (programs limits document) r → (d : Option Data) (whole : Members) → IsReadAs (programs_of limits) d None
    → get_member (codes "program") whole ≡ option_or d (get_member (codes "program") document) → Reads (λ ps. programs_in ps) (programs limits whole) r
programs_behind limits document r read d whole is at = rw (programs_left limits d document whole is at) read

pub order_behind : (document : Members) (r : Result (Option (Vec ℕ Global)) LoadFault) → Reads (λ found. option_map (λ ps. ps.items) found) (order document) r → (d : Option Data) (whole : Members) → IsReadAs order_of d None
    → get_member (codes "order") whole ≡ option_or d (get_member (codes "order") document) → Reads (λ found. option_map (λ ps. ps.items) found) (order whole) r
order_behind document r read d whole is at = rw (order_left d document whole is at) read

pub tasks_left : (limits : Limits) (document whole : Members) (v : Option Data) → v ≡ None → get_member (codes "task") whole ≡ option_or v (get_member (codes "task") document) → tasks limits whole ≡ tasks limits document
unfolding tasks
tasks_left limits document whole v none at = rw (at, none) refl

-- ---- the whole document

-- where a value stands in front, and nothing behind it where one was found, nothing stands behind it
lacks_at : {A B : Type 0} (read : Data → Result B LoadFault) (f : A → B) (v : Option Data) (found : Option A) (m : Option Data) (d : Data) → IsReadAs read v (option_map f found) → v ≡ Some d → (is_some found ≡ true → m ≡ None) → m ≡ None
lacks_at read f (Some e) (Some a) m d is has none = none refl
lacks_at read f (Some e) None m d is has none = absurd is
lacks_at read f None found m d is has none = absurd (none-some d has)

same_key_is : (k l : List ℕ) → same_key k l ≡ true → k ≡ l
same_key_is k l same = (bytes_eq-Decides k l).0 (sym (is_eq-slice_cmp k l) ∙ same)

lacks_key : {A B : Type 0} (read : Data → Result B LoadFault) (f : A → B) (values : List ℕ → Option Data) (found : Option A) (other : Members) (name key : List ℕ) (d : Data) → IsReadAs read (values name) (option_map f found)
    → (is_some found ≡ true → get_member name other ≡ None) → same_key key name ≡ true → values key ≡ Some d → get_member key other ≡ None
lacks_key read f values found other name key d is none same has =
    let here : key ≡ name = same_key_is key name same in
    ap (λ (k : List ℕ). get_member k other) here ∙ lacks_at read f (values name) found (get_member name other) d is (sym (ap values here) ∙ has) none

lacks_all : (values : List ℕ → Option Data) (v : Version) (callers : Option (Vec ℕ Global)) (programs : Option (Vec (Vec Op Global) Global)) (deeds : Option (Vec Deed Global)) (other : Members) → Holds values (Some v) callers programs deeds
    → get_member (codes "version") other ≡ None → (is_some callers ≡ true → get_member (codes "order") other ≡ None) → (is_some programs ≡ true → get_member (codes "program") other ≡ None) → (is_some deeds ≡ true → get_member (codes "script") other ≡ None) → HasNone values other
lacks_all values v callers programs deeds other holds no_version no_order no_programs no_script key d has =
    elim (cases_Bool (same_key key (codes "version"))) [
      | inl a ↦ ap (λ (k : List ℕ). get_member k other) (same_key_is key (codes "version") a) ∙ no_version
      | inr a ↦
          elim (cases_Bool (same_key key (codes "order"))) [
            | inl b ↦ lacks_key order_of (λ c. c.items) values callers other (codes "order") key d holds.order_is no_order b has
            | inr b ↦
                elim (cases_Bool (same_key key (codes "program"))) [
                  | inl c ↦ lacks_key (programs_of (limits_of v)) (λ ps. programs_in ps) values programs other (codes "program") key d holds.programs_is no_programs c has
                  | inr c ↦
                      elim (cases_Bool (same_key key (codes "script"))) [
                        | inl e ↦ lacks_key (script_of (limits_of v)) (λ ds. ds.items) values deeds other (codes "script") key d holds.script_is no_script e has
                        | inr e ↦ absurd (none-some d (sym (holds.others key a b c e) ∙ has))
                      ]
                ]
          ]
    ]

version_found : (v : Version) (d other : Option Data) (document : Members) → IsReadAs version_of d (Some v) → get_member (codes "version") document ≡ option_or d other → version document ≡ Ok v
unfolding version
version_found v d other document is at = needed_list keys.Version version_of v d (get_member (codes "version") document) other is at

-- the whole document is what stands behind the front, with the values there besides
pub read_by_front : (values : List ℕ → Option Data) (bytes left : List ℕ) (v : Version) (callers : Option (Vec ℕ Global)) (programs : Option (Vec (Vec Op Global) Global)) (deeds : Option (Vec Deed Global)) (other : Members) → IsUtf8 bytes
    → Holds values (Some v) callers programs deeds → BeginsWith values left bytes → parse_document left ≡ Some other → get_member (codes "version") other ≡ None → (is_some callers ≡ true → get_member (codes "order") other ≡ None)
    → (is_some programs ≡ true → get_member (codes "program") other ≡ None) → (is_some deeds ≡ true → get_member (codes "script") other ≡ None) → (whole : Members) × HasBesides values other whole × (described bytes ≡ workload_in (limits_of v) whole)
read_by_front values bytes left v callers programs deeds other utf8 holds begins parsed no_version no_order no_programs no_script =
    let (document, whole, has) = begins other parsed (lacks_all values v callers programs deeds other holds no_version no_order no_programs no_script) in
    let versioned = version_found v (values (codes "version")) (get_member (codes "version") other) document holds.version_is (has (codes "version")) in
    (document, has, ap (λ (r : Result Members LoadFault). r >>= workload_of) (document_of-read bytes document utf8 whole) ∙ in_version document v versioned)
