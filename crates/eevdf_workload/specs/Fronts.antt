-- The front of a document, of which no tree is made, and the document behind it.
use Rattle.std.specs.Prelude.{◌≡◌, ◌==◌, codes, ℕ, Bool, false, pos, map, List, [], ◌∷◌, Vec, Option, Some, None, option_map, Result, Ok}
use Rattle.std.specs.{Option.option_or, declared.alloc.Global.Global}
use Rattle.toml.specs.Data.{Data, integer, Items, no_items, item, Members, get_member, same_key}
use Rattle.toml.specs.Parse.{parse_document}
use Rattle.eevdf_ops.specs.declared.deeds.{Deed.Deed, Op.Op}
use Rattle.eevdf_workload.specs.declared.load_fault.LoadFault.{LoadFault}
use Rattle.eevdf_workload.specs.declared.version.{Version.Version, Limits.Limits}
use Rattle.eevdf_workload.specs.declared.version.Version.TheVariants.{One, Two, Three, Four}
use Rattle.eevdf_workload.specs.declared.reading.front.Front.{Front}
use Rattle.eevdf_workload.specs.declared.reading.front.Member as kind
use Rattle.eevdf_workload.specs.MeaningSteps.{◌>>=◌}
use Rattle.eevdf_workload.specs.Meaning.{Workload, document_of, order_of, programs_of, script_of, version_of, workload_of}
use Rattle.eevdf_workload.specs.Versions.{limits_of}

-- the elements of an array are read as these values, in order
abbrev pub AreRead : {A : Type 0} → (Data → A → Type 0) → Items → List A → Type 0
AreRead reads no_items [] = Unit {0}
AreRead reads (item d ds) (a ∷ rest) = reads d a × AreRead reads ds rest
AreRead reads _ _ = ⊥

-- a byte order mark may begin with this byte
abbrev pub is_mark : ℕ → Bool
is_mark byte = byte == 0xEF

-- the value of a version
abbrev pub version_value : Version → Data
version_value One = integer (pos 1)
version_value Two = integer (pos 2)
version_value Three = integer (pos 3)
version_value Four = integer (pos 4)

-- the operations of programs
abbrev pub programs_in : Vec (Vec Op Global) Global → List (List Op)
programs_in programs = map (λ p. p.items) programs.items

-- the limits of the version that was found, if one was
abbrev pub limits_in : Option Version → Limits
limits_in (Some v) = limits_of v
limits_in None = limits_of One

-- the key of a member, and what its value is read as within limits
abbrev pub member_key : kind.Member → List ℕ
member_key (kind.TheVariants.Version v) = codes "version"
member_key (kind.TheVariants.Order callers) = codes "order"
member_key (kind.TheVariants.Programs programs) = codes "program"
member_key (kind.TheVariants.Script deeds) = codes "script"

abbrev pub IsMember : Limits → kind.Member → Data → Type 0
IsMember limits (kind.TheVariants.Version v) d = version_of d ≡ Ok v
IsMember limits (kind.TheVariants.Order callers) d = order_of d ≡ Ok callers.items
IsMember limits (kind.TheVariants.Programs programs) d = programs_of limits d ≡ Ok (programs_in programs)
IsMember limits (kind.TheVariants.Script deeds) d = script_of limits d ≡ Ok deeds.items

-- A front that had no member of this kind has this one, and else what it had; what is read within the limits of a version comes behind it.
abbrev pub HasTaken : kind.Member → Front → Front → Type 0
HasTaken (kind.TheVariants.Version v) before after = (before.version ≡ None) × (before.programs ≡ None) × (before.script ≡ None) × (after ≡ record before { version = Some v })
HasTaken (kind.TheVariants.Order callers) before after = (before.order ≡ None) × (after ≡ record before { order = Some callers })
HasTaken (kind.TheVariants.Programs programs) before after = (before.programs ≡ None) × (after ≡ record before { programs = Some programs })
HasTaken (kind.TheVariants.Script deeds) before after = (before.script ≡ None) × (after ≡ record before { script = Some deeds })

-- a value is read as what was found, or neither is there
abbrev pub IsReadAs : {A : Type 0} → (Data → Result A LoadFault) → Option Data → Option A → Type 0
IsReadAs read (Some d) (Some a) = read d ≡ Ok a
IsReadAs read None None = Unit {0}
IsReadAs read _ _ = ⊥

-- what a front has: its values are read as what was found, and stand at no other key
pub record Holds (values : List ℕ → Option Data) (version : Option Version) (order : Option (Vec ℕ Global)) (programs : Option (Vec (Vec Op Global) Global)) (script : Option (Vec Deed Global)) : Type 0 where
  pub version_is : IsReadAs version_of (values (codes "version")) version
  pub order_is : IsReadAs order_of (values (codes "order")) (option_map (λ v. v.items) order)
  pub programs_is : IsReadAs (programs_of (limits_in version)) (values (codes "program")) (option_map (λ v. programs_in v) programs)
  pub script_is : IsReadAs (script_of (limits_in version)) (values (codes "script")) (option_map (λ v. v.items) script)
  pub others : (key : List ℕ) → same_key key (codes "version") ≡ false → same_key key (codes "order") ≡ false → same_key key (codes "program") ≡ false → same_key key (codes "script") ≡ false → values key ≡ None

-- a document has none of the keys at which there are values
abbrev pub HasNone : (List ℕ → Option Data) → Members → Type 0
HasNone values document = (key : List ℕ) (d : Data) → values key ≡ Some d → get_member key document ≡ None

-- a document has these values, and else what the other has
abbrev pub HasBesides : (List ℕ → Option Data) → Members → Members → Type 0
HasBesides values other document = (key : List ℕ) → get_member key document ≡ option_or (values key) (get_member key other)

-- A text has these values, and behind them what is left of it: where that is a document with none of their keys, the text is
-- one, with the values besides.
abbrev pub BeginsWith : (List ℕ → Option Data) → List ℕ → List ℕ → Type 0
BeginsWith values left text =
    (other : Members) → parse_document left ≡ Some other → HasNone values other
    → (document : Members) × (parse_document text ≡ Some document) × HasBesides values other document

-- what the bytes describe as a document, however many they are
abbrev pub described : List ℕ → Result Workload LoadFault
described bytes = document_of bytes >>= workload_of
