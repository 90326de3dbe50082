-- Where a fault stands in the text of a workload.
use Rattle.std.specs.Prelude.{◌≡◌, ◌≤◌, ◌⊎◌, false, ◌==◌, ℕ, ◌+◌, ◌-◌, ◌||◌, nat_lt, nat_le, if◌then◌else◌, Bool, true, List, [], ◌∷◌, length, take, drop, codes, Option, Some, None, option_and_then, Ok}
use Rattle.toml.specs.Data.{Data, table, array, Members, get_member, get, at, as_str, as_integer, as_bool, type_of}
use Rattle.toml.specs.Parse.{parse_value}
use Rattle.eevdf_ops.specs.declared.setup_fault.SetupFault.TheVariants as setup
use Rattle.eevdf_workload.specs.declared.load_fault.Key.{Key}
use Rattle.eevdf_workload.specs.declared.load_fault.Key.TheVariants as key
use Rattle.eevdf_workload.specs.declared.load_fault.LoadFault.{LoadFault}
use Rattle.eevdf_workload.specs.declared.load_fault.LoadFault.TheVariants as fault
use Rattle.eevdf_explain.specs.declared.tokens.Place.{Place}
use Rattle.eevdf_explain.specs.declared.explanation.Mark.{Mark}
use Rattle.eevdf_workload.specs.Meaning.{document_of}

-- ---- lines and columns

-- a byte begins a character, and doesn't go on with one
abbrev pub begins_character : ℕ → Bool
begins_character byte = nat_lt byte 128 || nat_le 192 byte

-- the line and the column behind a text that begins at others
abbrev pub moved_on : ℕ → ℕ → List ℕ → ℕ × ℕ
moved_on line column [] = (line, column)
moved_on line column (byte ∷ bytes) =
    if byte == 10 then moved_on (line + 1) 1 bytes
    else if begins_character byte then moved_on line (column + 1) bytes
    else moved_on line column bytes

-- the line and the column behind a text, both from 1; a column counts characters
unfoldable pub position : List ℕ → ℕ × ℕ
position text = moved_on 1 1 text

-- ---- members

-- the value at a key
abbrev pub task_member : List ℕ → ℕ → Members → Option Data
task_member name task document = option_and_then (get name) (option_and_then (at task) (get_member (codes "task") document))

abbrev pub value_at : Key → Members → Option Data
value_at key.Version document = get_member (codes "version") document
value_at key.Tasks document = get_member (codes "task") document
value_at (key.Task i) document = option_and_then (at i) (get_member (codes "task") document)
value_at (key.Home i) document = task_member (codes "home") i document
value_at (key.Nice i) document = task_member (codes "nice") i document
value_at (key.Slice i) document = task_member (codes "slice") i document
value_at (key.Start i) document = task_member (codes "start") i document
value_at (key.Asleep i) document = task_member (codes "asleep") i document
value_at key.Programs document = get_member (codes "program") document
value_at (key.Program cpu) document = option_and_then (at cpu) (get_member (codes "program") document)
value_at (key.Op cpu i) document = option_and_then (at i) (option_and_then (at cpu) (get_member (codes "program") document))
value_at key.Orders document = get_member (codes "order") document
value_at (key.Order i) document = option_and_then (at i) (get_member (codes "order") document)
value_at key.Scripts document = get_member (codes "script") document
value_at (key.Script i) document = option_and_then (at i) (get_member (codes "script") document)

-- two values of one type, and where that is a string, an integer or a boolean, the same value
abbrev pub Alike : Data → Data → Type 0
Alike d e = ((type_of d ≡ type_of e) × (as_str d ≡ as_str e)) × ((as_integer d ≡ as_integer e) × (as_bool d ≡ as_bool e))

-- a text that writes a value like this
pub record Writes (text : List ℕ) (value : Data) : Type 0 where
  pub written : Data
  pub parsed : parse_value text ≡ Some written
  pub alike : Alike written value

-- a value of which lines of their own may make the parts
abbrev pub has_parts : Data → Bool
has_parts (table _) = true
has_parts (array _) = true
has_parts _ = false

-- the name of a key in its table; of a member of a list that of the list
abbrev pub name_of : Key → List ℕ
name_of key.Version = codes "version"
name_of key.Tasks = codes "task"
name_of (key.Task i) = codes "task"
name_of (key.Home i) = codes "home"
name_of (key.Nice i) = codes "nice"
name_of (key.Slice i) = codes "slice"
name_of (key.Start i) = codes "start"
name_of (key.Asleep i) = codes "asleep"
name_of key.Programs = codes "program"
name_of (key.Program cpu) = codes "program"
name_of (key.Op cpu i) = codes "program"
name_of key.Orders = codes "order"
name_of (key.Order i) = codes "order"
name_of key.Scripts = codes "script"
name_of (key.Script i) = codes "script"

-- ---- places

abbrev pub at_place : Place → List ℕ → List ℕ
at_place place text = take (place.end - place.start) (drop place.start text)

abbrev pub LiesIn : List ℕ → Place → Type 0
LiesIn text place = (place.start ≤ place.end) × (place.end ≤ length text)

-- a place in what writes a value
pub record IsInWritten (text : List ℕ) (value : Data) (place : Place) : Type 0 where
  pub member : Place
  pub within : LiesIn text member
  pub written : Writes (at_place member text) value
  pub after : member.start ≤ place.start
  pub before : place.end ≤ member.end

-- the place of a key's name, where lines of their own may make the parts of the value
pub record IsNamed (text : List ℕ) (k : Key) (value : Data) (place : Place) : Type 0 where
  pub parted : has_parts value ≡ true
  pub within : LiesIn text place
  pub name : at_place place text ≡ name_of k

-- a place in what writes the value at a key, or of the key's name
abbrev pub IsOfValue : List ℕ → Key → Data → Place → Type 0
IsOfValue text k value place = IsInWritten text value place ⊎ IsNamed text k value place

-- a place in the text of what the document has at a key
pub record IsOfMember (text : List ℕ) (k : Key) (place : Place) : Type 0 where
  pub document : Members
  pub read : document_of text ≡ Ok document
  pub value : Data
  pub found : value_at k document ≡ Some value
  pub placed : IsOfValue text k value place

-- the key that a fault names, if it names one
abbrev pub key_of : LoadFault → Option Key
key_of (fault.BadValue k) = Some k
key_of (fault.Setup setup.BadCpus) = Some key.Programs
key_of (fault.Setup setup.BadTasks) = Some key.Tasks
key_of (fault.Setup (setup.BadHome task)) = Some (key.Home task)
key_of (fault.Setup (setup.BadStart task)) = Some (key.Start task)
key_of (fault.Setup (setup.TooLong cpu)) = Some (key.Program cpu)
key_of (fault.Setup (setup.UnknownTask cpu i)) = Some (key.Op cpu i)
key_of (fault.Setup (setup.BadPull cpu i)) = Some (key.Op cpu i)
key_of (fault.Setup (setup.BadBegin cpu i)) = Some (key.Op cpu i)
key_of _ = None

-- whether a header may make what stands at a key, in place of a value
abbrev pub may_be_header : Key → Bool
may_be_header key.Tasks = true
may_be_header (key.Task i) = true
may_be_header key.Programs = true
may_be_header (key.Program cpu) = true
may_be_header key.Orders = true
may_be_header key.Scripts = true
may_be_header _ = false

-- a place of what stands at a key, but for what a header may make
abbrev pub IsPlaced : List ℕ → Key → Place → Type 0
IsPlaced text k place = (may_be_header k ≡ true) ⊎ IsOfMember text k place

abbrev pub IsPlacedAt : List ℕ → Key → Data → Place → Type 0
IsPlacedAt text k value place = (may_be_header k ≡ true) ⊎ IsOfValue text k value place

-- a place with its line and its column
pub record IsMark (text : List ℕ) (mark : Mark) : Type 0 where
  pub lies : LiesIn text mark.place
  pub line : mark.line ≡ (position (take mark.place.start text)).0
  pub column : mark.column ≡ (position (take mark.place.start text)).1
