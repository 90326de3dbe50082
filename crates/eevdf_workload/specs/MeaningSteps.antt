-- Steps of reading, of which the first that finds a fault decides, and what a reader gives for them.
use Rattle.std.specs.Prelude.{◌≡◌, ◌⊎◌, ℕ, ◌+◌, nat_lt, ℤ, pos, negsuc, Bool, if◌then◌else◌, List, [], ◌∷◌, Option, Some, None, Result, Ok, Err}
use Rattle.toml.specs.Data.{Data, array, Items, no_items, item, as_integer, as_bool}
use Rattle.eevdf_workload.specs.{declared.load_fault.Key.Key, declared.load_fault.LoadFault.LoadFault}
use Rattle.eevdf_workload.specs.declared.load_fault.LoadFault.TheVariants as fault

-- one step after another
infixl 10 ◌>>=◌
abbrev pub ◌>>=◌ : {A B : Type 0} → Result A LoadFault → (A → Result B LoadFault) → Result B LoadFault
Ok a >>= f = f a
Err e >>= f = Err e

-- the value, or a bad value at the key
abbrev pub good_at : {A : Type 0} → Key → Option A → Result A LoadFault
good_at key (Some a) = Ok a
good_at key None = Err (fault.BadValue key)

-- what stands at a key that must be there
abbrev pub required : {A : Type 0} → Key → (Data → Result A LoadFault) → Option Data → Result A LoadFault
required key read (Some d) = read d
required key read None = Err (fault.Missing key)

-- what stands at a key that may be absent
abbrev pub if_present : {A : Type 0} → (Data → Result A LoadFault) → Option Data → Result (Option A) LoadFault
if_present read (Some d) = read d >>= (λ a. Ok (Some a))
if_present read None = Ok None

-- the integer or the boolean at a key, and its default where the key is absent
abbrev pub integer_or : ℤ → Option Data → Option ℤ
integer_or default (Some d) = as_integer d
integer_or default None = Some default

abbrev pub boolean_or : Bool → Option Data → Option Bool
boolean_or default (Some d) = as_bool d
boolean_or default None = Some default

-- an integer from 0 on
abbrev pub natural : ℤ → Option ℕ
natural (pos n) = Some n
natural (negsuc n) = None

-- the members of an array, or a bad value at the key
abbrev pub array_at : Key → Data → Result Items LoadFault
array_at key (array ds) = Ok ds
array_at key _ = Err (fault.BadValue key)

abbrev pub count : Items → ℕ
count no_items = 0
count (item d ds) = count ds + 1

-- the members, which are at most so many
abbrev pub at_most : ℕ → Key → Items → Result Items LoadFault
at_most most key ds = if nat_lt most (count ds) then Err (fault.BadValue key) else Ok ds

-- what the members are in order, from a place on
abbrev pub each : {A : Type 0} → (ℕ → Data → Result A LoadFault) → ℕ → Items → Result (List A) LoadFault
each read place no_items = Ok []
each read place (item d ds) = read place d >>= (λ a. each read (place + 1) ds >>= (λ rest. Ok (a ∷ rest)))

-- the result, seen by `view`, is what is to be read; or its first fault; or there was no memory
abbrev pub Reads : {A V : Type 0} → (V → A) → Result A LoadFault → Result V LoadFault → Type 0
Reads view meaning (Ok v) = meaning ≡ Ok (view v)
Reads view meaning (Err e) = (e ≡ fault.Memory) ⊎ (meaning ≡ Err e)
