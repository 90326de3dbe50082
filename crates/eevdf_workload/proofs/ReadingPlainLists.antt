-- An order, programs and a script, of which each element was read without a tree.
use Rattle.std.proofs.Common.{◌≡◌, ℕ, ◌+◌, ◌≤◌, false, List, [], ◌∷◌, map, length, Option, Some, None, Ok, Err, Result, refl, ap, ◌∙◌, arith, Vec, Global}
use Rattle.std.specs.Prelude.{nat_lt, pos, IfOk, IfSome}
use Rattle.std.proofs.lemmas.List.{map-id}
use Rattle.std.proofs.lemmas.Bool.Decides.{nat_tests}
use Rattle.toml.specs.Data.{Data, Items, array, integer, string, no_items, item}
use Rattle.eevdf_ops.specs.declared.deeds.{Deed.Deed, Op.Op}
use Rattle.eevdf_workload.specs.{declared.version.Limits.Limits, declared.load_fault.LoadFault.LoadFault}
use Rattle.eevdf_workload.specs.Fronts.{programs_in, AreRead}
use Rattle.eevdf_workload.specs.MeaningSteps.{count, each}
use Rattle.eevdf_workload.specs.Meaning.{caller_at, deed_at, operation_at, order_of, program_at, programs_of, script_of}
use Rattle.eevdf_workload.specs.Words.{deed_in, operation, words}

-- what is read as these values, an element at a time
each_read : {A B : Type 0} (reads : Data → A → Type 0) (read : ℕ → Data → Result B LoadFault) (view : A → B) → ((d : Data) (a : A) → reads d a → (place : ℕ) → read place d ≡ Ok (view a)) → (place : ℕ) (found : Items) (values : List A) → AreRead reads found values
    → each read place found ≡ Ok (map view values)
each_read reads read view gives place no_items [] are = refl
each_read reads read view gives place (item d found) (a ∷ values) are = rw (gives d a are.0 place, each_read reads read view gives (place + 1) found values are.1) refl
each_read reads read view gives place no_items (a ∷ values) are = absurd are
each_read reads read view gives place (item d found) [] are = absurd are

count_read : {A : Type 0} (reads : Data → A → Type 0) (found : Items) (values : List A) → AreRead reads found values → count found ≡ length values
count_read reads no_items [] are = refl
count_read reads (item d found) (a ∷ values) are = omega (arith, count_read reads found values are.1)
count_read reads no_items (a ∷ values) are = absurd are
count_read reads (item d found) [] are = absurd are

-- what is found is so, where it is so otherwise
pub found_so : {A : Type 0} (P Q : A → Type 0) → ((a : A) → P a → Q a) → (r : Result (Option A) LoadFault) → IfOk r (λ found. IfSome found P) → IfOk r (λ found. IfSome found Q)
found_so P Q so (Ok (Some a)) is = so a is
found_so P Q so (Ok None) is = tt
found_so P Q so (Err e) is = tt

-- ---- the elements

pub caller_read : (n place : ℕ) → caller_at place (integer (pos n)) ≡ Ok n
unfolding caller_at
caller_read n place = refl

pub operation_read : (limits : Limits) (s : List ℕ) (op : Op) → operation limits (words s) ≡ Some op → (cpu place : ℕ) → operation_at limits cpu place (string s) ≡ Ok op
unfolding operation_at
operation_read limits s op is cpu place = rw is refl

pub deed_read : (limits : Limits) (s : List ℕ) (deed : Deed) → deed_in limits (words s) ≡ Some deed → (place : ℕ) → deed_at limits place (string s) ≡ Ok deed
unfolding deed_at
deed_read limits s deed is place = rw is refl

pub program_read : (limits : Limits) (found : Items) (operations : List Op) → AreRead (λ d op. (cpu place : ℕ) → operation_at limits cpu place d ≡ Ok op) found operations → (cpu : ℕ) → program_at limits cpu (array found) ≡ Ok operations
unfolding program_at
program_read limits found operations are cpu =
    each_read (λ d op. (cpu place : ℕ) → operation_at limits cpu place d ≡ Ok op) (operation_at limits cpu) (λ op. op) (λ d op is. is cpu) 0 found operations are ∙ ap Ok (map-id operations)

-- ---- the lists

pub order_read : (found : Items) (callers : List ℕ) → AreRead (λ d caller. (place : ℕ) → caller_at place d ≡ Ok caller) found callers → order_of (array found) ≡ Ok callers
order_read found callers are = each_read (λ d caller. (place : ℕ) → caller_at place d ≡ Ok caller) caller_at (λ caller. caller) (λ d caller is. is) 0 found callers are ∙ ap Ok (map-id callers)

pub programs_read : (limits : Limits) (found : Items) (programs : Vec (Vec Op Global) Global) → AreRead (λ d program. (cpu : ℕ) → program_at limits cpu d ≡ Ok program.items) found programs.items → programs_of limits (array found) ≡ Ok (programs_in programs)
programs_read limits found programs are = each_read (λ d (program : Vec Op Global). (cpu : ℕ) → program_at limits cpu d ≡ Ok program.items) (program_at limits) (λ program. program.items) (λ d program is. is) 0 found programs.items are

pub script_read : (limits : Limits) (found : Items) (deeds : List Deed) → AreRead (λ d deed. (place : ℕ) → deed_at limits place d ≡ Ok deed) found deeds → length deeds ≤ limits.deeds → script_of limits (array found) ≡ Ok deeds
script_read limits found deeds are fits =
    let reads = λ (d : Data) (deed : Deed). (place : ℕ) → deed_at limits place d ≡ Ok deed in
    let few : nat_lt limits.deeds (count found) ≡ false = grind (arith, nat_tests, count_read reads found deeds are) in
    rw few (each_read reads (deed_at limits) (λ deed. deed) (λ d deed is. is) 0 found deeds are) ∙ ap Ok (map-id deeds)
