-- How long a sweep stays good.
use Rattle.std.proofs.Common.{◌≡◌, ◌≢◌, ℕ, ◌+◌, ◌≤◌, Bool, true, false, List, [], ◌∷◌, refl, ap, arith}
use Rattle.std.specs.Prelude.{◌==◌}
use Rattle.std.proofs.lemmas.Bool.Decides.{nat_tests}
use Rattle.eevdf_ops.specs.{declared.deeds.Deed.Deed, declared.deeds.Deed.TheVariants.Pull}
use Rattle.eevdf_ops.specs.{Machine.Machine, Places.count, Whole.whole, Whole.machine_after, Histories.machine_told}
use Rattle.eevdf_balance.specs.Crowds.{tasks_at, IsIdle, IsCrowded, comes}
use Rattle.eevdf_balance.specs.Sweeps.{ComeToIdle, OneSweepConserves, NoneIdlesBesideCrowded}
use Rattle.eevdf_balance.proofs.{Counts.at_most_one, Crowds.told-by-line, Excuses.few-after, Excuses.refusal_is_excused_in_history}

-- a CPU that has one task at most has no more after a deed by which tasks come only to CPUs that have nothing
kept_by : (b : Bool) (n n' : ℕ) → n' ≤ n + count b → (b ≡ true → n ≡ 0) → n ≤ 1 → n' ≤ 1
kept_by true n n' step idle few = let none = idle refl in omega (arith, step, none)
kept_by false n n' step idle few = omega (arith, step, few)

stays-few : (homes : List ℕ) (m : Machine) (source : ℕ) (later : List Deed) → ComeToIdle homes m later → tasks_at m source ≤ 1 → tasks_at (machine_after homes m later) source ≤ 1
stays-few homes m source [] come few = few
stays-few homes m source (d ∷ ds) come few =
    stays-few homes (whole homes d m).1 source ds come.1
    (kept_by (comes source d (whole homes d m).0) (tasks_at m source) (tasks_at (whole homes d m).1 source) (told-by-line homes d m source).0 (come.0 source) few)

pub one_sweep_conserves : OneSweepConserves
one_sweep_conserves homes m cpu source later idle refused come = stays-few homes (whole homes (Pull cpu source) m).1 source later come (few-after homes m cpu source idle refused)

by_number : (m : Machine) (cpu source : ℕ) (b : Bool) → (source == cpu) ≡ b → IsIdle m cpu → (source ≢ cpu → IsCrowded m source → ⊥) → tasks_at m source ≤ 1
by_number m cpu source true e idle other = let same : source ≡ cpu = grind (arith, nat_tests) in omega (arith, ap (tasks_at m) same, idle)
by_number m cpu source false e idle other = at_most_one (tasks_at m source) (other (λ same. let not : ⊥ = grind (arith, nat_tests) in not))

pub none_idles_beside_crowded : NoneIdlesBesideCrowded
none_idles_beside_crowded cpus homes start lines cpu since history idle swept none source there =
    by_number (machine_told homes start lines) cpu source (source == cpu) refl idle
    (λ other crowded. let came = refusal_is_excused_in_history homes start lines cpu source (since source) history (swept.tried source there other) crowded in omega (arith, came, none source))
