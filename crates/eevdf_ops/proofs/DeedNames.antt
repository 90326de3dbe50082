-- What is known of the CPUs that an allowed deed names.
use Rattle.std.proofs.Common.{◌≡◌, ◌≢◌, ℕ, ◌<◌, Bool, true, false, cond, not, List, length, refl, sym, subst, ◌∙◌, arith}
use Rattle.std.specs.Prelude.{◌==◌, nat_lt}
use Rattle.std.proofs.lemmas.Bool.{and_parts, ltb-true, Decides.nat_tests}
use Rattle.eevdf_ops.specs.{Acts.act_of, declared.acts.LocalAct.LocalAct, declared.acts.Transfer.Transfer, declared.deeds.Deed.Deed, Setup.home_of, Setup.is_allowed, Places.AreCpus}
use Rattle.eevdf_ops.specs.declared.acts.Act.TheVariants as act
use Rattle.eevdf_ops.specs.declared.acts.LocalAct.TheVariants as local
use Rattle.eevdf_ops.specs.declared.acts.Transfer.TheVariants as transfer
use Rattle.eevdf_ops.specs.declared.deeds.Deed.TheVariants.{Sleep, Doze, Pull, End}
use Rattle.eevdf_ops.specs.Parts.{decider}

pub unequal : (k c : ℕ) → (k == c) ≡ false → k ≢ c
unequal k c e = grind (arith, nat_tests)

differs : (a b : ℕ) → not (b == a) ≡ true → a ≢ b
differs a b h = grind (arith, nat_tests)

-- what is known of a pull that is allowed
pub record PullNames (cpus cpu source : ℕ) : Type 0 where
  pub puller : cpu < cpus
  pub from : source < cpus
  pub apart : cpu ≢ source

pub pull_names : (cpus : ℕ) (homes : List ℕ) (cpu source : ℕ) → is_allowed cpus homes (Pull cpu source) ≡ true → PullNames cpus cpu source
pull_names cpus homes cpu source ok = record {
  puller = ltb-true cpu cpus (and_parts _ _ ok).0;
  from = ltb-true source cpus (and_parts _ _ (and_parts (nat_lt cpu cpus) _ ok).1).0;
  apart = differs cpu source (and_parts (nat_lt source cpus) _ (and_parts (nat_lt cpu cpus) _ ok).1).1;
}

other_names : (cpus cpu home other : ℕ) (a : LocalAct) (s t : Transfer) (b : Bool) → (home == cpu) ≡ b → cpu < cpus → home < cpus → cond b (act.Local a) (act.Transfer home s) ≡ act.Transfer other t → PullNames cpus cpu other
other_names cpus cpu home other a s t true e h i is = cc
other_names cpus cpu home other a s t false e h i is =
    let to : home ≡ other = cc in
    record { puller = h; from = omega (arith, to, i); apart = λ same. unequal home cpu e (to ∙ sym same) }

pub decider_below : (cpus : ℕ) (homes : List ℕ) (deed : Deed) → is_allowed cpus homes deed ≡ true → decider deed < cpus
decider_below cpus homes deed ok = ltb-true (decider deed) cpus (and_parts _ _ ok).0

pub home_below : (cpus : ℕ) (homes : List ℕ) (cpu task : ℕ) → is_allowed cpus homes (Sleep cpu task) ≡ true → AreCpus cpus homes → home_of homes task < cpus
home_below cpus homes cpu task ok homed = homed task (ltb-true task (length homes) (and_parts (nat_lt cpu cpus) _ ok).1)

-- so it is known of any act on two queues
pub transfer_names : (cpus : ℕ) (homes : List ℕ) (deed : Deed) (other : ℕ) (t : Transfer) → is_allowed cpus homes deed ≡ true → AreCpus cpus homes → act_of homes deed ≡ act.Transfer other t → PullNames cpus (decider deed) other
transfer_names cpus homes (Sleep cpu task) other t ok homed is =
    other_names cpus cpu (home_of homes task) other (local.Sleep task) (transfer.Sleep task) t (home_of homes task == cpu) refl (decider_below cpus homes (Sleep cpu task) ok) (home_below cpus homes cpu task ok homed) is
transfer_names cpus homes (Doze cpu task) other t ok homed is =
    other_names cpus cpu (home_of homes task) other (local.Doze task) (transfer.Sleep task) t (home_of homes task == cpu) refl (decider_below cpus homes (Doze cpu task) ok) (home_below cpus homes cpu task ok homed) is
transfer_names cpus homes (End cpu task) other t ok homed is =
    other_names cpus cpu (home_of homes task) other (local.End task) (transfer.End task) t (home_of homes task == cpu) refl (decider_below cpus homes (End cpu task) ok) (home_below cpus homes cpu task ok homed) is
transfer_names cpus homes (Pull cpu source) other t ok homed is =
    let to : source ≡ other = cc in
    subst (λ (n : ℕ). PullNames cpus cpu n) to (pull_names cpus homes cpu source ok)
transfer_names cpus homes deed other t ok homed is = cc
