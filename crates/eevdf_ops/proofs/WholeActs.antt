-- A deed done at once is what its CPU does, done at once.
use Rattle.std.proofs.Common.{◌≡◌, ◌≢◌, ℕ, ◌<◌, Bool, true, false, cond, List, length, set, refl, ap, ◌∙◌, arith}
use Rattle.std.specs.Prelude.{◌==◌}
use Rattle.std.proofs.{Math.ListN.length-set, lemmas.List.get_or-set_same, lemmas.List.get_or-set_other}
use Rattle.eevdf_queue.specs.State.{State, empty_state}
use Rattle.eevdf_ops.specs.{declared.acts.Act.Act, declared.deeds.Deed.Deed, declared.deeds.Answer.Answer, Setup.home_of, Machine.Machine}
use Rattle.eevdf_ops.specs.{Machine.queue_at, Acts.act_of, Parts.decider, Whole.whole, Whole.at_two, Whole.done_at}
use Rattle.eevdf_ops.specs.{declared.acts.LocalAct.LocalAct, declared.acts.Transfer.Transfer}
use Rattle.eevdf_ops.specs.declared.deeds.Deed.TheVariants.{Sleep, Doze, End}
use Rattle.eevdf_ops.specs.declared.acts.Act.TheVariants as act
use Rattle.eevdf_ops.specs.declared.acts.LocalAct.TheVariants as local
use Rattle.eevdf_ops.specs.declared.acts.Transfer.TheVariants as transfer
use Rattle.eevdf_ops.proofs.{MapCounts.equal, DeedNames.unequal}

-- by what the deed does
pub whole-by : (homes : List ℕ) (deed : Deed) (m : Machine) (cpu : ℕ) (a : Act) → act_of homes deed ≡ a → decider deed ≡ cpu → whole homes deed m ≡ done_at cpu a m
whole-by homes deed m cpu a is own = ap (λ (x : Act). done_at (decider deed) x m) is ∙ ap (λ (n : ℕ). done_at n a m) own

by_home : (P : Answer × Machine → Type 0) (m : Machine) (cpu home : ℕ) (a : LocalAct) (t : Transfer) (b : Bool) → (home == cpu) ≡ b → (home ≡ cpu → P (done_at cpu (act.Local a) m))
    → (home ≢ cpu → P (done_at cpu (act.Transfer home t) m)) → P (done_at cpu (cond b (act.Local a) (act.Transfer home t)) m)
by_home P m cpu home a t true e here away = here (equal home cpu e)
by_home P m cpu home a t false e here away = away (unequal home cpu e)

-- a sleep is on the CPU that is the task's home, or on another one
pub sleep_by_home : (P : Answer × Machine → Type 0) (homes : List ℕ) (cpu task : ℕ) (m : Machine) → (home_of homes task ≡ cpu → P (done_at cpu (act.Local (local.Sleep task)) m))
    → (home_of homes task ≢ cpu → P (done_at cpu (act.Transfer (home_of homes task) (transfer.Sleep task)) m)) → P (whole homes (Sleep cpu task) m)
sleep_by_home P homes cpu task m here away = by_home P m cpu (home_of homes task) (local.Sleep task) (transfer.Sleep task) (home_of homes task == cpu) refl here away

-- and so is a doze, which is a sleep there
pub doze_by_home : (P : Answer × Machine → Type 0) (homes : List ℕ) (cpu task : ℕ) (m : Machine) → (home_of homes task ≡ cpu → P (done_at cpu (act.Local (local.Doze task)) m))
    → (home_of homes task ≢ cpu → P (done_at cpu (act.Transfer (home_of homes task) (transfer.Sleep task)) m)) → P (whole homes (Doze cpu task) m)
doze_by_home P homes cpu task m here away = by_home P m cpu (home_of homes task) (local.Doze task) (transfer.Sleep task) (home_of homes task == cpu) refl here away

-- and an end
pub end_by_home : (P : Answer × Machine → Type 0) (homes : List ℕ) (cpu task : ℕ) (m : Machine) → (home_of homes task ≡ cpu → P (done_at cpu (act.Local (local.End task)) m))
    → (home_of homes task ≢ cpu → P (done_at cpu (act.Transfer (home_of homes task) (transfer.End task)) m)) → P (whole homes (End cpu task) m)
end_by_home P homes cpu task m here away = by_home P m cpu (home_of homes task) (local.End task) (transfer.End task) (home_of homes task == cpu) refl here away

-- where two queues are left, each is found as it was left
pub two-left : (m : Machine) (cpu other : ℕ) (r : Answer × (State × State)) → cpu ≢ other → cpu < length m → other < length m
    → (queue_at (at_two m cpu other r).1 cpu ≡ r.1.0) × (queue_at (at_two m cpu other r).1 other ≡ r.1.1)
two-left m cpu other r apart h i = (
  get_or-set_other (set m cpu r.1.0) other cpu r.1.1 empty_state apart ∙ get_or-set_same m cpu r.1.0 empty_state h,
  get_or-set_same (set m cpu r.1.0) other r.1.1 empty_state (omega (arith, length-set m cpu r.1.0, i)),
)
