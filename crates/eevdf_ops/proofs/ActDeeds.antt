-- Which queues a deed touches, by the act that it is.
use Rattle.std.proofs.Common.{◌≡◌, ℕ, Bool, true, false, cond, ◌||◌, List, refl, ap, ◌∙◌}
use Rattle.std.specs.Prelude.{◌==◌}
use Rattle.eevdf_ops.specs.{declared.acts.LocalAct.LocalAct, declared.acts.Transfer.Transfer, declared.deeds.Deed.Deed, Setup.home_of}
use Rattle.eevdf_ops.specs.declared.acts.Act.TheVariants as act
use Rattle.eevdf_ops.specs.declared.acts.LocalAct.TheVariants as local
use Rattle.eevdf_ops.specs.declared.acts.Transfer.TheVariants as transfer
use Rattle.eevdf_ops.specs.declared.deeds.Deed.TheVariants.{Sleep, Doze, Pull, End}
use Rattle.eevdf_ops.specs.{Acts.act_of, Parts.decider, Parts.touches}
use Rattle.eevdf_ops.proofs.MapCounts.{equal}

once-only : (x : Bool) → (x || (x || x)) ≡ x
once-only true = refl
once-only false = refl

first-twice : (x y : Bool) → (x || (x || y)) ≡ (x || y)
first-twice true y = refl
first-twice false y = refl

first-last : (x y : Bool) → (x || (y || x)) ≡ (x || y)
first-last true y = refl
first-last false true = refl
first-last false false = refl

one-touches : (cpu home c : ℕ) (b : Bool) (s a : LocalAct) (t : Transfer) → (home == cpu) ≡ b → cond b (act.Local s) (act.Transfer home t) ≡ act.Local a
    → ((c == cpu) || ((c == cpu) || (c == home))) ≡ (c == cpu)
one-touches cpu home c true s a t e is = ap (λ (n : ℕ). (c == cpu) || ((c == cpu) || (c == n))) (equal home cpu e) ∙ once-only (c == cpu)
one-touches cpu home c false s a t e is = cc

-- the one queue that is touched
pub local-touches : (homes : List ℕ) (d : Deed) (a : LocalAct) (c : ℕ) → act_of homes d ≡ act.Local a → touches homes d c ≡ (c == decider d)
local-touches homes (Sleep cpu task) a c is = one-touches cpu (home_of homes task) c (home_of homes task == cpu) (local.Sleep task) a (transfer.Sleep task) refl is
local-touches homes (Doze cpu task) a c is = one-touches cpu (home_of homes task) c (home_of homes task == cpu) (local.Doze task) a (transfer.Sleep task) refl is
local-touches homes (End cpu task) a c is = one-touches cpu (home_of homes task) c (home_of homes task == cpu) (local.End task) a (transfer.End task) refl is
local-touches homes (Pull cpu source) a c is = cc
local-touches homes deed a c is = once-only (c == decider deed)

one-elsewhere : (cpu home other c : ℕ) (b : Bool) (a : LocalAct) (s t : Transfer) → cond b (act.Local a) (act.Transfer home s) ≡ act.Transfer other t
    → ((c == cpu) || ((c == cpu) || (c == home))) ≡ ((c == cpu) || (c == other))
one-elsewhere cpu home other c true a s t is = cc
one-elsewhere cpu home other c false a s t is =
    let to : home ≡ other = cc in
    first-twice (c == cpu) (c == home) ∙ ap (λ (n : ℕ). (c == cpu) || (c == n)) to

-- the two queues that are touched
pub across-touches : (homes : List ℕ) (d : Deed) (other : ℕ) (t : Transfer) (c : ℕ) → act_of homes d ≡ act.Transfer other t → touches homes d c ≡ ((c == decider d) || (c == other))
across-touches homes (Sleep cpu task) other t c is = one-elsewhere cpu (home_of homes task) other c (home_of homes task == cpu) (local.Sleep task) (transfer.Sleep task) t is
across-touches homes (Doze cpu task) other t c is = one-elsewhere cpu (home_of homes task) other c (home_of homes task == cpu) (local.Doze task) (transfer.Sleep task) t is
across-touches homes (End cpu task) other t c is = one-elsewhere cpu (home_of homes task) other c (home_of homes task == cpu) (local.End task) (transfer.End task) t is
across-touches homes (Pull cpu source) other t c is =
    let from : source ≡ other = cc in
    first-last (c == cpu) (c == source) ∙ ap (λ (n : ℕ). (c == cpu) || (c == n)) from
across-touches homes deed other t c is = cc
