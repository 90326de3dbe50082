use Rattle.std.proofs.Common.{◌≡◌, ap, ◌∙◌, rules}
use Rattle.std.specs.Prelude.{ℤ}
use Rattle.std.proofs.lemmas.Int.{to_z-of_z}
use mir.Syntax.{w64}
use mir.Val.{SFits}
use Rattle.eevdf_ops.specs.Machine.{beginner}
use Rattle.eevdf_ops.proofs.Machines.{joins_as_it_begins}
use Rattle.eevdf_ops.proofs.machine_start.begin.Goals as goal
use Rattle.eevdf_ops.proofs.machine_start.begin.Goals.{After-join}

carries : (c : After-join) → c.in_ok-parcel.parcel ≡ beginner c.args.task c.args.spec
carries c =
    let fits : SFits w64 c.args.spec.start = search rules in
    c.in_ok-parcel.ensures ∙ ap (λ (z : ℤ). record (beginner c.args.task c.args.spec) { start = z }) (to_z-of_z w64 c.args.spec.start fits)

pub returns : goal.returns
returns c = c.join.ensures ∙ joins_as_it_begins c.args.task c.args.spec c.in_ok-parcel.parcel c.args.queue.now.state (carries c)
