use Rattle.std.proofs.Common.{ℕ, List, refl, subst}
use Rattle.eevdf_orders.specs.OrderedWorkload.{RefusesAs}
use Rattle.eevdf_orders.proofs.CutWorkloads.{begun_whole, ordered_as, printed_whole, refused_whole}
use Rattle.eevdf_orders.proofs.ordered_workload.print_ordered.Goals as goal

pub returns-in-Err-ordered-clause-refused : goal.returns-in-Err-ordered-clause-refused
returns-in-Err-ordered-clause-refused g c =
    refused_whole _ c.in-Ok.bytes.items c.in-Err-ordered.fault c.in-Ok.ensures.bytes
    (subst (λ (bytes : List ℕ). RefusesAs bytes c.in-Err-ordered.fault) c.deref.ensures.value c.in-Err-ordered.ensures.refused)

pub returns-in-Ok-write_text-clause-printed : goal.returns-in-Ok-write_text-clause-printed
returns-in-Ok-write_text-clause-printed g c =
    printed_whole c.args.seed _ c.in-Ok.bytes.items c.deref-2.result.now _ _ c.in-Ok.ensures.bytes
    (ordered_as c.args.seed _ _ _ _ c.deref.ensures.value c.deref-2.ensures.value c.in-Ok-ordered.ensures.ordered) c.in-Ok-write_text.ensures.written

pub returns-clause-begun : goal.returns-clause-begun
returns-clause-begun g c e =
    begun_whole c.args.seed _ c.in-Ok.bytes.items c.deref-2.result.now _ _ _ c.in-Ok.ensures.bytes
    (ordered_as c.args.seed _ _ _ _ c.deref.ensures.value c.deref-2.ensures.value c.in-Ok-ordered.ensures.ordered) c.in-Err-write_text.ensures.begun

pub returns-in-Err-ordered-clause-unwritten : goal.returns-in-Err-ordered-clause-unwritten
returns-in-Err-ordered-clause-unwritten g c e = refl
