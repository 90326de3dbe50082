use Rattle.std.proofs.Common.{map, sym, inr}
use Rattle.std.proofs.lemmas.List.{length-map}
use Rattle.rtrb.specs.Ring.{known_free, known_items, received, sent}
use Rattle.eevdf_free_tasks.specs.Parts.{Part}
use Rattle.eevdf_free_tasks.proofs.Parts.{taken-after}
use Rattle.eevdf_free_tasks.proofs.free_part.FreePart.take.Goals as goal

pub returns-clause-some : goal.returns-clause-some
returns-clause-some c =
    let before : Part = record {
      cpu = c.self.inside.cpu;
      homes = c.self.inside.homes.items;
      own = c.self.inside.own;
      sent = map sent c.self.inside.producers.items;
      free = map known_free c.self.inside.producers.items;
      received = map received c.self.inside.consumers.items;
      waiting = map known_items c.self.inside.consumers.items;
    } in
    rw (← c.self.view_is) (taken-after before c.take-2.new.self c.take-2.result
    (inr (c.in_default.ensures.none, sym (length-map c.self.inside.consumers.items received), c.receive_all.ensures.emptied)) c.receive_all.ensures.come c.in_default.ensures.unchanged c.take-2.ensures.was_free c.take-2.ensures.taken)
