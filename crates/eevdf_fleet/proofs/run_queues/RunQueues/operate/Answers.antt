use Rattle.std.proofs.Common.{◌≡◌, ℕ, true, sym, subst, ◌∙◌}
use Rattle.eevdf_fleet.specs.{Fleets.setup_of, Tried.has_what}
use Rattle.eevdf_fleet.proofs.OperationDeeds.{allowed-deed, own-deed}
use Rattle.eevdf_fleet.proofs.run_queues.RunQueues.operate.Goals as goal

pub own-requires-clause-own : goal.own-requires-clause-own
own-requires-clause-own g c = own-deed c.cpu.result c.args.op c.in-Some.deed (sym c.on.ensures ∙ c.in-Some.is) ∙ c.cpu.ensures.cpu

pub own-requires-clause-allowed : goal.own-requires-clause-allowed
own-requires-clause-allowed g c =
    allowed-deed (setup_of g.N.Names.kit) c.cpu.result c.args.op c.in-Some.deed c.cpu.ensures.below
    (subst (λ (cpu : ℕ). has_what (setup_of g.N.Names.kit) cpu c.args.op ≡ true) (sym c.cpu.ensures.cpu) c.requires.named) (sym c.on.ensures ∙ c.in-Some.is)

pub across-requires-clause-own : goal.across-requires-clause-own
across-requires-clause-own g c = own-deed c.cpu.result c.args.op c.in-Some.deed (sym c.on.ensures ∙ c.in-Some.is) ∙ c.cpu.ensures.cpu

pub across-requires-clause-allowed : goal.across-requires-clause-allowed
across-requires-clause-allowed g c =
    allowed-deed (setup_of g.N.Names.kit) c.cpu.result c.args.op c.in-Some.deed c.cpu.ensures.below
    (subst (λ (cpu : ℕ). has_what (setup_of g.N.Names.kit) cpu c.args.op ≡ true) (sym c.cpu.ensures.cpu) c.requires.named) (sym c.on.ensures ∙ c.in-Some.is)
