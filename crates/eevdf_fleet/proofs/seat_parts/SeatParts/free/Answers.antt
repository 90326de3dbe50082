use Rattle.std.proofs.Common.{◌≡◌, ℕ, ap, ◌∙◌, arith}
use Rattle.eevdf_fleet.specs.{Fleets.capacity_of, Fleets.free_at, Rings.Takes, Rings.free_to}
use Rattle.eevdf_fleet.proofs.SeatParts.{own-free, parts-looked, parts-of, parts-untaken, parts-width, seat-looked}
use Rattle.eevdf_fleet.proofs.seat_parts.SeatParts.free.Goals as goal
use Rattle.eevdf_fleet.proofs.seat_parts.SeatParts.free.Goals.{After-free_own}

-- the home is the seat's own CPU
own : (g : _) (c : After-free_own g) → c.self.inside.consumers.home ≡ c.args.home
own g c = omega (arith, ap (λ (t : Takes). t.home) c.self.invariant.0.takes, c.cpu.ensures.cpu, c.get.ensures.number, c.get-2.ensures.number, c.if-get.true)

pub free_own-requires-clause-sender : goal.free_own-requires-clause-sender
free_own-requires-clause-sender g c =
    omega (arith, parts-width _ _ _ _ c.self.invariant.0, ap (λ (t : Takes). t.home) c.self.invariant.0.takes, c.self.invariant.0.within)

pub free-requires : goal.free-requires
free-requires g c = omega (arith, c.index.ensures.number, c.requires, c.self.invariant.0.posts.to_all)

pub invariant_of-self : goal.invariant_of-self
invariant_of-self g c =
    parts-of g.N.Names.kit _ _ _ _ _ _ _
    (parts-untaken _ _ _ _ _ _ _ c.free_own.ensures.producers c.free_own.ensures.takes c.self.invariant.0)
    c.self.invariant

pub invariant_of-self-else-get : goal.invariant_of-self-else-get
invariant_of-self-else-get g c =
    parts-of g.N.Names.kit _ _ _ _ _ _ _ (parts-looked _ _ _ _ _ _ c.free.ensures.looked c.self.invariant.0) c.self.invariant

pub returns-then-get-clause-looked : goal.returns-then-get-clause-looked
returns-then-get-clause-looked g c = seat-looked _ _ _ _ _ c.free_own.ensures.producers c.self.view_is

pub returns-else-get-clause-looked : goal.returns-else-get-clause-looked
returns-else-get-clause-looked g c = seat-looked _ _ _ _ _ c.free.ensures.looked c.self.view_is

pub returns-then-get-clause-free : goal.returns-then-get-clause-free
returns-then-get-clause-free g c =
    c.free_own.ensures.free ∙ ap (λ (n : ℕ). free_to c.free_own.new.producers n) (own g (goal.at.returns-then-get-clause-free g c).After-free_own)

pub returns-else-get-clause-free : goal.returns-else-get-clause-free
returns-else-get-clause-free g c = c.free.ensures.free ∙ ap (λ (n : ℕ). free_at c.free.new.self.free n) c.index.ensures.number

pub returns-then-get-clause-own : goal.returns-then-get-clause-own
returns-then-get-clause-own g c = λ some here.
    own-free _ _ _ _ _ c.args.home (capacity_of g.N.Names.kit) c.free_own.result c.self.invariant.0 c.self.view_is here (c.free_own.ensures.all some)
