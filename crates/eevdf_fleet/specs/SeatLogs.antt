-- What a seat knows of its CPU's lines.
use Rattle.std.specs.Prelude.{◌≡◌, ℕ, ◌+◌, ◌≤◌, List, [], ◌∷◌, length, Option, Some, None, vec_capacity}
use Rattle.eevdf_ops.specs.declared.deeds.Line.{Line}
use Rattle.eevdf_fleet.specs.{declared.board.claims.Terms.Terms, declared.board.claims.Claim.Claim}
use Rattle.eevdf_fleet.specs.declared.board.claims.Claim.TheVariants.{Seat, Queue, Journal, Past}
use Rattle.std.specs.{declared.alloc.Global.Global, declared.vec.Vec.Vec}
use Rattle.eevdf_fleet.specs.Board.{Known}

-- the lines that the first claim says to be past
abbrev pub seen_in : List Claim → List Line
seen_in [] = []
seen_in (Past seen ∷ claims) = seen
seen_in (Seat cpu own ∷ claims) = []
seen_in (Queue cpu q ∷ claims) = []
seen_in (Journal all ∷ claims) = []

-- the lines that the first claim says to be a CPU's
abbrev pub first_own : List Claim → List Line
first_own [] = []
first_own (Seat cpu own ∷ claims) = own
first_own (Past seen ∷ claims) = []
first_own (Queue cpu q ∷ claims) = []
first_own (Journal all ∷ claims) = []

-- the same of the second claim
abbrev pub own_in : List Claim → List Line
own_in [] = []
own_in (c ∷ claims) = first_own claims

-- the claims are of the past and of a CPU's lines, and hold of what is past
pub record KnowsOwn (t : Terms) (cpu : ℕ) (claims : List Claim) : Type 0 where
  pub claims_are : claims ≡ Past (seen_in claims) ∷ Seat cpu (own_in claims) ∷ []
  pub known : Known t (seen_in claims) claims

-- the lines are there at run time, with room for as many as the quota allows: where there is a quota
abbrev pub IsRecord : Option ℕ → List Line → Vec Line Global → ℕ → Type 0
IsRecord None own lines room = (lines.items ≡ []) × (room ≡ 0)
IsRecord (Some most) own lines room = (lines.items ≡ own) × (length own + room ≡ most) × (most ≤ vec_capacity lines)
