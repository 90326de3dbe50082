-- What was seen at two moments is of one history.
use Rattle.std.proofs.Common.{◌≡◌, ◌⊎◌, List, [], ◌∷◌, refl, ⊎_elim, inl, inr}
use base.Growing.{prefix_refl}
use mathlib.Core.List.{IsPrefix}
use Rattle.eevdf_ops.specs.declared.deeds.Line.{Line}
use Rattle.eevdf_fleet.specs.declared.board.claims.{Claim.Claim, Terms.Terms}
use Rattle.eevdf_fleet.specs.declared.board.claims.Claim.TheVariants.{Past}
use Rattle.eevdf_fleet.specs.{Board.HasLooked, Claims.IsOnTerms, Endless.Agree}
use Rattle.eevdf_fleet.proofs.EndlessSeats.{one-thread}

-- of two beginnings of one list one begins the other
pub in-line : {X : Type 0} (xs ys all : List X) → IsPrefix xs all → IsPrefix ys all → IsPrefix xs ys ⊎ IsPrefix ys xs
in-line [] ys all h k = inl (ys, refl)
in-line (x ∷ xs) [] all h k = inr (x ∷ xs, refl)
in-line (x ∷ xs) (y ∷ ys) [] h k = absurd (cc (h.1))
in-line (x ∷ xs) (y ∷ ys) (z ∷ all) h k =
    let same : x ≡ y = cc (h.1, k.1) in
    ⊎_elim
    (λ (p : IsPrefix xs ys). inl (p.0, cc (same, p.1)))
    (λ (p : IsPrefix ys xs). inr (p.0, cc (same, p.1)))
    (in-line xs ys all (h.0, cc (h.1)) (k.0, cc (k.1)))

pub agreed : (t : Terms) (seen other : List Line) (after : List Claim) → IsOnTerms t seen → IsOnTerms t other → HasLooked t (Past seen ∷ Past other ∷ []) after → Agree t.setup.value seen other
agreed t seen other after kept other_kept looked =
    ⊎_elim
    (λ (p : IsPrefix seen other). record { lines = other; one_thread = one-thread t other other_kept; begins = p; other_begins = prefix_refl other; longer = inr refl })
    (λ (p : IsPrefix other seen). record { lines = seen; one_thread = one-thread t seen kept; begins = prefix_refl seen; other_begins = p; longer = inl refl })
    (in-line seen other looked.lines looked.known.tell.0 looked.known.tell.1.0)
