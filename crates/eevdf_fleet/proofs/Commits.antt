-- What a commit leaves known.
use Rattle.std.proofs.Common.{◌≡◌, ℕ, List, [], ◌∷◌, ◌++◌, take, drop, sym, ap, subst, ◌∙◌, arith}
use Rattle.eevdf_ops.specs.declared.deeds.Line.{Line}
use Rattle.eevdf_fleet.specs.{declared.board.claims.Terms.Terms, declared.board.claims.Claim.Claim, declared.board.claims.Said.Said}
use Rattle.eevdf_fleet.specs.{Board.HasAppended, Board.Known, SeatLogs.seen_in}
use Rattle.eevdf_fleet.proofs.{ClaimsTold.tell-drop, Totals.times-parts}

known-drop : (t : Terms) (lines : List Line) (n : ℕ) (cs : List Claim) → Known t lines cs → Known t lines (drop n cs)
known-drop t lines n cs known = record { kept = known.kept; tell = tell-drop t lines n cs known.tell; once = λ k. omega (arith, known.once k, times-parts k n cs) }

-- what is known of the other claims once a line is committed, by what the seat has seen
pub known-after : (t : Terms) (s : Said) (before after own others : List Claim) → HasAppended t s before after → own ≡ take 2 after → others ≡ drop 2 after → Known t (seen_in own) others
known-after t s before after own others appended own_is others_is =
    let lines : List Line = appended.lines ++ s.line ∷ [] in
    let seen : lines ≡ seen_in own = sym (ap seen_in own_is ∙ ap (λ (cs : List Claim). seen_in (take 2 cs)) appended.claims) in
    subst (λ (cs : List Claim). Known t (seen_in own) cs) (sym others_is) (subst (λ (l : List Line). Known t l (drop 2 after)) seen (known-drop t lines 2 after appended.more))
