-- What was posted at one moment and seen at another is of one history.
use Rattle.std.proofs.Common.{◌≡◌, ◌==◌, ℕ, List, [], ◌∷◌, sym, ap, subst, ◌∙◌}
use Rattle.std.proofs.lemmas.List.Elements.{filter-append}
use base.Growing.{prefix_trans}
use mathlib.Core.List.{IsPrefix}
use Rattle.eevdf_ops.specs.{declared.deeds.Line.Line, Parts.decider, Programs.lines_by, Programs.wakes_from}
use Rattle.eevdf_fleet.specs.declared.board.claims.{Claim.Claim, PostClaim.PostClaim, Terms.Terms}
use Rattle.eevdf_fleet.specs.declared.board.claims.Claim.TheVariants.{Past}
use Rattle.eevdf_fleet.specs.declared.board.claims.PostClaim.TheVariants.{Posts, Sent}
use Rattle.eevdf_fleet.specs.{Board.HasCompared, Claims.AllTell, Endless.AgreeOnPosts, PostClaims.AllSay, PostClaims.tasks_to}
use Rattle.eevdf_fleet.proofs.{SeenLines.in-line, Takes.wakes-append}

-- fewer lines have the first wakes
wakes-begin : (sender home : ℕ) (seen lines : List Line) → IsPrefix seen lines → IsPrefix (wakes_from sender (lines_by home seen)) (wakes_from sender (lines_by home lines))
wakes-begin sender home seen lines h = (
  wakes_from sender (lines_by home h.0),
  sym (wakes-append sender (lines_by home seen) (lines_by home h.0)) ∙ ap (λ (l : List Line). wakes_from sender l) (sym (filter-append (λ (l : Line). decider l.deed == home) seen h.0))
      ∙ ap (λ (l : List Line). wakes_from sender (lines_by home l)) h.1,
)

pub posts-agree : (t : Terms) (seen : List Line) (sender : ℕ) (lists : List (List ℕ)) (more : List PostClaim) (claims : List Claim) (posts : List PostClaim) → claims ≡ Past seen ∷ [] → posts ≡ Sent sender lists ∷ more
    → HasCompared t claims posts → AgreeOnPosts seen (record { sender = sender; posted = lists })
posts-agree t seen sender lists more claims posts claims_are posts_are compared home =
    let tell : AllTell t compared.lines (Past seen ∷ []) = subst (λ (cs : List Claim). AllTell t compared.lines cs) claims_are compared.known.tell in
    let say : AllSay compared.posted (Sent sender lists ∷ more) = subst (λ (ps : List PostClaim). AllSay compared.posted ps) posts_are compared.say in
    in-line (wakes_from sender (lines_by home seen)) (tasks_to lists home) (tasks_to (compared.posted sender) home)
    (prefix_trans _ _ _ (wakes-begin sender home seen compared.lines tell.0) (compared.asked sender home)) (say.0 home)

pub own-posts-agree : (t : Terms) (seen : List Line) (sender : ℕ) (lists : List (List ℕ)) (more : List Claim) (claims : List Claim) (posts : List PostClaim) → claims ≡ Past seen ∷ more → posts ≡ Posts sender lists ∷ []
    → HasCompared t claims posts → (home : ℕ) → IsPrefix (wakes_from sender (lines_by home seen)) (tasks_to lists home)
own-posts-agree t seen sender lists more claims posts claims_are posts_are compared home =
    let tell : AllTell t compared.lines (Past seen ∷ more) = subst (λ (cs : List Claim). AllTell t compared.lines cs) claims_are compared.known.tell in
    let say : AllSay compared.posted (Posts sender lists ∷ []) = subst (λ (ps : List PostClaim). AllSay compared.posted ps) posts_are compared.say in
    prefix_trans _ _ _ (wakes-begin sender home seen compared.lines tell.0)
    (subst (λ (ls : List (List ℕ)). IsPrefix (wakes_from sender (lines_by home compared.lines)) (tasks_to ls home)) say.0 (compared.asked sender home))
