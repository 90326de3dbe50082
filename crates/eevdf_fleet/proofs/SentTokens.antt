-- What the token of a request shows.
use Rattle.std.proofs.Common.{◌≡◌, inl, inr, ℕ, ◌<◌, List, [], ◌∷◌, ◌++◌, refl, sym, ap, subst, ◌∙◌}
use Rattle.std.specs.Prelude.{Option, Some}
use Rattle.atomic_table.specs.{Seated.TableId, declared.badge.Badge.Badge}
use Rattle.eevdf_ops.specs.{declared.deeds.Deed.Deed, declared.deeds.Line.Line, Parts.decider, Programs.lines_by, Programs.wakes_from}
use Rattle.eevdf_ops.specs.declared.deeds.Deed.TheVariants.{Wake}
use Rattle.eevdf_fleet.specs.declared.board.claims.{Claim.Claim, PostClaim.PostClaim, Said.Said, Terms.Terms, View.View}
use Rattle.eevdf_fleet.specs.declared.board.claims.Claim.TheVariants as claim
use Rattle.eevdf_fleet.specs.declared.board.claims.PostClaim.TheVariants.{Sent}
use Rattle.eevdf_fleet.specs.declared.rings.request.Request.{Request}
use Rattle.eevdf_fleet.specs.Board.{IsToken, claims_in, claims_of, posts_in, posts_of}
use Rattle.eevdf_fleet.specs.Claims.{AllTell, OwesAsked, knowing}
use Rattle.eevdf_fleet.specs.{Fleets.AreParts, Fleets.SeatLog, SeatLogs.KnowsOwn, SeatLogs.own_in, SeatLogs.seen_in}
use Rattle.eevdf_fleet.specs.PostClaims.{HasSent, IsAmong, IsAsked}
use Rattle.eevdf_fleet.specs.Requests.{Follows, IsSent, Source}
use Rattle.eevdf_fleet.specs.Rings.{Posts, Rings, Takes, source_of, taken_from}
use Rattle.eevdf_fleet.specs.TouchedQueues.{IsNoWake}
use Rattle.eevdf_fleet.proofs.Takes.{taken-of}

-- a request's token, under the name of its board and its terms
module _ (source : Source) (home : ℕ) (tasks : List ℕ) (token : Badge View) (sent : IsSent source home tasks token) where
  pub sent-among : HasSent (posts_of token) source.sender home tasks
  sent-among = record {
    lists = sent.lists;
    claimed = subst (λ (vs : List View). IsAmong (Sent source.sender sent.lists) (posts_in vs)) (sym sent.knows) (inl refl);
    are = sent.are;
  }

  pub sent-alone : claims_of token ≡ []
  sent-alone = ap claims_in sent.knows

  pub sent-token : (board : TableId) (t : Terms) → source.board ≡ board → source.terms ≡ Some t → IsToken board t token
  sent-token board t board_is terms_are =
      let views : token.views ≡ knowing t [] (Sent source.sender sent.lists ∷ []) ∷ [] =
      sent.knows ∙ ap (λ (o : Option Terms). record { terms = o; claims = []; posts = Sent source.sender sent.lists ∷ [] } ∷ []) terms_are in
      record { of = sent.of ∙ board_is; knows = views ∙ ap (λ (vs : List View). knowing t (claims_in vs) (posts_in vs) ∷ []) (sym views) }

-- a request that was taken is the next that its CPU's lines don't tell of
pub asked-next : (cpus : ℕ) (log : SeatLog) (p : Posts) (t : Takes) (r : Rings) (at sender cpu : ℕ) (x : Request) → AreParts cpus log p t → at ≡ sender → sender < cpus → cpu ≡ log.cpu
    → Follows (source_of r at) t.home (taken_from t at) x → HasSent (posts_of x.token) sender cpu (wakes_from sender log.lines ++ x.task ∷ [])
asked-next cpus log p t r at sender cpu x h at_is within here follows =
    subst (λ (l : List ℕ). HasSent (posts_of x.token) sender cpu (l ++ x.task ∷ [])) (ap (λ (y : Takes). taken_from y sender) h.takes ∙ taken-of cpus log.cpu log.lines sender within)
    (subst (λ (k : ℕ). HasSent (posts_of x.token) sender k (taken_from t sender ++ x.task ∷ [])) (ap (λ (y : Takes). y.home) h.takes ∙ sym here)
    (subst (λ (k : ℕ). HasSent (posts_of x.token) k t.home (taken_from t k ++ x.task ∷ [])) at_is
    (sent-among (source_of r at) t.home (taken_from t at ++ x.task ∷ []) x.token follows.sent)))

-- it is asked for by more claims too
among-left : (c : PostClaim) (cs ds : List PostClaim) → IsAmong c cs → IsAmong c (cs ++ ds)
among-left c [] ds among = absurd among
among-left c (d ∷ cs) ds (inl same) = inl same
among-left c (d ∷ cs) ds (inr later) = inr (among-left c cs ds later)

among-right : (c : PostClaim) (cs ds : List PostClaim) → IsAmong c ds → IsAmong c (cs ++ ds)
among-right c [] ds among = among
among-right c (d ∷ cs) ds among = inr (among-right c cs ds among)

-- a wake that claims ask for is asked for by others that have as much
asked-more : (own : List Line) (cs ds : List PostClaim) (d : Deed) → ((c : PostClaim) → IsAmong c cs → IsAmong c ds) → IsAsked own cs d → IsAsked own ds d
asked-more own cs ds (Wake cpu task sender) more h = record { lists = h.lists; claimed = more (Sent sender h.lists) h.claimed; are = h.are }
asked-more own cs ds other more h = tt

pub asked-left : (own : List Line) (cs ds : List PostClaim) (d : Deed) → IsAsked own cs d → IsAsked own (cs ++ ds) d
asked-left own cs ds d h = asked-more own cs (cs ++ ds) d (λ c among. among-left c cs ds among) h

pub asked-right : (own : List Line) (cs ds : List PostClaim) (d : Deed) → IsAsked own ds d → IsAsked own (cs ++ ds) d
asked-right own cs ds d h = asked-more own ds (cs ++ ds) d (λ c among. among-right c cs ds among) h

pub no-wake-asked : (own : List Line) (cs : List PostClaim) (d : Deed) → IsNoWake d → IsAsked own cs d
no-wake-asked own cs (Wake cpu task sender) h = absurd h
no-wake-asked own cs other h = tt

-- a line of the log's CPU was asked for, by a token that has the log's claims in front
pub owes-asked : (t : Terms) (cpu : ℕ) (own queues both : List Claim) (mine asking all : List PostClaim) (s : Said) → KnowsOwn t cpu own → decider s.line.deed ≡ cpu → both ≡ own ++ queues → all ≡ mine ++ asking
    → IsAsked (own_in own) asking s.line.deed → OwesAsked t both all s
owes-asked t cpu own queues both mine asking all s knows decides are posts_are asked lines tell =
    let told : AllTell t lines (claim.Past (seen_in own) ∷ claim.Seat cpu (own_in own) ∷ queues) =
    subst (λ (cs : List Claim). AllTell t lines cs) (are ∙ ap (λ (cs : List Claim). cs ++ queues) knows.claims_are) tell in
    subst (λ (k : ℕ). IsAsked (lines_by k lines) all s.line.deed) (sym decides)
    (subst (λ (l : List Line). IsAsked l all s.line.deed) (sym told.1.0)
    (subst (λ (ps : List PostClaim). IsAsked (own_in own) ps s.line.deed) (sym posts_are) (asked-right (own_in own) mine asking s.line.deed asked)))
