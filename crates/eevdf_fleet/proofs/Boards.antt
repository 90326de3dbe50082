-- Each step keeps the rule of the board.
use Rattle.std.proofs.Common.{◌≡◌, ◌≢◌, ℕ, ◌+◌, List, [], ◌∷◌, ◌++◌, map, set, take, drop, refl, sym, subst, ◌∙◌, ⊎_elim, arith}
use Rattle.std.specs.Prelude.{Option, Some, None, IfSome}
use mathlib.Core.Option as option
use lib.ListN.{get_elem?}
use base.Growing.{prefix_refl}
use Rattle.atomic_table.specs.Table.{Step, step, keeps, Allows, Splits, Joins}
use Rattle.atomic_table.proofs.Lists.{at_set, at_snoc, set_again, set_else}
use Rattle.eevdf_ops.specs.{declared.deeds.Line.Line}
use Rattle.eevdf_fleet.specs.{declared.board.claims.Terms.Terms, declared.board.claims.Claim.Claim, declared.board.claims.View.View}
use Rattle.eevdf_fleet.specs.declared.board.claims.{PostClaim.PostClaim, Said.Said}
use Rattle.eevdf_fleet.specs.declared.board.claims.PostClaim.TheVariants.{Posts, Sent}
use Rattle.eevdf_fleet.specs.PostClaims.{AllBegin, AllSay, ArePosted, posts_times, sent_in, with_task}
use Rattle.eevdf_fleet.specs.declared.board.claims.Claim.TheVariants.{Seat, Queue, Journal, Past}
use Rattle.eevdf_fleet.specs.Claims.{Subject, times, told, AllTell, Owes, OwesAsked, advanced, knowing, nothing}
use Rattle.eevdf_fleet.specs.Board.{ViewTells, IsOneHistory, Rule, Appended, Compared, HasAppended, Known, Looked, claims_alone, first_claims, first_past, first_posts, joined, other_claims, other_posts, past_claims, posted_more, posts_alone, recalled, same_view, sent_by, shared, shared_claims}
use Rattle.eevdf_fleet.proofs.ClaimsTold.{all_advance, all_agree, all_stay, kept-more, suited, tell-append, tell-drop, tell-held, tell-take}
use Rattle.eevdf_fleet.proofs.PostsClaimed.{posted-cut, posted-join, posted-lines, posted-more, posted-set, say-drop, say-take}
use Rattle.eevdf_fleet.proofs.PostsClaimed as posts
use Rattle.eevdf_fleet.proofs.Totals.{total-set, total-append, times-append, times-at, times-two, times-advanced, times-parts, times-past, times-recalled, times-shared}

-- one view changes, and the rule holds of each
fits-set : (t : Terms) (lines : List Line) (views : List View) (id : ℕ) (w : View)
    → ((j : ℕ) (u : View) → j ≢ id → get_elem? views j ≡ option.some u → ViewTells t lines u) → ViewTells t lines w
    → (j : ℕ) (u : View) → get_elem? (set views id w) j ≡ option.some u → ViewTells t lines u
fits-set t lines views id w others mine j u e =
    ⊎_elim
    (λ (x : (j ≡ id) × (w ≡ u)). subst (λ (y : View). ViewTells t lines y) x.1 mine)
    (λ (x : (j ≢ id) × (get_elem? views j ≡ option.some u)). others j u x.0 x.1)
    (at_set views id j w u e)

known : (t : Terms) (cs : List Claim) (ps : List PostClaim) (views : List View) (id : ℕ) → get_elem? views id ≡ option.some (knowing t cs ps) → (h : IsOneHistory t views) → Known t h.lines cs
known t cs ps views id at h = record {
  kept = h.kept;
  tell = (h.fits id (knowing t cs ps) at).1;
  once = λ k. omega (arith, times-at k views id (knowing t cs ps) at, h.once k);
}

-- the lines so far may be claimed to be past
tell-recalled : (t : Terms) (lines : List Line) (cs : List Claim) → AllTell t lines cs → AllTell t lines (recalled lines cs)
tell-recalled t lines cs h = (prefix_refl lines, tell-held t lines cs h)

-- a line is committed
appended : (t : Terms) (cs : List Claim) (ps : List PostClaim) (s : Said) (views : List View) (id : ℕ) → Owes t cs s × OwesAsked t cs ps s → get_elem? views id ≡ option.some (knowing t cs ps) → (h : IsOneHistory t views)
    → IsOneHistory t (set views id (knowing t (recalled (h.lines ++ s.line ∷ []) (map (advanced s) cs)) ps))
appended t cs ps s views id owed at h =
    let v : View = knowing t cs ps in
    let lines : List Line = h.lines in
    let w : View = knowing t (recalled (lines ++ s.line ∷ []) (map (advanced s) cs)) ps in
    let tell : AllTell t lines cs = (h.fits id v at).1 in
    record {
      lines = lines ++ s.line ∷ [];
      kept = kept-more t lines cs s h.kept tell owed.0;
      fits = fits-set t (lines ++ s.line ∷ []) views id w
          (λ j u apart e. ((h.fits j u e).0, all_stay t lines s.line u.claims (λ k touched. omega (arith, owed.0.claimed k touched, times-two k views id j v u apart at e, h.once k)) (h.fits j u e).1)) (
            refl,
            tell-recalled t (lines ++ s.line ∷ []) (map (advanced s) cs)
                (all_advance t lines s cs tell (owed.0.changes (told t lines) (suited t lines cs s h.kept owed.0) (all_agree t lines cs tell))),
          );
      once = λ k. omega (arith, total-set k views id v w at, times-recalled k (lines ++ s.line ∷ []) (map (advanced s) cs), times-advanced k s cs, h.once k);
      posted = posted-set (lines ++ s.line ∷ []) views id v w at refl (posted-lines lines s.line views id v at (owed.1 lines tell) h.posted);
    }

has-appended : (t : Terms) (cs : List Claim) (ps : List PostClaim) (s : Said) (views : List View) (id : ℕ) (owed : Owes t cs s × OwesAsked t cs ps s) (at : get_elem? views id ≡ option.some (knowing t cs ps)) (h : IsOneHistory t views)
    → HasAppended t s cs (recalled (h.lines ++ s.line ∷ []) (map (advanced s) cs))
has-appended t cs ps s views id owed at h =
    let was : Known t h.lines cs = known t cs ps views id at h in
    record {
      lines = h.lines;
      known = was;
      more = record {
        kept = kept-more t h.lines cs s was.kept was.tell owed.0;
        tell = tell-recalled t (h.lines ++ s.line ∷ []) (map (advanced s) cs)
            (all_advance t h.lines s cs was.tell (owed.0.changes (told t h.lines) (suited t h.lines cs s h.kept owed.0) (all_agree t h.lines cs was.tell)));
        once = λ k. omega (arith, times-recalled k (h.lines ++ s.line ∷ []) (map (advanced s) cs), times-advanced k s cs, was.once k);
      };
      claims = refl;
    }

pub appends : (t : Terms) (slots id : ℕ) (cs : List Claim) (ps : List PostClaim) (said : Option Said) (step : Step (Unit {0})) → IfSome said (λ (s : Said). Owes t cs s × OwesAsked t cs ps s)
    → Allows (Rule t) slots id (knowing t cs ps, []) 0 (λ n. n) (Appended said step (knowing t cs ps, []))
appends t slots id cs ps None step owed state h many at small = (
  knowing t cs ps,
  keeps,
  tt,
  subst (λ (vs : List View). IsOneHistory t vs) (sym (set_again state.views id (knowing t cs ps) at)) h,
  (refl, refl, refl, tt),
)
appends t slots id cs ps (Some s) step owed state h many at small = (
  knowing t (recalled (h.lines ++ s.line ∷ []) (map (advanced s) cs)) ps,
  keeps,
  tt,
  appended t cs ps s state.views id owed at h,
  (refl, refl, refl, has-appended t cs ps s state.views id owed at h),
)

-- the lines so far are known
looked : (t : Terms) (cs : List Claim) (ps : List PostClaim) (views : List View) (id : ℕ) → get_elem? views id ≡ option.some (knowing t cs ps) → (h : IsOneHistory t views)
    → IsOneHistory t (set views id (knowing t (recalled h.lines cs) ps))
looked t cs ps views id at h =
    let v : View = knowing t cs ps in
    let w : View = knowing t (recalled h.lines cs) ps in
    record {
      lines = h.lines;
      kept = h.kept;
      fits = fits-set t h.lines views id w (λ j u apart e. h.fits j u e) (refl, tell-recalled t h.lines cs (h.fits id v at).1);
      once = λ k. omega (arith, total-set k views id v w at, times-recalled k h.lines cs, h.once k);
      posted = posted-set h.lines views id v w at refl h.posted;
    }

pub looks : (t : Terms) (slots id : ℕ) (cs : List Claim) (ps : List PostClaim) (step : Step (Unit {0})) → Allows (Rule t) slots id (knowing t cs ps, []) 0 (λ n. n) (Looked step (knowing t cs ps, []))
looks t slots id cs ps step state h many at small = (
  knowing t (recalled h.lines cs) ps,
  keeps,
  tt,
  looked t cs ps state.views id at h,
  (refl, refl, refl, record { lines = h.lines; known = known t cs ps state.views id at h; claims = refl }),
)

pub compares : (t : Terms) (slots id : ℕ) (cs : List Claim) (ps : List PostClaim) (step : Step (Unit {0})) → Allows (Rule t) slots id (knowing t cs ps, []) 0 (λ n. n) (Compared step (knowing t cs ps, []))
compares t slots id cs ps step state h many at small = (
  knowing t cs ps,
  keeps,
  tt,
  subst (λ (vs : List View). IsOneHistory t vs) (sym (set_again state.views id (knowing t cs ps) at)) h,
  (
    refl,
    refl,
    record {
      lines = h.lines;
      known = known t cs ps state.views id at h;
      posted = h.posted.posted;
      say = h.posted.say id (knowing t cs ps) at;
      asked = h.posted.asked;
    },
  ),
)

-- a view is cut in two views that hold wherever it holds, and claim nothing more often
cut : (t : Terms) (cs left right : List Claim) (ps psl psr : List PostClaim) (views : List View) (id : ℕ) → ((lines : List Line) → AllTell t lines cs → AllTell t lines left × AllTell t lines right)
    → ((k : Subject) → times k left + times k right ≡ times k cs) → get_elem? views id ≡ option.some (knowing t cs ps)
    → (h : IsOneHistory t views) → ArePosted h.lines (set views id (knowing t left psl) ++ knowing t right psr ∷ []) → IsOneHistory t (set views id (knowing t left psl) ++ knowing t right psr ∷ [])
cut t cs left right ps psl psr views id tells parts at h posted =
    let v : View = knowing t cs ps in
    let tell : AllTell t h.lines left × AllTell t h.lines right = tells h.lines (h.fits id v at).1 in
    let kept : (j : ℕ) (u : View) → get_elem? (set views id (knowing t left psl)) j ≡ option.some u → ViewTells t h.lines u
    = fits-set t h.lines views id (knowing t left psl) (λ j u apart e. h.fits j u e) (refl, tell.0) in
    record {
      lines = h.lines;
      kept = h.kept;
      fits = λ j u e.
          ⊎_elim (λ (x : get_elem? (set views id (knowing t left psl)) j ≡ option.some u). kept j u x)
          (λ (x : knowing t right psr ≡ u). subst (λ (y : View). ViewTells t h.lines y) x (refl, tell.1))
          (at_snoc (set views id (knowing t left psl)) (knowing t right psr) u j e);
      once = λ k. omega (arith, total-append k (set views id (knowing t left psl)) (knowing t right psr), total-set k views id v (knowing t left psl) at, parts k, h.once k);
      posted = posted;
    }

pub splits : (t : Terms) (id n : ℕ) (cs : List Claim) (ps : List PostClaim) → Splits (Rule t) id (knowing t cs ps) (other_claims n (knowing t cs ps)) (first_claims n (knowing t cs ps))
splits t id n cs ps state h at =
    cut t cs (drop n cs) (take n cs) ps ps [] state.views id (λ lines tell. (tell-drop t lines n cs tell, tell-take t lines n cs tell)) (λ k. omega (arith, times-parts k n cs)) at h
    (posted-cut h.lines state.views id (knowing t cs ps) (knowing t (drop n cs) ps) (knowing t (take n cs) []) (λ posted says. (says, tt)) (λ k. omega arith) at h.posted)

tell-shared : (t : Terms) (lines : List Line) (cs : List Claim) → AllTell t lines cs → AllTell t lines (shared cs)
tell-shared t lines [] h = tt
tell-shared t lines (Seat cpu own ∷ cs) h = tell-drop t lines 2 (Seat cpu own ∷ cs) h
tell-shared t lines (Queue cpu q ∷ cs) h = tell-drop t lines 2 (Queue cpu q ∷ cs) h
tell-shared t lines (Journal all ∷ cs) h = tell-drop t lines 2 (Journal all ∷ cs) h
tell-shared t lines (Past seen ∷ cs) h = (h.0, tell-drop t lines 1 cs h.1)

pub splits-shared : (t : Terms) (id : ℕ) (cs : List Claim) (ps : List PostClaim)
    → Splits (Rule t) id (knowing t cs ps) (shared_claims (knowing t cs ps)) (first_claims 2 (knowing t cs ps))
splits-shared t id cs ps state h at =
    cut t cs (shared cs) (take 2 cs) ps ps [] state.views id (λ lines tell. (tell-shared t lines cs tell, tell-take t lines 2 cs tell)) (λ k. omega (arith, times-shared k cs)) at h
    (posted-cut h.lines state.views id (knowing t cs ps) (knowing t (shared cs) ps) (knowing t (take 2 cs) []) (λ posted says. (says, tt)) (λ k. omega arith) at h.posted)

tell-past : (t : Terms) (lines : List Line) (cs : List Claim) → AllTell t lines cs → AllTell t lines (first_past cs)
tell-past t lines [] h = tt
tell-past t lines (Seat cpu own ∷ cs) h = tt
tell-past t lines (Queue cpu q ∷ cs) h = tt
tell-past t lines (Journal all ∷ cs) h = tt
tell-past t lines (Past seen ∷ cs) h = (h.0, tt)

pub splits-past : (t : Terms) (id : ℕ) (cs : List Claim) (ps : List PostClaim) → Splits (Rule t) id (knowing t cs ps) (knowing t cs ps) (past_claims (knowing t cs ps))
splits-past t id cs ps state h at =
    cut t cs cs (first_past cs) ps ps [] state.views id (λ lines tell. (tell, tell-past t lines cs tell)) (λ k. omega (arith, times-past k cs)) at h
    (posted-cut h.lines state.views id (knowing t cs ps) (knowing t cs ps) (knowing t (first_past cs) []) (λ posted says. (says, tt)) (λ k. omega arith) at h.posted)

-- the claims of posts get a token of their own
pub splits-all-posts : (t : Terms) (id : ℕ) (cs : List Claim) (ps : List PostClaim) → Splits (Rule t) id (knowing t cs ps) (claims_alone (knowing t cs ps)) (posts_alone (knowing t cs ps))
splits-all-posts t id cs ps state h at =
    cut t cs cs [] ps [] ps state.views id (λ lines tell. (tell, tt)) (λ k. omega arith) at h
    (posted-cut h.lines state.views id (knowing t cs ps) (knowing t cs []) (knowing t [] ps) (λ posted says. (tt, says)) (λ k. omega arith) at h.posted)

-- the first claim of posts gets a token of its own
pub splits-posts : (t : Terms) (id : ℕ) (cs : List Claim) (ps : List PostClaim) → Splits (Rule t) id (knowing t cs ps) (other_posts (knowing t cs ps)) (first_posts (knowing t cs ps))
splits-posts t id cs ps state h at =
    cut t cs cs [] ps (drop 1 ps) (take 1 ps) state.views id (λ lines tell. (tell, tt)) (λ k. omega arith) at h
    (posted-cut h.lines state.views id (knowing t cs ps) (knowing t cs (drop 1 ps)) (knowing t [] (take 1 ps)) (λ posted says. (say-drop posted 1 ps says, say-take posted 1 ps says))
    (λ k. omega (arith, posts.times-parts k 1 ps)) at h.posted)

-- a request is posted, and a token gets what was posted by then
pub splits-post : (t : Terms) (id home task sender : ℕ) (lists : List (List ℕ)) (cs : List Claim)
    → Splits (Rule t) id (knowing t cs (Posts sender lists ∷ [])) (posted_more home task (knowing t cs (Posts sender lists ∷ []))) (sent_by (posted_more home task (knowing t cs (Posts sender lists ∷ []))))
splits-post t id home task sender lists cs state h at =
    let more : List (List ℕ) = with_task lists home task in
    cut t cs cs [] (Posts sender lists ∷ []) (Posts sender more ∷ []) (Sent sender more ∷ []) state.views id (λ lines tell. (tell, tt)) (λ k. omega arith) at h
    (posted-more h.lines state.views id sender home task lists (knowing t cs (Posts sender lists ∷ [])) (knowing t cs (Posts sender more ∷ [])) (knowing t [] (Sent sender more ∷ [])) refl refl refl at h.posted)

-- what was posted by now gets a token
say-sent : (posted : ℕ → List (List ℕ)) (ps : List PostClaim) → AllSay posted ps → AllSay posted (sent_in ps)
say-sent posted [] says = tt
say-sent posted (Posts sender lists ∷ ps) says = (subst (λ (l : List (List ℕ)). AllBegin lists l) (sym says.0) (λ home. prefix_refl _), tt)
say-sent posted (Sent sender lists ∷ ps) says = (says.0, tt)

sent-times : (k : ℕ) (ps : List PostClaim) → posts_times k (sent_in ps) ≡ 0
sent-times k [] = refl
sent-times k (Posts sender lists ∷ ps) = refl
sent-times k (Sent sender lists ∷ ps) = refl

pub splits-sent : (t : Terms) (id : ℕ) (cs : List Claim) (ps : List PostClaim) → Splits (Rule t) id (knowing t cs ps) (same_view (knowing t cs ps)) (sent_by (knowing t cs ps))
splits-sent t id cs ps state h at =
    cut t cs cs [] ps ps (sent_in ps) state.views id (λ lines tell. (tell, tt)) (λ k. omega arith) at h
    (posted-cut h.lines state.views id (knowing t cs ps) (knowing t cs ps) (knowing t [] (sent_in ps)) (λ posted says. (says, say-sent posted ps says)) (λ k. omega (arith, sent-times k ps)) at h.posted)

join : (t : Terms) (cs ds : List Claim) (ps qs : List PostClaim) (views : List View) (id other : ℕ) → get_elem? views id ≡ option.some (knowing t cs ps) → other ≢ id
    → get_elem? (set views id (joined (knowing t cs ps) (knowing t ds qs))) other ≡ option.some (knowing t ds qs) → IsOneHistory t views
    → IsOneHistory t (set (set views id (joined (knowing t cs ps) (knowing t ds qs))) other nothing)
join t cs ds ps qs views id other at apart there h =
    let v : View = knowing t cs ps in
    let w : View = knowing t ds qs in
    let both : View = joined v w in
    let was : get_elem? views other ≡ option.some w = sym (set_else views id other both apart) ∙ there in
    record {
      lines = h.lines;
      kept = h.kept;
      fits = fits-set t h.lines (set views id both) other nothing
          (λ j u _ e. fits-set t h.lines views id both (λ i x _ f. h.fits i x f) (refl, tell-append t h.lines ds cs (h.fits other w was).1 (h.fits id v at).1) j u e)
          (tt, tt);
      once = λ k. omega (arith, total-set k (set views id both) other w nothing there, total-set k views id v both at, times-append k ds cs, h.once k);
      posted = posted-join h.lines views id other v w both refl at apart there h.posted;
    }

pub joins : (t : Terms) (id other : ℕ) (cs ds : List Claim) (ps qs : List PostClaim)
    → Joins (Rule t) id (knowing t cs ps) other (knowing t ds qs) (joined (knowing t cs ps) (knowing t ds qs)) nothing
joins t id other cs ds ps qs state h at apart there = join t cs ds ps qs state.views id other at apart there h
