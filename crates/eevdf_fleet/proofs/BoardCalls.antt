-- The steps of the board, as its calls take them: by a seat whose view is known.
use Rattle.std.proofs.Common.{◌≡◌, ℕ, List, [], ◌∷◌, sym, subst}
use Rattle.std.specs.Prelude.{Option, Some}
use mathlib.Core.Option as option
use Rattle.atomic_table.specs.Table.{Me, step, Allows, Splits, Joins}
use Rattle.eevdf_fleet.specs.{declared.board.claims.Terms.Terms, declared.board.claims.Claim.Claim, declared.board.claims.View.View}
use Rattle.eevdf_fleet.specs.declared.board.claims.{PostClaim.PostClaim, Said.Said}
use Rattle.eevdf_fleet.specs.declared.board.claims.PostClaim.TheVariants.{Posts}
use Rattle.eevdf_fleet.specs.Claims.{Owes, OwesAsked, knowing, nothing}
use Rattle.eevdf_fleet.specs.Board.{Rule, Appended, Compared, Looked, claims_alone, first_claims, first_posts, joined, other_claims, other_posts, past_claims, posted_more, posts_alone, same_view, sent_by, shared_claims}
use Rattle.eevdf_fleet.proofs.Boards.{appends, compares, joins, looks, splits, splits-all-posts, splits-past, splits-post, splits-posts, splits-sent, splits-shared}

mine : (me : Me (Unit {0}) View) (v : View) → me.0 ≡ v → me.1 ≡ [] → me ≡ (v, [])
mine me v e f = λ i. (e i, f i)

pub appends_as : (t : Terms) (slots id : ℕ) (me : Me (Unit {0}) View) (cs : List Claim) (ps : List PostClaim) (said : Option Said) (s : Said) → said ≡ Some s → me.0 ≡ knowing t cs ps → me.1 ≡ [] → Owes t cs s × OwesAsked t cs ps s
    → Allows (Rule t) slots id me 0 (λ n. n) (Appended said (step slots 0 0 0 option.none) me)
appends_as t slots id me cs ps said s is e g owed =
    subst (λ (o : Option Said). Allows (Rule t) slots id me 0 (λ n. n) (Appended o (step slots 0 0 0 option.none) me)) (sym is)
    (subst (λ (x : Me (Unit {0}) View). Allows (Rule t) slots id x 0 (λ n. n) (Appended (Some s) (step slots 0 0 0 option.none) x)) (sym (mine me (knowing t cs ps) e g))
    (appends t slots id cs ps (Some s) (step slots 0 0 0 option.none) owed))

pub looks_as : (t : Terms) (slots id : ℕ) (me : Me (Unit {0}) View) (cs : List Claim) (ps : List PostClaim) → me.0 ≡ knowing t cs ps → me.1 ≡ []
    → Allows (Rule t) slots id me 0 (λ n. n) (Looked (step slots 0 0 0 option.none) me)
looks_as t slots id me cs ps e g =
    subst (λ (x : Me (Unit {0}) View). Allows (Rule t) slots id x 0 (λ n. n) (Looked (step slots 0 0 0 option.none) x)) (sym (mine me (knowing t cs ps) e g)) (looks t slots id cs ps (step slots 0 0 0 option.none))

pub compares_as : (t : Terms) (slots id : ℕ) (me : Me (Unit {0}) View) (cs : List Claim) (ps : List PostClaim) → me.0 ≡ knowing t cs ps → me.1 ≡ []
    → Allows (Rule t) slots id me 0 (λ n. n) (Compared (step slots 0 0 0 option.none) me)
compares_as t slots id me cs ps e g =
    subst (λ (x : Me (Unit {0}) View). Allows (Rule t) slots id x 0 (λ n. n) (Compared (step slots 0 0 0 option.none) x)) (sym (mine me (knowing t cs ps) e g))
    (compares t slots id cs ps (step slots 0 0 0 option.none))

pub splits_as : (t : Terms) (id n : ℕ) (v : View) (cs : List Claim) (ps : List PostClaim) → v ≡ knowing t cs ps → Splits (Rule t) id v (other_claims n v) (first_claims n v)
splits_as t id n v cs ps e = subst (λ (x : View). Splits (Rule t) id x (other_claims n x) (first_claims n x)) (sym e) (splits t id n cs ps)

pub splits_shared_as : (t : Terms) (id : ℕ) (v : View) (cs : List Claim) (ps : List PostClaim) → v ≡ knowing t cs ps → Splits (Rule t) id v (shared_claims v) (first_claims 2 v)
splits_shared_as t id v cs ps e = subst (λ (x : View). Splits (Rule t) id x (shared_claims x) (first_claims 2 x)) (sym e) (splits-shared t id cs ps)

pub splits_past_as : (t : Terms) (id : ℕ) (v : View) (cs : List Claim) (ps : List PostClaim) → v ≡ knowing t cs ps → Splits (Rule t) id v v (past_claims v)
splits_past_as t id v cs ps e = subst (λ (x : View). Splits (Rule t) id x x (past_claims x)) (sym e) (splits-past t id cs ps)

pub joins_as : (t : Terms) (id other : ℕ) (v w : View) (cs ds : List Claim) (ps qs : List PostClaim) → v ≡ knowing t cs ps → w ≡ knowing t ds qs → Joins (Rule t) id v other w (joined v w) nothing
joins_as t id other v w cs ds ps qs e f =
    subst (λ (x : View). Joins (Rule t) id x other w (joined x w) nothing) (sym e)
    (subst (λ (x : View). Joins (Rule t) id (knowing t cs ps) other x (joined (knowing t cs ps) x) nothing) (sym f) (joins t id other cs ds ps qs))

pub splits_all_posts_as : (t : Terms) (id : ℕ) (v : View) (cs : List Claim) (ps : List PostClaim) → v ≡ knowing t cs ps → Splits (Rule t) id v (claims_alone v) (posts_alone v)
splits_all_posts_as t id v cs ps e = subst (λ (x : View). Splits (Rule t) id x (claims_alone x) (posts_alone x)) (sym e) (splits-all-posts t id cs ps)

pub splits_posts_as : (t : Terms) (id : ℕ) (v : View) (cs : List Claim) (ps : List PostClaim) → v ≡ knowing t cs ps → Splits (Rule t) id v (other_posts v) (first_posts v)
splits_posts_as t id v cs ps e = subst (λ (x : View). Splits (Rule t) id x (other_posts x) (first_posts x)) (sym e) (splits-posts t id cs ps)

pub splits_post_as : (t : Terms) (id home task sender : ℕ) (lists : List (List ℕ)) (v : View) (cs : List Claim) → v ≡ knowing t cs (Posts sender lists ∷ [])
    → Splits (Rule t) id v (posted_more home task v) (sent_by (posted_more home task v))
splits_post_as t id home task sender lists v cs e =
    subst (λ (x : View). Splits (Rule t) id x (posted_more home task x) (sent_by (posted_more home task x))) (sym e) (splits-post t id home task sender lists cs)

pub splits_sent_as : (t : Terms) (id : ℕ) (v : View) (cs : List Claim) (ps : List PostClaim) → v ≡ knowing t cs ps → Splits (Rule t) id v (same_view v) (sent_by v)
splits_sent_as t id v cs ps e = subst (λ (x : View). Splits (Rule t) id x (same_view x) (sent_by x)) (sym e) (splits-sent t id cs ps)
