-- The rule of the board: the claims are of one history, and of nothing that others could change is there more than one claim.
use Rattle.std.specs.Prelude.{◌≡◌, ℕ, ◌≤◌, List, [], ◌∷◌, ◌++◌, take, drop, map, Option, IfSome}
use mathlib.Core.Option as option
use lib.ListN.{get_elem?}
use Rattle.atomic_table.specs.Table.{State, Me, Step}
use Rattle.atomic_table.specs.{Seated.TableId, declared.badge.Badge.Badge}
use Rattle.eevdf_ops.specs.declared.deeds.Line.{Line}
use Rattle.eevdf_fleet.specs.{declared.board.claims.Terms.Terms, declared.board.claims.Claim.Claim, declared.board.claims.View.View}
use Rattle.eevdf_fleet.specs.declared.board.claims.{PostClaim.PostClaim, Said.Said}
use Rattle.eevdf_fleet.specs.declared.board.claims.Claim.TheVariants.{Seat, Queue, Journal, Past}
use Rattle.eevdf_fleet.specs.PostClaims.{AllSay, AreAskedFor, ArePosted, sent_in, with_post}
use Rattle.eevdf_fleet.specs.Claims.{Subject, total, times, AllTell, AreTerms, IsOnTerms, advanced, knowing}

abbrev pub ViewTells : Terms → List Line → View → Type 0
ViewTells t lines v = AreTerms t v.terms × AllTell t lines v.claims

pub record IsOneHistory (t : Terms) (views : List View) : Type 0 where
  pub lines : List Line
  pub kept : IsOnTerms t lines
  pub fits : (id : ℕ) (v : View) → get_elem? views id ≡ option.some v → ViewTells t lines v
  pub once : (k : Subject) → total k views ≤ 1
  pub posted : ArePosted lines views

abbrev pub Rule : Terms → State (Unit {0}) View → Type 0
Rule t s = IsOneHistory t s.views

-- the claims that nobody else can have too: all but those of the past
abbrev pub held : List Claim → List Claim
held [] = []
held (Seat cpu own ∷ claims) = Seat cpu own ∷ held claims
held (Queue cpu q ∷ claims) = Queue cpu q ∷ held claims
held (Journal all ∷ claims) = Journal all ∷ held claims
held (Past seen ∷ claims) = held claims

-- the same claims beside these lines as the past
abbrev pub recalled : List Line → List Claim → List Claim
recalled lines claims = Past lines ∷ held claims

-- claims hold of a history on these terms, and none of them stands twice
pub record Known (t : Terms) (lines : List Line) (claims : List Claim) : Type 0 where
  pub kept : IsOnTerms t lines
  pub tell : AllTell t lines claims
  pub once : (k : Subject) → times k claims ≤ 1

-- the lines so far are known
pub record HasLooked (t : Terms) (before after : List Claim) : Type 0 where
  pub lines : List Line
  pub known : Known t lines before
  pub claims : after ≡ recalled lines before

-- a line is committed, and the lines up to it are known
pub record HasAppended (t : Terms) (s : Said) (before after : List Claim) : Type 0 where
  pub lines : List Line
  pub known : Known t lines before
  pub more : Known t (lines ++ s.line ∷ []) after
  pub claims : after ≡ recalled (lines ++ s.line ∷ []) (map (advanced s) before)

-- a step that changes nothing but the claims of a view whose terms are known, and these so
abbrev pub StepsTo : (Terms → List Claim → List Claim → Type 0) → Me (Unit {0}) View → Me (Unit {0}) View → Type 0
StepsTo Claims before after = (after.1 ≡ before.1) × (after.0.terms ≡ before.0.terms) × (after.0.posts ≡ before.0.posts) × IfSome before.0.terms (λ (t : Terms). Claims t before.0.claims after.0.claims)

abbrev pub Looked : Step (Unit {0}) → Me (Unit {0}) View → ℕ → Me (Unit {0}) View → Type 0
Looked step before found after = StepsTo HasLooked before after

abbrev pub Appended : Option Said → Step (Unit {0}) → Me (Unit {0}) View → ℕ → Me (Unit {0}) View → Type 0
Appended said step before found after = StepsTo (λ t claims more. IfSome said (λ (s : Said). HasAppended t s claims more)) before after

-- what is claimed of posts is compared with the lines so far
pub record HasCompared (t : Terms) (claims : List Claim) (posts : List PostClaim) : Type 0 where
  pub lines : List Line
  pub known : Known t lines claims
  pub posted : ℕ → List (List ℕ)
  pub say : AllSay posted posts
  pub asked : AreAskedFor posted lines

abbrev pub Compared : Step (Unit {0}) → Me (Unit {0}) View → ℕ → Me (Unit {0}) View → Type 0
Compared step before found after = (after.1 ≡ before.1) × (after.0 ≡ before.0) × IfSome before.0.terms (λ (t : Terms). HasCompared t before.0.claims before.0.posts)

-- a token cut in two: its first claims, and the others, with all of posts
abbrev pub first_claims : ℕ → View → View
first_claims n v = record { terms = v.terms; claims = take n v.claims; posts = [] }

abbrev pub other_claims : ℕ → View → View
other_claims n v = record { terms = v.terms; claims = drop n v.claims; posts = v.posts }

-- a token cut in two that both have the first claim, of the past: the first has the next claim too, and the second the others
abbrev pub shared : List Claim → List Claim
shared (Past seen ∷ claims) = Past seen ∷ drop 1 claims
shared claims = drop 2 claims

abbrev pub shared_claims : View → View
shared_claims v = record { terms = v.terms; claims = shared v.claims; posts = v.posts }

-- a token cut in two: its claims of posts, and the others
abbrev pub posts_alone : View → View
posts_alone v = record { terms = v.terms; claims = []; posts = v.posts }

abbrev pub claims_alone : View → View
claims_alone v = record { terms = v.terms; claims = v.claims; posts = [] }

-- a token cut in two: its first claim of posts, and the rest
abbrev pub first_posts : View → View
first_posts v = record { terms = v.terms; claims = []; posts = take 1 v.posts }

abbrev pub other_posts : View → View
other_posts v = record { terms = v.terms; claims = v.claims; posts = drop 1 v.posts }

-- a token that claims a post more, and one of what was posted by then
abbrev pub posted_more : ℕ → ℕ → View → View
posted_more home task v = record { terms = v.terms; claims = v.claims; posts = with_post v.posts home task }

abbrev pub sent_by : View → View
sent_by v = record { terms = v.terms; claims = []; posts = sent_in v.posts }

abbrev pub same_view : View → View
same_view v = v

-- the first claim, where it is of the past, and nothing else
abbrev pub first_past : List Claim → List Claim
first_past (Past seen ∷ claims) = Past seen ∷ []
first_past claims = []

abbrev pub past_claims : View → View
past_claims v = record { terms = v.terms; claims = first_past v.claims; posts = [] }

-- two tokens made one
abbrev pub joined : View → View → View
joined v w = record { terms = v.terms; claims = w.claims ++ v.claims; posts = w.posts ++ v.posts }

-- a token of the board of this table, kept on these terms, and what it claims
abbrev pub claims_in : List View → List Claim
claims_in [] = []
claims_in (v ∷ vs) = v.claims

abbrev pub posts_in : List View → List PostClaim
posts_in [] = []
posts_in (v ∷ vs) = v.posts

pub record IsToken (table : TableId) (t : Terms) (token : Badge View) : Type 0 where
  pub of : token.table_id ≡ table
  pub knows : token.views ≡ knowing t (claims_in token.views) (posts_in token.views) ∷ []

abbrev pub claims_of : Badge View → List Claim
claims_of token = claims_in token.views

abbrev pub posts_of : Badge View → List PostClaim
posts_of token = posts_in token.views
