-- What goes through a ring: its mark, and then requests.
use Rattle.std.specs.Prelude.{◌≡◌, ℕ, true, List, [], ◌∷◌, ◌++◌, map, drop, Option, Some, None, IfSome, ⊤}
use Rattle.atomic_table.specs.{Seated.TableId, declared.badge.Badge.Badge}
use Rattle.eevdf_ops.specs.Setup.{is_at_home}
use Rattle.eevdf_fleet.specs.declared.board.claims.{PostClaim.TheVariants.Sent, Terms.Terms, View.View}
use Rattle.eevdf_fleet.specs.declared.rings.request.{Lead.Lead, Request.Request}
use Rattle.eevdf_fleet.specs.PostClaims.{tasks_to}

-- the tasks of requests
abbrev pub tasks_of : List Request → List ℕ
tasks_of items = map (λ (r : Request). r.task) items

-- the same of all items of a ring, whose first is its mark
abbrev pub tasks_after : List Request → List ℕ
tasks_after items = tasks_of (drop 1 items)

-- the task of a request, if there is one
abbrev pub task_in : Option Request → Option ℕ
task_in None = None
task_in (Some r) = Some r.task

-- where the requests of a ring come from: the board that they have tokens of, its terms, the homes of the tasks, and the sender
pub record Source : Type 0 where
  pub board : TableId
  pub terms : Option Terms
  pub homes : List ℕ
  pub sender : ℕ

abbrev pub source_at : TableId → Option Terms → List ℕ → ℕ → Source
source_at board terms homes sender = record { board = board; terms = terms; homes = homes; sender = sender }

abbrev pub terms_in : List View → Option Terms
terms_in [] = None
terms_in (v ∷ vs) = v.terms

-- a token that claims alone that a sender has posted these tasks to a home first
pub record IsSent (source : Source) (home : ℕ) (tasks : List ℕ) (token : Badge View) : Type 0 where
  pub lists : List (List ℕ)
  pub of : token.table_id ≡ source.board
  pub knows : token.views ≡ record { terms = source.terms; claims = []; posts = Sent source.sender lists ∷ [] } ∷ []
  pub are : tasks_to lists home ≡ tasks

abbrev pub source_in : Lead → Source
source_in lead = source_at lead.board.value.table_id (terms_in lead.board.value.views) lead.homes.value.items lead.sender

-- a request may follow others in a ring to a home: that is its task's home, and its token claims that it was posted after them
pub record Follows (source : Source) (home : ℕ) (tasks : List ℕ) (request : Request) : Type 0 where
  pub at_home : is_at_home source.homes request.task home ≡ true
  pub sent : IsSent source home (tasks ++ request.task ∷ []) request.token

-- the same after these items of a ring, by what the mark says. The mark may be anything.
abbrev pub Allows : List Request → Request → Type 0
Allows [] request = ⊤
Allows (mark ∷ items) request = IfSome mark.lead.value (λ (lead : Lead). Follows (source_in lead) lead.home (tasks_of items) request)

-- the mark of a ring that leads from such a source to a home
pub record IsMark (source : Source) (home : ℕ) (mark : Request) : Type 0 where
  pub lead : Lead
  pub says : mark.lead.value ≡ Some lead
  pub home_is : lead.home ≡ home
  pub source_is : source_in lead ≡ source

-- the items of such a ring: the first is its mark
pub record IsMarked (source : Source) (home : ℕ) (items : List Request) : Type 0 where
  pub mark : Request
  pub rest : List Request
  pub are : items ≡ mark ∷ rest
  pub leads : IsMark source home mark

-- items, and the same with requests more, which are for these tasks
pub record Grows (before after : List Request) (tasks : List ℕ) : Type 0 where
  pub more : List Request
  pub are_for : tasks_of more ≡ tasks
  pub grown : after ≡ before ++ more
