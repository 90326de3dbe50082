-- What a token claims of the requests that CPUs have posted.
use Rattle.std.specs.Prelude.{◌≡◌, ◌⊎◌, ℕ, zero, suc, ◌+◌, ◌≤◌, ◌==◌, List, [], ◌∷◌, ◌++◌, replicate, slice_index_or, slice_set, if◌then◌else◌}
use mathlib.Core.List.{IsPrefix}
use mathlib.Core.Option as option
use lib.ListN.{get_elem?}
use Rattle.eevdf_ops.specs.{declared.deeds.Deed.Deed, declared.deeds.Line.Line, Programs.lines_by, Programs.wakes_from}
use Rattle.eevdf_ops.specs.declared.deeds.Deed.TheVariants.{Wake}
use Rattle.eevdf_fleet.specs.declared.board.claims.{PostClaim.PostClaim, View.View}
use Rattle.eevdf_fleet.specs.declared.board.claims.PostClaim.TheVariants.{Posts, Sent}

-- the tasks that lists by homes have for a home, and with one more
abbrev pub tasks_to : List (List ℕ) → ℕ → List ℕ
tasks_to lists home = slice_index_or lists home []

abbrev pub with_task : List (List ℕ) → ℕ → ℕ → List (List ℕ)
with_task lists home task = slice_set lists home (tasks_to lists home ++ task ∷ [])

-- for each home, what one list has is a beginning of what the other has
abbrev pub AllBegin : List (List ℕ) → List (List ℕ) → Type 0
AllBegin lists more = (home : ℕ) → IsPrefix (tasks_to lists home) (tasks_to more home)

-- a claim holds of what each sender has posted
abbrev pub Says : (ℕ → List (List ℕ)) → PostClaim → Type 0
Says posted (Posts sender lists) = posted sender ≡ lists
Says posted (Sent sender lists) = AllBegin lists (posted sender)

abbrev pub AllSay : (ℕ → List (List ℕ)) → List PostClaim → Type 0
AllSay posted [] = Unit {0}
AllSay posted (c ∷ cs) = Says posted c × AllSay posted cs

-- how often it is claimed what a sender's posts are, once or not at all, and in all views
abbrev pub is_of : ℕ → PostClaim → ℕ
is_of sender (Posts of lists) = if of == sender then 1 else 0
is_of sender (Sent of lists) = 0

abbrev pub posts_times : ℕ → List PostClaim → ℕ
posts_times sender [] = 0
posts_times sender (c ∷ cs) = is_of sender c + posts_times sender cs

abbrev pub posts_total : ℕ → List View → ℕ
posts_total sender [] = 0
posts_total sender (v ∷ vs) = posts_times sender v.posts + posts_total sender vs

-- the wakes among lines are of requests that were posted, in the order in which they were
abbrev pub AreAskedFor : (ℕ → List (List ℕ)) → List Line → Type 0
AreAskedFor posted lines = (sender home : ℕ) → IsPrefix (wakes_from sender (lines_by home lines)) (tasks_to (posted sender) home)

-- the claims of all views hold of what was posted, all claims of a sender's posts are one, and the lines wake what was posted
pub record ArePosted (lines : List Line) (views : List View) : Type 0 where
  pub posted : ℕ → List (List ℕ)
  pub say : (id : ℕ) (v : View) → get_elem? views id ≡ option.some v → AllSay posted v.posts
  pub once : (sender : ℕ) → posts_total sender views ≤ 1
  pub asked : AreAskedFor posted lines

-- a claim stands among others
abbrev pub IsAmong : PostClaim → List PostClaim → Type 0
IsAmong c [] = ⊥
IsAmong c (d ∷ ds) = (d ≡ c) ⊎ IsAmong c ds

-- it is claimed that a sender has posted these tasks to a home first
pub record HasSent (claims : List PostClaim) (sender home : ℕ) (tasks : List ℕ) : Type 0 where
  pub lists : List (List ℕ)
  pub claimed : IsAmong (Sent sender lists) claims
  pub are : tasks_to lists home ≡ tasks

-- a wake was asked for, as the next after those among the lines of its CPU. Other deeds need no request.
abbrev pub IsAsked : List Line → List PostClaim → Deed → Type 0
IsAsked own claims (Wake cpu task sender) = HasSent claims sender cpu (wakes_from sender own ++ task ∷ [])
IsAsked own claims other = Unit {0}

-- the claims of senders, from one on, each of so many CPUs, before anything is posted
abbrev pub posts_from : ℕ → ℕ → ℕ → List PostClaim
posts_from cpus sender zero = []
posts_from cpus sender (suc count) = Posts sender (replicate cpus []) ∷ posts_from cpus (sender + 1) count

-- the first claim of a sender's posts, with a task more to a home
abbrev pub with_post : List PostClaim → ℕ → ℕ → List PostClaim
with_post [] home task = []
with_post (Posts sender lists ∷ claims) home task = Posts sender (with_task lists home task) ∷ claims
with_post (Sent sender lists ∷ claims) home task = Sent sender lists ∷ claims

-- there is one claim, which is of all that a sender has posted
pub record AreOnePosts (claims : List PostClaim) : Type 0 where
  pub sender : ℕ
  pub lists : List (List ℕ)
  pub are : claims ≡ Posts sender lists ∷ []

-- whose posts the first claim is of, and what it says
abbrev pub sender_in : List PostClaim → ℕ
sender_in [] = 0
sender_in (Posts sender lists ∷ claims) = sender
sender_in (Sent sender lists ∷ claims) = sender

abbrev pub lists_in : List PostClaim → List (List ℕ)
lists_in [] = []
lists_in (Posts sender lists ∷ claims) = lists
lists_in (Sent sender lists ∷ claims) = lists

-- what the first claim says was posted, as nothing can change it
abbrev pub sent_in : List PostClaim → List PostClaim
sent_in [] = []
sent_in (Posts sender lists ∷ claims) = Sent sender lists ∷ []
sent_in (Sent sender lists ∷ claims) = Sent sender lists ∷ []
