-- The rings by which CPUs post requests to one another, as callers see them.
use Rattle.std.specs.Prelude.{◌≡◌, ℕ, ◌+◌, ◌*◌, ◌<◌, ◌≤◌, List, [], ◌∷◌, ◌++◌, length, map, replicate, slice_get, slice_index_or, slice_set, Option}
use Rattle.std.specs.{List.range_with_len, declared.alloc.Global.Global}
use Rattle.rtrb.specs.declared.producer.Producer.{Producer}
use Rattle.atomic_table.specs.Seated.{TableId}
use Rattle.eevdf_fleet.specs.{declared.board.claims.Terms.Terms, Requests.Source, Requests.source_at}
use Rattle.eevdf_fleet.specs.declared.rings.request.{AtHome.AtHome, Request.Request}

-- a ring is named by its end that pushes, as it was opened
abbrev pub Ring : Type 0
Ring = Producer Request Global AtHome

-- rings that were opened, by senders and homes, how many requests each has room for, the homes of the tasks, and the board that the
-- requests have tokens of, with its terms
pub record Rings : Type 0 where
  pub board : TableId
  pub terms : Option Terms
  pub capacity : ℕ
  pub homes : List ℕ
  pub rings : List (List Ring)

abbrev pub source_of : Rings → ℕ → Source
source_of r = source_at r.board r.terms r.homes

abbrev pub ring_at : Rings → ℕ → ℕ → Option Ring
ring_at r sender home = slice_get (slice_index_or r.rings sender []) home

-- what a CPU has posted, and how many requests more are known to fit, by homes
pub record Posts : Type 0 where
  pub sender : ℕ
  pub posted : List (List ℕ)
  pub free : List ℕ

-- what a CPU has taken of the requests that were posted to it, by senders
pub record Takes : Type 0 where
  pub home : ℕ
  pub taken : List (List ℕ)

abbrev pub no_posts : ℕ → ℕ → ℕ → Posts
no_posts capacity cpus sender = record { sender = sender; posted = replicate cpus []; free = replicate cpus capacity }

abbrev pub no_takes : ℕ → ℕ → Takes
no_takes cpus home = record { home = home; taken = replicate cpus [] }

-- those of each of so many CPUs, before anything is posted
abbrev pub all_no_posts : ℕ → ℕ → List Posts
all_no_posts capacity cpus = map (no_posts capacity cpus) (range_with_len 0 cpus)

abbrev pub all_no_takes : ℕ → List Takes
all_no_takes cpus = map (no_takes cpus) (range_with_len 0 cpus)

abbrev pub posted_to : Posts → ℕ → List ℕ
posted_to p home = slice_index_or p.posted home []

-- how many requests more are known to fit into the ring to a home
abbrev pub free_to : Posts → ℕ → ℕ
free_to p home = slice_index_or p.free home 0

abbrev pub taken_from : Takes → ℕ → List ℕ
taken_from t sender = slice_index_or t.taken sender []

-- and with these requests more
abbrev pub posted_more : Posts → ℕ → List ℕ → Posts
posted_more p home tasks = record p { posted = slice_set p.posted home (posted_to p home ++ tasks) }

abbrev pub taken_more : Takes → ℕ → List ℕ → Takes
taken_more t sender tasks = record t { taken = slice_set t.taken sender (taken_from t sender ++ tasks) }

-- the same posts, where so many requests more are known to fit into the ring to a home
abbrev pub with_free : Posts → ℕ → ℕ → Posts
with_free p home count = record p { free = slice_set p.free home count }

-- nothing is posted, and it may be known that more fits into the ring to a home
pub record HasLooked (home : ℕ) (before after : Posts) : Type 0 where
  pub posts : after ≡ with_free before home (free_to after home)
  pub free : free_to before home ≤ free_to after home

-- one request more is posted to a home. It fills one place, though others may be found to be free at the same time.
pub record HasPosted (home task : ℕ) (before after : Posts) : Type 0 where
  pub posts : after ≡ with_free (posted_more before home (task ∷ [])) home (free_to after home)
  pub free : free_to before home ≤ free_to after home + 1

-- the oldest request of a sender to a home that wasn't taken yet
abbrev pub oldest : Posts → Takes → Option ℕ
oldest p t = slice_get (posted_to p t.home) (length (taken_from t p.sender))

-- what one CPU, of so many, has posted
pub record ArePostsOf (cpus cpu : ℕ) (p : Posts) : Type 0 where
  pub sender_is : p.sender ≡ cpu
  pub to_all : length p.posted ≡ cpus

-- what a CPU had posted when it gave its ends back, by homes
pub record Posted : Type 0 where
  pub sender : ℕ
  pub posted : List (List ℕ)

abbrev pub posted_by : Posts → Posted
posted_by p = record { sender = p.sender; posted = p.posted }

-- these are what one CPU, of so many, has posted and taken
pub record AreOf (cpus cpu : ℕ) (p : Posted) (t : Takes) : Type 0 where
  pub within : cpu < cpus
  pub sender_is : p.sender ≡ cpu
  pub home_is : t.home ≡ cpu
  pub to_all : length p.posted ≡ cpus
  pub from_all : length t.taken ≡ cpus

-- the ends of rings that were given back, in the order of their CPUs
pub record Returned : Type 0 where
  pub cpus : ℕ
  pub posts : List Posted
  pub takes : List Takes

abbrev pub posts_at : Returned → ℕ → Posted
posts_at r sender = slice_index_or r.posts sender (record { sender = sender; posted = [] })

abbrev pub takes_at : Returned → ℕ → Takes
takes_at r home = slice_index_or r.takes home (no_takes 0 home)

-- the ends of all CPUs were given back
pub record AllReturned (r : Returned) : Type 0 where
  pub senders : length r.posts ≡ r.cpus
  pub homes : length r.takes ≡ r.cpus
  pub each : (cpu : ℕ) → cpu < r.cpus → AreOf r.cpus cpu (posts_at r cpu) (takes_at r cpu)

-- what was posted to a home
abbrev pub given_to : Posted → ℕ → List ℕ
given_to p home = slice_index_or p.posted home []

-- what is left of the requests from a sender to a home, in lists of which there is one for each pair
abbrev pub left_of : ℕ → List (List ℕ) → ℕ → ℕ → List ℕ
left_of cpus left sender home = slice_index_or left (sender * cpus + home) []

-- for each pair the requests that were posted are those that were taken, followed by those that are left
pub record AreLeft (r : Returned) (left : List (List ℕ)) : Type 0 where
  pub each : length left ≡ r.cpus * r.cpus
  pub pairs : (sender home : ℕ) → sender < r.cpus → home < r.cpus
      → given_to (posts_at r sender) home ≡ taken_from (takes_at r home) sender ++ left_of r.cpus left sender home
