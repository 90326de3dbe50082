-- What a token claims of the one history.
use Rattle.std.specs.Prelude.{◌≡◌, ℕ, ◌+◌, ◌*◌, ◌<◌, ◌≤◌, ◌==◌, Bool, true, List, [], ◌∷◌, ◌++◌, length, map, if◌then◌else◌, Option, Some, None, IfSome, is_some}
use mathlib.Core.List.{IsPrefix}
use Rattle.std.specs.List.{list_all}
use Rattle.eevdf_queue.specs.State.{State}
use Rattle.eevdf_ops.specs.{declared.deeds.Deed.Deed, declared.deeds.Line.Line, Machine.Machine, Machine.queue_at}
use Rattle.eevdf_ops.specs.{Histories.machine_told, Histories.AreHistory, Parts.decider, PartsLaws.Fits, Places.AreCpus}
use Rattle.eevdf_ops.specs.{Places.IsPlaced, Programs.deeds_of, Programs.lines_by, Whole.whole}
use Rattle.eevdf_ops.specs.Setup.{allows, cpus_of, homes_of}
use Rattle.eevdf_ops.specs.Machine as machine
use Rattle.eevdf_ops.specs.Parts as parts
use Rattle.eevdf_fleet.specs.{declared.board.claims.Terms.Terms, declared.board.claims.Claim.Claim, declared.board.claims.View.View}
use Rattle.eevdf_fleet.specs.{declared.board.claims.Change.Change, declared.board.claims.PostClaim.PostClaim, declared.board.claims.Said.Said}
use Rattle.eevdf_fleet.specs.PostClaims.{IsAsked, posts_from}
use Rattle.eevdf_fleet.specs.declared.board.claims.Claim.TheVariants.{Seat, Queue, Journal, Past}

-- the homes of the tasks, the machine at the start, and the machine that lines leave
abbrev pub homes : Terms → List ℕ
homes t = homes_of t.setup.value

abbrev pub start : Terms → Machine
start t = machine.start t.setup.value

abbrev pub told : Terms → List Line → Machine
told t lines = machine_told (homes t) (start t) lines

-- where a journal has the lines, each CPU has at most so many
abbrev pub FitsQuota : Option ℕ → List Line → Type 0
FitsQuota quota lines = IfSome quota (λ (most : ℕ). (cpu : ℕ) → length (lines_by cpu lines) ≤ most)

-- a history on these terms
pub record IsOnTerms (t : Terms) (lines : List Line) : Type 0 where
  pub history : AreHistory (homes t) (start t) lines
  pub allowed : list_all (allows t.setup.value) (deeds_of lines) ≡ true
  pub fits : FitsQuota t.quota lines
  pub cpus : AreCpus (cpus_of t.setup.value) (homes t)
  pub placed : IsPlaced (homes t) (told t lines)

-- what a claim is of
pub data Subject : Type 0 where
  seat : ℕ → Subject
  queue : ℕ → Subject
  journal : Subject

-- how often a claim is of this: once or not at all
abbrev pub once : Bool → ℕ
once b = if b then 1 else 0

abbrev pub here : Subject → Claim → ℕ
here (seat cpu) (Seat of lines) = once (of == cpu)
here (seat cpu) (Queue of q) = 0
here (seat cpu) (Journal lines) = 0
here (seat cpu) (Past lines) = 0
here (queue cpu) (Seat of lines) = 0
here (queue cpu) (Queue of q) = once (of == cpu)
here (queue cpu) (Journal lines) = 0
here (queue cpu) (Past lines) = 0
here journal (Seat of lines) = 0
here journal (Queue of q) = 0
here journal (Journal lines) = 1
here journal (Past lines) = 0

abbrev pub times : Subject → List Claim → ℕ
times k [] = 0
times k (c ∷ cs) = here k c + times k cs

abbrev pub total : Subject → List View → ℕ
total k [] = 0
total k (v ∷ vs) = times k v.claims + total k vs

-- whether a deed changes what holds of this
abbrev pub alters : Terms → Subject → Deed → Bool
alters t (seat cpu) deed = decider deed == cpu
alters t (queue cpu) deed = parts.touches (homes t) deed cpu
alters t journal deed = is_some t.quota

-- a claim holds of a history; one of the journal says nothing where there is none
abbrev pub Tells : Terms → List Line → Claim → Type 0
Tells t lines (Seat cpu own) = lines_by cpu lines ≡ own
Tells t lines (Queue cpu q) = queue_at (told t lines) cpu ≡ q
Tells t lines (Journal all) = IfSome t.quota (λ (most : ℕ). lines ≡ all)
Tells t lines (Past seen) = IsPrefix seen lines

abbrev pub AllTell : Terms → List Line → List Claim → Type 0
AllTell t lines [] = Unit {0}
AllTell t lines (c ∷ cs) = Tells t lines c × AllTell t lines cs

abbrev pub AreTerms : Terms → Option Terms → Type 0
AreTerms t None = Unit {0}
AreTerms t (Some u) = u ≡ t

-- what is known on terms, and nothing
abbrev pub knowing : Terms → List Claim → List PostClaim → View
knowing t claims posts = record { terms = Some t; claims = claims; posts = posts }

abbrev pub nothing : View
nothing = record { terms = None; claims = []; posts = [] }

-- the claims of each CPU in turn, from one on, and of the journal, before anything is done
abbrev pub claims_from : ℕ → Machine → List Claim
claims_from cpu [] = Journal [] ∷ []
claims_from cpu (q ∷ m) = Past [] ∷ Seat cpu [] ∷ Queue cpu q ∷ claims_from (cpu + 1) m

abbrev pub opening : Terms → List Claim
opening t = claims_from 0 (start t)

-- the same of what each CPU has posted
abbrev pub no_posts : Terms → List PostClaim
no_posts t = posts_from (cpus_of t.setup.value) 0 (cpus_of t.setup.value)

-- a claim after a line is committed that changes these queues
abbrev pub changed : Change → ℕ → State → State
changed c cpu q = if cpu == c.cpu then c.queue.value.state else q

abbrev pub advanced : Said → Claim → Claim
advanced s (Seat cpu own) = Seat cpu (own ++ lines_by cpu (s.line ∷ []))
advanced s (Queue cpu q) = Queue cpu (changed s.second cpu (changed s.first cpu q))
advanced s (Journal all) = Journal (all ++ s.line ∷ [])
advanced s (Past seen) = Past seen

-- a machine has the queues that are claimed
abbrev pub HasClaimed : Machine → Claim → Type 0
HasClaimed m (Seat cpu own) = Unit {0}
HasClaimed m (Queue cpu q) = queue_at m cpu ≡ q
HasClaimed m (Journal all) = Unit {0}
HasClaimed m (Past seen) = Unit {0}

abbrev pub HasAllClaimed : Machine → List Claim → Type 0
HasAllClaimed m [] = Unit {0}
HasAllClaimed m (c ∷ cs) = HasClaimed m c × HasAllClaimed m cs

-- the lines of who commits one have room for it
abbrev pub HasRoom : Option ℕ → ℕ → Type 0
HasRoom quota count = IfSome quota (λ (most : ℕ). count < most)

-- there is a quota, and a journal of this capacity has room for that of every CPU
abbrev pub HasAllRoom : Option ℕ → ℕ → ℕ → Type 0
HasAllRoom None cpus capacity = ⊥
HasAllRoom (Some most) cpus capacity = cpus * most ≤ capacity

-- what who commits a line owes: it claims all that the line changes, the line is allowed and has room, and wherever the
-- claims hold, it is the next of the history and leaves the queues that are said
pub record Owes (t : Terms) (claims : List Claim) (s : Said) : Type 0 where
  pub claimed : (k : Subject) → alters t k s.line.deed ≡ true → 1 ≤ times k claims
  pub allowed : allows t.setup.value s.line.deed ≡ true
  pub room : (lines : List Line) → AllTell t lines claims → HasRoom t.quota (length (lines_by (decider s.line.deed) lines))
  pub answers : (m : Machine) → Fits (homes t) s.line.deed m → HasAllClaimed m claims → (whole (homes t) s.line.deed m).0 ≡ s.line.answer
  pub changes : (m : Machine) → Fits (homes t) s.line.deed m → HasAllClaimed m claims → HasAllClaimed (whole (homes t) s.line.deed m).1 (map (advanced s) claims)

-- and wherever the claims hold, a wake was asked for
abbrev pub OwesAsked : Terms → List Claim → List PostClaim → Said → Type 0
OwesAsked t claims posts s = (lines : List Line) → AllTell t lines claims → IsAsked (lines_by (decider s.line.deed) lines) posts s.line.deed

-- the same of the queues alone
pub record OwesQueues (t : Terms) (claims : List Claim) (s : Said) : Type 0 where
  pub claimed : (cpu : ℕ) → parts.touches (homes t) s.line.deed cpu ≡ true → 1 ≤ times (queue cpu) claims
  pub allowed : allows t.setup.value s.line.deed ≡ true
  pub answers : (m : Machine) → Fits (homes t) s.line.deed m → HasAllClaimed m claims → (whole (homes t) s.line.deed m).0 ≡ s.line.answer
  pub changes : (m : Machine) → Fits (homes t) s.line.deed m → HasAllClaimed m claims → HasAllClaimed (whole (homes t) s.line.deed m).1 (map (advanced s) claims)
