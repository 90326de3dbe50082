-- The locks that a caller holds on its way through its program, and what each of its steps rests on.
use Rattle.std.proofs.Common.{◌≡◌, ℕ, ◌<◌, Bool, true, false, ◌&&◌, ◌||◌, List, [], ◌∷◌, take, drop}
use Rattle.std.specs.Prelude.{nat_lt, ◌==◌, if◌then◌else◌, MatchOption, Option, Some, None}
use Rattle.eevdf_ops.specs.declared.deeds.Op.{Op}
use Rattle.eevdf_ops.specs.declared.deeds.Op.TheVariants as op
use Rattle.eevdf_steps.specs.declared.{micro.Micro.Micro, plan.Step.Step}
use Rattle.eevdf_steps.specs.declared.micro.Micro.TheVariants.{Acquire, Act, Detach, Attach, Commit, Take, Settle, Release, Post}
use Rattle.eevdf_steps.specs.Plan.{Plan, callers, home}
use Rattle.eevdf_steps.specs.Counters.{Counters, counted, holds, step_next}
use Rattle.eevdf_steps.proofs.Positions.{step_in}

-- the locks that are held, the last acquired first, after a step
abbrev pub stack_after : List ℕ → Micro → List ℕ
stack_after held (Acquire c) = c ∷ held
stack_after held (Release c) = drop 1 held
stack_after held _ = held

abbrev pub is_in : ℕ → List ℕ → Bool
is_in c [] = false
is_in c (h ∷ held) = if h == c then true else is_in c held

-- a number is above all of a list
abbrev pub is_above : ℕ → List ℕ → Bool
is_above c [] = true
is_above c (h ∷ held) = nat_lt h c && is_above c held

-- strictly falling from the front
abbrev pub is_falling : List ℕ → Bool
is_falling [] = true
is_falling (h ∷ held) = is_above h held && is_falling held

-- a deed on the caller's own queue alone
abbrev pub is_acting : Op → Bool
is_acting (op.Sleep t) = false
is_acting (op.Doze t) = false
is_acting (op.End t) = false
is_acting (op.Pull s) = false
is_acting (op.Post t) = false
is_acting op.Drain = false
is_acting _ = true

-- a deed that moves a task
abbrev pub is_moving : Op → Bool
is_moving (op.Sleep t) = true
is_moving (op.Doze t) = true
is_moving (op.End t) = true
is_moving (op.Pull s) = true
is_moving _ = false

-- an operation that acquires locks
abbrev pub is_locking : Op → Bool
is_locking (op.Post t) = false
is_locking _ = true

-- the CPUs whose queues an operation reads or writes
abbrev pub touched : Plan → ℕ → Op → ℕ → Bool
touched plan cpu (op.Sleep t) c = (c == cpu) || (c == home plan t)
touched plan cpu (op.Doze t) c = (c == cpu) || (c == home plan t)
touched plan cpu (op.End t) c = (c == cpu) || (c == home plan t)
touched plan cpu (op.Pull s) c = (c == cpu) || (c == s)
touched plan cpu (op.Post t) c = false
touched plan cpu _ c = c == cpu

-- a step before which nothing is under way on the queues
abbrev pub is_fresh_micro : Micro → Bool
is_fresh_micro Attach = false
is_fresh_micro Commit = false
is_fresh_micro _ = true

-- the same where a caller may be done
abbrev pub is_fresh : Option Step → Bool
is_fresh None = true
is_fresh (Some s) = is_fresh_micro s.micro

-- the locks held are those of the queues that the operation touches
abbrev pub Covers : Plan → ℕ → Op → List ℕ → Type 0
Covers plan cpu o held = (c : ℕ) → is_in c held ≡ touched plan cpu o c

-- a lock is acquired above those that are held
pub record Acquiring (plan : Plan) (held : List ℕ) (o : Op) (c : ℕ) (following : Option Step) : Type 0 where
  pub above : is_above c held ≡ true
  pub below : c < callers plan
  pub locking : is_locking o ≡ true
  pub fresh : is_fresh following ≡ true

-- the lock that was acquired last is given up
pub record Releasing (held : List ℕ) (c : ℕ) (following : Option Step) : Type 0 where
  pub last : take 1 held ≡ c ∷ []
  pub fresh : is_fresh following ≡ true

pub record Acting (plan : Plan) (cpu : ℕ) (held : List ℕ) (o : Op) (following : Option Step) : Type 0 where
  pub acting : is_acting o ≡ true
  pub covers : Covers plan cpu o held
  pub follows : following ≡ Some (step_in o Commit)

pub record Detaching (plan : Plan) (cpu : ℕ) (held : List ℕ) (o : Op) (following : Option Step) : Type 0 where
  pub moving : is_moving o ≡ true
  pub covers : Covers plan cpu o held
  pub follows : following ≡ Some (step_in o Attach)

pub record Attaching (plan : Plan) (cpu : ℕ) (held : List ℕ) (o : Op) (following : Option Step) : Type 0 where
  pub moving : is_moving o ≡ true
  pub covers : Covers plan cpu o held
  pub follows : following ≡ Some (step_in o Commit)

pub record Committing (plan : Plan) (cpu : ℕ) (held : List ℕ) (o : Op) (following : Option Step) : Type 0 where
  pub acting_or_moving : (is_acting o || is_moving o) ≡ true
  pub covers : Covers plan cpu o held
  pub fresh : is_fresh following ≡ true

pub record Taking (plan : Plan) (cpu : ℕ) (held : List ℕ) (o : Op) (q : ℕ) (following : Option Step) : Type 0 where
  pub drains : o ≡ op.Drain
  pub covers : Covers plan cpu o held
  pub sender : q < callers plan
  pub follows : following ≡ Some (step_in o (Settle q))

pub record Settling (plan : Plan) (cpu : ℕ) (held : List ℕ) (o : Op) (q : ℕ) (following : Option Step) : Type 0 where
  pub drains : o ≡ op.Drain
  pub covers : Covers plan cpu o held
  pub sender : q < callers plan
  pub fresh : is_fresh following ≡ true

pub record Posting (held : List ℕ) (following : Option Step) : Type 0 where
  pub holds_none : held ≡ []
  pub fresh : is_fresh following ≡ true

abbrev pub FitsMicro : Plan → ℕ → List ℕ → Op → Micro → Option Step → Type 0
FitsMicro plan cpu held o (Acquire c) following = Acquiring plan held o c following
FitsMicro plan cpu held o (Release c) following = Releasing held c following
FitsMicro plan cpu held o Act following = Acting plan cpu held o following
FitsMicro plan cpu held o Detach following = Detaching plan cpu held o following
FitsMicro plan cpu held o Attach following = Attaching plan cpu held o following
FitsMicro plan cpu held o Commit following = Committing plan cpu held o following
FitsMicro plan cpu held o (Take q) following = Taking plan cpu held o q following
FitsMicro plan cpu held o (Settle q) following = Settling plan cpu held o q following
FitsMicro plan cpu held o (Post t) following = Posting held following

-- what is so of a step of a caller with these locks held and this step after it
abbrev pub FitsWalk : Plan → ℕ → List ℕ → Step → Option Step → Type 0
FitsWalk plan cpu held s following = FitsMicro plan cpu held s.op s.micro following

-- where a caller stands: the locks that it holds, and how its next step fits them; who is done holds none
pub record Walk (plan : Plan) (counters : Counters) (caller : ℕ) : Type 0 where
  pub held : List ℕ
  pub holds_them : (c : ℕ) → holds plan counters c caller ≡ is_in c held
  pub falling : is_falling held ≡ true
  pub fits : MatchOption (step_next plan counters caller) (held ≡ []) (λ s. FitsWalk plan caller held s (step_next plan (counted counters caller) caller))
