-- How the drains of a CPU take the requests that its program posts to its own CPU.
use Rattle.std.specs.Prelude.{◌≡◌, ℕ, List, [], ◌∷◌, ◌++◌, take, drop}
use Rattle.eevdf_ops.specs.{declared.deeds.Deed.Deed, declared.deeds.Op.Op, Followed.program_of, Outcome.Outcome, Setup.Setup}
use Rattle.eevdf_ops.specs.Setup.{homes_of}
use Rattle.eevdf_ops.specs.declared.deeds.Op.TheVariants as op
use Rattle.eevdf_ops.specs.Programs.{FitsOperation, InTwo, deeds_of, lines_by, post_of, wakes_in}

-- what an operation takes of the CPU's own requests that wait, the oldest first: a drain one, if there is one
abbrev pub own_taken : List ℕ → Op → List ℕ
own_taken waiting op.Drain = take 1 waiting
own_taken waiting other = []

-- those that wait after it
abbrev pub own_after : List ℕ → ℕ → List ℕ → Op → List ℕ
own_after homes cpu waiting op.Drain = drop 1 waiting
own_after homes cpu waiting other = waiting ++ post_of homes cpu other

-- and after operations
abbrev pub own_waiting : List ℕ → ℕ → List ℕ → List Op → List ℕ
own_waiting homes cpu waiting [] = waiting
own_waiting homes cpu waiting (o ∷ ops) = own_waiting homes cpu (own_after homes cpu waiting o) ops

-- the deeds of one operation, where these requests wait
pub record FitsWaiting (cpu : ℕ) (waiting : List ℕ) (deeds : List Deed) (o : Op) : Type 0 where
  pub fits : FitsOperation cpu deeds o
  pub takes : wakes_in cpu deeds ≡ own_taken waiting o

-- the deeds of operations, one operation after the other
abbrev pub AllFitWaiting : List ℕ → ℕ → List ℕ → List Deed → List Op → Type 0
AllFitWaiting homes cpu waiting deeds [] = deeds ≡ []
AllFitWaiting homes cpu waiting deeds (o ∷ ops) =
    InTwo deeds (λ front. FitsWaiting cpu waiting front o) (λ back. AllFitWaiting homes cpu (own_after homes cpu waiting o) back ops)

-- each CPU's lines are its program's operations, in order and each once, and each of its drains takes the oldest request that
-- the program has posted to its own CPU before it and no drain has taken yet, if there is one
pub record TakesOwnRequests (s : Setup) (o : Outcome) : Type 0 where
  pub each : (p : ℕ) → AllFitWaiting (homes_of s) p [] (deeds_of (lines_by p o.lines)) (program_of s p)
