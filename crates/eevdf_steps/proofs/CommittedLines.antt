-- What the lines of a history have to do with the callers' programs and with the requests that were posted.
use Rattle.std.specs.Prelude.{◌≡◌, ℕ, ◌<◌, ◌==◌, List, [], ◌++◌, if◌then◌else◌, Option, Some, None}
use Rattle.std.specs.Option.{option_to_list}
use Rattle.eevdf_ops.specs.declared.deeds.Line.{Line}
use Rattle.eevdf_ops.specs.Programs.{FitsProgram, lines_by, wakes_from}
use Rattle.eevdf_steps.specs.declared.{micro.Micro.Micro, micro.Micro.TheVariants.Settle}
use Rattle.eevdf_steps.specs.{Plan.Plan, Plan.callers, Plan.program, Counters.next}
use Rattle.eevdf_steps.specs.Requests.{Progress, found_by, left, posted}

-- the lines of each caller are its program's operations, in order and each once
abbrev pub FitsPrograms : Plan → List Line → Type 0
FitsPrograms plan lines = (p : ℕ) → FitsProgram p (lines_by p lines) (program plan p)

-- the request of a sender that a step is to settle, from what was found
abbrev pub to_settle : ℕ → Micro → Option ℕ → List ℕ
to_settle sender (Settle q) found = if q == sender then option_to_list found else []
to_settle sender _ found = []

abbrev pub to_settle_next : ℕ → Option Micro → Option ℕ → List ℕ
to_settle_next sender None found = []
to_settle_next sender (Some m) found = to_settle sender m found

-- the request of a sender that a caller has taken and not settled
abbrev pub unsettled : Plan → Progress → ℕ → ℕ → List ℕ
unsettled plan g sender caller = to_settle_next sender (next plan g.counters caller) (found_by g caller)

-- the requests that a sender has posted to a home are, in order, those whose wakes the home has done, the one that it
-- has taken and not settled, and those that are left
abbrev pub PostsAreKept : Plan → Progress → List Line → Type 0
PostsAreKept plan g lines =
    (q c : ℕ) → c < callers plan →
    posted plan g.counters q c ≡ wakes_from q (lines_by c lines) ++ unsettled plan g q c ++ left plan g q c

-- the same where nobody has one that isn't settled
abbrev pub PostsAreTakenOrLeft : Plan → Progress → List Line → Type 0
PostsAreTakenOrLeft plan g lines =
    (q c : ℕ) → c < callers plan → posted plan g.counters q c ≡ wakes_from q (lines_by c lines) ++ left plan g q c
