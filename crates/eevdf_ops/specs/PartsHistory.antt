-- A history by parts: each queue replayed by itself.
use Rattle.std.specs.Prelude.{◌≡◌, ℕ, true, List, [], ◌∷◌, length, map}
use Rattle.std.specs.List.{list_all}
use Rattle.eevdf_queue.specs.State.{State}
use Rattle.eevdf_ops.specs.{declared.deeds.Deed.Deed, declared.deeds.Line.Line, Setup.is_allowed, Machine.Machine, Machine.queue_at}
use Rattle.eevdf_ops.specs.{Places.AreCpus, Whole.lines_of, Whole.machine_after}
use Rattle.eevdf_ops.specs.Parts.{Moved, Agrees, local_after}

-- a deed with its answer, and what moved between queues
pub record Step : Type 0 where
  pub line : Line
  pub moved : Moved

abbrev pub lines_in : List Step → List Line
lines_in steps = map (λ (s : Step). s.line) steps

abbrev pub deeds_in : List Step → List Deed
deeds_in steps = map (λ (s : Step). s.line.deed) steps

-- the queue of a CPU after the steps, each of which changes it by its own part
abbrev pub replayed : List ℕ → ℕ → State → List Step → State
replayed homes c q [] = q
replayed homes c q (s ∷ ss) = replayed homes c (local_after homes s.line.deed c q s.line.answer s.moved) ss

-- and it agrees with each of them
abbrev pub AgreesAlong : List ℕ → ℕ → State → List Step → Type 0
AgreesAlong homes c q [] = Unit {0}
AgreesAlong homes c q (s ∷ ss) =
    Agrees s.line.deed c q s.line.answer s.moved
    × AgreesAlong homes c (local_after homes s.line.deed c q s.line.answer s.moved) ss

-- the steps are the history of their deeds, and each queue that they leave is the one replayed
pub record IsHistory (homes : List ℕ) (m : Machine) (steps : List Step) : Type 0 where
  pub lines : lines_of homes m (deeds_in steps) ≡ lines_in steps
  pub queues : (c : ℕ) → queue_at (machine_after homes m (deeds_in steps)) c ≡ replayed homes c (queue_at m c) steps

-- where each queue by itself agrees with all steps, they are the history
abbrev pub HistoryByParts : Type 0
HistoryByParts =
    (homes : List ℕ) (m : Machine) (steps : List Step) →
    list_all (is_allowed (length m) homes) (deeds_in steps) ≡ true → AreCpus (length m) homes →
    ((c : ℕ) → AgreesAlong homes c (queue_at m c) steps) → IsHistory homes m steps
