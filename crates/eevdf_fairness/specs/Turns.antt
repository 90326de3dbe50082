-- Turns of a queue: a pick, and then ticks of the task that was picked.
use Rattle.std.specs.Prelude.{◌≡◌, ℕ, ◌+◌, ◌≤◌, ℤ, List, [], ◌∷◌, Some}
use Rattle.std.specs.List.{AllByRecursion}
use Rattle.std.specs.FinMap as map
use Rattle.eevdf_queue.specs.{declared.entry.Entry.Entry, State.State, Sums.Tasks}
use Rattle.eevdf_queue.specs.{Moves.fresh_entry, Pick.after_pick, Tick.tick}

-- a turn, told by how many nanoseconds each of its ticks runs
abbrev pub Turn : Type 0
Turn = List ℕ

-- how many nanoseconds its ticks run in all
abbrev pub turn_length : Turn → ℕ
turn_length [] = 0
turn_length (ns ∷ turn) = ns + turn_length turn

-- no turn runs longer than this
abbrev pub AreNoLonger : ℕ → List Turn → Type 0
AreNoLonger ns turns = AllByRecursion (λ turn. turn_length turn ≤ ns) turns

-- no tick of theirs runs shorter than this
abbrev pub HaveNoShorterTicks : ℕ → List Turn → Type 0
HaveNoShorterTicks least turns = AllByRecursion (λ turn. AllByRecursion (λ ns. least ≤ ns) turn) turns

-- the queue after ticks of the task that runs; one that is refused changes nothing
abbrev pub after_ticks : State → Turn → State
after_ticks q [] = q
after_ticks q (ns ∷ turn) = after_ticks ((tick q ns).1) turn

-- the queue after a turn: a pick, and then the ticks of the task picked
abbrev pub after_turn : State → Turn → State
after_turn q turn = after_ticks (after_pick q) turn

-- the queue after turns, one after the other
abbrev pub after_turns : State → List Turn → State
after_turns q [] = q
after_turns q (turn ∷ turns) = after_turns (after_turn q turn) turns

-- all runnable tasks stand at one virtual runtime, with fresh requests
abbrev pub IsFresh : ℤ → Tasks → Type 0
IsFresh v tasks = (t : ℕ) (e : Entry) → map.get tasks t ≡ Some e → e ≡ fresh_entry v e.nice e.slice
