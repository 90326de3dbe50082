-- What a queue offers to another CPU.
use Rattle.std.specs.Prelude.{Option}
use Rattle.std.specs.Option.{option_and_then}
use Rattle.eevdf_queue.specs.{State.State, State.Contents, Candidate.candidate_of, Leaving.carried}

-- the candidate, with what it would carry
abbrev pub offer : State → Option Contents
offer q = option_and_then (carried q) (candidate_of q.runnable q.running)
