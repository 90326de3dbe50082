-- No task stands twice in the queues that a token claims.
use Rattle.std.proofs.Common.{◌≡◌, ◌≢◌, ℕ, ◌<◌, List, [], ◌∷◌, length, arith}
use Rattle.eevdf_queue.specs.State.{State}
use Rattle.eevdf_ops.specs.{declared.deeds.Line.Line, Machine.Machine, Machine.queue_at, Setup.cpus_of, Transfers.NoneTwice}
use Rattle.eevdf_ops.proofs.{LentQueues.none-in-both, MachinePlaces.none-twice as apart-in}
use Rattle.eevdf_fleet.specs.{declared.board.claims.Terms.Terms, declared.board.claims.Claim.TheVariants.Queue, Claims.homes}
use Rattle.eevdf_fleet.specs.{Claims.told, Board.Known}
use Rattle.eevdf_fleet.proofs.Told.{length-told}

pub none-twice : (t : Terms) (lines : List Line) (a b : ℕ) (q r : State) → Known t lines (Queue a q ∷ Queue b r ∷ []) → a ≢ b → a < cpus_of t.setup.value → b < cpus_of t.setup.value → NoneTwice q r
none-twice t lines a b q r known apart h g =
    let m : Machine = told t lines in
    let many : length m ≡ cpus_of t.setup.value = length-told t lines in
    none-in-both q r (queue_at m a) (queue_at m b) known.tell.0 known.tell.1.0 (apart-in (homes t) m a b known.kept.placed apart (omega (arith, many, h)) (omega (arith, many, g)))
