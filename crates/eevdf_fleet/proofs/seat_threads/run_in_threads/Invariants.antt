use Rattle.std.proofs.Common.{◌≡◌, ◌+◌, ◌<◌, ◌≤◌, ℕ, get_or}
use Rattle.std.specs.Prelude.{vec_items, vec_len, vec_capacity}
use Rattle.std.specs.Vec.Iter.{into_iter_items, into_iter_len}
use Rattle.eevdf_fleet.proofs.seat_threads.run_in_threads.Given as goal

abbrev pub invariant-loop-seat : goal.invariant-loop-seat
invariant-loop-seat g l = record {
  rest : (k : ℕ) (d : _) → k < into_iter_len l.seat-iterator → g.W.SeatWork.fits l.work (vec_len l.threads + k) (get_or (into_iter_items l.seat-iterator) k d);
  count : vec_len l.threads + into_iter_len l.seat-iterator ≡ vec_len l.fn.seats;
  promised : (k : ℕ) (d : _) → k < vec_len l.threads → let promise = (get_or (vec_items l.threads) k d).promise in (promise.number ≡ k) × (promise.work.value ≡ l.work);
  room : vec_len l.fn.seats ≤ vec_capacity l.threads;
}

abbrev pub invariant-loop-thread : goal.invariant-loop-thread
invariant-loop-thread g l = record {
  count : vec_len l.done + into_iter_len l.thread-iterator ≡ vec_len l.fn.seats;
  promised : (k : ℕ) (d : _) → k < into_iter_len l.thread-iterator → let promise = (get_or (into_iter_items l.thread-iterator) k d).promise in (promise.number ≡ vec_len l.done + k) × (promise.work.value ≡ l.work);
  done : (k : ℕ) (d : _) → k < vec_len l.done → g.W.SeatWork.is_done l.work k (get_or (vec_items l.done) k d);
  room : vec_len l.fn.seats ≤ vec_capacity l.done;
}
