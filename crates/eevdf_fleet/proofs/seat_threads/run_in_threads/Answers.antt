use denote.Param.Send.{sendable}
use Rattle.std.proofs.Common.{◌≡◌, ◌+◌, ◌<◌, ℕ, length, get_or, vec_items, vec_len, ap, subst, sym, ◌∙◌, arith}
use Rattle.std.proofs.lemmas.Option.{get_or_from_slice_get, slice_get-get_or, slice_get_within}
use Rattle.std.specs.Vec.Iter.{into_iter_items, into_iter_len}
use Rattle.eevdf_fleet.proofs.SeatLists.{each-pushed, first-holds, others-hold}
use Rattle.eevdf_fleet.proofs.seat_threads.run_in_threads.Goals as goal

pub loop-seat-init : goal.loop-seat-init
loop-seat-init g c =
    let left : into_iter_len c.into_iter-seat-iterator.result ≡ vec_len c.args.seats = c.into_iter-seat-iterator.ensures.into_iter_gives.1 in
    let none : vec_len c.in_ok-threads.threads ≡ 0 = c.in_ok-threads.ensures.len in
    record {
      rest = λ k d below.
          let at : k < length c.args.seats.items = omega (arith, below, left, c.args.seats.ok.0) in
          let same : k ≡ vec_len c.in_ok-threads.threads + k = omega (arith, none) in
          subst (λ (n : ℕ). g.W.SeatWork.fits c.args.work.now n (get_or (into_iter_items c.into_iter-seat-iterator.result) k d)) same
          (subst (λ xs. g.W.SeatWork.fits c.args.work.now k (get_or xs k d)) (sym c.into_iter-seat-iterator.ensures.into_iter_gives.0)
          (c.requires k (get_or c.args.seats.items k d) (slice_get-get_or c.args.seats.items k d at)));
      count = omega (arith, left, none);
      promised = λ k d below. absurd (omega (arith, below, none));
      room = omega (arith, c.in_ok-threads.ensures.capacity, c.len.ensures);
    }

-- the search doesn't find its first step by itself
pub spawn_with-requires-send-F : goal.spawn_with-requires-send-F
spawn_with-requires-send-F g c κs within = search (sendable) depth 20

pub spawn_with-requires-clause-runs : goal.spawn_with-requires-clause-runs
spawn_with-requires-clause-runs g c κs within =
    let here = first-holds (g.W.SeatWork.fits c.args.work.now) _ _ _ _ _ c.in-Some.ensures.steps.0 (omega (arith, c.in-Some.ensures.steps.1)) c.loop-seat.invariant.rest in
    λ κs' x held κs'' lives. subst (λ (n : ℕ). g.W.SeatWork.fits c.args.work.now n c.in-Some.seat) (sym c.len-number.ensures) here

pub push_reserved-requires : goal.push_reserved-requires
push_reserved-requires g c = omega (arith, c.loop-seat.invariant.count, c.loop-seat.invariant.room, c.in-Some.ensures.steps.1)

pub returns-in_default : goal.returns-in_default
returns-in_default g c = tt

pub loop-seat-preserved : goal.loop-seat-preserved
loop-seat-preserved g c =
    let before = c.loop-seat.threads in
    let grown : vec_len c.push_reserved.new.self ≡ vec_len before + 1 = c.push_reserved.ensures.len in
    let number : c.in-Ok.thread.promise.number ≡ vec_len before = ap (λ p. p.number) c.in-Ok.ensures.ok ∙ c.len-number.ensures in
    let work : c.in-Ok.thread.promise.work.value ≡ c.args.work.now = ap (λ p. p.work.value) c.in-Ok.ensures.ok ∙ c.of.ensures in
    let others = others-hold (g.W.SeatWork.fits c.args.work.now) _ _ _ _ _ c.in-Some.ensures.steps.0 c.loop-seat.invariant.rest in
    record {
      rest = λ k d below.
          let next : vec_len before + 1 + k ≡ vec_len c.push_reserved.new.self + k = omega (arith, grown) in
          subst (λ (n : ℕ). g.W.SeatWork.fits c.args.work.now n (get_or (into_iter_items c.next.new.self) k d)) next (others k d (omega (arith, below, c.in-Some.ensures.steps.1)));
      count = omega (arith, grown, c.loop-seat.invariant.count, c.in-Some.ensures.steps.1);
      promised = λ k d below. each-pushed (λ k h. (h.promise.number ≡ k) × (h.promise.work.value ≡ c.args.work.now)) (vec_len before) (vec_items before) _ _ c.push_reserved.ensures.items before.ok.0 c.loop-seat.invariant.promised (number, work) k d (omega (arith, below, grown));
      room = omega (arith, c.loop-seat.invariant.room, c.push_reserved.ensures.capacity);
    }

pub loop-thread-init : goal.loop-thread-init
loop-thread-init g c =
    let none : vec_len c.in_ok-done.done ≡ 0 = c.in_ok-done.ensures.len in
    let left : into_iter_len c.into_iter-thread-iterator.result ≡ vec_len c.loop-seat.threads = c.into_iter-thread-iterator.ensures.into_iter_gives.1 in
    let ended : into_iter_len c.loop-seat.seat-iterator ≡ 0 = c.in-None.ensures.steps.0 in
    record {
      count = omega (arith, left, none, ended, c.loop-seat.invariant.count);
      promised = λ k d below.
          let same = c.into_iter-thread-iterator.ensures.into_iter_gives.0 in
          let promised = c.loop-seat.invariant.promised k d (omega (arith, below, left)) in (
            ap (λ hs. (get_or hs k d).promise.number) same ∙ promised.0 ∙ (omega (arith, none)),
            ap (λ hs. (get_or hs k d).promise.work.value) same ∙ promised.1,
          );
      done = λ k d below. absurd (omega (arith, below, none));
      room = omega (arith, c.in_ok-done.ensures.capacity, c.len-2.ensures);
    }

pub loop-thread-preserved : goal.loop-thread-preserved
loop-thread-preserved g c =
    let done = c.loop-thread.done in
    let grown : vec_len c.push_reserved-in-loop-thread.new.self ≡ vec_len done + 1 = c.push_reserved-in-loop-thread.ensures.len in
    let first = first-holds (λ k h. (h.promise.number ≡ k) × (h.promise.work.value ≡ c.args.work.now)) _ _ _ _ _ c.in-Some-thread.ensures.steps.0 (omega (arith, c.in-Some-thread.ensures.steps.1))
    c.loop-thread.invariant.promised in
    let here : g.W.SeatWork.is_done c.args.work.now (vec_len done) c.join.result
    = subst (λ w. g.W.SeatWork.is_done w (vec_len done) c.join.result) first.1 (subst (λ (n : ℕ). g.W.SeatWork.is_done c.in-Some-thread.thread.promise.work.value n c.join.result) first.0 c.join.ensures) in
    let others = others-hold (λ k h. (h.promise.number ≡ k) × (h.promise.work.value ≡ c.args.work.now)) _ _ _ _ _ c.in-Some-thread.ensures.steps.0 c.loop-thread.invariant.promised in
    record {
      count = omega (arith, grown, c.loop-thread.invariant.count, c.in-Some-thread.ensures.steps.1);
      promised = λ k d below.
          let promised = others k d (omega (arith, below, c.in-Some-thread.ensures.steps.1)) in
          (promised.0 ∙ (omega (arith, grown)), promised.1);
      done = λ k d below. each-pushed (g.W.SeatWork.is_done c.args.work.now) (vec_len done) (vec_items done) _ _ c.push_reserved-in-loop-thread.ensures.items done.ok.0 c.loop-thread.invariant.done here k d (omega (arith, below, grown));
      room = omega (arith, c.loop-thread.invariant.room, c.push_reserved-in-loop-thread.ensures.capacity);
    }

pub returns : goal.returns
returns g c =
    let done = c.loop-thread.done in
    let ended : into_iter_len c.loop-thread.thread-iterator ≡ 0 = c.in-None-thread.ensures.steps.0 in
    record {
      all = omega (arith, ended, done.ok.0, c.loop-thread.invariant.count);
      each = λ k seat at. subst (λ x. g.W.SeatWork.is_done c.args.work.now k x) (get_or_from_slice_get done.items k seat seat at)
          (c.loop-thread.invariant.done k seat (omega (arith, slice_get_within done.items k seat at, done.ok.0)));
    }
