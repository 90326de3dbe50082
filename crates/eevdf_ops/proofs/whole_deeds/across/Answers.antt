use Rattle.std.proofs.Common.{◌≡◌, ◌<◌, length, get_or, ◌∙◌, arith}
use Rattle.std.proofs.lemmas.List.{set_comm}
use Rattle.eevdf_ops.specs.{Machine.queue_at, Outcome.machine_of, Transfers.transferred}
use Rattle.eevdf_ops.proofs.{LentQueues.as-read, LentQueues.lent-written, LentQueues.none-in-both, LentQueues.read-back, LentQueues.read-front}
use Rattle.eevdf_ops.proofs.whole_deeds.across.Goals as goal

pub apply-requires : goal.apply-requires
apply-requires c =
    let front = c.split_at_mut-front.result.0.now in
    let back = c.split_at_mut-front.result.1.now in
    none-in-both (get_or front c.index-then-index-2.result c.index-front-index.result).state (get_or back 0 c.index-back-0.result).state
    (queue_at (machine_of c.args.queues.now) c.args.cpu) (queue_at (machine_of c.args.queues.now) c.args.other)
    (read-front front back c.args.queues.now c.index-then-index-2.result c.args.cpu c.index-front-index.result c.split_at_mut-front.ensures.value
    (omega (arith, c.if-index.true, c.index.ensures.number, c.index-2.ensures.number, c.index-then-index.ensures.number, c.index-then-index-2.ensures.number, c.split_at_mut-front.ensures.front_len)) c.index-then-index-2.ensures.number)
    (read-back front back c.args.queues.now c.args.other c.index-back-0.result c.split_at_mut-front.ensures.value
    (omega (arith, c.requires.other, c.index-then-index.ensures.number, c.split_at_mut-front.ensures.back_len)) (c.split_at_mut-front.ensures.front_len ∙ c.index-then-index.ensures.number))
    c.requires.once

pub apply-requires-else-index : goal.apply-requires-else-index
apply-requires-else-index c =
    let front = c.split_at_mut-front-else-index.result.0.now in
    let back = c.split_at_mut-front-else-index.result.1.now in
    none-in-both (get_or back 0 c.index-back-0-else-index.result).state (get_or front c.index-else-index-2.result c.index-front-index-else-index.result).state
    (queue_at (machine_of c.args.queues.now) c.args.cpu) (queue_at (machine_of c.args.queues.now) c.args.other)
    (read-back front back c.args.queues.now c.args.cpu c.index-back-0-else-index.result c.split_at_mut-front-else-index.ensures.value
    (omega (arith, c.requires.cpu, c.index-else-index.ensures.number, c.split_at_mut-front-else-index.ensures.back_len)) (c.split_at_mut-front-else-index.ensures.front_len ∙ c.index-else-index.ensures.number))
    (read-front front back c.args.queues.now c.index-else-index-2.result c.args.other c.index-front-index-else-index.result c.split_at_mut-front-else-index.ensures.value
    (omega (arith, c.if-index.false, c.requires.apart, c.index.ensures.number, c.index-2.ensures.number, c.index-else-index.ensures.number, c.index-else-index-2.ensures.number, c.split_at_mut-front-else-index.ensures.front_len))
    c.index-else-index-2.ensures.number)
    c.requires.once

pub returns-then-index-clause-machine : goal.returns-then-index-clause-machine
returns-then-index-clause-machine c =
    let front = c.split_at_mut-front.result.0.now in
    let back = c.split_at_mut-front.result.1.now in
    let within : c.index-then-index-2.result < length front =
    omega (arith, c.if-index.true, c.index.ensures.number, c.index-2.ensures.number, c.index-then-index.ensures.number, c.index-then-index-2.ensures.number, c.split_at_mut-front.ensures.front_len) in
    let seam : length front ≡ c.args.other = c.split_at_mut-front.ensures.front_len ∙ c.index-then-index.ensures.number in
    let own = read-front front back c.args.queues.now c.index-then-index-2.result c.args.cpu c.index-front-index.result c.split_at_mut-front.ensures.value within c.index-then-index-2.ensures.number in
    let away = read-back front back c.args.queues.now c.args.other c.index-back-0.result c.split_at_mut-front.ensures.value
    (omega (arith, c.requires.other, c.index-then-index.ensures.number, c.split_at_mut-front.ensures.back_len)) seam in
    lent-written front back c.args.queues.now c.index-then-index-2.result c.args.cpu c.args.other c.apply.new.queue c.apply.new.other
    (transferred c.args.transfer (queue_at (machine_of c.args.queues.now) c.args.cpu) (queue_at (machine_of c.args.queues.now) c.args.other)).1.0
    (transferred c.args.transfer (queue_at (machine_of c.args.queues.now) c.args.cpu) (queue_at (machine_of c.args.queues.now) c.args.other)).1.1
    c.split_at_mut-front.ensures.value within c.index-then-index-2.ensures.number seam
    (as-read (λ q r. (transferred c.args.transfer q r).1.0) c.apply.new.queue.state _ _ _ _ own away c.apply.ensures.queue)
    (as-read (λ q r. (transferred c.args.transfer q r).1.1) c.apply.new.other.state _ _ _ _ own away c.apply.ensures.other)
    ∙ set_comm (machine_of c.args.queues.now) c.args.other c.args.cpu _ _ c.requires.apart

pub returns-else-index-clause-machine : goal.returns-else-index-clause-machine
returns-else-index-clause-machine c =
    let front = c.split_at_mut-front-else-index.result.0.now in
    let back = c.split_at_mut-front-else-index.result.1.now in
    let within : c.index-else-index-2.result < length front =
    omega (arith, c.if-index.false, c.requires.apart, c.index.ensures.number, c.index-2.ensures.number, c.index-else-index.ensures.number, c.index-else-index-2.ensures.number, c.split_at_mut-front-else-index.ensures.front_len) in
    let seam : length front ≡ c.args.cpu = c.split_at_mut-front-else-index.ensures.front_len ∙ c.index-else-index.ensures.number in
    let own = read-back front back c.args.queues.now c.args.cpu c.index-back-0-else-index.result c.split_at_mut-front-else-index.ensures.value
    (omega (arith, c.requires.cpu, c.index-else-index.ensures.number, c.split_at_mut-front-else-index.ensures.back_len)) seam in
    let away = read-front front back c.args.queues.now c.index-else-index-2.result c.args.other c.index-front-index-else-index.result c.split_at_mut-front-else-index.ensures.value within c.index-else-index-2.ensures.number in
    lent-written front back c.args.queues.now c.index-else-index-2.result c.args.other c.args.cpu c.apply-else-index.new.other c.apply-else-index.new.queue
    (transferred c.args.transfer (queue_at (machine_of c.args.queues.now) c.args.cpu) (queue_at (machine_of c.args.queues.now) c.args.other)).1.1
    (transferred c.args.transfer (queue_at (machine_of c.args.queues.now) c.args.cpu) (queue_at (machine_of c.args.queues.now) c.args.other)).1.0
    c.split_at_mut-front-else-index.ensures.value within c.index-else-index-2.ensures.number seam
    (as-read (λ q r. (transferred c.args.transfer q r).1.1) c.apply-else-index.new.other.state _ _ _ _ own away c.apply-else-index.ensures.other)
    (as-read (λ q r. (transferred c.args.transfer q r).1.0) c.apply-else-index.new.queue.state _ _ _ _ own away c.apply-else-index.ensures.queue)
