-- A fleet may be shared between threads, and a seat may go to another. A search that goes down through all fields runs out of steps, so
-- what stands in them has a fact of its own.
use denote.RattleType.{RattleType}
use denote.Param.Send.{IsSend, IsSync, sendable}
use Rattle.std.proofs.Crossing.{crosses}
use Rattle.std.proofs.alloc.Global.TheSendSync as heap
use Rattle.std.proofs.marker.PhantomData.TheSendSync as phantom
use Rattle.atomic_table.proofs.badge.Badge.TheSendSync as badge
use Rattle.atomic_table.proofs.owned.Table.TheSendSync as table
use Rattle.eevdf_queue.proofs.task_id.TaskId.TheSendSync as task
use Rattle.eevdf_queue.proofs.tree.node.TreeNode.TheLaws.TheKnot as knot
use Rattle.eevdf_queue.specs.contracts.queue.Queue as Queue
use Rattle.eevdf_ops.proofs.cpu_id.CpuId.TheSendSync as cpu
use Rattle.eevdf_ops.proofs.deeds.Line.TheSendSync as line
use Rattle.rtrb.proofs.consumer.Consumer.TheSendSync as consumer
use Rattle.rtrb.proofs.producer.Producer.TheSendSync as producer
use Rattle.eevdf_fleet.specs.declared.names.Names.{Ghosts}
use Rattle.eevdf_fleet.specs.contracts.endless.exchange.Exchange as Exchange
use Rattle.eevdf_fleet.specs.contracts.endless.fleet.Fleet as EndlessFleet
use Rattle.eevdf_fleet.specs.contracts.endless.seat.Seat as EndlessSeat
use Rattle.eevdf_fleet.specs.contracts.endless.seen_line.SeenLine as SeenLine
use Rattle.eevdf_fleet.specs.contracts.fleet.Fleet as Fleet
use Rattle.eevdf_fleet.specs.contracts.journal.Journal as Journal
use Rattle.eevdf_fleet.specs.contracts.board.named_board.NamedBoard as NamedBoard
use Rattle.eevdf_fleet.specs.contracts.posted.Posted as Posted
use Rattle.eevdf_fleet.specs.contracts.reserve.Reserve as Reserve
use Rattle.eevdf_fleet.specs.contracts.rings.consumer_ends.Consumers as Consumers
use Rattle.eevdf_fleet.specs.contracts.rings.producer_ends.Producers as Producers
use Rattle.eevdf_fleet.specs.contracts.rings.request.Request as Request
use Rattle.eevdf_fleet.specs.contracts.rings.returned_ends.ReturnedEnds as ReturnedEnds
use Rattle.eevdf_fleet.specs.contracts.run_queues.RunQueues as RunQueues
use Rattle.eevdf_fleet.specs.contracts.seat.Seat as Seat
use Rattle.eevdf_fleet.specs.contracts.seat_log.SeatLog as SeatLog
use Rattle.eevdf_fleet.specs.contracts.seat_parts.SeatParts as SeatParts
use Rattle.eevdf_fleet.specs.contracts.seen.Seen as Seen
use Rattle.eevdf_fleet.specs.contracts.slot.Slot as Slot

queue_send : IsSend Queue.the_row
queue_send = search (crosses, knot.crosses, sendable) depth 60 fits 20000

request_send : IsSend Request.the_row
request_send = search (task.the_send, badge.the_send, crosses, sendable) depth 20

module _ (N : RattleType) (g : Ghosts N.Denot) where
  board_sync : IsSync (NamedBoard.the_row N g)
  board_sync = search (table.the_field_sync, heap.the_send, heap.the_sync, phantom.the_field_sync, crosses, sendable) depth 20

  board_send : IsSend (NamedBoard.the_row N g)
  board_send = search (table.the_field_send, heap.the_send, heap.the_sync, phantom.the_field_send, crosses, sendable) depth 20

  producers_send : IsSend (Producers.the_row N g)
  producers_send = search (producer.the_send, request_send, board_send, board_sync, badge.the_send, heap.the_send, heap.the_sync, phantom.the_field_send, crosses, sendable) depth 20

  consumers_send : IsSend (Consumers.the_row N g)
  consumers_send = search (consumer.the_send, request_send, heap.the_send, phantom.the_field_send, crosses, sendable) depth 20

  ends_send : IsSend (ReturnedEnds.the_row N g)
  ends_send = search (producers_send, consumers_send, task.the_send, crosses, sendable) depth 20

  log_send : IsSend (SeatLog.the_row N g)
  log_send = search (badge.the_send, phantom.the_field_send, cpu.the_send, line.the_send, crosses, sendable) depth 20

  parts_send : IsSend (SeatParts.the_row N g)
  parts_send = search (log_send, producers_send, consumers_send, cpu.the_send, crosses, sendable) depth 20

  pub seat_send : IsSend (Seat.the_row N g)
  seat_send = search (parts_send, crosses, sendable) depth 20

  slot_send : IsSend (Slot.the_row N g)
  slot_send = search (badge.the_send, phantom.the_field_send, cpu.the_send, queue_send, crosses, sendable) depth 20

  journal_send : IsSend (Journal.the_row N g)
  journal_send = search (badge.the_send, phantom.the_field_send, line.the_send, crosses, sendable) depth 20

  reserve_send : IsSend (Reserve.the_row N g)
  reserve_send = search (ends_send, queue_send, parts_send, badge.the_send, crosses, sendable) depth 20

  queues_sync : IsSync (RunQueues.the_row N g)
  queues_sync = search (board_send, board_sync, heap.the_send, heap.the_sync, cpu.the_sync, slot_send, journal_send, reserve_send, crosses, sendable) depth 20

  pub fleet_sync : IsSync (Fleet.the_row N g)
  fleet_sync = search (queues_sync, crosses, sendable) depth 20

  pub endless_seat_send : IsSend (EndlessSeat.the_row N g)
  endless_seat_send = search (parts_send, crosses, sendable) depth 20

  pub endless_fleet_sync : IsSync (EndlessFleet.the_row N g)
  endless_fleet_sync = search (queues_sync, crosses, sendable) depth 20

  pub seen_send : IsSend (Seen.the_row N g)
  seen_send = search (badge.the_send, phantom.the_field_send, crosses, sendable) depth 20

  seen_line_send : IsSend (SeenLine.the_row N g)
  seen_line_send = search (seen_send, line.the_field_send, crosses, sendable) depth 20

  pub exchange_sync : IsSync (Exchange.the_row N g)
  exchange_sync = search (seen_line_send, heap.the_send, heap.the_sync, crosses, sendable) depth 20

  pub posted_send : IsSend (Posted.the_row N g)
  posted_send = search (badge.the_send, phantom.the_field_send, crosses, sendable) depth 20
