use Rattle.std.proofs.Common.{◌≡◌, ◌≤◌, length, map, take, vec_capacity, deque_capacity}
use Rattle.eevdf_free_tasks.specs.Slots.{first_slot, AreListed}
use Rattle.eevdf_free_tasks.proofs.free_tasks.FreeTasks.of_home.Given as goal

abbrev pub invariant-loop-number : goal.invariant-loop-number
invariant-loop-number l = record {
  slots : l.slots.items ≡ map (first_slot l.home) (take l.number l.setup.tasks);
  listed : AreListed l.free.items l.slots.items;
  free_room : length l.setup.tasks ≤ deque_capacity l.free;
  slots_room : length l.setup.tasks ≤ vec_capacity l.slots;
}
