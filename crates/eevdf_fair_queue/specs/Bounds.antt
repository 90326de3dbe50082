-- What is kept of how far tasks can be past one another's deadlines, and what becomes of it.
use Rattle.std.specs.Prelude.{ℕ, ◌^◌, ℤ, pos, neg_ℤ, ◌+ℤ◌, ◌-ℤ◌, Bool, int_lt, if◌then◌else◌, Option, Some, None}
use Rattle.std.specs.Int.{w64, int_max, saturate_signed}
use Rattle.eevdf_weight.specs.{Weight.weight_of, Charge.charge_of}
use Rattle.eevdf_queue.specs.{declared.entry.Entry.Entry, Tick.aged}
use Rattle.eevdf_fair_queue.specs.{declared.bounds.Bounds.Bounds, declared.bounds.Mark.Mark}

-- a sum as 64 bits have it: one that they can't hold is the greatest or the least number
abbrev pub held : ℤ → ℤ
held z = saturate_signed w64 z

-- those of a queue without tasks
abbrev pub fresh : Bounds
fresh = record { front = neg_ℤ (pos (2 ^ 63)); furthest = neg_ℤ (pos (2 ^ 63)); longest = pos 0; turn = None }

-- a task has come to a virtual runtime, out of its turn: the front comes there where that is past all tasks
abbrev pub reached : Bounds → ℤ → Bounds
reached b v = if int_lt b.furthest v then record b { front = int_max b.front v; furthest = v } else b

-- a task's deadline is earlier than its mark's, so the furthest may be past it by more than the longest turn: the front comes to the
-- furthest, and no turn is known
abbrev pub advanced : Bounds → Bounds
advanced b = record b { front = int_max b.front b.furthest; turn = None }

-- the turn that goes on has come to a charge, and whoever runs to a virtual runtime
abbrev pub grown : Bounds → ℤ → ℤ → Bounds
grown b turn v = record b { furthest = int_max b.furthest v; longest = int_max b.longest turn; turn = Some turn }

-- a turn begins
abbrev pub picked : Bounds → Bounds
picked b = record b { turn = Some (pos 0) }

-- whoever runs was charged, and has come to a virtual runtime
abbrev pub ticked_by : Bounds → ℤ → ℤ → Option ℤ → Bounds
ticked_by b charge v None = reached b v
ticked_by b charge v (Some turn) = grown b (held (turn +ℤ charge)) v

abbrev pub ticked : Bounds → ℤ → ℤ → Bounds
ticked b charge v = ticked_by b charge v b.turn

-- the same where a task was charged for so many nanoseconds and has this entry now
abbrev pub charged_to : Bounds → ℕ → Option Entry → Bounds
charged_to b ns None = b
charged_to b ns (Some e) = ticked b (pos (charge_of ns (weight_of e.nice))) e.v

-- the same by the entry of whoever runs, as it was before the charge
abbrev pub charged_from : Bounds → ℕ → Option Entry → Bounds
charged_from b ns None = b
charged_from b ns (Some e) = ticked b (pos (charge_of ns (weight_of e.nice))) (aged e ns)

-- a task runs that wasn't picked
abbrev pub adopted : Bounds → Bool → Bounds
adopted b is = if is then record b { turn = None } else b

abbrev pub advanced_where : Bool → Bounds → Bounds
advanced_where is b = if is then advanced b else b

-- a task that stands at an entry now, beside the mark of before: its deadline may be earlier, and its virtual runtime later. The turn is known
-- no more where it is further than the mark
abbrev pub settled_at : Bounds → Option Mark → Entry → Bounds
settled_at b None e = reached fresh e.v
settled_at b (Some m) e = adopted (advanced_where (int_lt e.d m.d) (reached b e.v)) (int_lt m.v e.v)

abbrev pub settled : Bounds → Option Mark → Option Entry → Bounds
settled b m None = b
settled b m (Some e) = settled_at b m e

-- all virtual times are lower by a number
abbrev pub lowered : Bounds → ℤ → Bounds
lowered b by = record b { front = held (b.front -ℤ by); furthest = held (b.furthest -ℤ by) }

-- by how much the virtual time can be past a deadline
abbrev pub late_by : Bounds → ℤ → ℤ
late_by b deadline = int_max b.longest (held (b.front -ℤ deadline))
