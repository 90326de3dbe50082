use Rattle.std.proofs.Common.{sym, ap, rules}
use Rattle.std.specs.Prelude.{ℤ, is_some}
use mir.Syntax.{w64}
use mir.Val.{SFits}
use Rattle.eevdf_queue.proofs.{DueTasks.read_in_time, DueTasks.due_written, Sound.sound_change}
use Rattle.eevdf_queue.proofs.queue.Queue.set_slice.Goals as goal

pub invariant_of-self : goal.invariant_of-self
invariant_of-self c =
    let v : ℤ = c.in-Some.entry.v in
    let d : ℤ = c.in-Some.entry.d in
    let fits_v : SFits w64 v = search rules in
    let fits_d : SFits w64 d = search rules in
    let timely = read_in_time v d fits_v fits_d (c.self.invariant.3 c.args.task c.in-Some.entry (sym c.in-Some.ensures)) in
    (sound_change _ _ _ _ _ _ _ c.set.ensures (ap is_some (sym c.in-Some.ensures)) c.self.invariant.0, c.self.invariant.1, c.self.invariant.2, due_written _ _ _ _ c.set.ensures timely c.self.invariant.3)
