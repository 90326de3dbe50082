use Rattle.std.proofs.Common.{◌≡◌, ℕ, ◌+◌, List, refl, sym, ap, subst, ◌∙◌, arith}
use base.Growing.{prefix_refl, prefix_trans}
use mathlib.Core.List.{IsPrefix}
use Rattle.eevdf_ops.specs.Setup.{cpus_of}
use Rattle.eevdf_fleet.specs.{declared.drains.Drained.Drained, declared.wake_list.DrainedWake.DrainedWake, Drains.AreTakenBy, Drains.HasTaken, Fleets.Seat, Fleets.setup_of}
use Rattle.eevdf_ops.specs.declared.deeds.Line.{Line}
use Rattle.eevdf_fleet.proofs.SenderTurns.{DrainedBelow, drained-all, listed-more, listed-none, listed-same, none-drained, none-taken, one-taken, room-left, woken-few}
use Rattle.eevdf_fleet.proofs.run_queues.RunQueues.drain_all.Goals as goal
use Rattle.eevdf_fleet.proofs.run_queues.RunQueues.drain_all.Goals.{in-Some, in_default}

pub numbered-requires : goal.numbered-requires
numbered-requires g c = omega (arith, c.loop-sender-test.true, c.len-sender-end.ensures, c.self.invariant.1, c.self.invariant.3)

pub counted-drained-requires-clause-woken : goal.counted-drained-requires-clause-woken
counted-drained-requires-clause-woken g c =
    omega (arith, c.loop-sender-test.true, c.len-sender-end.ensures, c.self.invariant.1, c.self.invariant.3, c.loop-sender.invariant.0.woken, woken-few c.loop-sender.invariant.0.lines, c.loop-sender.invariant.0.few)

pub loop-sender-preserved : goal.loop-sender-preserved
loop-sender-preserved g c =
    let k = c.loop-sender.sender in
    let before = c.args.seat.now.seat in (
      elim c.match-drain_one.branch [
        | in-Some w ↦
            subst (λ (d : Drained). DrainedBelow (k + 1) before c.drain_one.new.seat.seat d) (sym (w.drained-is ∙ w.counted-drained.ensures))
            (one-taken k before c.loop-sender.seat.seat c.drain_one.new.seat.seat c.loop-sender.drained c.loop-sender.invariant.0 w.in-Some.wake
            (subst (λ (n : ℕ). HasTaken c.loop-sender.seat.seat c.drain_one.new.seat.seat n w.in-Some.wake) c.numbered.ensures w.in-Some.ensures.some.taken))
        | in_default w ↦
            subst (λ (d : Drained). DrainedBelow (k + 1) before c.drain_one.new.seat.seat d) (sym w.drained-is)
            (none-taken k before c.loop-sender.seat.seat c.drain_one.new.seat.seat c.loop-sender.drained c.loop-sender.invariant.0 w.in_default.ensures.none.seat (λ here. w.in_default.ensures.none_own (c.numbered.ensures ∙ here)))
      ],
      elim c.match-drain_one.branch [
        | in-Some w ↦ prefix_trans _ _ _ c.loop-sender.invariant.1 w.in-Some.ensures.some.seen
        | in_default w ↦ subst (λ (l : List Line). IsPrefix c.args.seat.now.seen l) (sym w.in_default.ensures.none.seen) c.loop-sender.invariant.1
      ],
      elim c.match-drain_one.branch [
        | in-Some w ↦ λ home. omega (arith, c.loop-sender.invariant.2 home, w.in-Some.ensures.some.free home)
        | in_default w ↦ λ home. omega (arith, c.loop-sender.invariant.2 home, w.in_default.ensures.none.free home)
      ],
      c.drain_one.ensures.number ∙ c.loop-sender.invariant.3,
      elim c.match-drain_one.branch [
        | in-Some w ↦
            subst (λ x. AreTakenBy (λ (wakes : List DrainedWake). g.L.WakeList.has_taken c.args.wakes.now wakes x) before c.drain_one.new.seat.seat) (sym w.wakes-is)
            (listed-more _ _ before c.loop-sender.seat.seat c.drain_one.new.seat.seat k w.in-Some.wake c.loop-sender.invariant.4 (ap (λ (s : Seat). s.cpu) c.loop-sender.invariant.0.seat)
            (subst (λ (n : ℕ). HasTaken c.loop-sender.seat.seat c.drain_one.new.seat.seat n w.in-Some.wake) c.numbered.ensures w.in-Some.ensures.some.taken)
            (λ wakes holds. w.take.ensures.wake _ wakes holds))
        | in_default w ↦
            subst (λ x. AreTakenBy (λ (wakes : List DrainedWake). g.L.WakeList.has_taken c.args.wakes.now wakes x) before c.drain_one.new.seat.seat) (sym w.wakes-is)
            (listed-same _ before c.loop-sender.seat.seat c.drain_one.new.seat.seat c.loop-sender.invariant.4 w.in_default.ensures.none.seat)
      ],
      elim c.match-drain_one.branch [
        | in-Some w ↦ omega (arith, c.loop-sender.invariant.5, w.take.ensures.room, ap g.L.WakeList.room w.wakes-is)
        | in_default w ↦ omega (arith, c.loop-sender.invariant.5, ap g.L.WakeList.room w.wakes-is)
      ],
    )

pub returns-clause-drained : goal.returns-clause-drained
returns-clause-drained g c =
    let cpus = cpus_of (setup_of g.N.Names.kit) in
    let all : c.loop-sender.sender ≡ cpus = omega (arith, c.loop-sender-test.false, c.loop-sender.auto.sender-end, c.len-sender-end.ensures, c.self.invariant.1) in
    record {
      does = drained-all cpus c.args.seat.now.seat c.loop-sender.seat.seat c.loop-sender.drained c.requires.cpu
          (subst (λ (n : ℕ). DrainedBelow n c.args.seat.now.seat c.loop-sender.seat.seat c.loop-sender.drained) all c.loop-sender.invariant.0);
      seen = c.loop-sender.invariant.1;
      free = c.loop-sender.invariant.2;
    }

pub drain_one-requires-clause-room : goal.drain_one-requires-clause-room
drain_one-requires-clause-room g c =
    room-left g.N.Names.kit.terms.quota (cpus_of (setup_of g.N.Names.kit)) c.loop-sender.sender c.args.seat.now.seat c.loop-sender.seat.seat c.loop-sender.drained c.loop-sender.invariant.0
    (omega (arith, c.loop-sender-test.true, c.len-sender-end.ensures, c.self.invariant.1)) c.requires.room

pub loop-sender-init : goal.loop-sender-init
loop-sender-init g c = (none-drained c.args.seat.now.seat, prefix_refl c.args.seat.now.seen, (λ home. omega arith), refl, listed-none _ c.args.seat.now.seat (g.met.L.WakeList.none c.args.wakes.now), omega (arith, c.requires.list))

pub returns-clause-few : goal.returns-clause-few
returns-clause-few g c =
    omega (arith, c.loop-sender.auto.sender-end, c.len-sender-end.ensures, c.self.invariant.1, c.loop-sender.invariant.0.taken, c.loop-sender.invariant.0.few)

pub take-requires : goal.take-requires
take-requires g c = omega (arith, c.loop-sender.invariant.5, c.loop-sender-test.true, c.len-sender-end.ensures, c.self.invariant.1)
