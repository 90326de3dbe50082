-- No request of a CPU is later than the lightest of its tasks is charged for its longest turn.
use Rattle.std.proofs.Common.{◌≡◌, ℕ, ◌≤◌, ◌++◌, true, List, [], ◌∷◌, refl, subst, arith}
use Rattle.std.specs.Prelude.{ℤ, pos, ◌+ℤ◌}
use Rattle.eevdf_weight.specs.{Weight.weight_of, Charge.charge_of}
use Rattle.eevdf_weight.proofs.Weighing.{weight_of-least}
use Rattle.eevdf_queue.specs.{declared.entry.Entry.Entry, State.State}
use Rattle.eevdf_ops.specs.{declared.deeds.Answer.Answer, declared.deeds.Deed.Deed, declared.deeds.Line.Line, Machine.Machine, Machine.queue_at, Machine.start, Whole.whole, Whole.machine_after, Histories.machine_told}
use Rattle.eevdf_ops.specs.{Programs.deeds_of, Setup.Setup, Setup.homes_of}
use Rattle.eevdf_dozes.specs.{Stretches.Watch, Punctual.NoneStandsPast, Punctual.IsPunctual, OneCpuHistories.machine_by}
use Rattle.eevdf_dozes.specs.OneCpuStretches.{AllCountOn, StaysOnCpu, RequestsStayPunctualOnCpu, from_pick, queue_after}
use Rattle.eevdf_dozes.proofs.Punctual.{lighter_turn_is_longer}
use Rattle.eevdf_fair_seat.specs.declared.seat_bound.SeatBound.{SeatBound}
use Rattle.eevdf_fair_seat.specs.Turns.{BeginsAt, TurnsAreNoLonger, WasHanded, picked}
use Rattle.eevdf_fair_seat.specs.Lateness.{NoneIsLater, NoneIsLighter}

all_count : (w : Watch) (ns : ℕ) (homes : List ℕ) (cpu : ℕ) (m : Machine) (ds : List Deed) → AllCountOn w homes cpu m ds → AllCountOn (record w { turn = ns }) homes cpu m ds
all_count w ns homes cpu m [] all = tt
all_count w ns homes cpu m (d ∷ ds) all = (all.0, all_count w ns homes cpu (whole homes d m).1 ds all.1)

come_after : (homes : List ℕ) (m : Machine) (before lines : List Line)
    → machine_after homes (machine_told homes m before) (deeds_of lines) ≡ machine_told homes m (before ++ lines)
come_after homes m [] lines = refl
come_after homes m (l ∷ before) lines = come_after homes (whole homes l.deed m).1 before lines

pub none_is_later : RequestsStayPunctualOnCpu → (b : SeatBound) (lightest : ℤ) (ns : ℕ) → TurnsAreNoLonger b ns
    → NoneIsLater b lightest (charge_of ns (weight_of lightest))
none_is_later law b lightest ns no_longer w s cpu before answer lines e f handed begins stays all none_lighter none_past =
    let homes : List ℕ = homes_of s in
    let m : Machine = machine_by s before in
    let deeds : List Deed = deeds_of lines in
    let most : ℕ = charge_of ns (weight_of lightest) in
    let short : Watch = record w { turn = ns } in
    let punctual : IsPunctual short (queue_after homes cpu m deeds) f most =
    law short homes cpu m deeds e f (no_longer w s cpu before answer lines handed begins) (record { at_first = stays.at_first; in_the_end = stays.in_the_end })
    (all_count w ns homes cpu m (from_pick cpu deeds) all) most
    (λ t counts. lighter_turn_is_longer ns (weight_of lightest) (w.nice_of t) (omega (arith, weight_of-least lightest)) (none_lighter t counts)) none_past in
    subst (λ (n : Machine). IsPunctual w (queue_at n cpu) f most) (come_after homes (start s) before (picked cpu answer ∷ lines))
    (record { none_past = punctual.none_past; late = punctual.late })
