-- A task that stays on one CPU has its share of the time that the lines tell, and one that dozes has no more than its own.
use Rattle.std.proofs.Common.{◌≡◌, ℕ, ◌+◌, ◌≤◌, Bool, true, false, cond, List, [], ◌∷◌, Option, Some, None, refl, sym, ap, ◌∙◌, subst}
use Rattle.std.specs.Prelude.{◌==◌, ℤ}
use Rattle.std.specs.List.{AllByRecursion}
use Rattle.eevdf_weight.specs.Weight.{weight_of}
use Rattle.eevdf_queue.specs.{declared.entry.Entry.Entry, State.State}
use Rattle.eevdf_ops.specs.{declared.deeds.Deed.Deed, Machine.Machine, Machine.queue_at, Whole.whole, Whole.lines_of}
use Rattle.eevdf_ops.specs.declared.deeds.Deed.TheVariants as deed
use Rattle.eevdf_ops.proofs.{MapCounts.equal}
use Rattle.eevdf_fairness.specs.Lines as lines
use Rattle.eevdf_dozes.specs.{Stretches.Watch, Stretches.picked, Gains.sum_weights}
use Rattle.eevdf_dozes.specs.Shares.{sum_times, HaveNoShorterTicks, HasShareOfTime, StaysServed, WhoStaysHasItsShare, lack_of}
use Rattle.eevdf_dozes.specs.Shares.{IsBeside, numbers, sum_slices, HasNoMoreOfTime, SleepsServed, WhoSleepsHasNoMore}
use Rattle.eevdf_dozes.specs.Histories.{Call, Tick, events_of}
use Rattle.eevdf_dozes.specs.OneCpu.{call_at, calls_at, and_then, AreAllowedDeeds}
use Rattle.eevdf_dozes.specs.OneCpuStretches.{from_pick, events_on, IsStretchOn, OneCpuHasStretch}
use Rattle.eevdf_dozes.specs.OneCpuShares.{times_on, IsNoShorter, WhoStaysHasItsShareOnCpu, IsBesideOnCpu, WhoSleepsHasNoMoreOnCpu}
use Rattle.eevdf_dozes.proofs.{CallsOfDeeds.IsStep, CallsOfDeeds.after_maybe, CallsOfDeeds.ticks_in, CallsOfDeeds.ticked_at, CallsOfDeeds.step}
use Rattle.eevdf_dozes.proofs.{FromPick.after_pick_is, FromPick.rest_allowed, OneCpuStretches.stays_with, Shares.alone_in_time}

-- ---- no event is a shorter tick where no deed is
abbrev IsLong : ℕ → Option ℕ → Type 0
IsLong least None = Unit {0}
IsLong least (Some ns) = least ≤ ns

first_long : (least : ℕ) (o : Option Call) (q : State) (calls : List Call) → IsLong least (ticks_in o) → HaveNoShorterTicks least (events_of (after_maybe q o) calls)
    → HaveNoShorterTicks least (events_of q (and_then o calls))
first_long least (Some (Tick ns)) q calls long rest = (long, rest)
first_long least o q calls long rest = rest

module _ (homes : List ℕ) (cpu least : ℕ) where
  tick_long : (at ns : ℕ) (b : Bool) → (cpu == at) ≡ b → (cpu ≡ at → least ≤ ns) → IsLong least (cond b (Some ns) None)
  tick_long at ns true is long = long (equal cpu at is)
  tick_long at ns false is long = tt

  deed_long : (d : Deed) → IsNoShorter cpu least d → IsLong least (ticked_at cpu d)
  deed_long (deed.Tick at ns) long = tick_long at ns (cpu == at) refl long
  deed_long d long = tt

  all_long : (m : Machine) (ds : List Deed) → AreAllowedDeeds homes m ds → AllByRecursion (IsNoShorter cpu least) ds
      → HaveNoShorterTicks least (events_of (queue_at m cpu) (calls_at homes cpu m ds))
  all_long m [] allowed long = tt
  all_long m (d ∷ ds) allowed long =
      let one : IsStep (call_at homes cpu m d) (ticked_at cpu d) (queue_at m cpu) (queue_at (whole homes d m).1 cpu) =
      step homes m cpu d (record { allowed = allowed.each.0; cpus = allowed.cpus }) in
      first_long least (call_at homes cpu m d) (queue_at m cpu) (calls_at homes cpu (whole homes d m).1 ds)
      (subst (IsLong least) (sym one.ticks) (deed_long d long.0))
      (subst (λ (r : State). HaveNoShorterTicks least (events_of r (calls_at homes cpu (whole homes d m).1 ds))) one.after
      (all_long (whole homes d m).1 ds (rest_allowed homes m d ds allowed) long.1))

-- ---- the times together
same_times : (w : Watch) (homes : List ℕ) (cpu : ℕ) (m : Machine) (deeds : List Deed) → IsStretchOn w homes cpu m deeds → (ts : List ℕ)
    → sum_times (picked (queue_at m cpu)) (events_on homes cpu m deeds) ts ≡ times_on cpu (lines_of homes m (from_pick cpu deeds)) ts
same_times w homes cpu m deeds own [] = refl
same_times w homes cpu m deeds own (t ∷ ts) =
    ap (λ (x : ℕ). x + sum_times (picked (queue_at m cpu)) (events_on homes cpu m deeds) ts) (own.times t)
    ∙ ap (λ (x : ℕ). lines.time_of t cpu (lines_of homes m (from_pick cpu deeds)) + x) (same_times w homes cpu m deeds own ts)

-- ---- the laws
pub who_stays_has_its_share : OneCpuHasStretch → WhoStaysHasItsShare → WhoStaysHasItsShareOnCpu
who_stays_has_its_share has law w homes cpu m deeds e f h stays short counts ts level least most long lose =
    let q : State = queue_at m cpu in
    let own : IsStretchOn w homes cpu m deeds = has w homes cpu m deeds h in
    let served : StaysServed w (picked q) (events_on homes cpu m deeds) f ts =
    law w q (events_on homes cpu m deeds) e f own.begins (stays_with has w homes cpu m deeds e f h stays) short counts ts level in
    let n : Machine = (whole homes (deed.Pick cpu) m).1 in
    let ticks : HaveNoShorterTicks least (events_on homes cpu m deeds) =
    subst (λ (r : State). HaveNoShorterTicks least (events_of r (calls_at homes cpu n deeds))) (after_pick_is homes cpu m deeds h.allowed)
    (all_long homes cpu least n deeds (rest_allowed homes m (deed.Pick cpu) deeds h.allowed) long) in
    let share : ℕ → ℕ → Type 0 = HasShareOfTime (weight_of (w.nice_of w.stays)) (sum_weights w ts) (lack_of w f ts) least most in
    subst (λ (T : ℕ). share T (lines.time_of w.stays cpu (lines_of homes m (from_pick cpu deeds)))) (same_times w homes cpu m deeds own (w.stays ∷ ts))
    (subst (λ (s : ℕ). share (sum_times (picked q) (events_on homes cpu m deeds) (w.stays ∷ ts)) s) (own.times w.stays)
    (served.in_time least most ticks lose))

all_beside : OneCpuHasStretch → (w : Watch) (homes : List ℕ) (cpu : ℕ) (m : Machine) (deeds : List Deed) (place : ℤ) (ts : List (ℕ × Entry))
    → AllByRecursion (IsBesideOnCpu w homes cpu m deeds place) ts → AllByRecursion (IsBeside w (queue_at m cpu) (events_on homes cpu m deeds) place) ts
all_beside has w homes cpu m deeds place [] all = tt
all_beside has w homes cpu m deeds place (u ∷ us) all =
    let b : IsBesideOnCpu w homes cpu m deeds place u = all.0 in
    let v : Watch = record w { stays = u.0 } in (
      record {
        begins = (has v homes cpu m deeds b.begins).begins;
        entry = b.entry;
        stays = stays_with has v homes cpu m deeds b.entry u.1 b.begins b.stays;
        short = b.short;
        counts = b.counts;
        not_behind = b.not_behind;
      },
      all_beside has w homes cpu m deeds place us all.1,
    )

pub who_sleeps_has_no_more : OneCpuHasStretch → WhoSleepsHasNoMore → WhoSleepsHasNoMoreOnCpu
who_sleeps_has_no_more has law w homes cpu m deeds t place [] counts at all least most long loses =
    record { at_most = alone_in_time (weight_of (w.nice_of t)) (lines.time_of t cpu (lines_of homes m (from_pick cpu deeds))) w.turn least most }
who_sleeps_has_no_more has law w homes cpu m deeds t place (u ∷ us) counts at all least most long loses =
    let q : State = queue_at m cpu in
    let v : Watch = record w { stays = u.0 } in
    let ts : List (ℕ × Entry) = u ∷ us in
    let own : IsStretchOn v homes cpu m deeds = has v homes cpu m deeds all.0.begins in
    let served : SleepsServed w (picked q) (events_on homes cpu m deeds) t ts =
    law w q (events_on homes cpu m deeds) t place ts counts at (all_beside has w homes cpu m deeds place ts all) in
    let n : Machine = (whole homes (deed.Pick cpu) m).1 in
    let ticks : HaveNoShorterTicks least (events_on homes cpu m deeds) =
    subst (λ (r : State). HaveNoShorterTicks least (events_of r (calls_at homes cpu n deeds))) (after_pick_is homes cpu m deeds all.0.begins.allowed)
    (all_long homes cpu least n deeds (rest_allowed homes m (deed.Pick cpu) deeds all.0.begins.allowed) long) in
    let share : ℕ → ℕ → Type 0 = HasNoMoreOfTime (weight_of (w.nice_of t)) (sum_weights w (numbers ts)) (sum_slices ts) w.turn least most in
    subst (λ (T : ℕ). share T (lines.time_of t cpu (lines_of homes m (from_pick cpu deeds)))) (same_times v homes cpu m deeds own (t ∷ numbers ts))
    (subst (λ (s : ℕ). share (sum_times (picked q) (events_on homes cpu m deeds) (t ∷ numbers ts)) s) (own.times t)
    (served.in_time least most ticks loses))
