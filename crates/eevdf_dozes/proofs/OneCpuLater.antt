-- The laws of later moments hold of each CPU of a machine, whatever deeds are done on all its CPUs.
use Rattle.std.proofs.Common.{◌≡◌, ℕ, ◌+◌, ◌≤◌, ◌++◌, true, List, [], ◌∷◌, Option, Some, None, sym, ap, ◌∙◌, subst}
use Rattle.std.specs.FinMap.{get}
use Rattle.eevdf_queue.specs.{declared.entry.Entry.Entry, State.State, Moves.request_of}
use Rattle.eevdf_ops.specs.{declared.deeds.Deed.Deed, declared.deeds.Deed.TheVariants.Pick, Machine.Machine, Machine.queue_at}
use Rattle.eevdf_ops.specs.{Whole.whole, Whole.machine_after}
use Rattle.eevdf_fairness.specs.Healing.{HasNotYielded}
use Rattle.eevdf_dozes.specs.{Stretches.Watch, Stretches.picked, Gains.turn_charge}
use Rattle.eevdf_dozes.specs.Histories.{Call, Touch, after_call, after_calls, run_after, AreCalls}
use Rattle.eevdf_dozes.specs.Bounds.{Bounds, IsWithin, IsWithinAlong, BoundsAreKept}
use Rattle.eevdf_dozes.specs.Ahead.{charged_by, IsAheadByNoMore, most_ahead, BeginsLevel, NobodyIsEverFarAhead, NobodyEverGains}
use Rattle.eevdf_dozes.specs.Apart.{AreAllowedOfAll, SomeIsRunnable, SomeIsRunnableAlong, BeginsTogether, AreApartByNoMore}
use Rattle.eevdf_dozes.specs.Apart.{most_apart, most_ahead_later}
use Rattle.eevdf_dozes.specs.Apart.{StaysLater, NobodyIsEverFarApart, NobodyGainsLater}
use Rattle.eevdf_dozes.specs.OneCpu.{call_at, calls_at, and_then, charged_on, AreAllowedDeeds, GoesByCalls, DeedsAreCalls}
use Rattle.eevdf_dozes.specs.OneCpuStretches.{from_pick, charged_since}
use Rattle.eevdf_dozes.specs.OneCpuLater.{IsWithinOn, BoundsAreKeptOnCpu, BeginsLevelOnCpu, NobodyIsEverFarAheadOnCpu, NobodyEverGainsOnCpu}
use Rattle.eevdf_dozes.specs.OneCpuLater.{KeepToAll, SomeIsRunnableOn, BeginsTogetherOnCpu, NobodyIsEverFarApartOnCpu}
use Rattle.eevdf_dozes.specs.OneCpuLater.{StaysLaterOnCpu, NobodyGainsLaterOnCpu}
use Rattle.eevdf_dozes.proofs.{Apart.now_within, CallsOfDeeds.after_maybe}
use Rattle.eevdf_dozes.proofs.FromPick.{are_allowed, one_step, along, rest_allowed, before_allowed, later_allowed, calls_appended, after_pick_is}
use Rattle.eevdf_dozes.proofs.FromPick.{allowed_then, come_to, charged_then}

-- ---- within the bounds, along deeds and along calls
module _ (w : Watch) (b : Bounds) where
  first_within : (o : Option Call) (q r : State) (calls : List Call) → r ≡ after_maybe q o → IsWithinAlong w b q (and_then o calls)
      → IsWithin w b q × IsWithinAlong w b r calls
  first_within None q r calls is all = (now_within w b q calls all, subst (λ (s : State). IsWithinAlong w b s calls) (sym is) all)
  first_within (Some one) q r calls is all = (all.0, subst (λ (s : State). IsWithinAlong w b s calls) (sym is) all.1)

module _ (homes : List ℕ) (cpu : ℕ) where
  along_calls : (w : Watch) (b : Bounds) (m : Machine) (ds : List Deed) → AreAllowedDeeds homes m ds → IsWithinOn w b homes cpu m ds
      → IsWithinAlong w b (queue_at m cpu) (calls_at homes cpu m ds)
  along_calls w b =
      along homes cpu (IsWithin w b) (IsWithinAlong w b) (IsWithinOn w b homes cpu) (λ q one calls here rest. (here, rest)) (λ m all. all)
      (λ m d ds all. all)

  along_deeds : (w : Watch) (b : Bounds) (m : Machine) (ds : List Deed) → AreAllowedDeeds homes m ds
      → IsWithinAlong w b (queue_at m cpu) (calls_at homes cpu m ds) → IsWithinOn w b homes cpu m ds
  along_deeds w b m [] allowed within = within
  along_deeds w b m (d ∷ ds) allowed within =
      let n : Machine = (whole homes d m).1 in
      let both : IsWithin w b (queue_at m cpu) × IsWithinAlong w b (queue_at n cpu) (calls_at homes cpu n ds) =
      first_within w b (call_at homes cpu m d) (queue_at m cpu) (queue_at n cpu) (calls_at homes cpu n ds)
      (one_step homes cpu m d ds allowed) within in
      (both.0, along_deeds w b n ds (rest_allowed homes m d ds allowed) both.1)

  some_along : (m : Machine) (ds : List Deed) → AreAllowedDeeds homes m ds → SomeIsRunnableOn homes cpu m ds
      → SomeIsRunnableAlong (queue_at m cpu) (calls_at homes cpu m ds)
  some_along =
      along homes cpu SomeIsRunnable SomeIsRunnableAlong (SomeIsRunnableOn homes cpu) (λ q one calls here rest. (here, rest)) (λ m all. tt)
      (λ m d ds all. all)

pub bounds_are_kept : DeedsAreCalls → BoundsAreKept → BoundsAreKeptOnCpu
bounds_are_kept are_calls law w b homes cpu ran m deeds allowed keep all leave =
    let calls : List Call = calls_at homes cpu m deeds in
    along_deeds homes cpu w b m deeds allowed
    (law w b ran (queue_at m cpu) calls all (are_allowed w ran (queue_at m cpu) calls (are_calls homes m deeds cpu allowed).calls keep)
    leave)

-- ---- one task stays all along
module _ (are_calls : DeedsAreCalls) (w : Watch) (b : Bounds) (homes : List ℕ) (cpu : ℕ) (m : Machine) where
  begins_level : (deeds : List Deed) → BeginsLevelOnCpu w b homes cpu m deeds
      → BeginsLevel w b (queue_at m cpu) (calls_at homes cpu (whole homes (Pick cpu) m).1 deeds)
  begins_level deeds h =
      let n : Machine = (whole homes (Pick cpu) m).1 in
      let allowed : AreAllowedDeeds homes m (from_pick cpu deeds) = h.begins.allowed in
      record {
        watched = h.begins.watched;
        counts = h.counts;
        doze = h.begins.doze;
        others = h.others;
        level = h.level;
        allowed = allowed_then homes cpu m deeds allowed are_calls w h.begins.keep;
        within = subst (λ (s : State). IsWithinAlong w b s (calls_at homes cpu n deeds)) (after_pick_is homes cpu m deeds allowed)
            (along_calls homes cpu w b n deeds (rest_allowed homes m (Pick cpu) deeds allowed) h.within.1);
      }

  -- by the machine that the deeds before leave
  gains_then : NobodyEverGains → (before deeds : List Deed) (f : Entry) → BeginsLevelOnCpu w b homes cpu m (before ++ deeds)
      → get (queue_at (machine_after homes (machine_after homes m (from_pick cpu before)) deeds) cpu).runnable w.stays ≡ Some f
      → HasNotYielded f
      → (t : ℕ) → w.counts t ≡ true
      → charged_on homes cpu t (machine_after homes m (from_pick cpu before)) deeds
      ≤ charged_on homes cpu w.stays (machine_after homes m (from_pick cpu before)) deeds + request_of f.nice f.slice + turn_charge w t
      + most_ahead w b
  gains_then law before deeds f h last short t counts =
      let q : State = queue_at m cpu in
      let n : Machine = (whole homes (Pick cpu) m).1 in
      let k : Machine = machine_after homes n before in
      let r : State = queue_at k cpu in
      let first : List Call = calls_at homes cpu n before in
      let calls : List Call = calls_at homes cpu k deeds in
      let allowed : AreAllowedDeeds homes n (before ++ deeds) = rest_allowed homes m (Pick cpu) (before ++ deeds) h.begins.allowed in
      let goes_first : GoesByCalls homes cpu n before = are_calls homes n before cpu (before_allowed homes n before deeds allowed) in
      let goes : GoesByCalls homes cpu k deeds = are_calls homes k deeds cpu (later_allowed homes n before deeds allowed) in
      let reached : after_calls (picked q) first ≡ r =
      ap (λ (s : State). after_calls s first) (sym (after_pick_is homes cpu m (before ++ deeds) h.begins.allowed)) ∙ sym goes_first.after in
      let begins : BeginsLevel w b q (first ++ calls) =
      subst (BeginsLevel w b q) (calls_appended homes cpu n before deeds) (begins_level (before ++ deeds) h) in
      let limit : ℕ → ℕ = λ y. y + request_of f.nice f.slice + turn_charge w t + most_ahead w b in
      subst (λ (x : ℕ). x ≤ limit (charged_on homes cpu w.stays k deeds)) (goes.charges t)
      (subst (λ (y : ℕ). charged_by t r calls ≤ limit y) (goes.charges w.stays)
      (law w b q r first calls f begins reached (ap (λ (s : State). get s.runnable w.stays) (sym goes.after) ∙ last) short t counts))

pub nobody_is_ever_far_ahead : DeedsAreCalls → NobodyIsEverFarAhead → NobodyIsEverFarAheadOnCpu
nobody_is_ever_far_ahead are_calls law w b homes cpu m deeds h =
    subst (λ (s : State). IsAheadByNoMore w s (most_ahead w b)) (come_to homes cpu m deeds h.begins.allowed are_calls)
    (law w b (queue_at m cpu) (calls_at homes cpu (whole homes (Pick cpu) m).1 deeds) (begins_level are_calls w b homes cpu m deeds h))

pub nobody_ever_gains : DeedsAreCalls → NobodyEverGains → NobodyEverGainsOnCpu
nobody_ever_gains are_calls law w b homes cpu m n before deeds f h is last short t counts =
    subst
    (λ (k : Machine). get (queue_at (machine_after homes k deeds) cpu).runnable w.stays ≡ Some f
    → charged_on homes cpu t k deeds ≤ charged_on homes cpu w.stays k deeds + request_of f.nice f.slice + turn_charge w t + most_ahead w b)
    is
    (λ then. gains_then are_calls w b homes cpu m law before deeds f h then short t counts) last

-- ---- all tasks may doze
allowed_of_all : (w : Watch) (ran : ℕ) (q : State) (calls : List Call) → AreCalls q calls → KeepToAll w ran calls
    → AreAllowedOfAll w ran q calls
allowed_of_all w ran q [] these keep = tt
allowed_of_all w ran q (Touch task r ∷ calls) these keep = ((keep.0, these.0), allowed_of_all w ran r calls these.1 keep.1)
allowed_of_all w ran q (call ∷ calls) these keep = (keep.0, allowed_of_all w (run_after ran call) (after_call q call) calls these keep.1)

module _ (are_calls : DeedsAreCalls) (w : Watch) (b : Bounds) (homes : List ℕ) (cpu ran : ℕ) (m : Machine) where
  begins_together : (deeds : List Deed) → BeginsTogetherOnCpu w b homes cpu ran m deeds
      → BeginsTogether w b ran (queue_at m cpu) (calls_at homes cpu m deeds)
  begins_together deeds h = record {
    levels = h.levels;
    due = h.due;
    doze = h.doze;
    runner = h.runner;
    together = h.together;
    listed = h.listed;
    allowed = allowed_of_all w ran (queue_at m cpu) (calls_at homes cpu m deeds) (are_calls homes m deeds cpu h.allowed).calls h.keep;
    within = along_calls homes cpu w b m deeds h.allowed h.within;
    some = some_along homes cpu m deeds h.allowed h.some;
  }

stays_later : DeedsAreCalls → (w : Watch) (b : Bounds) (homes : List ℕ) (cpu : ℕ) (n : Machine) (deeds : List Deed) (f : Entry)
    → StaysLaterOnCpu w b homes cpu n deeds f
    → StaysLater w b (queue_at n cpu) (calls_at homes cpu (whole homes (Pick cpu) n).1 deeds) f
stays_later are_calls w b homes cpu n deeds f h =
    let k : Machine = (whole homes (Pick cpu) n).1 in
    record {
      here = h.here;
      allowed = allowed_then homes cpu n deeds h.allowed are_calls w h.keep;
      within = subst (λ (s : State). IsWithinAlong w b s (calls_at homes cpu k deeds)) (after_pick_is homes cpu n deeds h.allowed)
          (along_calls homes cpu w b k deeds (rest_allowed homes n (Pick cpu) deeds h.allowed) h.within.1);
      in_the_end = ap (λ (s : State). get s.runnable w.stays) (come_to homes cpu n deeds h.allowed are_calls) ∙ h.in_the_end;
      short = h.short;
    }

pub nobody_is_ever_far_apart : DeedsAreCalls → NobodyIsEverFarApart → NobodyIsEverFarApartOnCpu
nobody_is_ever_far_apart are_calls law w b least homes cpu ran m deeds is_least h =
    subst (λ (s : State). AreApartByNoMore s (most_apart w b least)) (sym (are_calls homes m deeds cpu h.allowed).after)
    (law w b least ran (queue_at m cpu) (calls_at homes cpu m deeds) is_least (begins_together are_calls w b homes cpu ran m deeds h))

pub nobody_gains_later : DeedsAreCalls → NobodyGainsLater → NobodyGainsLaterOnCpu
nobody_gains_later are_calls law w b least homes cpu ran m n before deeds f is_least h is stays t counts =
    let r : State = queue_at n cpu in
    let calls : List Call = calls_at homes cpu (whole homes (Pick cpu) n).1 deeds in
    let reached : after_calls (queue_at m cpu) (calls_at homes cpu m before) ≡ r =
    sym (are_calls homes m before cpu h.allowed).after ∙ ap (λ (k : Machine). queue_at k cpu) is in
    let limit : ℕ → ℕ = λ y. y + request_of f.nice f.slice + turn_charge w t + most_ahead_later w b least in
    subst (λ (x : ℕ). x ≤ limit (charged_since homes cpu w.stays n deeds)) (charged_then homes cpu n deeds stays.allowed are_calls t)
    (subst (λ (y : ℕ). charged_by t (picked r) calls ≤ limit y) (charged_then homes cpu n deeds stays.allowed are_calls w.stays)
    (law w b least ran (queue_at m cpu) r (calls_at homes cpu m before) calls f is_least
    (begins_together are_calls w b homes cpu ran m before h) reached
    (stays_later are_calls w b homes cpu n deeds f stays) t counts))
