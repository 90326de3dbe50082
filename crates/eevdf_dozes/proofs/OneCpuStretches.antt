-- The deeds of a machine are a stretch of the queue of each CPU, and so the laws of stretches hold there.
use Rattle.std.proofs.Common.{◌≡◌, ℕ, ◌+◌, ◌*◌, ◌≤◌, List, [], ◌∷◌, length, Some, refl, sym, ap, ◌∙◌, subst}
use Rattle.std.specs.Prelude.{ℤ, pos, ◌+ℤ◌}
use Rattle.std.specs.{FinMap.get}
use Rattle.eevdf_weight.specs.Weight.{weight_of}
use Rattle.eevdf_queue.specs.{declared.entry.Entry.Entry, State.State, Moves.request_of}
use Rattle.eevdf_ops.specs.{declared.deeds.Deed.Deed, declared.deeds.Deed.TheVariants.Pick, Machine.Machine, Machine.queue_at, Whole.whole}
use Rattle.eevdf_dozes.specs.{Shares.time_of}
use Rattle.eevdf_dozes.specs.Stretches.{Watch, picked, charges}
use Rattle.eevdf_dozes.specs.Gains.{turn_charge, ComesNoFurther, StaysWith, NoneRunsFarPast, NobodyGains, TogetherNobodyGains, sum_charges, sum_weights}
use Rattle.eevdf_dozes.specs.Punctual.{AllCount, IsPunctual, RequestsStayPunctual}
use Rattle.eevdf_dozes.specs.Histories.{Call, events_of, AllCountAlong, BeginWithPick, CallsBeginWithPick}
use Rattle.eevdf_dozes.specs.OneCpu.{calls_at, AreAllowedDeeds, DeedsAreCalls}
use Rattle.eevdf_dozes.specs.OneCpuStretches.{BeginsOnCpu, StaysOnCpu, queue_after, charged_since, events_on, AllCountOn, IsStretchOn, OneCpuHasStretch}
use Rattle.eevdf_dozes.specs.OneCpuStretches.{NoneRunsFarPastOnCpu, NobodyGainsOnCpu, sum_charged, TogetherNobodyGainsOnCpu, RequestsStayPunctualOnCpu}
use Rattle.eevdf_dozes.proofs.Tame.{after_same}
use Rattle.eevdf_dozes.proofs.FromPick.{along, rest_allowed, after_pick_is, at_pick, all_goes, allowed_then, come_to, charged_then}

-- ---- what counts along deeds counts along calls
counts_along : (w : Watch) (homes : List ℕ) (cpu : ℕ) (m : Machine) (ds : List Deed) → AreAllowedDeeds homes m ds → AllCountOn w homes cpu m ds
    → AllCountAlong w (queue_at m cpu) (calls_at homes cpu m ds)
counts_along w homes cpu =
    along homes cpu (λ (q : State). AllCount w q.runnable) (AllCountAlong w) (AllCountOn w homes cpu) (λ q one calls here rest. (here, rest))
    (λ m all. tt) (λ m d ds all. all)

-- ---- the stretch
module _ (are_calls : DeedsAreCalls) (calls_begin : CallsBeginWithPick) (w : Watch) (homes : List ℕ) (cpu : ℕ) (m : Machine) (deeds : List Deed) (h : BeginsOnCpu w homes cpu m deeds) where
  abbrev q : State
  q = queue_at m cpu

  abbrev n : Machine
  n = (whole homes (Pick cpu) m).1

  abbrev calls : List Call
  calls = calls_at homes cpu n deeds

  begin : BeginWithPick w q calls
  begin = calls_begin w q calls h.watched h.doze (allowed_then homes cpu m deeds h.allowed are_calls w h.keep)

  stretch : IsStretchOn w homes cpu m deeds
  stretch = record {
    begins = begin.begins;
    allowed = allowed_then homes cpu m deeds h.allowed are_calls w h.keep;
    after = after_same (picked q) calls ∙ come_to homes cpu m deeds h.allowed are_calls;
    charged = charged_then homes cpu m deeds h.allowed are_calls;
    times = λ task.
        sym (ap (λ (cs : List Call). time_of task q (events_of q cs)) (at_pick homes cpu m deeds h.allowed))
        ∙ (all_goes homes cpu m deeds h.allowed are_calls).times task;
    none_past = λ all. begin.none_past all.0
        (subst (λ (s : State). AllCountAlong w s calls) (after_pick_is homes cpu m deeds h.allowed)
        (counts_along w homes cpu n deeds (rest_allowed homes m (Pick cpu) deeds h.allowed) all.1));
  }

pub one_cpu_has_stretch : DeedsAreCalls → CallsBeginWithPick → OneCpuHasStretch
one_cpu_has_stretch are_calls calls_begin w homes cpu m deeds h = stretch are_calls calls_begin w homes cpu m deeds h

-- ---- the laws
module _ (has : OneCpuHasStretch) (w : Watch) (homes : List ℕ) (cpu : ℕ) (m : Machine) (deeds : List Deed) (e f : Entry) (h : BeginsOnCpu w homes cpu m deeds) (stays : StaysOnCpu w homes cpu m deeds e f) where
  pub stays_with : StaysWith w (queue_at m cpu) (events_on homes cpu m deeds) e f
  stays_with = record { at_first = stays.at_first; in_the_end = subst (λ (s : State). get s.runnable w.stays ≡ Some f) (sym (has w homes cpu m deeds h).after) stays.in_the_end }

pub none_runs_far_past : OneCpuHasStretch → NoneRunsFarPast → NoneRunsFarPastOnCpu
none_runs_far_past has law w homes cpu m deeds e f h stays t place counts at =
    let own : IsStretchOn w homes cpu m deeds = has w homes cpu m deeds h in
    subst (λ (x : ℕ). ComesNoFurther place x ((f.d +ℤ (queue_after homes cpu m deeds).shift) +ℤ pos (turn_charge w t))) (own.charged t)
    (subst (λ (s : State). ComesNoFurther place (charges t (picked (queue_at m cpu)) (events_on homes cpu m deeds)) ((f.d +ℤ s.shift) +ℤ pos (turn_charge w t))) own.after
    (law w (queue_at m cpu) (events_on homes cpu m deeds) e f own.begins (stays_with has w homes cpu m deeds e f h stays) t place counts at))

pub nobody_gains : OneCpuHasStretch → NobodyGains → NobodyGainsOnCpu
nobody_gains has law w homes cpu m deeds e f h stays short t place counts at =
    let own : IsStretchOn w homes cpu m deeds = has w homes cpu m deeds h in
    let limit : ℕ → ℤ = λ y. (e.v +ℤ (queue_at m cpu).shift) +ℤ pos (y + request_of f.nice f.slice + turn_charge w t) in
    subst (λ (x : ℕ). ComesNoFurther place x (limit (charged_since homes cpu w.stays m deeds))) (own.charged t)
    (subst (λ (y : ℕ). ComesNoFurther place (charges t (picked (queue_at m cpu)) (events_on homes cpu m deeds)) (limit y)) (own.charged w.stays)
    (law w (queue_at m cpu) (events_on homes cpu m deeds) e f own.begins (stays_with has w homes cpu m deeds e f h stays) short t place counts at))

same_sums : (w : Watch) (homes : List ℕ) (cpu : ℕ) (m : Machine) (deeds : List Deed) → IsStretchOn w homes cpu m deeds → (ts : List ℕ)
    → sum_charges w (picked (queue_at m cpu)) (events_on homes cpu m deeds) ts ≡ sum_charged w homes cpu m deeds ts
same_sums w homes cpu m deeds own [] = refl
same_sums w homes cpu m deeds own (t ∷ ts) =
    ap (λ (x : ℕ). weight_of (w.nice_of t) * x + sum_charges w (picked (queue_at m cpu)) (events_on homes cpu m deeds) ts) (own.charged t)
    ∙ ap (λ (x : ℕ). weight_of (w.nice_of t) * charged_since homes cpu t m deeds + x) (same_sums w homes cpu m deeds own ts)

pub together_nobody_gains : OneCpuHasStretch → TogetherNobodyGains → TogetherNobodyGainsOnCpu
together_nobody_gains has law w homes cpu m deeds e f h stays short ts level =
    let own : IsStretchOn w homes cpu m deeds = has w homes cpu m deeds h in
    let limit : ℕ → ℕ = λ y. sum_weights w ts * (y + request_of f.nice f.slice) + length ts * (1024 * w.turn) in
    subst (λ (x : ℕ). x ≤ limit (charged_since homes cpu w.stays m deeds)) (same_sums w homes cpu m deeds own ts)
    (subst (λ (y : ℕ). sum_charges w (picked (queue_at m cpu)) (events_on homes cpu m deeds) ts ≤ limit y) (own.charged w.stays)
    (law w (queue_at m cpu) (events_on homes cpu m deeds) e f own.begins (stays_with has w homes cpu m deeds e f h stays) short ts level))

pub requests_stay_punctual : OneCpuHasStretch → RequestsStayPunctual → RequestsStayPunctualOnCpu
requests_stay_punctual has law w homes cpu m deeds e f h stays all most enough none =
    let own : IsStretchOn w homes cpu m deeds = has w homes cpu m deeds h in
    subst (λ (s : State). IsPunctual w s f most) own.after
    (law w (queue_at m cpu) (events_on homes cpu m deeds) e f own.begins (stays_with has w homes cpu m deeds e f h stays) (own.none_past all) most enough none)
