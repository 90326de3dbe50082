-- Changes that put nobody anywhere: yields, other slices, stops and rebases.
use Rattle.std.proofs.Common.{◌≡◌, ℕ, Bool, true, false, cond, Option, Some, None, refl, sym, ap, ◌∙◌, subst, arith}
use Rattle.std.specs.Prelude.{ℤ, pos, ◌+ℤ◌, ◌-ℤ◌, ◌≤ℤ◌}
use Rattle.std.specs.{Option.option_map, Ordering.nat_cmp, Ordering.eq_by_cmp, Cmp.nat_cmp_total}
use Rattle.std.specs.FinMap.{FinMap, get, insert, get-insert}
use Rattle.std.proofs.lemmas.Int.{ints}
use Rattle.eevdf_queue.specs.{declared.entry.Entry.Entry, declared.sleeper.Sleeper.Sleeper, State.State, Sums.Tasks, Sums.virtual_time}
use Rattle.eevdf_queue.specs.declared.answers.YieldAnswer.{YieldAnswer}
use Rattle.eevdf_queue.specs.declared.answers.YieldAnswer.TheVariants as yields
use Rattle.eevdf_queue.specs.{Leaving.nobody_runs, Moves.request_of}
use Rattle.eevdf_queue.specs.Yield.{yielded, yield_entry, yield_running, yield_now}
use Rattle.eevdf_queue.specs.SliceChange.{set_slice, set_entry_slice, set_sleeper_slice}
use Rattle.eevdf_queue.specs.Rebase.{lowered_entry, lowered_tasks, can_rebase, rebased, rebase}
use Rattle.eevdf_queue.proofs.{Foremost.equal_number, LoweredMaps.get-lowered}
use Rattle.eevdf_weight.specs.Limits.{is_in_range}
use Rattle.eevdf_fairness.proofs.Growing.{get_here}
use Rattle.eevdf_dozes.specs.Places.{place_by, place_of}
use Rattle.eevdf_dozes.specs.Stretches.{Watch, NoneIsPastDue, Stays, IsChange}
use Rattle.eevdf_dozes.proofs.Optional.{one_entry, no_earlier}

-- a runnable task stands where it stood, lower by a number, and is due no earlier
pub record IsStanding (by : ℤ) (e : Entry) (now : Option Entry) : Type 0 where
  pub entry : Entry
  pub here : now ≡ Some entry
  pub same_nice : entry.nice ≡ e.nice
  pub same_place : entry.v +ℤ by ≡ e.v
  pub later : e.d ≤ℤ (entry.d +ℤ by)

abbrev pub StandsStill : ℤ → Option Entry → Option Entry → Type 0
StandsStill by None now = now ≡ None
StandsStill by (Some e) now = IsStanding by e now

-- so it is of all tasks
pub record AllStand (q r : State) (by : ℤ) : Type 0 where
  pub tasks : (t : ℕ) → StandsStill by (get q.runnable t) (get r.runnable t)
  pub places : r.places ≡ q.places
  pub shift : r.shift ≡ q.shift +ℤ by
  pub runs : (t : ℕ) → r.running ≡ Some t → q.running ≡ Some t

same_sum : (v u by shift then : ℤ) → u +ℤ by ≡ v → then ≡ shift +ℤ by → v +ℤ shift ≡ u +ℤ then
same_sum v u by shift then h k = omega (arith, ints, h, k)

place_stands : (shift then by : ℤ) (kept : Option ℤ) (o now : Option Entry) → StandsStill by o now → then ≡ shift +ℤ by
    → place_by shift kept o ≡ place_by then kept now
place_stands shift then by kept None now s is = ap (place_by then kept) (sym s)
place_stands shift then by kept (Some e) now s is =
    ap (λ (z : ℤ). Some z) (same_sum e.v s.entry.v by shift then s.same_place is) ∙ ap (place_by then kept) (sym s.here)

level_stands : (by nice : ℤ) (o now : Option Entry) (f : Entry) → StandsStill by o now → ((e : Entry) → o ≡ Some e → e.nice ≡ nice) → now ≡ Some f
    → f.nice ≡ nice
level_stands by nice None now f s h here = cc
level_stands by nice (Some e) now f s h here =
    let same : s.entry ≡ f = one_entry s.entry f now s.here here in
    subst (λ (x : Entry). x.nice ≡ nice) same (s.same_nice ∙ h e refl)

in_time : (v d u e by : ℤ) → v ≤ℤ d → u +ℤ by ≡ v → d ≤ℤ (e +ℤ by) → u ≤ℤ e
in_time v d u e by h k l = omega (arith, ints, h, k, l)

due_stands : (by : ℤ) (o now : Option Entry) (f : Entry) → StandsStill by o now → ((e : Entry) → o ≡ Some e → e.v ≤ℤ e.d) → now ≡ Some f → f.v ≤ℤ f.d
due_stands by None now f s h here = cc
due_stands by (Some e) now f s h here =
    let same : s.entry ≡ f = one_entry s.entry f now s.here here in
    subst (λ (x : Entry). x.v ≤ℤ x.d) same (in_time e.v e.d s.entry.v s.entry.d by (h e refl) s.same_place s.later)

later_sum : (d e by shift then : ℤ) → d ≤ℤ (e +ℤ by) → then ≡ shift +ℤ by → (d +ℤ shift) ≤ℤ (e +ℤ then)
later_sum d e by shift then h k = omega (arith, ints, h, k)

stays_by : (task : ℕ) (q r : State) (by : ℤ) (o : Option Entry) (e : Entry) → r.shift ≡ q.shift +ℤ by → StandsStill by o (get r.runnable task)
    → o ≡ Some e → Stays task q r e
stays_by task q r by None e shift s here = cc
stays_by task q r by (Some x) e shift s here =
    let same : x ≡ e = cc in
    subst (Stays task q r) same
    (record {
      entry = s.entry;
      here = s.here;
      place = sym (same_sum x.v s.entry.v by q.shift r.shift s.same_place shift);
      later = later_sum x.d s.entry.d by q.shift r.shift s.later shift;
    })

pub same_place : (q r : State) (by : ℤ) (t : ℕ) → AllStand q r by → place_of q t ≡ place_of r t
same_place q r by t h =
    place_stands q.shift r.shift by (get q.places t) (get q.runnable t) (get r.runnable t) (h.tasks t) h.shift
    ∙ ap (λ (m : FinMap nat_cmp ℤ). place_by r.shift (get m t) (get r.runnable t)) (sym h.places)

pub due_by_standing : (q r : State) (by : ℤ) → AllStand q r by → NoneIsPastDue q.runnable → NoneIsPastDue r.runnable
due_by_standing q r by h due t f here =
    due_stands by (get q.runnable t) (get r.runnable t) f (h.tasks t) (λ e there. due t e there) here

pub standing_is_change : (w : Watch) (q r : State) (by : ℤ) → AllStand q r by → IsChange w q r
standing_is_change w q r by h = record {
  stays = λ e here. stays_by w.stays q r by (get q.runnable w.stays) e h.shift (h.tasks w.stays) here;
  places = λ t counts. no_earlier (place_of q t) (place_of r t) (same_place q r by t h);
  runner = λ t counts runs. record { ran = h.runs t runs; no_further = no_earlier (place_of r t) (place_of q t) (sym (same_place q r by t h)) };
  levels = λ levels t f counts here.
      level_stands by (w.nice_of t) (get q.runnable t) (get r.runnable t) f (h.tasks t) (λ e there. levels t e counts there) here;
  due = due_by_standing q r by h;
}

-- ---- all stand still
no_lower : (z : ℤ) → z +ℤ pos 0 ≡ z
no_lower z = omega (arith, ints)

same_shift : (z : ℤ) → z ≡ z +ℤ pos 0
same_shift z = omega (arith, ints)

not_earlier : (d e : ℤ) → d ≤ℤ e → d ≤ℤ (e +ℤ pos 0)
not_earlier d e h = omega (arith, ints, h)

itself_stands : (e f : Entry) (now : Option Entry) → now ≡ Some f → f.nice ≡ e.nice → f.v ≡ e.v → e.d ≤ℤ f.d → IsStanding (pos 0) e now
itself_stands e f now here nice place later = record {
  entry = f;
  here = here;
  same_nice = nice;
  same_place = no_lower f.v ∙ place;
  later = not_earlier e.d f.d later;
}

same_time : (z : ℤ) → z ≤ℤ z
same_time z = omega (arith, ints)

still : (o now : Option Entry) → now ≡ o → StandsStill (pos 0) o now
still None now is = is
still (Some e) now is = itself_stands e e now is refl refl (same_time e.d)

pub record AllStandThere (q r : State) : Type 0 where
  pub tasks : (t : ℕ) → StandsStill (pos 0) (get q.runnable t) (get r.runnable t)
  pub places : r.places ≡ q.places
  pub shift : r.shift ≡ q.shift
  pub runs : (t : ℕ) → r.running ≡ Some t → q.running ≡ Some t

pub nobody_moves : (q : State) → AllStandThere q q
nobody_moves q = record { tasks = λ t. still (get q.runnable t) (get q.runnable t) refl; places = refl; shift = refl; runs = λ t runs. runs }

pub all_stand : (q : State) (r : State) → AllStandThere q r → AllStand q r (pos 0)
all_stand q r h = record { tasks = h.tasks; places = h.places; shift = h.shift ∙ same_shift q.shift; runs = h.runs }

-- another entry of a task, at the same place
stand_by : (tasks : Tasks) (task t : ℕ) (e f : Entry) (b : Bool) → eq_by_cmp nat_cmp t task ≡ b → get tasks task ≡ Some e → f.nice ≡ e.nice → f.v ≡ e.v
    → e.d ≤ℤ f.d → StandsStill (pos 0) (get tasks t) (get (insert tasks task f) t)
stand_by tasks task t e f true is here nice place later =
    let same : t ≡ task = equal_number t task is in
    subst (λ (u : ℕ). StandsStill (pos 0) (get tasks u) (get (insert tasks task f) u)) (sym same)
    (subst (λ (o : Option Entry). StandsStill (pos 0) o (get (insert tasks task f) task)) (sym here)
    (itself_stands e f (get (insert tasks task f) task) (get_here tasks task f) nice place later))
stand_by tasks task t e f false is here nice place later =
    still (get tasks t) (get (insert tasks task f) t)
    (get-insert nat_cmp_total tasks task f t ∙ ap (λ (b : Bool). cond b (Some f) (get tasks t)) is)

with_entry : (q : State) (task : ℕ) (e f : Entry) → get q.runnable task ≡ Some e → f.nice ≡ e.nice → f.v ≡ e.v → e.d ≤ℤ f.d
    → AllStandThere q (record q { runnable = insert q.runnable task f })
with_entry q task e f here nice place later = record {
  tasks = λ t. stand_by q.runnable task t e f (eq_by_cmp nat_cmp t task) refl here nice place later;
  places = refl;
  shift = refl;
  runs = λ t runs. runs;
}

-- ---- a yield
yielded_later : (d : ℤ) (c : ℕ) → d ≤ℤ (d +ℤ pos c)
yielded_later d c = omega (arith, ints)

yielded_by : (q : State) (task : ℕ) (e : Entry) (b : Bool) → get q.runnable task ≡ Some e
    → AllStandThere q (cond {A = YieldAnswer × State} b (yields.Yielded, record q { runnable = insert q.runnable task (yielded e) }) (yields.Range, q)).1
yielded_by q task e true here = with_entry q task e (yielded e) here refl refl (yielded_later e.d (request_of e.nice e.slice))
yielded_by q task e false here = nobody_moves q

yield_entry_by : (q : State) (task : ℕ) (o : Option Entry) → get q.runnable task ≡ o → AllStandThere q (yield_entry q task o).1
yield_entry_by q task None here = nobody_moves q
yield_entry_by q task (Some e) here = yielded_by q task e (is_in_range (yielded e).d) here

yield_by : (q : State) (o : Option ℕ) → AllStandThere q (yield_running q o).1
yield_by q None = nobody_moves q
yield_by q (Some task) = yield_entry_by q task (get q.runnable task) refl

pub yields_stand : (q : State) → AllStand q (yield_now q).1 (pos 0)
yields_stand q = all_stand q (yield_now q).1 (yield_by q q.running)

-- ---- another slice
sleeper_by : (q : State) (task slice : ℕ) (o : Option Sleeper) → AllStandThere q (set_sleeper_slice q task slice o)
sleeper_by q task slice None = nobody_moves q
sleeper_by q task slice (Some s) = record { tasks = λ t. still (get q.runnable t) (get q.runnable t) refl; places = refl; shift = refl; runs = λ t runs. runs }

slice_by : (q : State) (task slice : ℕ) (o : Option Entry) → get q.runnable task ≡ o → AllStandThere q (set_entry_slice q task slice o)
slice_by q task slice None here = sleeper_by q task slice (get q.asleep task)
slice_by q task slice (Some e) here = with_entry q task e (record e { slice = slice }) here refl refl (same_time e.d)

pub slices_stand : (q : State) (task slice : ℕ) → AllStand q (set_slice q task slice) (pos 0)
slices_stand q task slice = all_stand q (set_slice q task slice) (slice_by q task slice (get q.runnable task) refl)

-- ---- a stop
pub stops_stand : (q : State) → AllStand q (nobody_runs q) (pos 0)
stops_stand q =
    all_stand q (nobody_runs q)
    (record { tasks = λ t. still (get q.runnable t) (get q.runnable t) refl; places = refl; shift = refl; runs = λ t runs. cc })

-- ---- a rebase
down_and_up : (v by : ℤ) → (v -ℤ by) +ℤ by ≡ v
down_and_up v by = omega (arith, ints)

due_as_before : (d by : ℤ) → d ≤ℤ ((d -ℤ by) +ℤ by)
due_as_before d by = omega (arith, ints)

lowered_stands : (by : ℤ) (o now : Option Entry) → now ≡ option_map (lowered_entry by) o → StandsStill by o now
lowered_stands by None now is = is
lowered_stands by (Some e) now is =
    record { entry = lowered_entry by e; here = is; same_nice = refl; same_place = down_and_up e.v by; later = due_as_before e.d by }

rebased_by : (q : State) (b : Bool)
    → AllStand q (cond {A = ℤ × State} b (virtual_time q, rebased q) (pos 0, q)).1 (cond {A = ℤ × State} b (virtual_time q, rebased q) (pos 0, q)).0
rebased_by q true = record {
  tasks = λ t. lowered_stands (virtual_time q) (get q.runnable t) (get (lowered_tasks (virtual_time q) q.runnable) t) (get-lowered (virtual_time q) q.runnable t);
  places = refl;
  shift = refl;
  runs = λ t runs. runs;
}
rebased_by q false = all_stand q q (nobody_moves q)

pub rebases_stand : (q : State) → AllStand q (rebase q).1 (rebase q).0
rebases_stand q = rebased_by q (can_rebase q)
