-- However many tasks join on one CPU, in the middle of turns too, those that were there all along are not late by more than the joins add.
use Rattle.std.proofs.Common.{◌≡◌, ℕ, ◌+◌, ◌-◌, ◌*◌, ◌<◌, Bool, true, false, cond, List, [], ◌∷◌, length, Option, Some, None, refl, sym, ap, ◌∙◌, subst}
use Rattle.std.specs.Prelude.{ℤ, pos, ◌+ℤ◌, ◌-ℤ◌, ◌*ℤ◌, ◌≤ℤ◌}
use Rattle.std.specs.{Option.option_map, FinMap.get}
use Rattle.eevdf_weight.specs.Weight.{weight_of}
use Rattle.eevdf_queue.specs.{declared.entry.Entry.Entry, State.State, Laws.PickIsFirst, Laws.PickOfNobody, Candidate.is_running, Leaving.leave, Leaving.without_entry}
use Rattle.eevdf_queue.specs.{Moves.request_of, Pick.after_pick, Tick.tick, Yield.yield_now, Rebase.rebase, Sums.Tasks, Sums.total_weight, Sums.total_moment}
use Rattle.eevdf_queue.proofs.Sound.{gone}
use Rattle.eevdf_ops.specs.{declared.deeds.Deed.Deed, Machine.Machine, Machine.queue_at, Whole.whole, Whole.machine_after}
use Rattle.eevdf_ops.proofs.WholePlaces.{length-whole}
use Rattle.eevdf_fairness.specs.{Leavings.HaveSameRunnable, Leavings.HaveSameTimes, Fair.turns_of_others}
use Rattle.eevdf_fairness.specs.OneCpuSteps.{Change, Picks, Ticks, Loses, Lowers, Gains, Yields}
use Rattle.eevdf_fairness.specs.OneCpuJoins.{AreLevel, Course, begun, reach_past, JoinsOthers, IsWithinTurn, MayCome, course_by, Follows, Comes, BeginsAnew, course_after, change_by, MayFollow, course_of}
use Rattle.eevdf_fairness.specs.OneCpuJoins.{HasNotJoined, OneCpuJoinsKeepFair}
use Rattle.eevdf_fairness.proofs.{Rules.Rule, Rules.IsWithin, Rules.Nothing, Rules.keeps_nothing, Rules.Nobody, Rules.anywhere_within, Falling.falls_nothing}
use Rattle.eevdf_fairness.proofs.{AfterJoin.behind_by, Joiners.Joiner, Joiners.IsOther, Joiners.beyond_turns, Joiners.joined, Joiners.nobody_joined, Joiners.joined_steps, Joiners.late_beyond}
use Rattle.eevdf_fairness.proofs.GoingOn.{GoesOn, now, goes_alike, pick_goes, tick_goes, leave_goes, rebase_goes, join_goes, join_now, yield_goes}
use Rattle.eevdf_fairness.proofs.{OwnChanges.IsTold, OneCpuSteps.one_change}

back : (q r : State) → HaveSameTimes q r → HaveSameRunnable r q
back q r same = record { runnable = sym same.tasks.runnable; running = sym same.tasks.running }

-- who runs, where another task leaves
waits_by : (q : State) (task : ℕ) (o : Option Entry) → is_running q.running task ≡ false → (without_entry q task o).running ≡ q.running
waits_by q task None waits = refl
waits_by q task (Some e) waits = ap (λ (b : Bool). cond {A = Option ℕ} b None q.running) waits

pub left_absent : (q : State) (task : ℕ) (o : Option Entry) → get q.runnable task ≡ o → get (without_entry q task o).runnable task ≡ None
left_absent q task None is = is
left_absent q task (Some e) is = gone q.runnable task

abbrev Asked : ℕ → ℤ → List Joiner → Rule
Asked ns front js = joined ns front Nothing keeps_nothing js

-- where the tasks are level
level_within : (ns : ℕ) (tasks : Tasks) (level : AreLevel tasks) → IsWithin (Asked ns level.time []) tasks
level_within ns tasks level =
    let w = anywhere_within ns level.time Nobody Nothing keeps_nothing tasks (λ e so. absurd so) level.none_past (λ t e here. tt) in
    nobody_joined ns level.time Nothing keeps_nothing tasks
    (record { within = w.within; past = w.past; ahead = λ t e here so. absurd so; kept = λ t e here. (level.none_due t e here, tt) })

-- ---- one change
-- what is asked of the tasks of a queue in a course
record IsAsked (ns : ℕ) (x : Course) (q : State) : Type 0 where
  front : ℤ
  joiners : List Joiner
  goes : GoesOn (Asked ns front joiners) x.left q
  late : beyond_turns ns joiners ≡ x.late
  others : (t : ℕ) → HasNotJoined x t → IsOther joiners t

module _ (first : PickIsFirst) (nobody : PickOfNobody) (ns : ℕ) where
  level_asked : (q : State) → AreLevel q.runnable → IsAsked ns begun q
  level_asked q level = record {
    front = level.time;
    joiners = [];
    goes = level_within ns q.runnable level;
    late = refl;
    others = λ t never. tt;
  }

  module _ (x : Course) (q r : State) (asked : IsAsked ns x q) where
    abbrev rule : Rule
    rule = Asked ns asked.front asked.joiners

    tick_by : (left : Option ℕ) (t : ℕ) → HaveSameTimes r (tick q t).1 → IsWithinTurn left t → GoesOn rule left q → GoesOn rule (option_map (λ rest. rest - t) left) r
    tick_by None t same within goes = absurd within
    tick_by (Some rest) t same within goes = goes_alike rule (Some (rest - t)) (tick q t).1 r (back _ _ same) (tick_goes rule rest q t within goes)

    module _ (task : ℕ) (may : JoinsOthers q task r) (runs : r.running ≡ q.running) where
      left_goes : GoesOn rule x.left (leave q task)
      left_goes = leave_goes rule x.left q task (λ e so. so) asked.goes

      abbrev more : List Joiner
      more = record {
        task = task;
        nice = may.sleeper.nice;
        reach = reach_past ns (beyond_turns ns asked.joiners) (leave q task).runnable may.sleeper + may.past;
      } ∷ asked.joiners

      more_goes : (b : Bool) → is_running q.running task ≡ b → GoesOn (Asked ns asked.front more) (cond b None x.left) r
      more_goes true is =
          join_now ns asked.front Nothing keeps_nothing asked.joiners (leave q task) r task may.sleeper may.past may.next
          (left_absent q task (get q.runnable task) refl) may.some may.limited may.joined (now rule x.left (leave q task) left_goes)
      more_goes false is =
          let same : (leave q task).running ≡ q.running = waits_by q task (get q.runnable task) is in
          join_goes ns asked.front Nothing keeps_nothing asked.joiners (leave q task) r task may.sleeper may.past may.next
          (left_absent q task (get q.runnable task) refl) may.some may.limited may.joined (now rule x.left (leave q task) left_goes) x.left
          (runs ∙ sym same) (ap (λ (o : Option ℕ). is_running o task) same ∙ is) left_goes

    -- by any other change: of what is left of the turn alone more is asked
    asked_still : (left : Option ℕ) → GoesOn rule left r → IsAsked ns (record x { left = left }) r
    asked_still left goes = record { front = asked.front; joiners = asked.joiners; goes = goes; late = asked.late; others = asked.others }

    asked_by : (change : Option Change) → IsTold change q r → (may : MayCome x q change r) → IsAsked ns (course_by ns x q change r may) r
    asked_by None told may = asked_still x.left (goes_alike rule x.left q r (back _ _ told) asked.goes)
    asked_by (Some Picks) told may = asked_still (Some ns) (goes_alike rule (Some ns) (after_pick q) r (back _ _ told) (pick_goes first nobody rule x.left q asked.goes))
    asked_by (Some (Ticks t)) told may = asked_still (option_map (λ rest. rest - t) x.left) (tick_by x.left t told.1 may asked.goes)
    asked_by (Some (Loses task)) told may =
        asked_still x.left (goes_alike rule x.left (leave q task) r (back _ _ told) (leave_goes rule x.left q task (λ e so. so) asked.goes))
    asked_by (Some Lowers) told may = record {
      front = asked.front -ℤ (rebase q).0;
      joiners = asked.joiners;
      goes = goes_alike (Asked ns (asked.front -ℤ (rebase q).0) asked.joiners) None (rebase q).1 r (back _ _ told)
          (rebase_goes rule (Asked ns (asked.front -ℤ (rebase q).0) asked.joiners) x.left q
          ((joined_steps ns Nothing keeps_nothing falls_nothing asked.joiners).falls asked.front ((rebase q).0)) asked.goes);
      late = asked.late;
      others = asked.others;
    }
    asked_by (Some (Gains task)) told may = record {
      front = asked.front;
      joiners = more task may told;
      goes = more_goes task may told (is_running q.running task) refl;
      late = ap (λ (late : ℕ). late + (weight_of may.sleeper.nice * (reach_past ns late (leave q task).runnable may.sleeper + may.past) - 1024 * ns)) asked.late;
      others = λ t never. (never.0, asked.others t never.1);
    }
    asked_by (Some Yields) told may =
        asked_still None (goes_alike rule None (yield_now q).1 r (back _ _ told) (yield_goes ns asked.front asked.joiners x.left q asked.goes))

    asked_after : (change : Option Change) → IsTold change q r → (follows : Follows x q change r) → IsAsked ns (course_after ns x q change r follows) r
    asked_after change told (Comes may) = asked_by change told may
    asked_after change told (BeginsAnew level) = level_asked r level

  -- ---- all deeds
  all_asked : (homes : List ℕ) (cpu : ℕ) (deeds : List Deed) (m : Machine) (x : Course) → cpu < length m → IsAsked ns x (queue_at m cpu)
      → (all : MayFollow homes cpu ns x m deeds) → IsAsked ns (course_of homes cpu ns x m deeds all) (queue_at (machine_after homes m deeds) cpu)
  all_asked homes cpu [] m x h asked all = asked
  all_asked homes cpu (d ∷ ds) m x h asked all =
      let n : Machine = (whole homes d m).1 in
      all_asked homes cpu ds n (course_after ns x (queue_at m cpu) (change_by homes cpu m d) (queue_at n cpu) all.0)
      (subst (λ (k : ℕ). cpu < k) (sym (length-whole homes d m)) h)
      (asked_after x (queue_at m cpu) (queue_at n cpu) asked (change_by homes cpu m d) (one_change homes m cpu h d) all.0) all.1

pub one_cpu_joins_keep_fair : PickIsFirst → PickOfNobody → OneCpuJoinsKeepFair
one_cpu_joins_keep_fair first nobody homes m cpu deeds ns h level all t e never here =
    let last : Course = course_of homes cpu ns begun m deeds all in
    let r : State = queue_at (machine_after homes m deeds) cpu in
    let asked : IsAsked ns last r = all_asked first nobody ns homes cpu deeds m begun h (level_asked first nobody ns (queue_at m cpu) level) all in
    let late : total_moment r.runnable ≤ℤ ((e.d *ℤ pos (total_weight r.runnable)) +ℤ pos (turns_of_others ns r.runnable + last.late)) =
    subst (λ (z : ℕ). total_moment r.runnable ≤ℤ ((e.d *ℤ pos (total_weight r.runnable)) +ℤ pos (turns_of_others ns r.runnable + z))) asked.late
    (late_beyond ns asked.front Nothing keeps_nothing asked.joiners r.runnable (now (Asked ns asked.front asked.joiners) last.left r asked.goes) t e (asked.others t never) here) in
    record {
      late = late;
      behind = λ short. behind_by e.v e.d (total_moment r.runnable) (total_weight r.runnable) (request_of e.nice e.slice) (turns_of_others ns r.runnable + last.late) short late;
    }
