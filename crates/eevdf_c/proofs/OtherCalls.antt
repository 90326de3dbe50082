-- Why bounds stay true through the calls that none beside them stands for.
use Rattle.std.proofs.Common.{◌≡◌, ℕ, zero, suc, Bool, true, false, cond, Option, Some, None, Result, Ok, Err, refl, subst}
use Rattle.std.specs.Prelude.{ℤ}
use Rattle.std.specs.FinMap.{get}
use Rattle.eevdf_weight.specs.Limits.{checked_level, checked_slice}
use Rattle.eevdf_queue.specs.{declared.entry.Entry.Entry, declared.refusal.Refusal.Refusal, State.State, State.Contents}
use Rattle.eevdf_queue.specs.{Numbers.checked_number, Numbers.number_limit, Pick.pick_of, Closing.take_sleeper, Closing.take_first, Closing.first_number}
use Rattle.eevdf_queue.specs.{Ascending.sleeping_tasks, Leaving.carried_running, Leaving.leave_running, Leaving.without_entry}
use Rattle.eevdf_queue.specs.{Trying.is_here, Trying.tried, Offers.offer}
use Rattle.eevdf_queue.specs.{Moves.sleeper_of, Placing.put as placed}
use Rattle.eevdf_fair_queue.specs.{Fair.IsFair, Leavings.LeavingsKeepBounds}
use Rattle.eevdf_c.specs.{Leaving.carried_out, Leaving.gone, Leaving.gone_by, Leaving.ended_below, Leaving.end_with, Leaving.end_by, Leaving.sleep_by, Leaving.sleep_with}
use Rattle.eevdf_c.specs.{Codes.balanced, Leaving.doze_by, Pulls.is_lighter, Pulls.none_comes, Pulls.joined, Pulls.pull_offered, Pulls.pull_task_by, Pulls.waiting, SetSlice.set_slice_by, Attributes.begin_by}
use Rattle.eevdf_c.specs.OtherCalls.{Keeps, OtherCallsKeepBounds}
use Rattle.eevdf_c.specs.Blocks as blocks
use Rattle.eevdf_c.specs.Hands as hands

module _ (kept : LeavingsKeepBounds) where
  -- ---- a task leaves
  gone_keeps : (q : State) (task : ℕ) → Keeps q (gone q task)
  gone_keeps q task b fair =
      by (get q.runnable task) refl
    where
      by : (o : Option Entry) → get q.runnable task ≡ o → IsFair (gone_by q task o (get q.asleep task)) b
      by (Some e) here = subst (λ (o : Option Entry). IsFair (without_entry q task o) b) here ((kept q b fair).leaves task)
      by None here = (kept q b fair).leaves_asleep task

  ends_by : (q : State) (number : Option ℕ) → Keeps q (end_by q number).1
  ends_by q None b fair = fair
  ends_by q (Some task) b fair =
      by (carried_out q task)
    where
      by : (o : Option Contents) → IsFair (end_with q o (gone q task)).1 b
      by None = fair
      by (Some p) = gone_keeps q task b fair

  ends_out_by : (q : State) (has : Bool) (number : Option ℕ) → Keeps q (blocks.end_by q has number).queue
  ends_out_by q has None b fair = fair
  ends_out_by q true (Some task) b fair = fair
  ends_out_by q false (Some task) b fair =
      by (carried_out q task)
    where
      by : (o : Option Contents) → IsFair (blocks.end_with q o (gone q task)).queue b
      by None = fair
      by (Some p) = gone_keeps q task b fair

  closes_below : (q : State) (k : ℕ) → Keeps q (ended_below q k)
  unfolding ended_below
  closes_below q zero b fair = fair
  closes_below q (suc k) b fair = ends_by (ended_below q k) (Some k) b (closes_below q k b fair)

  sleeps_by : (q : State) (number : Option ℕ) → Keeps q (sleep_by q number).1
  sleeps_by q None b fair = fair
  sleeps_by q (Some task) b fair =
      by (carried_running q task)
    where
      by : (o : Option Contents) → IsFair (sleep_with q task o).1 b
      by None = fair
      by (Some p) = (kept (leave_running q task) b ((kept q b fair).leaves_running task)).put_asleep p

  dozes_by : (q : State) (number : Option ℕ) → Keeps q (doze_by q number).1
  dozes_by q None b fair = fair
  dozes_by q (Some task) b fair = (kept q b fair).dozes task

  -- ---- hands
  takes_with : (q : State) (task : ℕ) (o : Option Contents) → Keeps q (hands.take_with q task o).queue
  takes_with q task None b fair = fair
  takes_with q task (Some p) b fair = gone_keeps q task b fair

  takes_by : (q : State) (h : Option Contents) (number : Option ℕ) → Keeps q (hands.take_by q h number).queue
  takes_by q h None b fair = fair
  takes_by q (Some p) (Some task) b fair = fair
  takes_by q None (Some task) b fair = takes_with q task (carried_out q task) b fair

  takes_sleeper : (q : State) (number : Option ℕ) → Keeps q (take_sleeper q number).1
  takes_sleeper q None b fair = fair
  takes_sleeper q (Some task) b fair = (kept q b fair).leaves_asleep task

  takes_first : (q : State) (number : Option ℕ) → Keeps q (take_first q number).1
  takes_first q None b fair = takes_sleeper q (first_number (sleeping_tasks q)) b fair
  takes_first q (Some task) b fair = (kept q b fair).leaves task

  taken_any : (after : State) (o : Option Contents) → Keeps after (hands.take_any_with after o).queue
  taken_any after None b fair = fair
  taken_any after (Some p) b fair = fair

  takes_any : (q : State) (h : Option Contents) → Keeps q (hands.take_any q h).queue
  takes_any q (Some p) b fair = fair
  takes_any q None b fair =
      taken_any (take_first q (pick_of q.runnable)).1 (take_first q (pick_of q.runnable)).0 b (takes_first q (pick_of q.runnable) b fair)

  puts_where : (q : State) (p : Contents) (here : Bool) → Keeps q (hands.put_asleep_where q p here).queue
  puts_where q p true b fair = fair
  puts_where q p false b fair = (kept q b fair).put_asleep p

  puts_asleep : (q : State) (h : Option Contents) → Keeps q (hands.put_asleep q h).queue
  puts_asleep q None b fair = fair
  puts_asleep q (Some p) b fair = puts_where q p (is_here q p.task) b fair

  -- ---- a task is pulled
  joins : (q source : State) (p : Contents) (o : Result State Refusal) → Keeps source (joined q source p o).from
  joins q source p (Ok after) b fair = (kept source b fair).leaves p.task
  joins q source p (Err reason) b fair = fair

  pulled_where : (q source : State) (p : Contents) (o : Result State Refusal) (light : Bool)
      → Keeps source (cond light (joined q source p o) (none_comes q source balanced)).from
  pulled_where q source p o true b fair = joins q source p o b fair
  pulled_where q source p o false b fair = fair

  pulled : (q source : State) (offered : Option Contents) → Keeps source (pull_offered q source offered).from
  pulled q source None b fair = fair
  pulled q source (Some p) b fair =
      pulled_where q source p (tried q p.task (placed q p.task (sleeper_of p))) (is_lighter q p source) b fair

  pulled_by : (q source : State) (number : Option ℕ) → Keeps source (pull_task_by q source number).from
  pulled_by q source None b fair = fair
  pulled_by q source (Some task) b fair = pulled q source (waiting source task) b fair

  -- ---- another slice, and a new beginning
  sets_by : (q : State) (number slice : Option ℕ) → Keeps q (set_slice_by q number slice).1
  sets_by q None slice b fair = fair
  sets_by q (Some task) None b fair = fair
  sets_by q (Some task) (Some slice) b fair = (kept q b fair).slices task slice

  begins_by : (q : State) (number : Option ℕ) (nice : Option ℤ) (slice : Option ℕ) → Keeps q (begin_by q number nice slice).1
  begins_by q None nice slice b fair = fair
  begins_by q (Some task) None slice b fair = fair
  begins_by q (Some task) (Some nice) None b fair = fair
  begins_by q (Some task) (Some nice) (Some slice) b fair = (kept q b fair).begins task nice slice

  pub other_calls_keep_bounds : OtherCallsKeepBounds
  other_calls_keep_bounds = record {
    stops = λ q b fair. (kept q b fair).stops;
    yields = λ q b fair. (kept q b fair).yields;
    sleeps = λ q number. sleeps_by q (checked_number number);
    dozes = λ q number. dozes_by q (checked_number number);
    ends = λ q number. ends_by q (checked_number number);
    ends_out = λ q has number. ends_out_by q has (checked_number number);
    closes = λ q. closes_below q number_limit;
    takes = λ q h number. takes_by q h (checked_number number);
    takes_any = takes_any;
    puts_asleep = puts_asleep;
    is_pulled_from = λ q source. pulled q source (offer source);
    is_pulled_from_by_name = λ q source number. pulled_by q source (checked_number number);
    sets_slice = λ q number ns. sets_by q (checked_number number) (checked_slice ns);
    begins = λ q number level ns. begins_by q (checked_number number) (checked_level level) (checked_slice ns);
  }
