-- A turn that goes on while tasks leave and join, and a yield: what is asked of the tasks holds, whatever ticks are still to come in it.
use Rattle.std.proofs.Common.{◌≡◌, ℕ, ◌+◌, ◌-◌, ◌*◌, ◌≤◌, Bool, true, false, cond, List, [], ◌∷◌, Option, Some, None, refl, sym, ap, ◌∙◌, subst, arith}
use Rattle.std.specs.Prelude.{ℤ, pos, ◌+ℤ◌, ◌≤ℤ◌, ◌==◌}
use Rattle.std.specs.{Ordering.nat_cmp, Ordering.eq_by_cmp, Cmp.nat_cmp_total}
use Rattle.std.specs.FinMap.{get, insert, get-insert, same_map, nat_cmp-IsAntisymmetric}
use Rattle.std.proofs.lemmas.Int.{ints}
use Rattle.eevdf_weight.specs.Weight.{weight_of}
use Rattle.eevdf_queue.specs.{declared.entry.Entry.Entry, declared.sleeper.Sleeper.Sleeper, declared.answers.TickAnswer.TickAnswer, State.State, Laws.PickIsFirst, Laws.PickOfNobody}
use Rattle.eevdf_queue.specs.declared.answers.TickAnswer.TheVariants.{Charged, Range}
use Rattle.eevdf_queue.specs.{Candidate.is_running, Leaving.leave, Moves.is_entry_in_range, Moves.request_of, Pick.pick_of, Pick.after_pick, Placing.placement, Rebase.rebase}
use Rattle.eevdf_queue.specs.{Tick.tick, Tick.tick_to, Tick.is_used_up, Tick.charged, Sums.Tasks, Sums.total_weight, Sums.total_moment}
use Rattle.eevdf_queue.specs.{declared.answers.YieldAnswer.YieldAnswer, Lag.is_lag, Yield.yielded, Yield.yield_now, Yield.yield_running, Yield.yield_entry}
use Rattle.eevdf_queue.specs.declared.answers.YieldAnswer.TheVariants as yields
use Rattle.eevdf_weight.specs.Limits.{is_in_range}
use Rattle.eevdf_queue.proofs.Foremost.{equal_number}
use Rattle.eevdf_ops.proofs.MapCounts.{itself}
use Rattle.eevdf_fairness.specs.{Turns.Turn, Turns.turn_length, Turns.after_ticks, Leavings.HaveSameRunnable, Fair.turns_of_others, Joining.lag_limit, OneCpuJoins.reach_past}
use Rattle.eevdf_fairness.proofs.{Growing.HasRun, Growing.has_run, Growing.found_at_after, Inequalities.le_then, Falling.IsLowerRule, Falling.rebase_within}
use Rattle.eevdf_fairness.proofs.{Rules.Rule, Rules.IsWithin, Rules.Keeps, Steps.turn_by, Steps.leave_by, Rules.NoneIsPastBy, Rules.Nothing, Rules.keeps_nothing, Joining.joiner_past, Joining.near_joiner, AfterJoin.near_by}
use Rattle.eevdf_fairness.proofs.{SameRunnable.alike, SameRunnable.then, SameRunnable.all_ticked, LeavingLater.leaves_later, LeavingLater.get_apart, LeavingLater.nobody_ticks}
use Rattle.eevdf_fairness.proofs.{LeavingLater.absent_ticks, LeavingLater.ticks_there, Joiners.Joiner, Joiners.IsOther, Joiners.beyond_turns, Joiners.joined, Joiners.joined_within, Joiners.late_beyond}

-- ---- a task that leaves before ticks may as well leave after them
leave_later : (q : State) (task : ℕ) (turn : Turn) → HaveSameRunnable (after_ticks (leave q task) turn) (leave (after_ticks q turn) task)
leave_later q task [] = alike (leave q task)
leave_later q task (ns ∷ turn) =
    then _ _ _ (all_ticked (tick (leave q task) ns).1 (leave (tick q ns).1 task) turn (leaves_later q task ns)) (leave_later (tick q ns).1 task turn)

-- ---- and so may one join that doesn't run, with the entry that it has got
-- a queue, and the same one with a task more, of which the same one runs
pub record HasJoined (q r : State) (task : ℕ) (a : Entry) : Type 0 where
  pub runnable : r.runnable ≡ insert q.runnable task a
  pub running : r.running ≡ q.running

swapped : (b c : Bool) (f g o : Option Entry) → (b ≡ true → c ≡ true → ⊥) → cond b f (cond c g o) ≡ cond c g (cond b f o)
swapped true true f g o both = absurd (both refl refl)
swapped true false f g o both = refl
swapped false c f g o both = refl

inserted_apart : (m : Tasks) (t p : ℕ) (a f : Entry) → (p ≡ t → ⊥) → insert (insert m t a) p f ≡ insert (insert m p f) t a
inserted_apart m t p a f apart =
    same_map nat_cmp_total nat_cmp-IsAntisymmetric _ _ (λ x.
    get-insert nat_cmp_total (insert m t a) p f x
    ∙ ap (cond (eq_by_cmp nat_cmp x p) (Some f)) (get-insert nat_cmp_total m t a x)
    ∙ swapped (eq_by_cmp nat_cmp x p) (eq_by_cmp nat_cmp x t) (Some f) (Some a) (get m x) (λ h k. apart (sym (equal_number x p h) ∙ equal_number x t k))
    ∙ sym (ap (cond (eq_by_cmp nat_cmp x t) (Some a)) (get-insert nat_cmp_total m p f x))
    ∙ sym (get-insert nat_cmp_total (insert m p f) t a x))

runs_other : (o : Option ℕ) (task p : ℕ) → is_running o task ≡ false → o ≡ Some p → p ≡ task → ⊥
runs_other None task p waits is same = cc
runs_other (Some r) task p waits is same =
    let one : r ≡ p = cc in
    let whole : task ≡ r = sym same ∙ sym one in
    let runs : (task == r) ≡ true = subst (λ (n : ℕ). (task == n) ≡ true) whole (itself task) in
    cc

module _ (q r : State) (task ns : ℕ) (a : Entry) (h : HasJoined q r task a) (waits : is_running q.running task ≡ false) where
  both_stay : (tick q ns).1 ≡ q → (tick r ns).1 ≡ r → HasJoined (tick q ns).1 (tick r ns).1 task a
  both_stay first second = subst (λ (x : State). HasJoined x (tick r ns).1 task a) (sym first) (subst (λ (y : State). HasJoined q y task a) (sym second) h)

  ticked_to : (p : ℕ) (f : Entry) (resched b : Bool) → (p ≡ task → ⊥)
      → HasJoined ((cond {A = TickAnswer × State} b (Charged p resched, record q { runnable = insert q.runnable p f }) (Range, q)).1)
      ((cond {A = TickAnswer × State} b (Charged p resched, record r { runnable = insert r.runnable p f }) (Range, r)).1) task a
  ticked_to p f resched true apart = record {
    runnable = ap (λ (m : Tasks). insert m p f) h.runnable ∙ inserted_apart q.runnable task p a f apart;
    running = h.running;
  }
  ticked_to p f resched false apart = h

  entry_by : (p : ℕ) (o : Option Entry) → q.running ≡ Some p → (p ≡ task → ⊥) → get q.runnable p ≡ o → HasJoined (tick q ns).1 (tick r ns).1 task a
  entry_by p None runs apart none =
      both_stay (absent_ticks q p ns runs none)
      (absent_ticks r p ns (h.running ∙ runs) (ap (λ (m : Tasks). get m p) h.runnable ∙ get_apart q.runnable task p a apart ∙ none))
  entry_by p (Some g) runs apart here =
      let there : get r.runnable p ≡ Some g = ap (λ (m : Tasks). get m p) h.runnable ∙ get_apart q.runnable task p a apart ∙ here in
      subst (λ (x : State). HasJoined x (tick r ns).1 task a) (sym (ticks_there q p ns g runs here))
      (subst (λ (y : State). HasJoined ((tick_to q p (is_used_up g ns) (charged g ns)).1) y task a) (sym (ticks_there r p ns g (h.running ∙ runs) there))
      (ticked_to p (charged g ns) (is_used_up g ns) (is_entry_in_range (charged g ns)) apart))

  runner_by : (o : Option ℕ) → q.running ≡ o → HasJoined (tick q ns).1 (tick r ns).1 task a
  runner_by None nobody = both_stay (nobody_ticks q ns nobody) (nobody_ticks r ns (h.running ∙ nobody))
  runner_by (Some p) runs = entry_by p (get q.runnable p) runs (runs_other q.running task p waits runs) refl

  tick_joined : HasJoined (tick q ns).1 (tick r ns).1 task a
  tick_joined = runner_by q.running refl

-- ticks change nothing of who runs
runs_on_to : (q : State) (p : ℕ) (f : Entry) (resched b : Bool)
    → ((cond {A = TickAnswer × State} b (Charged p resched, record q { runnable = insert q.runnable p f }) (Range, q)).1).running ≡ q.running
runs_on_to q p f resched true = refl
runs_on_to q p f resched false = refl

runs_on_by : (q : State) (ns p : ℕ) (o : Option Entry) → q.running ≡ Some p → get q.runnable p ≡ o → (tick q ns).1.running ≡ q.running
runs_on_by q ns p None runs none = ap (λ (x : State). x.running) (absent_ticks q p ns runs none)
runs_on_by q ns p (Some g) runs here =
    ap (λ (x : State). x.running) (ticks_there q p ns g runs here) ∙ runs_on_to q p (charged g ns) (is_used_up g ns) (is_entry_in_range (charged g ns))

runs_on : (q : State) (ns : ℕ) (o : Option ℕ) → q.running ≡ o → (tick q ns).1.running ≡ q.running
runs_on q ns None nobody = ap (λ (x : State). x.running) (nobody_ticks q ns nobody)
runs_on q ns (Some p) runs = runs_on_by q ns p (get q.runnable p) runs refl

all_joined : (q r : State) (task : ℕ) (a : Entry) (turn : Turn) → HasJoined q r task a → is_running q.running task ≡ false
    → HasJoined (after_ticks q turn) (after_ticks r turn) task a
all_joined q r task a [] h waits = h
all_joined q r task a (ns ∷ turn) h waits =
    all_joined (tick q ns).1 (tick r ns).1 task a turn (tick_joined q r task ns a h waits)
    (ap (λ (o : Option ℕ). is_running o task) (runs_on q ns q.running refl) ∙ waits)

-- ---- what ticks keep of each task
kept_by : (P : ℕ → Entry → Type 0) (keeps : Keeps P) (q : State) (ns p : ℕ) (o : Option Entry) → q.running ≡ Some p → get q.runnable p ≡ o
    → ((t : ℕ) (e : Entry) → get q.runnable t ≡ Some e → P t e) → (t : ℕ) (e : Entry) → get (tick q ns).1.runnable t ≡ Some e → P t e
kept_by P keeps q ns p None runs none each =
    subst (λ (x : State). (t : ℕ) (e : Entry) → get x.runnable t ≡ Some e → P t e) (sym (absent_ticks q p ns runs none)) each
kept_by P keeps q ns p (Some g) runs here each =
    let run : HasRun q p g (turn_length (ns ∷ [])) (after_ticks q (ns ∷ [])) = has_run q p g (ns ∷ []) runs here in
    subst (λ (m : Tasks). (t : ℕ) (e : Entry) → get m t ≡ Some e → P t e) (sym run.runnable)
    (found_at_after P q.runnable p run.entry (keeps p g run.entry (turn_length (ns ∷ [])) run.grown (each p g here)) each)

kept_while : (P : ℕ → Entry → Type 0) (keeps : Keeps P) (q : State) (ns : ℕ) (o : Option ℕ) → q.running ≡ o
    → ((t : ℕ) (e : Entry) → get q.runnable t ≡ Some e → P t e) → (t : ℕ) (e : Entry) → get (tick q ns).1.runnable t ≡ Some e → P t e
kept_while P keeps q ns None nobody each =
    subst (λ (x : State). (t : ℕ) (e : Entry) → get x.runnable t ≡ Some e → P t e) (sym (nobody_ticks q ns nobody)) each
kept_while P keeps q ns (Some p) runs each = kept_by P keeps q ns p (get q.runnable p) runs refl each

all_kept : (P : ℕ → Entry → Type 0) (keeps : Keeps P) (q : State) (turn : Turn) → ((t : ℕ) (e : Entry) → get q.runnable t ≡ Some e → P t e)
    → (t : ℕ) (e : Entry) → get (after_ticks q turn).runnable t ≡ Some e → P t e
all_kept P keeps q [] each = each
all_kept P keeps q (ns ∷ turn) each = all_kept P keeps (tick q ns).1 turn (kept_while P keeps q ns q.running refl each)

-- ---- a turn that goes on
-- what is asked holds after any ticks that are left of the turn; where none is left, it holds now
abbrev pub GoesOn : Rule → Option ℕ → State → Type 0
GoesOn r None q = IsWithin r q.runnable
GoesOn r (Some rest) q = (turn : Turn) → turn_length turn ≤ rest → IsWithin r (after_ticks q turn).runnable

none_yet : (n : ℕ) → 0 ≤ n
none_yet n = omega arith

pub now : (r : Rule) (left : Option ℕ) (q : State) → GoesOn r left q → IsWithin r q.runnable
now r None q goes = goes
now r (Some rest) q goes = goes [] (none_yet rest)

pub goes_alike : (r : Rule) (left : Option ℕ) (q p : State) → HaveSameRunnable q p → GoesOn r left q → GoesOn r left p
goes_alike r None q p same goes = subst (IsWithin r) same.runnable goes
goes_alike r (Some rest) q p same goes = λ turn brief. subst (IsWithin r) (all_ticked q p turn same).runnable (goes turn brief)

pub pick_goes : (first : PickIsFirst) (nobody : PickOfNobody) (r : Rule) (left : Option ℕ) (q : State) → GoesOn r left q → GoesOn r (Some r.ns) (after_pick q)
pick_goes first nobody r left q goes = λ turn brief. turn_by first nobody r q turn (pick_of q.runnable) refl brief (now r left q goes)

brief_again : (ns rest n : ℕ) → ns ≤ rest → n ≤ rest - ns → ns + n ≤ rest
brief_again ns rest n h k = omega (arith, h, k)

pub tick_goes : (r : Rule) (rest : ℕ) (q : State) (ns : ℕ) → ns ≤ rest → GoesOn r (Some rest) q → GoesOn r (Some (rest - ns)) (tick q ns).1
tick_goes r rest q ns h goes = λ turn brief. goes (ns ∷ turn) (brief_again ns rest (turn_length turn) h brief)

pub leave_goes : (r : Rule) (left : Option ℕ) (q : State) (task : ℕ) → ((e : Entry) → r.Guard e → ⊥) → GoesOn r left q → GoesOn r left (leave q task)
leave_goes r None q task guarded goes = leave_by r q task (get q.runnable task) guarded goes
leave_goes r (Some rest) q task guarded goes = λ turn brief.
    subst (IsWithin r) (sym (leave_later q task turn).runnable)
    (leave_by r (after_ticks q turn) task (get (after_ticks q turn).runnable task) guarded (goes turn brief))

pub rebase_goes : (r s : Rule) (left : Option ℕ) (q : State) → IsLowerRule ((rebase q).0) r s → GoesOn r left q → GoesOn s None (rebase q).1
rebase_goes r s left q lower goes = rebase_within q r s lower (now r left q goes)

-- ---- a task joins
later_near : (v d f : ℤ) (x : ℕ) → v ≤ℤ (d +ℤ pos x) → d ≤ℤ f → v ≤ℤ (f +ℤ pos x)
later_near v d f x h k = omega (arith, ints, h, k)

nothing_there : (tasks : Tasks) (task : ℕ) (o : Option Entry) → get tasks task ≡ o → ((t : ℕ) (e : Entry) → get tasks t ≡ Some e → t ≡ task → ⊥) → get tasks task ≡ None
nothing_there tasks task None is none = is
nothing_there tasks task (Some e) is none = absurd (none task e is refl)

no_entry : (tasks : Tasks) (task t : ℕ) (e : Entry) → get tasks task ≡ None → get tasks t ≡ Some e → t ≡ task → ⊥
no_entry tasks task t e none here same =
    let nothing : get tasks t ≡ None = ap (get tasks) same ∙ none in
    cc

further : (v d : ℤ) (x past : ℕ) → v ≤ℤ (d +ℤ pos x) → (v +ℤ pos past) ≤ℤ (d +ℤ pos (x + past))
further v d x past h = omega (arith, ints, h)

-- a task joins others with a lag within its limit, so far past its placement; its next request may be of another slice
module _ (ns : ℕ) (front : ℤ) (Kept : ℕ → Entry → Type 0) (keeps : Keeps Kept) (js : List Joiner) (q r : State) (task : ℕ) (s : Sleeper) (past next : ℕ)
    (absent : get q.runnable task ≡ None) (some : 1 ≤ total_weight q.runnable) (limited : is_lag s.lag s.nice s.slice ≡ true)
    (put : r.runnable ≡ insert q.runnable task (record (joiner_past q s past) { slice = next })) (w : IsWithin (joined ns front Kept keeps js) q.runnable) where
  abbrev most : ℕ
  most = reach_past ns (beyond_turns ns js) q.runnable s + past

  abbrev more : List Joiner
  more = record { task = task; nice = s.nice; reach = most } ∷ js

  near_each : (t : ℕ) (e : Entry) → get q.runnable t ≡ Some e → IsOther js t → ((placement q s) +ℤ pos past) ≤ℤ (e.d +ℤ pos most)
  near_each t e here other =
      further (placement q s) e.d (reach_past ns (beyond_turns ns js) q.runnable s) past
      (near_by (placement q s) e.d (total_moment q.runnable) (total_weight q.runnable) (turns_of_others ns q.runnable + beyond_turns ns js)
      (lag_limit s * (total_weight q.runnable + weight_of s.nice)) some (near_joiner q s some limited) (late_beyond ns front Kept keeps js q.runnable w t e other here))

  -- it is put among tasks that have grown since
  joined_later : (turn : Turn) → IsWithin (joined ns front Kept keeps js) (after_ticks q turn).runnable
      → IsWithin (joined ns front Kept keeps more) (insert (after_ticks q turn).runnable task (record (joiner_past q s past) { slice = next }))
  joined_later turn then_within =
      joined_within ns front Kept keeps js task most (after_ticks q turn).runnable (record (joiner_past q s past) { slice = next }) then_within (request_of s.nice s.slice) refl
      (nothing_there (after_ticks q turn).runnable task (get (after_ticks q turn).runnable task) refl
      (all_kept (λ t e. t ≡ task → ⊥) (λ t e f m g k. k) q turn (λ t e here. no_entry q.runnable task t e absent here)))
      (λ t e other here. all_kept (λ u f. IsOther js u → ((placement q s) +ℤ pos past) ≤ℤ (f.d +ℤ pos most))
      (λ u e f m g k another. later_near ((placement q s) +ℤ pos past) e.d f.d most (k another) g.later) q turn near_each t e here other)

  pub join_goes : (left : Option ℕ) → r.running ≡ q.running → is_running q.running task ≡ false → GoesOn (joined ns front Kept keeps js) left q
      → GoesOn (joined ns front Kept keeps more) left r
  join_goes None runs waits goes = subst (IsWithin (joined ns front Kept keeps more)) (sym put) (joined_later [] goes)
  join_goes (Some rest) runs waits goes = λ turn brief.
      subst (IsWithin (joined ns front Kept keeps more))
      (sym (all_joined q r task (record (joiner_past q s past) { slice = next }) turn (record { runnable = put; running = runs }) waits).runnable)
      (joined_later turn (goes turn brief))

  -- whoever runs then, where the next tick needs a pick
  pub join_now : IsWithin (joined ns front Kept keeps more) r.runnable
  join_now = subst (IsWithin (joined ns front Kept keeps more)) (sym put) (joined_later [] w)

-- ---- a yield
no_sooner : (d : ℤ) (c : ℕ) → d ≤ℤ (d +ℤ pos c)
no_sooner d c = omega (arith, ints)

module _ (ns : ℕ) (front : ℤ) (js : List Joiner) where
  abbrev Asked : Rule
  Asked = joined ns front Nothing keeps_nothing js

  yielded_within : (tasks : Tasks) (p : ℕ) (e : Entry) → get tasks p ≡ Some e → IsWithin Asked tasks → IsWithin Asked (insert tasks p (yielded e))
  yielded_within tasks p e here w =
      let sooner : e.d ≤ℤ (yielded e).d = no_sooner e.d (request_of e.nice e.slice) in
      let past_too : (time : ℤ) → NoneIsPastBy Asked.allowed tasks time → NoneIsPastBy Asked.allowed (insert tasks p (yielded e)) time =
      λ time none. found_at_after (λ u f. f.v ≤ℤ (time +ℤ pos (Asked.allowed u f.nice))) tasks p (yielded e) (none p e here) none in
      record {
        within = λ time later. found_at_after (λ u f. f.d ≤ℤ time → f.v ≤ℤ time) tasks p (yielded e)
            (λ due. w.within time later p e here (le_then e.d (yielded e).d time sooner due)) (w.within time later);
        past = λ time later. found_at_after (λ u f. IsOther js u → f.d ≤ℤ time → NoneIsPastBy Asked.allowed (insert tasks p (yielded e)) time) tasks p (yielded e)
            (λ other due. past_too time (w.past time later p e here other (le_then e.d (yielded e).d time sooner due)))
            (λ u f found other due. past_too time (w.past time later u f found other due));
        ahead = λ t f found so. absurd so;
        kept = found_at_after Asked.Kept tasks p (yielded e) ((λ other. (le_then front e.d (yielded e).d ((w.kept p e here).0 other).0 sooner, tt)), (w.kept p e here).1) w.kept;
      }

  yield_to_within : (q : State) (p : ℕ) (e : Entry) (b : Bool) → get q.runnable p ≡ Some e → IsWithin Asked q.runnable
      → IsWithin Asked ((cond {A = YieldAnswer × State} b (yields.Yielded, record q { runnable = insert q.runnable p (yielded e) }) (yields.Range, q)).1).runnable
  yield_to_within q p e true here w = yielded_within q.runnable p e here w
  yield_to_within q p e false here w = w

  yield_entry_within : (q : State) (p : ℕ) (o : Option Entry) → get q.runnable p ≡ o → IsWithin Asked q.runnable → IsWithin Asked (yield_entry q p o).1.runnable
  yield_entry_within q p None here w = w
  yield_entry_within q p (Some e) here w = yield_to_within q p e (is_in_range (yielded e).d) here w

  yield_running_within : (q : State) (o : Option ℕ) → IsWithin Asked q.runnable → IsWithin Asked (yield_running q o).1.runnable
  yield_running_within q None w = w
  yield_running_within q (Some p) w = yield_entry_within q p (get q.runnable p) refl w

  pub yield_goes : (left : Option ℕ) (q : State) → GoesOn Asked left q → GoesOn Asked None (yield_now q).1
  yield_goes left q goes = yield_running_within q q.running (now Asked left q goes)
