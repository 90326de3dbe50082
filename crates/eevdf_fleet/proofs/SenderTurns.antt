-- What a drain has done, sender by sender.
use Rattle.std.proofs.Common.{◌≡◌, ℕ, suc, ◌+◌, ◌-◌, ◌<◌, ◌≤◌, Bool, true, false, ⊎_elim, List, [], ◌∷◌, ◌++◌, length, map, refl, sym, ap, subst, ◌∙◌, arith}
use Rattle.std.specs.Prelude.{if◌then◌else◌, slice_get, Option, None, Some}
use base.Growing.{prefix_trans}
use Rattle.std.specs.{List.filter, Option.option_to_list}
use Rattle.std.proofs.lemmas.Bool.{cases_eq}
use Rattle.std.proofs.lemmas.List.{length_push, append-nil, append_assoc, map-append}
use Rattle.eevdf_ops.specs.{declared.deeds.Deed.Deed, declared.deeds.Line.Line}
use Rattle.eevdf_ops.specs.declared.deeds.Deed.TheVariants.{Wake}
use Rattle.eevdf_ops.specs.Programs.{AreWakes, deeds_of, wakes_from}
use Rattle.eevdf_fleet.specs.{declared.drains.Drained.Drained, declared.wake_list.DrainedWake.DrainedWake}
use Rattle.eevdf_fleet.specs.Fleets.{IsNoLess, IsRoomFor, Parts, PartsSeeMore, Seat, logged, posted_to}
use Rattle.eevdf_fleet.specs.Drains.{ArePartsDrained, AreTakenBy, HasDrained, HasTaken, counted, is_woken, line_of, logged_all, oldest_own}
use Rattle.eevdf_fleet.proofs.Takes.{wakes-append, wakes-one, wake-own, wake-other, wakes-unless}

-- a wake on a CPU, asked for by a CPU from one on
abbrev pub IsWakeFrom : ℕ → ℕ → Deed → Type 0
IsWakeFrom cpu from (Wake on task sender) = (on ≡ cpu) × (from ≤ sender)
IsWakeFrom cpu from other = ⊥

abbrev pub sender_of : Deed → ℕ
sender_of (Wake on task sender) = sender
sender_of other = 0

-- wakes on a CPU, asked for by CPUs that strictly ascend from one on, up to another
abbrev pub WakesTo : ℕ → ℕ → ℕ → List Deed → Type 0
WakesTo cpu from to [] = from ≤ to
WakesTo cpu from to (deed ∷ deeds) = IsWakeFrom cpu from deed × WakesTo cpu (sender_of deed + 1) to deeds

first-wake : (cpu from : ℕ) (deed : Deed) (deeds : List Deed) → IsWakeFrom cpu from deed → AreWakes cpu (sender_of deed + 1) deeds → AreWakes cpu from (deed ∷ deeds)
first-wake cpu from (Wake on task sender) deeds h more = (h.0, h.1, more)
first-wake cpu from other deeds h more = absurd h

are-wakes : (cpu from to : ℕ) (deeds : List Deed) → WakesTo cpu from to deeds → AreWakes cpu from deeds
are-wakes cpu from to [] h = tt
are-wakes cpu from to (deed ∷ deeds) h = first-wake cpu from deed deeds h.0 (are-wakes cpu (sender_of deed + 1) to deeds h.1)

none-more : (cpu from to : ℕ) (deeds : List Deed) → WakesTo cpu from to deeds → WakesTo cpu from (to + 1) deeds
none-more cpu from to [] h = omega arith
none-more cpu from to (deed ∷ deeds) h = (h.0, none-more cpu (sender_of deed + 1) to deeds h.1)

one-more : (cpu from to task : ℕ) (deeds : List Deed) → WakesTo cpu from to deeds → WakesTo cpu from (to + 1) (deeds ++ Wake cpu task to ∷ [])
one-more cpu from to task [] h = ((refl, h), omega arith)
one-more cpu from to task (deed ∷ deeds) h = (h.0, one-more cpu (sender_of deed + 1) to task deeds h.1)

abbrev pub woken_in : List Line → ℕ
woken_in lines = length (filter (λ (l : Line). is_woken l.answer) lines)

-- the senders below one had their turn
pub record DrainedBelow (sender : ℕ) (before now : Seat) (drained : Drained) : Type 0 where
  pub lines : List Line
  pub seat : now ≡ logged_all before lines
  pub wakes : WakesTo before.cpu 0 sender (deeds_of lines)
  pub taken : drained.taken ≡ length lines
  pub woken : drained.woken ≡ woken_in lines
  pub few : length lines ≤ sender
  pub own : before.cpu < sender → wakes_from before.cpu lines ≡ option_to_list (oldest_own before)
  pub not_yet : sender ≤ before.cpu → wakes_from before.cpu lines ≡ []

-- before the first sender's turn
pub none-drained : (s : Seat) → DrainedBelow 0 s s (record { taken = 0; woken = 0 })
none-drained s = record {
  lines = [];
  seat = ap (λ (l : List Line). record s { log = l }) (sym (append-nil s.log)) ∙ ap (λ (n : ℕ). record s { log = s.log ++ []; room = n }) (let e : s.room ≡ s.room - 0 = omega arith in e);
  wakes = omega arith;
  taken = refl;
  woken = refl;
  few = omega arith;
  own = λ late. absurd (omega arith);
  not_yet = λ early. refl;
}

-- there is room for the next sender's
room-by : (quota : Option ℕ) (cpus count sender room : ℕ) → count ≤ sender → sender < cpus → IsRoomFor quota cpus room → IsRoomFor quota 1 (room - count)
room-by None cpus count sender room few less enough = tt
room-by (Some most) cpus count sender room few less enough = omega arith

pub room-left : (quota : Option ℕ) (cpus sender : ℕ) (before now : Seat) (drained : Drained) → DrainedBelow sender before now drained → sender < cpus → IsRoomFor quota cpus before.room
    → IsRoomFor quota 1 now.room
room-left quota cpus sender before now drained h less enough =
    subst (λ (n : ℕ). IsRoomFor quota 1 n) (sym (ap (λ (s : Seat). s.room) h.seat)) (room-by quota cpus (length h.lines) sender before.room h.few less enough)

pub drained-all : (cpus : ℕ) (before after : Seat) (drained : Drained) → before.cpu < cpus → DrainedBelow cpus before after drained → HasDrained before after drained
drained-all cpus before after drained within h = record {
  lines = h.lines;
  seat = h.seat;
  wakes = are-wakes before.cpu 0 cpus (deeds_of h.lines) h.wakes;
  taken = h.taken;
  woken = h.woken;
  own = h.own within;
}

woken-by : (b : Bool) (x : Line) (l : List Line) → length (if b then x ∷ l else l) ≡ (if b then 1 else 0) + length l
woken-by true x l = omega arith
woken-by false x l = omega arith

woken-more : (lines : List Line) (l : Line) → woken_in (lines ++ l ∷ []) ≡ woken_in lines + (if is_woken l.answer then 1 else 0)
woken-more [] l = woken-by (is_woken l.answer) l [] ∙ (let e : (if is_woken l.answer then 1 else 0) + 0 ≡ 0 + (if is_woken l.answer then 1 else 0) = omega arith in e)
woken-more (x ∷ lines) l =
    omega (arith, woken-by (is_woken x.answer) x (filter (λ (y : Line). is_woken y.answer) (lines ++ l ∷ [])), woken-by (is_woken x.answer) x (filter (λ (y : Line). is_woken y.answer) lines), woken-more lines l)

few-by : (b : Bool) (x : Line) (l : List Line) (n : ℕ) → length l ≤ n → length (if b then x ∷ l else l) ≤ suc n
few-by true x l n h = omega arith
few-by false x l n h = omega arith

pub woken-few : (lines : List Line) → woken_in lines ≤ length lines
woken-few [] = omega arith
woken-few (x ∷ lines) = few-by (is_woken x.answer) x (filter (λ (y : Line). is_woken y.answer) lines) (length lines) (woken-few lines)

module _ (sender : ℕ) (before now after : Seat) (drained : Drained) (h : DrainedBelow sender before now drained) where
  -- what was the oldest before is so while none was taken
  oldest_still : sender ≤ before.cpu → oldest_own now ≡ oldest_own before
  oldest_still early =
      ap oldest_own h.seat
      ∙ ap (λ (l : List ℕ). slice_get (posted_to before before.cpu) (length l)) (wakes-append before.cpu before.log h.lines ∙ ap (λ (l : List ℕ). wakes_from before.cpu before.log ++ l) (h.not_yet early) ∙ append-nil (wakes_from before.cpu before.log))

  -- a sender of whom nothing was taken
  pub none-taken : after ≡ now → (sender ≡ now.cpu → oldest_own now ≡ None) → DrainedBelow (sender + 1) before after drained
  none-taken same own = record {
    lines = h.lines;
    seat = same ∙ h.seat;
    wakes = none-more before.cpu 0 sender (deeds_of h.lines) h.wakes;
    taken = h.taken;
    woken = h.woken;
    few = omega (arith, h.few);
    own = λ late. ⊎_elim
        (λ is. h.not_yet (omega arith) ∙ ap option_to_list (sym (own (is ∙ ap (λ (s : Seat). s.cpu) (sym h.seat))) ∙ oldest_still (omega arith)))
        (λ away. h.own (omega arith))
        (cases_eq sender before.cpu);
    not_yet = λ early. h.not_yet (omega arith);
  }

  -- and one of whom a request was
  pub one-taken : (wake : DrainedWake) → HasTaken now after sender wake → DrainedBelow (sender + 1) before after (counted drained wake.answer)
  one-taken wake taken =
      let same_cpu : now.cpu ≡ before.cpu = ap (λ (s : Seat). s.cpu) h.seat in
      let l : Line = record { deed = Wake before.cpu wake.task sender; answer = wake.answer } in
      record {
        lines = h.lines ++ l ∷ [];
        seat = taken.seat ∙ ap (λ (n : ℕ). logged now (record { deed = Wake n wake.task wake.sender; answer = wake.answer })) same_cpu
            ∙ ap (λ (n : ℕ). logged now (record { deed = Wake before.cpu wake.task n; answer = wake.answer })) taken.sender_is ∙ ap (λ (s : Seat). logged s l) h.seat
            ∙ ap (λ (x : List Line). record before { log = x; room = before.room - length h.lines - 1 }) (append_assoc before.log h.lines (l ∷ []))
            ∙ ap (λ (n : ℕ). record before { log = before.log ++ (h.lines ++ l ∷ []); room = n }) (let e : before.room - length h.lines - 1 ≡ before.room - length (h.lines ++ l ∷ []) = omega (arith, length_push h.lines l) in e);
        wakes = subst (λ (ds : List Deed). WakesTo before.cpu 0 (sender + 1) ds) (sym (map-append (λ (x : Line). x.deed) h.lines (l ∷ []))) (one-more before.cpu 0 sender wake.task (deeds_of h.lines) h.wakes);
        taken = omega (arith, h.taken, length_push h.lines l);
        woken = omega (arith, h.woken, woken-more h.lines l);
        few = omega (arith, h.few, length_push h.lines l);
        own = λ late. ⊎_elim
            (λ is. wakes-append before.cpu h.lines (l ∷ []) ∙ ap (λ (x : List ℕ). x ++ wakes_from before.cpu (l ∷ [])) (h.not_yet (omega arith))
            ∙ wakes-one before.cpu l ∙ wake-own before.cpu wake.task before.cpu sender is
            ∙ ap option_to_list (sym (taken.own (is ∙ sym same_cpu)) ∙ oldest_still (omega arith)))
            (λ away. wakes-unless before.cpu h.lines l (wake-other before.cpu wake.task before.cpu sender (λ e. away (sym e))) ∙ h.own (omega arith))
            (cases_eq sender before.cpu);
        not_yet = λ early. wakes-unless before.cpu h.lines l (wake-other before.cpu wake.task before.cpu sender (λ e. omega arith)) ∙ h.not_yet (omega arith);
      }

-- the lines tell of one wake more
pub listed-more : (Holds Holds' : List DrainedWake → Type 0) (before now after : Seat) (sender : ℕ) (wake : DrainedWake) → AreTakenBy Holds before now → now.cpu ≡ before.cpu → HasTaken now after sender wake
    → ((wakes : List DrainedWake) → Holds wakes → Holds' (wakes ++ wake ∷ [])) → AreTakenBy Holds' before after
listed-more Holds Holds' before now after sender wake h same_cpu taken more = record {
  wakes = h.wakes ++ wake ∷ [];
  holds = more h.wakes h.holds;
  lines = ap (λ (s : Seat). s.log) taken.seat ∙ ap (λ (l : List Line). l ++ line_of now.cpu wake ∷ []) h.lines ∙ append_assoc before.log (map (line_of before.cpu) h.wakes) (line_of now.cpu wake ∷ [])
      ∙ ap (λ (n : ℕ). before.log ++ (map (line_of before.cpu) h.wakes ++ line_of n wake ∷ [])) same_cpu
      ∙ ap (λ (l : List Line). before.log ++ l) (sym (map-append (line_of before.cpu) h.wakes (wake ∷ [])));
}

pub listed-same : (Holds : List DrainedWake → Type 0) (before now after : Seat) → AreTakenBy Holds before now → after ≡ now → AreTakenBy Holds before after
listed-same Holds before now after h same = subst (λ (s : Seat). AreTakenBy Holds before s) (sym same) h

pub listed-none : (Holds : List DrainedWake → Type 0) (s : Seat) → Holds [] → AreTakenBy Holds s s
listed-none Holds s none = record { wakes = []; holds = none; lines = sym (append-nil s.log) }

-- a seat that has drained and then seen more
pub drained-seen : (before now after : Parts) (drained : Drained) → ArePartsDrained before now drained → PartsSeeMore now after → ArePartsDrained before after drained
drained-seen before now after drained h more = record {
  does = subst (λ (s : Seat). HasDrained before.seat s drained) (sym more.seat) h.does;
  seen = prefix_trans _ _ _ h.seen more.seen;
  free = subst (λ (f : List ℕ). IsNoLess before.free f) (sym more.free) h.free;
}

pub listed-weaker : (Holds Holds' : List DrainedWake → Type 0) (before after : Seat) → ((wakes : List DrainedWake) → Holds wakes → Holds' wakes) → AreTakenBy Holds before after → AreTakenBy Holds' before after
listed-weaker Holds Holds' before after weaker h = record { wakes = h.wakes; holds = weaker h.wakes h.holds; lines = h.lines }
