-- From any pick of a history on, in which all tasks may doze before, nobody gains on one that stays then.
use Rattle.std.proofs.Common.{◌≡◌, ℕ, ◌+◌, ◌≤◌, true, List, [], ◌∷◌, refl, subst, arith}
use Rattle.std.specs.Prelude.{ℤ, pos, ◌+ℤ◌, ◌≤ℤ◌}
use Rattle.std.specs.FinMap.{get}
use Rattle.std.proofs.lemmas.Int.{ints}
use Rattle.eevdf_weight.specs.Charge.{charge_of}
use Rattle.eevdf_queue.specs.{declared.entry.Entry.Entry, State.State, Laws.PickIsFirst, Laws.PickOfNobody, Moves.request_of}
use Rattle.eevdf_dozes.specs.{Stretches.Watch, Stretches.picked, Gains.turn_charge, Shares.times_in}
use Rattle.eevdf_dozes.specs.Histories.{Call, after_call}
use Rattle.eevdf_dozes.specs.{Bounds.Bounds, Bounds.IsWithin, Bounds.IsWithinAlong, Ahead.BeginsLevel, Ahead.sum_setbacks, Ahead.charged_by}
use Rattle.eevdf_dozes.specs.Apart.{StaysLater, sum_greatest, most_apart, NobodyGainsLater}
use Rattle.eevdf_dozes.proofs.{Optional.there, Ahead.nobody_ever_gains}
use Rattle.eevdf_dozes.proofs.Apart.{IsCloseThen, close_after, close_is_near}

-- the same bounds with another longest request
abbrev with_request : Bounds → ℕ → Bounds
with_request b request = record b { request = request }

longer : (d v : ℤ) (request turn all : ℕ) → d ≤ℤ (v +ℤ pos request) → d ≤ℤ (v +ℤ pos (request + turn + all))
longer d v request turn all h = omega (arith, ints, h)

within_more : (w : Watch) (b : Bounds) (least : ℕ) (q : State) → IsWithin w b q → IsWithin w (with_request b (most_apart w b least)) q
within_more w b least q h = record {
  count = h.count;
  requests = λ t e here. longer e.d e.v b.request (charge_of w.turn least) (sum_greatest w b least b.others) (h.requests t e here);
  credits = h.credits;
}

along_more : (w : Watch) (b : Bounds) (least : ℕ) (q : State) (calls : List Call) → IsWithinAlong w b q calls → IsWithinAlong w (with_request b (most_apart w b least)) q calls
along_more w b least q [] h = within_more w b least q h
along_more w b least q (call ∷ calls) h = (within_more w b least q h.0, along_more w b least (after_call q call) calls h.1)

same_setbacks : (w : Watch) (b : Bounds) (request : ℕ) (ts : List ℕ) → sum_setbacks w (with_request b request) ts ≡ sum_setbacks w b ts
same_setbacks w b request [] = refl
same_setbacks w b request (t ∷ ts) = let rest = same_setbacks w b request ts in omega (arith, rest)

begins_then : (w : Watch) (b : Bounds) (least : ℕ) (r : State) (calls : List Call) (f : Entry) → ((t : ℕ) → w.counts t ≡ true → 1 ≤ times_in t b.others)
    → IsCloseThen w b least r → StaysLater w b r calls f → BeginsLevel w (with_request b (most_apart w b least)) r calls
begins_then w b least r calls f listed c stays =
    let e = there (get r.runnable w.stays) stays.here in
    record {
      watched = record { here = stays.here; levels = c.close.levels; due = c.close.due };
      counts = c.within.count w.stays e.0 e.1;
      doze = c.close.doze;
      others = λ t counts other. listed t counts;
      level = λ x here t y at. close_is_near w b least r c w.stays t x y here at;
      allowed = stays.allowed;
      within = along_more w b least (picked r) calls stays.within;
    }

pub nobody_gains_later : PickIsFirst → PickOfNobody → NobodyGainsLater
nobody_gains_later first nobody w b least ran q r before calls f is_least begins is stays t counts =
    let c : IsCloseThen w b least r = subst (IsCloseThen w b least) is (close_after first nobody w b least ran q before is_least begins) in
    subst
    (λ (n : ℕ). charged_by t (picked r) calls
    ≤ charged_by w.stays (picked r) calls + request_of f.nice f.slice + turn_charge w t + (most_apart w b least + turn_charge w w.stays + n))
    (same_setbacks w b (most_apart w b least) b.others)
    (nobody_ever_gains first nobody w (with_request b (most_apart w b least)) r (picked r) [] calls f (begins_then w b least r calls f begins.listed c stays) refl
    stays.in_the_end stays.short t counts)
