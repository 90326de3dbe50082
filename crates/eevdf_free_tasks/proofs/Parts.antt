-- What calls make of a part, and the parts of all CPUs as they are opened.
use Rattle.std.proofs.Common.{◌≡◌, ℕ, ◌+◌, ◌-◌, ◌<◌, List, [], ◌∷◌, ◌++◌, ◌⊎◌, length, get_or, set, ap, sym, subst, ◌∙◌, arith, Option, Some, None, IfSome, All, Bool, true, false, ◌==◌}
use Rattle.std.proofs.Math.Path.{refl}
use Rattle.std.proofs.lemmas.List.{length-append, length-set, get_or_append_left, get_or-append_right, get_or-set_same, get_or-set_other}
use Rattle.std.proofs.lemmas.Bool.{eqb-true, eqb-false}
use Rattle.std.proofs.lemmas.List.Elements.{All-push}
use Rattle.eevdf_ops.specs.Setup.{Setup}
use Rattle.eevdf_free_tasks.proofs.Comings.{empty-push}
use Rattle.eevdf_free_tasks.specs.Slots.{slot_of, with_taken, NoneFree}
use Rattle.eevdf_free_tasks.specs.Parts.{AreEmpty, AreFresh, HasTaken, HaveCome, IsFresh, Part}
use Rattle.eevdf_free_tasks.specs.declared.slot.Slot.{Slot}
use Rattle.eevdf_free_tasks.specs.declared.slot.Slot.TheVariants.{Free}

-- a number is taken, at once or after what came from all senders
pub taken-after : {n : ℕ} (before : Part) {received waiting : List (List ℕ)} {now own_before : List Slot} (own : List Slot) (result : Option ℕ)
    → ((n ≡ 0) × (waiting ≡ before.waiting)) ⊎ (NoneFree before.own × (n ≡ length before.received) × AreEmpty waiting) → HaveCome n before.received received own_before now → own_before ≡ before.own
    → IfSome result (λ task. slot_of now task ≡ Free) → IfSome result (λ task. own ≡ with_taken now task)
    → IfSome result (λ task. HasTaken task before (record before { own = own; received = received; waiting = waiting }))
taken-after before own None looked come same free taken = tt
taken-after {n = n} before {received = received} {waiting = waiting} {now = now} own (Some task) looked come same free taken = record {
  senders = n;
  looked = looked;
  now = now;
  come = subst (λ (o : List Slot). HaveCome n before.received received o now) same come;
  was_free = free;
  after_is = ap (λ (o : List Slot). record before { own = o; received = received; waiting = waiting }) taken;
}

fresh-at : (setup : Setup) (n : ℕ) (parts : List Part) (added : Part) → AreFresh setup n parts → IsFresh setup n added → (cpu : ℕ) (part : Part) (b : Bool) → (cpu == n) ≡ b → cpu < n + 1
    → get_or (parts ++ added ∷ []) cpu part ≡ part → IsFresh setup cpu part
fresh-at setup n parts added fresh one cpu part true is below at =
    let same = eqb-true cpu n is in
    let first : cpu - n ≡ 0 = omega (arith, same) in
    let found : added ≡ part = sym (get_or-append_right parts (added ∷ []) n cpu part fresh.count (omega (arith, same)) ∙ ap (λ k. get_or (added ∷ []) k part) first) ∙ at in
    subst (λ (p : Part). IsFresh setup cpu p) found (subst (λ (k : ℕ). IsFresh setup k added) (sym same) one)
fresh-at setup n parts added fresh one cpu part false is below at =
    let other = eqb-false cpu n is in
    let within : cpu < n = grind (arith, other, below) in
    fresh.each cpu part within (sym (get_or_append_left parts (added ∷ []) part cpu (omega (arith, within, fresh.count))) ∙ at)

-- the part of the next CPU is fresh too
pub fresh-push : {setup : Setup} {n : ℕ} {parts : List Part} {added : Part} → AreFresh setup n parts → IsFresh setup n added → AreFresh setup (n + 1) (parts ++ added ∷ [])
fresh-push {setup = setup} {n = n} {parts = parts} {added = added} fresh one = record {
  count = length-append parts (added ∷ []) ∙ ap (λ k. k + 1) fresh.count;
  each = λ cpu part below at. fresh-at setup n parts added fresh one cpu part (cpu == n) refl below at;
}

set-at : (setup : Setup) (n k : ℕ) (parts : List Part) (after : Part) → AreFresh setup n parts → k < n → IsFresh setup k after → (cpu : ℕ) (part : Part) (b : Bool) → (cpu == k) ≡ b → cpu < n
    → get_or (set parts k after) cpu part ≡ part → IsFresh setup cpu part
set-at setup n k parts after fresh within one cpu part true is below at =
    let same = eqb-true cpu k is in
    let found : after ≡ part = sym (ap (λ j. get_or (set parts k after) j part) same ∙ get_or-set_same parts k after part (omega (arith, within, fresh.count))) ∙ at in
    subst (λ (p : Part). IsFresh setup cpu p) found (subst (λ (j : ℕ). IsFresh setup j after) (sym same) one)
set-at setup n k parts after fresh within one cpu part false is below at =
    fresh.each cpu part below (sym (get_or-set_other parts k cpu after part (eqb-false cpu k is)) ∙ at)

-- one of the parts has one end more, and is fresh as before
pub fresh-set : {setup : Setup} {n : ℕ} {parts : List Part} (k : ℕ) (after : Part) → AreFresh setup n parts → k < n → IsFresh setup k after → AreFresh setup n (set parts k after)
fresh-set {setup = setup} {n = n} {parts = parts} k after fresh within one = record {
  count = length-set parts k after ∙ fresh.count;
  each = λ cpu part below at. set-at setup n k parts after fresh within one cpu part (cpu == k) refl below at;
}

-- a part with other ends, in none of which anything stands
fresh-with : {setup : Setup} {cpu : ℕ} {before after : Part} (sent received waiting : List (List ℕ)) (free : List ℕ) → IsFresh setup cpu before → All (λ l. l ≡ []) sent → All (λ l. l ≡ []) received
    → AreEmpty waiting → after ≡ record before { sent = sent; free = free; received = received; waiting = waiting } → IsFresh setup cpu after
fresh-with {setup = setup} {cpu = cpu} sent received waiting free fresh none_sent none_received none_waits is = subst (λ (p : Part). IsFresh setup cpu p) (sym is) (record {
  cpu_is = fresh.cpu_is;
  homes_are = fresh.homes_are;
  own_is = fresh.own_is;
  none_sent = none_sent;
  none_received = none_received;
  none_waits = none_waits;
})

pub fresh-sending : {setup : Setup} {cpu : ℕ} {before after : Part} (k : ℕ) → IsFresh setup cpu before → after ≡ record before { sent = before.sent ++ [] ∷ []; free = before.free ++ k ∷ [] }
    → IsFresh setup cpu after
fresh-sending {before = before} k fresh is =
    fresh-with (before.sent ++ [] ∷ []) before.received before.waiting (before.free ++ k ∷ []) fresh (All-push (λ l. l ≡ []) before.sent [] fresh.none_sent refl) fresh.none_received fresh.none_waits is

pub fresh-receiving : {setup : Setup} {cpu : ℕ} {before after : Part} → IsFresh setup cpu before
    → after ≡ record before { received = before.received ++ [] ∷ []; waiting = before.waiting ++ [] ∷ [] } → IsFresh setup cpu after
fresh-receiving {before = before} fresh is =
    fresh-with before.sent (before.received ++ [] ∷ []) (before.waiting ++ [] ∷ []) before.free fresh fresh.none_sent (All-push (λ l. l ≡ []) before.received [] fresh.none_received refl)
    (empty-push before.waiting fresh.none_waits) is

-- both ends of a ring are given
pub fresh-joined : {setup : Setup} {n : ℕ} {parts : List Part} (sender home k : ℕ) (from with_end to with_ends : Part) → AreFresh setup n parts → sender < n → home < n
    → from ≡ get_or parts sender from → with_end ≡ record from { sent = from.sent ++ [] ∷ []; free = from.free ++ k ∷ [] }
    → to ≡ get_or (set parts sender with_end) home to → with_ends ≡ record to { received = to.received ++ [] ∷ []; waiting = to.waiting ++ [] ∷ [] }
    → AreFresh setup n (set (set parts sender with_end) home with_ends)
fresh-joined {parts = parts} sender home k from with_end to with_ends fresh sends receives at sending at_home receiving =
    let once = fresh-set sender with_end fresh sends (fresh-sending k (fresh.each sender from sends (sym at)) sending) in
    fresh-set home with_ends once receives (fresh-receiving (once.each home to receives (sym at_home)) receiving)
