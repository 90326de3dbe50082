-- How many ends of rings the parts have, ring by ring.
use Rattle.std.proofs.Common.{◌≡◌, ◌≢◌, ℕ, ◌+◌, ◌-◌, ◌<◌, List, [], ◌∷◌, ◌++◌, length, get_or, set, ap, sym, subst, ◌∙◌, arith, Bool, true, false, ◌==◌}
use Rattle.std.proofs.Math.Path.{refl}
use Rattle.std.proofs.lemmas.List.{length-append, length-set, get_or_append_left, get_or-append_right, get_or-set_same, get_or-set_other}
use Rattle.std.proofs.lemmas.Bool.{eqb-true, eqb-false}
use Rattle.eevdf_free_tasks.specs.Parts.{Part}
use Rattle.eevdf_free_tasks.specs.Openings.{OfEach, HaveRings, IsSending, IsReceiving, AreJoined}

module _ (Holds : ℕ → Part → Type 0) where
  push-at : (parts : List Part) (added : Part) → OfEach Holds parts → Holds (length parts) added → (cpu : ℕ) (part : Part) (b : Bool) → (cpu == length parts) ≡ b
      → cpu < length parts + 1 → get_or (parts ++ added ∷ []) cpu part ≡ part → Holds cpu part
  push-at parts added each one cpu part true is below at =
      let same = eqb-true cpu (length parts) is in
      let first : cpu - length parts ≡ 0 = omega (arith, same) in
      let found : added ≡ part = sym (get_or-append_right parts (added ∷ []) (length parts) cpu part refl (omega (arith, same)) ∙ ap (λ k. get_or (added ∷ []) k part) first) ∙ at in
      subst (λ (p : Part). Holds cpu p) found (subst (λ (k : ℕ). Holds k added) (sym same) one)
  push-at parts added each one cpu part false is below at =
      let other = eqb-false cpu (length parts) is in
      let within : cpu < length parts = grind (arith, other, below) in
      each cpu part within (sym (get_or_append_left parts (added ∷ []) part cpu within) ∙ at)

  -- one part more of which it holds
  each-push : (parts : List Part) (added : Part) → OfEach Holds parts → Holds (length parts) added → OfEach Holds (parts ++ added ∷ [])
  each-push parts added each one cpu part below at =
      push-at parts added each one cpu part (cpu == length parts) refl (omega (arith, below, length-append parts (added ∷ []))) at

  set-at : (parts : List Part) (k : ℕ) (after : Part) → ((cpu : ℕ) (part : Part) → cpu ≢ k → cpu < length parts → get_or parts cpu part ≡ part → Holds cpu part)
      → k < length parts → Holds k after → (cpu : ℕ) (part : Part) (b : Bool) → (cpu == k) ≡ b → cpu < length parts → get_or (set parts k after) cpu part ≡ part → Holds cpu part
  set-at parts k after others within one cpu part true is below at =
      let same = eqb-true cpu k is in
      let found : after ≡ part = sym (ap (λ j. get_or (set parts k after) j part) same ∙ get_or-set_same parts k after part within) ∙ at in
      subst (λ (p : Part). Holds cpu p) found (subst (λ (j : ℕ). Holds j after) (sym same) one)
  set-at parts k after others within one cpu part false is below at =
      others cpu part (eqb-false cpu k is) below (sym (get_or-set_other parts k cpu after part (eqb-false cpu k is)) ∙ at)

  -- another part in the place of one: it holds of that, and as before of the others
  each-set : (parts : List Part) (k : ℕ) (after : Part) → ((cpu : ℕ) (part : Part) → cpu ≢ k → cpu < length parts → get_or parts cpu part ≡ part → Holds cpu part)
      → k < length parts → Holds k after → OfEach Holds (set parts k after)
  each-set parts k after others within one cpu part below at =
      set-at parts k after others within one cpu part (cpu == k) refl (omega (arith, below, length-set parts k after)) at

-- a part without rings comes to those that have none
pub joined-push : {cpus : ℕ} {parts : List Part} (added : Part) → AreJoined cpus 0 0 parts → added.sent ≡ [] → added.free ≡ [] → added.received ≡ [] → AreJoined cpus 0 0 (parts ++ added ∷ [])
joined-push {cpus = cpus} {parts = parts} added joined sent free received = record {
  sending = each-push (IsSending 0 0) parts added joined.sending (record {
    joined = λ h. omega (arith, h);
    others = λ _. ap length sent;
    free = ap length free ∙ sym (ap length sent);
  });
  receiving = each-push (IsReceiving cpus 0 0) parts added joined.receiving (record {
    below = λ h. omega (arith, h);
    here = λ _. ap length received;
    above = λ _. ap length received;
  });
}

-- the next sender has an end to the home
sends-one : {home sender : ℕ} (k : ℕ) (parts : List Part) (from with_end : Part) → OfEach (IsSending home sender) parts → sender < length parts → from ≡ get_or parts sender from
    → with_end ≡ record from { sent = from.sent ++ [] ∷ []; free = from.free ++ k ∷ [] } → OfEach (IsSending home (sender + 1)) (set parts sender with_end)
sends-one {home = home} {sender = sender} k parts from with_end each within at is =
    let before = each sender from within (sym at) in
    let long : length with_end.sent ≡ home + 1 = ap (λ (p : Part). length p.sent) is ∙ length-append from.sent ([] ∷ []) ∙ ap (λ n. n + 1) (before.others (omega arith)) in
    let room : length with_end.free ≡ home + 1 = ap (λ (p : Part). length p.free) is ∙ length-append from.free (k ∷ []) ∙ ap (λ n. n + 1) (before.free ∙ before.others (omega arith)) in
    each-set (IsSending home (sender + 1)) parts sender with_end
    (λ cpu part other below found. record {
      joined = λ h. (each cpu part below found).joined (grind (arith, h, other));
      others = λ h. (each cpu part below found).others (omega (arith, h));
      free = (each cpu part below found).free;
    }) within (record { joined = λ _. long; others = λ h. omega (arith, h); free = room ∙ sym long })

-- it receives as before
sends-apart : {cpus home sender senders : ℕ} (k : ℕ) (parts : List Part) (from with_end : Part) → OfEach (IsReceiving cpus home senders) parts → sender < length parts → from ≡ get_or parts sender from
    → with_end ≡ record from { sent = from.sent ++ [] ∷ []; free = from.free ++ k ∷ [] } → OfEach (IsReceiving cpus home senders) (set parts sender with_end)
sends-apart {cpus = cpus} {home = home} {sender = sender} {senders = senders} k parts from with_end each within at is =
    let before = each sender from within (sym at) in
    let same : length with_end.received ≡ length from.received = ap (λ (p : Part). length p.received) is in
    each-set (IsReceiving cpus home senders) parts sender with_end (λ cpu part other below found. each cpu part below found) within
    (record { below = λ h. same ∙ before.below h; here = λ h. same ∙ before.here h; above = λ h. same ∙ before.above h })

-- the home has an end from the next sender
receives-one : {cpus home sender : ℕ} (parts : List Part) (to with_end : Part) → OfEach (IsReceiving cpus home sender) parts → home < length parts → to ≡ get_or parts home to
    → with_end ≡ record to { received = to.received ++ [] ∷ []; waiting = to.waiting ++ [] ∷ [] } → OfEach (IsReceiving cpus home (sender + 1)) (set parts home with_end)
receives-one {cpus = cpus} {home = home} {sender = sender} parts to with_end each within at is =
    let before = each home to within (sym at) in
    let long : length with_end.received ≡ sender + 1 = ap (λ (p : Part). length p.received) is ∙ length-append to.received ([] ∷ []) ∙ ap (λ n. n + 1) (before.here refl) in
    each-set (IsReceiving cpus home (sender + 1)) parts home with_end
    (λ cpu part other below found. record {
      below = (each cpu part below found).below;
      here = λ h. absurd (other h);
      above = (each cpu part below found).above;
    }) within (record { below = λ h. omega (arith, h); here = λ _. long; above = λ h. omega (arith, h) })

-- it sends as before
receives-apart : {home senders : ℕ} (parts : List Part) (to with_end : Part) → OfEach (IsSending home senders) parts → home < length parts → to ≡ get_or parts home to
    → with_end ≡ record to { received = to.received ++ [] ∷ []; waiting = to.waiting ++ [] ∷ [] } → OfEach (IsSending home senders) (set parts home with_end)
receives-apart {home = home} {senders = senders} parts to with_end each within at is =
    let before = each home to within (sym at) in
    let same : length with_end.sent ≡ length to.sent = ap (λ (p : Part). length p.sent) is in
    let free : length with_end.free ≡ length to.free = ap (λ (p : Part). length p.free) is in
    each-set (IsSending home senders) parts home with_end (λ cpu part other below found. each cpu part below found) within
    (record { joined = λ h. same ∙ before.joined h; others = λ h. same ∙ before.others h; free = free ∙ before.free ∙ sym same })

-- both ends of a ring are given
pub joined-more : {cpus : ℕ} {parts : List Part} (sender home k : ℕ) (from with_end to with_ends : Part) → AreJoined cpus home sender parts → sender < length parts → home < length parts
    → from ≡ get_or parts sender from → with_end ≡ record from { sent = from.sent ++ [] ∷ []; free = from.free ++ k ∷ [] }
    → to ≡ get_or (set parts sender with_end) home to → with_ends ≡ record to { received = to.received ++ [] ∷ []; waiting = to.waiting ++ [] ∷ [] }
    → AreJoined cpus home (sender + 1) (set (set parts sender with_end) home with_ends)
joined-more {parts = parts} sender home k from with_end to with_ends joined sends receives at sending at_home receiving =
    let inside : home < length (set parts sender with_end) = omega (arith, receives, length-set parts sender with_end) in record {
      sending = receives-apart (set parts sender with_end) to with_ends (sends-one k parts from with_end joined.sending sends at sending) inside at_home receiving;
      receiving = receives-one (set parts sender with_end) to with_ends (sends-apart k parts from with_end joined.receiving sends at sending) inside at_home receiving;
    }

-- all rings to a home are given, and none to the next
pub joined-next : {cpus home : ℕ} {parts : List Part} → length parts ≡ cpus → AreJoined cpus home cpus parts → AreJoined cpus (home + 1) 0 parts
joined-next all joined = record {
  sending = λ cpu part below at. record {
    joined = λ h. omega (arith, h);
    others = λ _. (joined.sending cpu part below at).joined (omega (arith, below, all));
    free = (joined.sending cpu part below at).free;
  };
  receiving = λ cpu part below at. let before = joined.receiving cpu part below at in record {
    below = λ h. grind (arith, h, before.below, before.here);
    here = λ h. before.above (omega (arith, h));
    above = λ h. before.above (omega (arith, h));
  };
}

-- all rings are given
pub joined-all : {cpus : ℕ} {parts : List Part} → length parts ≡ cpus → AreJoined cpus cpus 0 parts → HaveRings cpus parts
joined-all all joined cpu part below at = let sends = joined.sending cpu part below at in record {
  sent = sends.others (omega arith);
  free = sends.free ∙ sends.others (omega arith);
  received = (joined.receiving cpu part below at).below (omega (arith, below, all));
}
