-- What comes of a task that joins a queue, from where it sleeps here or with a parcel.
use Rattle.std.proofs.Common.{◌≡◌, ℕ, Bool, true, false, cond, Option, Some, None, refl, sym, ap, ◌∙◌, to_z, of_z}
use Rattle.std.specs.{Prelude.ℤ, Prelude.is_some, FinMap.get, FinMap.insert, FinMap.remove, FinMap.contains_key}
use Rattle.std.proofs.lemmas.Int.{to_z-of_z}
use mir.Syntax.{w64}
use mir.Val.{SFits}
use Rattle.eevdf_queue.specs.{declared.entry.Entry.Entry, State.State, State.Sleeper, State.Contents, Sums.Tasks}
use Rattle.eevdf_queue.specs.Moves.{fresh_entry, is_entry_in_range, with_runnable, sleeper_of}
use Rattle.eevdf_queue.specs.{Placing.placement, Placing.placed_entry, Placing.put, Wake.wake, Wake.wake_to, Wake.wake_sleeper, Wake.waking_entry, Wake.waking_runtime}
use Rattle.eevdf_queue.specs.declared.answers.WakeAnswer.TheVariants.{Woken, Awake, Range}
use Rattle.eevdf_queue.proofs.Sound.{Asleep}

in_range_by : (e r : Entry) (b : Bool) → is_entry_in_range e ≡ b → cond b (Some e) None ≡ Some r → is_entry_in_range r ≡ true
in_range_by e r true h k = let same : e ≡ r = cc in ap is_entry_in_range (sym same) ∙ h
in_range_by e r false h k = cc

-- an entry that is placed is in range
pub placed_in_range : (q : State) (s : Sleeper) (r : Entry) → placed_entry q s ≡ Some r → is_entry_in_range r ≡ true
placed_in_range q s r h =
    let e : Entry = fresh_entry (placement q s) s.nice s.slice in in_range_by e r (is_entry_in_range e) refl h

-- a task without a place wakes where it would join
pub plainly : (q : State) (s : Sleeper) (place : Option ℤ) → is_some place ≡ false → waking_entry q s place ≡ placed_entry q s
plainly q s None h = refl
plainly q s (Some place) h = cc

-- and so is one at which a task wakes
pub waking_in_range : (q : State) (s : Sleeper) (place : Option ℤ) (r : Entry) → waking_entry q s place ≡ Some r → is_entry_in_range r ≡ true
waking_in_range q s place r h =
    let e : Entry = fresh_entry (waking_runtime q s place) s.nice s.slice in in_range_by e r (is_entry_in_range e) refl h

absent : (o : Option Entry) (a : Option Sleeper) (s : Sleeper) → (is_some o ≡ true → a ≡ None) → a ≡ Some s → o ≡ None
absent None a s h k = refl
absent (Some e) a s h k = let none : a ≡ None = h refl in cc

-- a task that sleeps here isn't runnable
pub asleep_alone : (m : Tasks) (n : Asleep) (t : ℕ) (s : Sleeper) → (contains_key m t ≡ true → get n t ≡ None) → get n t ≡ Some s → get m t ≡ None
asleep_alone m n t s h k = absent (get m t) (get n t) s h k

pub joined : (q : State) (t : ℕ) (s : Sleeper) (e : Entry) → placed_entry q s ≡ Some e → put q t s ≡ Some (record q { runnable = insert q.runnable t e })
joined q t s e h = ap (with_runnable q t) h

none_joined : (q : State) (t : ℕ) (o : Option Entry) → is_some o ≡ false → with_runnable q t o ≡ None
none_joined q t None h = refl
none_joined q t (Some e) h = cc

pub not_joined : (q : State) (t : ℕ) (s : Sleeper) → is_some (placed_entry q s) ≡ false → put q t s ≡ None
not_joined q t s h = none_joined q t (placed_entry q s) h

pub stays_awake : (q : State) (t : ℕ) → get q.asleep t ≡ None → wake q t ≡ (Awake, q)
stays_awake q t h = ap (wake_sleeper q t) h

pub stays_asleep : (q : State) (t : ℕ) (s : Sleeper) → get q.asleep t ≡ Some s → waking_entry q s (get q.places t) ≡ None → wake q t ≡ (Range, q)
stays_asleep q t s h k = ap (wake_sleeper q t) h ∙ ap (λ (o : Option Entry). wake_to q t (with_runnable q t o)) k

pub woken : (q : State) (t : ℕ) (s : Sleeper) (e : Entry) → get q.asleep t ≡ Some s → waking_entry q s (get q.places t) ≡ Some e
    → wake q t ≡ (Woken, record q { runnable = insert q.runnable t e; asleep = remove q.asleep t; places = remove q.places t })
woken q t s e h k = ap (wake_sleeper q t) h ∙ ap (λ (o : Option Entry). wake_to q t (with_runnable q t o)) k

-- what a parcel brings along, read part by part
pub sleeper_read : (p : Contents) (lag nice : ℤ) (slice : ℕ) → SFits w64 lag → lag ≡ p.lag → nice ≡ p.nice → slice ≡ p.slice
    → record { lag = to_z w64 (of_z w64 lag); nice = nice; slice = slice } ≡ sleeper_of p
sleeper_read p lag nice slice f h i j =
    let of_parts : ℤ → ℤ → ℕ → Sleeper = λ x y z. record { lag = x; nice = y; slice = z } in
    ap (λ (x : ℤ). of_parts x nice slice) (to_z-of_z w64 lag f ∙ h)
    ∙ ap (λ (y : ℤ). of_parts p.lag y slice) i ∙ ap (λ (z : ℕ). of_parts p.lag p.nice z) j
