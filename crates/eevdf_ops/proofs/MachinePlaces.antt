-- How a step on a queue of a machine changes where tasks stand.
use Rattle.std.proofs.Common.{◌≡◌, ◌≢◌, ℕ, zero, suc, ◌+◌, ◌<◌, ◌≤◌, Bool, true, false, List, [], ◌∷◌, length, set, refl, sym, ap, arith}
use Rattle.std.specs.{Prelude.is_some, Ordering.nat_cmp, FinMap.contains_key, FinMap.get-empty}
use Rattle.std.proofs.{lemmas.List.get_or-set_other, Math.ListN.length-set}
use Rattle.eevdf_queue.specs.State.{State, empty_state}
use Rattle.eevdf_ops.specs.{Setup.home_of, Setup.is_task, Machine.Machine, Machine.queue_at}
use Rattle.eevdf_ops.specs.{Places.count, Places.places_in, Places.places, Places.IsPlaced, Transfers.NoneTwice}
use Rattle.eevdf_ops.proofs.QueuePlaces.{IsSame}

-- a queue is written, and the places in it count anew
pub places-set : (m : Machine) (c u : ℕ) (q : State) → c < length m → places (set m c q) u + places_in (queue_at m c) u ≡ places m u + places_in q u
places-set [] c u q h = absurd (omega arith)
places-set (x ∷ m) zero u q h = omega arith
places-set (x ∷ m) (suc c) u q h = omega (arith, places-set m c u q (omega arith))

-- nobody stands in an empty queue
pub places-none : (u : ℕ) → places_in empty_state u ≡ 0
places-none u =
    let runnable : count (contains_key empty_state.runnable u) ≡ 0 = ap (λ o. count (is_some o)) (get-empty nat_cmp u) in
    let asleep : count (contains_key empty_state.asleep u) ≡ 0 = ap (λ o. count (is_some o)) (get-empty nat_cmp u) in
    omega (arith, runnable, asleep)

places-any : (m : Machine) (c u : ℕ) → places_in (queue_at m c) u ≤ places m u
places-any [] c u = omega (arith, places-none u)
places-any (x ∷ m) zero u = omega arith
places-any (x ∷ m) (suc c) u = omega (arith, places-any m c u)

pub places-at : (m : Machine) (c u : ℕ) → c < length m → places_in (queue_at m c) u ≤ places m u
places-at m c u h = places-any m c u

pub places-two : (m : Machine) (a b task : ℕ) → a ≢ b → places_in (queue_at m a) task + places_in (queue_at m b) task ≤ places m task
places-two [] a b task apart = omega (arith, places-none task)
places-two (x ∷ m) zero zero task apart = absurd (apart refl)
places-two (x ∷ m) zero (suc b) task apart = omega (arith, places-any m b task)
places-two (x ∷ m) (suc a) zero task apart = omega (arith, places-any m a task)
places-two (x ∷ m) (suc a) (suc b) task apart = omega (arith, places-two m a b task (λ e. apart (ap suc e)))

pub at-most : (b : Bool) → count b ≤ 1
at-most true = omega arith
at-most false = omega arith

-- no task stands in two queues
pub none-twice : (homes : List ℕ) (m : Machine) (a b : ℕ) → IsPlaced homes m → a ≢ b → a < length m → b < length m → NoneTwice (queue_at m a) (queue_at m b)
none-twice homes m a b placed apart h g task = omega (arith, placed.once task, at-most (is_task homes task), places-two m a b task apart)

-- another queue is as it was
pub other_queue : (m : Machine) (c k : ℕ) (q : State) → k ≢ c → queue_at (set m c q) k ≡ queue_at m k
other_queue m c k q apart = get_or-set_other m c k q empty_state apart

-- what holds of the queue that is written, and of all others, holds of each
pub each-set : (P : ℕ → State → Type 0) (m : Machine) (c : ℕ) (q : State) → P c q → ((k : ℕ) → P k (queue_at m k)) → (k : ℕ) → P k (queue_at (set m c q) k)
each-set P [] c q p all k = all k
each-set P (x ∷ m) zero q p all zero = p
each-set P (x ∷ m) zero q p all (suc k) = all (suc k)
each-set P (x ∷ m) (suc c) q p all zero = all zero
each-set P (x ∷ m) (suc c) q p all (suc k) = each-set (λ i. P (suc i)) m c q p (λ i. all (suc i)) k

-- a task that is asleep in a queue has its home there
abbrev pub SleepsAtHome : List ℕ → ℕ → State → Type 0
SleepsAtHome homes cpu q = (task : ℕ) → contains_key q.asleep task ≡ true → home_of homes task ≡ cpu

-- a queue is written in which tasks stand in as many places
pub one-placed : (homes : List ℕ) (m : Machine) (c : ℕ) (q : State) → c < length m → ((u : ℕ) → places_in q u ≡ places_in (queue_at m c) u) → SleepsAtHome homes c q → IsPlaced homes m → IsPlaced homes (set m c q)
one-placed homes m c q h same asleep placed = record {
  once = λ u. omega (arith, places-set m c u q h, same u, placed.once u);
  at_home = each-set (SleepsAtHome homes) m c q asleep placed.at_home;
}

-- a step on one queue that moves nobody
pub same-placed : (homes : List ℕ) (m : Machine) (c : ℕ) (q : State) → c < length m → IsSame (queue_at m c) q → IsPlaced homes m → IsPlaced homes (set m c q)
same-placed homes m c q h same placed = one-placed homes m c q h same.places (λ u a. placed.at_home c u (same.asleep u a)) placed

-- two queues are written in which tasks stand in as many places as before, taken together
pub two-placed : (homes : List ℕ) (m : Machine) (a b : ℕ) (q r : State) → a ≢ b → a < length m → b < length m
    → ((u : ℕ) → places_in q u + places_in r u ≡ places_in (queue_at m a) u + places_in (queue_at m b) u) → SleepsAtHome homes a q → SleepsAtHome homes b r → IsPlaced homes m
    → IsPlaced homes (set (set m a q) b r)
two-placed homes m a b q r apart h g same here there placed =
    let n : Machine = set m a q in
    let other : queue_at n b ≡ queue_at m b = other_queue m a b q (λ e. apart (sym e)) in
    record {
      once = λ u. omega (arith, places-set m a u q h, places-set n b u r (omega (arith, length-set m a q, g)), ap (λ (s : State). places_in s u) other, same u, placed.once u);
      at_home = each-set (SleepsAtHome homes) n b r there (each-set (SleepsAtHome homes) m a q here placed.at_home);
    }
