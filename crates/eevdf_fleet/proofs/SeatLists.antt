-- Lists of what each CPU has, in order, from which the first is taken and to which one more is added, and the seats of all CPUs.
use Rattle.std.proofs.Common.{◌≡◌, ℕ, zero, suc, ◌+◌, ◌<◌, List, [], ◌∷◌, ◌++◌, length, map, get_or, ⊎_elim, inl, inr, refl, sym, ap, subst, ◌∙◌, arith}
use Rattle.std.proofs.{lemmas.List.FromFn.get_or-map-range_with_len, lemmas.List.FromFn.length-map-range_with_len, lemmas.Option.get_or_from_slice_get, lemmas.Option.slice_get_within}
use Rattle.std.proofs.{lemmas.Bool.cases_lt, lemmas.List.get_or_append_left, lemmas.List.get_or_push}
use Rattle.std.specs.{List.range_with_len, Prelude.slice_get, Prelude.Some}
use Rattle.eevdf_fleet.specs.{Fleets.AreSeats, Fleets.Parts, Fleets.Seat, Fleets.fresh, Fleets.fresh_parts, Fleets.fresh_seats, Fleets.seats_in, SeatWorks.AreDone}
use Rattle.eevdf_fleet.proofs.RingPlaces.{got-read}

-- what holds at each place of a list, with one more
pub each-pushed : {X : Type 0} (P : ℕ → X → Type 0) (n : ℕ) (xs ys : List X) (x : X) → ys ≡ xs ++ x ∷ [] → n ≡ length xs
    → ((k : ℕ) (d : X) → k < n → P k (get_or xs k d)) → P n x → (k : ℕ) (d : X) → k < n + 1 → P k (get_or ys k d)
each-pushed P n xs ys x more count all here k d within =
    subst (λ (zs : List _). P k (get_or zs k d)) (sym more)
    (elim (cases_lt k n) [
      | inl low ↦ subst (P k) (sym (get_or_append_left xs (x ∷ []) d k (omega (arith, low, count)))) (all k d low)
      | inr high ↦
          let last : k ≡ n = omega (arith, within, high) in
          subst (P k) (sym (get_or_push xs x d k (omega (arith, last, count)))) (subst (λ (j : ℕ). P j x) (sym last) here)
    ])

-- what holds of the elements of a list, each with its number, of the first and of the others
pub first-holds : {X : Type 0} (P : ℕ → X → Type 0) (m n : ℕ) (xs rest : List X) (x : X) → xs ≡ x ∷ rest → 0 < m
    → ((k : ℕ) (d : X) → k < m → P (n + k) (get_or xs k d)) → P n x
first-holds P m n xs rest x parted some all =
    let first : P (n + 0) x = subst (λ (ys : List _). P (n + 0) (get_or ys 0 x)) parted (all 0 x some) in
    let same : n + 0 ≡ n = omega arith in
    subst (λ (j : ℕ). P j x) same first

pub others-hold : {X : Type 0} (P : ℕ → X → Type 0) (m n : ℕ) (xs rest : List X) (x : X) → xs ≡ x ∷ rest
    → ((k : ℕ) (d : X) → k < m → P (n + k) (get_or xs k d)) → (k : ℕ) (d : X) → k + 1 < m → P (n + 1 + k) (get_or rest k d)
others-hold P m n xs rest x parted all k d within =
    let next : P (n + suc k) (get_or rest k d) = subst (λ (ys : List _). P (n + suc k) (get_or ys (suc k) d)) parted (all (suc k) d (omega arith)) in
    let same : n + suc k ≡ n + 1 + k = omega arith in
    subst (λ (j : ℕ). P j (get_or rest k d)) same next

-- seats with which a work was done that leaves each its number are those of all CPUs, in order
pub done-seats : (cpus : ℕ) (IsDone : ℕ → Seat → Type 0) (seats : List Seat) → ((cpu : ℕ) (s : Seat) → IsDone cpu s → s.cpu ≡ cpu) → AreDone cpus IsDone seats → AreSeats cpus seats
done-seats cpus IsDone seats own done = record { all = done.all; in_order = λ cpu s at. own cpu s (done.each cpu s at) }

-- a list by places, at a place
pub by-places-at : {X : Type 0} (f : ℕ → X) (n k : ℕ) (x : X) → slice_get (map f (range_with_len 0 n)) k ≡ Some x → x ≡ f k
by-places-at f n k x at =
    let within : k < n = omega (arith, slice_get_within (map f (range_with_len 0 n)) k x at, length-map-range_with_len f 0 n) in
    sym (get_or_from_slice_get (map f (range_with_len 0 n)) k x x at) ∙ get_or-map-range_with_len f 0 n k k x within (omega arith)

-- a list by places has as many elements as there are places
pub counted : {X : Type 0} (f : ℕ → X) (n count : ℕ) (xs : List X) → count ≡ length xs → xs ≡ map f (range_with_len 0 n) → count ≡ n
counted f n count xs count_is is = omega (arith, count_is, ap length is, length-map-range_with_len f 0 n)

-- of fresh seats there are as many as there are CPUs
pub fresh-counted : (quota cpus count : ℕ) (seats : List Seat) → count ≡ length seats → seats ≡ fresh_seats quota cpus → count ≡ cpus
fresh-counted quota cpus count seats count_is is = counted (fresh quota cpus) cpus count seats count_is is

-- one seat more stands at its number
pub in-order-more : {X : Type 0} (cpu_in : X → ℕ) (seats : List X) (number : ℕ) (s : X) → ((cpu : ℕ) (x : X) → slice_get seats cpu ≡ Some x → cpu < number → cpu_in x ≡ cpu)
    → s ≡ get_or seats number s → cpu_in s ≡ number → (cpu : ℕ) (x : X) → slice_get seats cpu ≡ Some x → cpu < number + 1 → cpu_in x ≡ cpu
in-order-more cpu_in seats number s before at own cpu x got within =
    ⊎_elim (λ lower. before cpu x got lower)
    (λ above.
    let here : cpu ≡ number = omega arith in
    let read : slice_get seats number ≡ Some s = got-read seats number s x at (subst (λ (k : ℕ). slice_get seats k ≡ Some x) here got) in
    let same : x ≡ s = cc in ap cpu_in same ∙ own ∙ sym here)
    (cases_lt cpu number)

-- a list by places, of which something is read
pub map-by-places : {X Y : Type 0} (f : X → Y) (g : ℕ → X) (h : ℕ → Y) (k n : ℕ) → ((j : ℕ) → f (g j) ≡ h j) → map f (map g (range_with_len k n)) ≡ map h (range_with_len k n)
map-by-places f g h k zero same = refl
map-by-places {X} {Y} f g h k (suc n) same =
    ap (λ (y : Y). y ∷ map f (map g (range_with_len (k + 1) n))) (same k) ∙ ap (λ (l : List Y). h k ∷ l) (map-by-places f g h (k + 1) n same)

-- the seats before anything is done
pub seats-fresh : (quota capacity cpus : ℕ) → seats_in (map (fresh_parts quota capacity cpus) (range_with_len 0 cpus)) ≡ fresh_seats quota cpus
seats-fresh quota capacity cpus = map-by-places (λ (p : Parts). p.seat) (fresh_parts quota capacity cpus) (fresh quota cpus) 0 cpus (λ j. refl)
