-- What seats are before a work is done with each, and after it.
use Rattle.std.specs.Prelude.{◌≡◌, ℕ, List, length, slice_get, Some}

-- the work may be done with each seat, by its number
abbrev pub AllFit : {S : Type 0} → (ℕ → S → Type 0) → List S → Type 0
AllFit {S} Fits seats = (number : ℕ) (seat : S) → slice_get seats number ≡ Some seat → Fits number seat

-- so many seats, in order, with each of which the work is done
pub record AreDone {S : Type 0} (count : ℕ) (IsDone : ℕ → S → Type 0) (seats : List S) : Type 0 where
  pub all : length seats ≡ count
  pub each : (number : ℕ) (seat : S) → slice_get seats number ≡ Some seat → IsDone number seat
