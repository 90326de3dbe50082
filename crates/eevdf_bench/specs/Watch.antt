-- A reader or a writer, whether one of its calls has failed, whether that was a flush, and whether what it wrote is flushed.
use Rattle.std.specs.Prelude.{ℕ, ◌==◌, Bool, true, not, ◌&&◌, List, length, Result, Ok, Err, refl}
use Rattle.std.specs.Coded.{Coded, code_by, coded×, coded_bool}

pub record Watch (E : Type 0) : Type 0 where
  pub end : E
  pub failed : Bool
  pub flush_failed : Bool
  pub flushed : Bool

abbrev pub watch_code : {E : Type 0} → Coded E → Coded (Watch E)
watch_code {E} e = code_by (E × (Bool × (Bool × Bool))) (coded× e (coded× coded_bool (coded× coded_bool coded_bool))) (λ w. (w.end, (w.failed, (w.flush_failed, w.flushed)))) (λ p. record { end = p.0; failed = p.1.0; flush_failed = p.1.1.0; flushed = p.1.1.1 }) (λ _. refl)

-- a write that failed: an error, or nothing taken of a piece that isn't empty
abbrev pub takes_nothing : {E : Type 0} → Result ℕ E → List ℕ → Bool
takes_nothing (Ok n) piece = (n == 0) && not (length piece == 0)
takes_nothing (Err _) piece = true
