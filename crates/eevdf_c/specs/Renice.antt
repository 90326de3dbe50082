-- A change of nice level through C.
use Rattle.std.specs.Prelude.{ℕ, ℤ, Option, Some, None}
use Rattle.eevdf_weight.specs.Limits.{checked_level}
use Rattle.eevdf_queue.specs.{State.State, Numbers.checked_number, declared.answers.ReniceAnswer.ReniceAnswer}
use Rattle.eevdf_queue.specs.Renice as renices
use Rattle.eevdf_queue.specs.declared.answers.ReniceAnswer.TheVariants.{Reniced, NotHere, Range}
use Rattle.eevdf_c.specs.Codes.{done, absent, invalid, out_of_range}

abbrev pub renice_code : ReniceAnswer → ℤ
renice_code Reniced = done
renice_code NotHere = absent
renice_code Range = out_of_range

abbrev pub renice_by : State → Option ℕ → Option ℤ → ℤ × State
renice_by q None level = (invalid, q)
renice_by q (Some task) None = (invalid, q)
renice_by q (Some task) (Some level) = (renice_code (renices.renice q task level).0, (renices.renice q task level).1)

-- what is answered, and the state afterwards
abbrev pub renice : State → ℕ → ℤ → ℤ × State
renice q number level = renice_by q (checked_number number) (checked_level level)
