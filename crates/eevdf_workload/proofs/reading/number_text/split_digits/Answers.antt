use Rattle.std.proofs.Common.{arith}
use Rattle.eevdf_workload.proofs.ReadingWords.{digit_more, overflow}
use Rattle.eevdf_workload.proofs.reading.number_text.split_digits.Goals as goal

pub returns-in_err-checked_mul-in-48-to-57 : goal.returns-in_err-checked_mul-in-48-to-57
returns-in_err-checked_mul-in-48-to-57 c =
    rw c.from_residual.ensures (overflow c.digits.number c.args.text.now c.digits.left.now c.digits.invariant.0 c.in-len1-up.len_at_least (omega arith) (omega arith) (omega (arith, c.in_err-checked_mul-in-48-to-57.ensures)))

pub returns-in_err-number-in-48-to-57 : goal.returns-in_err-number-in-48-to-57
returns-in_err-number-in-48-to-57 c =
    rw c.from_residual-in_err-number-in-48-to-57.ensures (overflow c.digits.number c.args.text.now c.digits.left.now c.digits.invariant.0 c.in-len1-up.len_at_least (omega arith) (omega arith) (omega (arith, c.in_err-number-in-48-to-57.ensures, c.in_ok-checked_mul-in-48-to-57.ensures, c.from.ensures)))

pub digits-preserved : goal.digits-preserved
digits-preserved c =
    let more =
    digit_more c.digits.number c.in_ok-number-in-48-to-57.number c.args.text.now c.digits.left.now c.digits.invariant.0 c.digits.invariant.1 c.in-len1-up.len_at_least (omega arith) (omega arith)
    (omega (arith, c.in_ok-number-in-48-to-57.ensures, c.in_ok-checked_mul-in-48-to-57.ensures, c.from.ensures)) in
    (more.0, more.1, omega (arith, c.in_ok-number-in-48-to-57.ensures))
