use Rattle.std.proofs.Common.{rules, arith}
use Rattle.eevdf_time_text.proofs.OneLength.{unparted, great_number, great_product}
use Rattle.eevdf_time_text.proofs.lengths.length.Goals as goal

pub returns-in_err-digits-clause-none : goal.returns-in_err-digits-clause-none
returns-in_err-digits-clause-none c =
    rw c.from_residual.ensures (λ ns is. unparted _ ns c.args.text.now (search rules) c.in_err-digits.ensures.none is)

pub returns-in_err-number-clause-none : goal.returns-in_err-number-clause-none
returns-in_err-number-clause-none c =
    rw c.from_residual-in_err-number.ensures (λ ns is. great_number _ c.in_ok-digits.unit ns c.args.text.now c.in_ok-digits.digits.now (omega arith) (search rules)
    c.in_ok-digits.ensures.only c.in_ok-digits.ensures.parted c.in_err-number.ensures.none is)

pub returns-in_err-ns-clause-none : goal.returns-in_err-ns-clause-none
returns-in_err-ns-clause-none c =
    rw c.from_residual-in_err-ns.ensures (λ ns is. great_product _ c.in_ok-digits.unit ns c.in_ok-number.field-0 c.args.text.now c.in_ok-digits.digits.now (search rules)
    c.in_ok-digits.ensures.only c.in_ok-number.ensures.number.1 (omega (arith, c.in_err-ns.ensures)) is)

pub returns-else-ns-le-MOST_NS-clause-none : goal.returns-else-ns-le-MOST_NS-clause-none
returns-else-ns-le-MOST_NS-clause-none c =
    λ ns is. great_product _ c.in_ok-digits.unit ns c.in_ok-number.field-0 c.args.text.now c.in_ok-digits.digits.now (search rules)
    c.in_ok-digits.ensures.only c.in_ok-number.ensures.number.1 (omega (arith, c.in_ok-ns.ensures, c.if-ns-le-MOST_NS.false)) is
