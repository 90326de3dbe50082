use Rattle.std.proofs.Common.{rules}
use Rattle.eevdf_time_text.proofs.OneLength.{parted_by_ns, parted_by_us, parted_by_ms}
use Rattle.eevdf_time_text.proofs.lengths.parted.Goals as goal

pub returns-in-Some-clause-only : goal.returns-in-Some-clause-only
returns-in-Some-clause-only c = λ front each parted digits. parted_by_ns c.args.text.now c.in-Some.digits.now front each (search rules) parted digits

pub returns-in-Some-strip_suffix-clause-only : goal.returns-in-Some-strip_suffix-clause-only
returns-in-Some-strip_suffix-clause-only c = λ front each parted digits. parted_by_us c.args.text.now c.in-Some-strip_suffix.digits.now front each (search rules) parted digits

pub returns-in-Some-strip_suffix-2-clause-only : goal.returns-in-Some-strip_suffix-2-clause-only
returns-in-Some-strip_suffix-2-clause-only c = λ front each parted digits. parted_by_ms c.args.text.now c.in-Some-strip_suffix-2.digits.now front each (search rules) parted digits
