use Rattle.std.proofs.Common.{arith, ap, length, length-append, length-drop}
use Rattle.std.proofs.lemmas.Fmt.{length-decimal-le}
use Rattle.eevdf_report.proofs.block_text.BlockText.prepend_number.Goals as goal

pub write_digits-self-inside-requires : goal.write_digits-self-inside-requires
write_digits-self-inside-requires c =
    let short = length-decimal-le 20 c.args.number (omega arith) (omega arith) (omega arith) in
    let room = ap length c.self.view_is in
    (omega (arith, short, simp length-drop at room), omega arith)

pub returns-clause-len : goal.returns-clause-len
returns-clause-len c =
    let short = length-decimal-le 20 c.args.number (omega arith) (omega arith) (omega arith) in
    let room = ap length c.self.view_is in
    let written = ap length c.write_digits-self-inside.ensures.written in
    omega (arith, short, room, simp length-append at written)
