use Rattle.std.proofs.Common.{◌≡◌, take}
use Rattle.eevdf_page.specs.Scripts.{of_html}
use Rattle.eevdf_page.proofs.escape.html_of.Given as goal

abbrev pub invariant-loop-byte : goal.invariant-loop-byte
invariant-loop-byte l = l.text.items ≡ of_html (take l.byte-index l.raw)
