use Rattle.std.proofs.Common.{◌≡◌, take}
use Rattle.eevdf_page.specs.Scripts.{of_script}
use Rattle.eevdf_page.proofs.escape.script_json.Given as goal

abbrev pub invariant-loop-byte : goal.invariant-loop-byte
invariant-loop-byte l = l.text.items ≡ of_script (take l.byte-index l.json)
