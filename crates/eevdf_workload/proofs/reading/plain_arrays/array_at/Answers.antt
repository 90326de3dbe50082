use Rattle.std.proofs.Common.{◌≡◌, ◌==◌, true, false, rules, arith}
use Rattle.std.proofs.lemmas.Grind.{common_steps}
use Rattle.toml_parser.specs.Lexical.{first, skip_blank}
use Rattle.eevdf_workload.proofs.ReadingPlainArrays.{array_begin, array_end, array_more}
use Rattle.eevdf_workload.proofs.reading.plain_arrays.array_at.Goals as goal

pub elements-init : goal.elements-init
elements-init g c = (
  search rules,
  c.skip-left.ensures.shorter,
  array_begin _ _ c.args.text.now _ _ c.new-values.ensures.items c.skip-left.ensures.rest c.skip-left.ensures.shorter,
)

pub returns-then-first-eq93-clause-value : goal.returns-then-first-eq93-clause-value
returns-then-first-eq93-clause-value g c =
    let l = c.elements in
    let start = c.skip_blank-start.ensures.rest in
    let bracket : (first c.args.text.now == 91) ≡ true = grind (arith, common_steps) in
    let closing : (first (skip_blank l.left.now) == 93) ≡ true = grind (arith, common_steps) in
    rw (c.skip.ensures.rest, start, c.shrink_to_fit.ensures.items) (array_end _ _ c.args.text.now l.left.now l.values.items bracket l.invariant.2 closing)

pub elements-preserved : goal.elements-preserved
elements-preserved g c =
    let l = c.elements in
    let start = c.skip_blank-start.ensures.rest in
    let within = rw start at c.skip_blank-start.ensures.within in
    let other : (first (skip_blank l.left.now) == 93) ≡ false = grind (arith, common_steps) in
    let read = rw (c.in-Some.is, start) at c.in_ok-value.ensures.value in
    let shorter = rw (c.in-Some.is, start) at c.in_ok-value.ensures.shorter in
    let element = c.in-Some-behind_element.ensures in (
      search rules,
      omega (arith, l.invariant.1, within, shorter, element.within),
      rw c.in_ok-push.ensures.items (array_more _ _ c.args.text.now l.left.now c.in-Some.after.now c.in-Some-behind_element.next.now l.values.items c.in-Some.value l.invariant.2 other read element.value within shorter element.within),
    )
