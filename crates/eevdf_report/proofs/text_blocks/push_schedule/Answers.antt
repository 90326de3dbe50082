use Rattle.std.proofs.Common.{◌≡◌, ◌≤◌, ◌-◌, ℕ, List, ◌++◌, Bor, map, take, drop, ap, ◌∙◌, append_assoc, arith}
use Rattle.std.proofs.{Math.Seq.take-add, lemmas.Grind.flat_map-append, lemmas.List.map-append}
use Rattle.eevdf_ops.specs.declared.deeds.Line.{Line}
use Rattle.eevdf_report.specs.{TextDeed.schedule_line, TextSchedules.schedule_lines}
use Rattle.eevdf_report.proofs.text_blocks.push_schedule.Goals as goal

abbrev text_of : List (Bor Line) → List ℕ
text_of lines = schedule_lines (map (λ l. l.now) lines)

text_of-append : (xs ys : List (Bor Line)) → text_of (xs ++ ys) ≡ text_of xs ++ text_of ys
text_of-append xs ys = ap schedule_lines (map-append (λ (l : Bor Line). l.now) xs ys) ∙ flat_map-append schedule_line (map (λ l. l.now) xs) (map (λ l. l.now) ys)

block_more : (lines : List (Bor Line)) (i j : ℕ) (old was now block : List ℕ) → i ≤ j → was ≡ old ++ text_of (take i lines) → now ≡ was ++ block → block ≡ text_of (take (j - i) (drop i lines)) → now ≡ old ++ text_of (take j lines)
block_more lines i j old was now block on before after is =
    let whole : take j lines ≡ take i lines ++ take (j - i) (drop i lines) =
    ap (λ (k : ℕ). take k lines) (omega arith) ∙ take-add i (j - i) lines in
    rw (after, before, is, whole, text_of-append (take i lines) (take (j - i) (drop i lines)), append_assoc)

pub loop-done-preserved : goal.loop-done-preserved
loop-done-preserved c = record {
  within = omega (arith, c.min-end.ensures);
  text =
      block_more c.args.lines.now c.loop-done.done c.min-end.result c.args.text.now.items c.loop-done.text.items c.extend_from_slice.new.self.items c.as_bytes.result.now (omega (arith, c.min-end.ensures, c.loop-done-test.true))
      c.loop-done.invariant.text c.in_ok-extend_from_slice.ensures.items (c.as_bytes.ensures ∙ c.write_block.ensures);
}
