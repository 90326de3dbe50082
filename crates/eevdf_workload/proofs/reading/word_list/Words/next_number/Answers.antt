use Rattle.std.proofs.Common.{◌≡◌, ap, sym, ◌∙◌}
use Rattle.eevdf_workload.specs.Words.{words, words_left}
use Rattle.eevdf_workload.proofs.reading.word_list.Words.next_number.Goals as goal

pub returns : goal.returns
returns c =
    let start : words c.in_ok-take.field-0.now ≡ c.args.self.now = ap words_left (sym c.in_ok-take.was ∙ c.take.ensures.value) ∙ c.self.view_is in
    rw start at c.in_ok-number.ensures
