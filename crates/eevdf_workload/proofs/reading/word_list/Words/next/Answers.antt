use Rattle.std.proofs.Common.{◌≡◌, ap, sym, ◌∙◌, eqb, rules, tests}
use Rattle.std.proofs.lemmas.Iterator.{YieldsList-from_slice}
use Rattle.std.proofs.lemmas.Iterator.Search.{position_from_yields_List}
use Rattle.eevdf_workload.specs.Words.{words, words_left}
use Rattle.eevdf_workload.proofs.ReadingWords.{words_before, words_whole}
use Rattle.eevdf_workload.proofs.reading.word_list.Words.next.Goals as goal

pub returns-in-Some : goal.returns-in-Some
returns-in-Some c =
    let start : words c.in_ok-rest.rest.now ≡ c.args.self.now = ap words_left (sym c.in_ok-rest.was ∙ c.take.ensures.value) ∙ c.self.view_is in
    let found = position_from_yields_List (λ b. eqb b 32) _ _ c.position.result c.position.ensures.ran (YieldsList-from_slice c.in_ok-rest.rest.now c.iter.ensures.rest) (λ x b q k. search (rules, tests)) in
    sym start ∙ words_before c.in_ok-rest.rest.now c.in-Some.end (sym found ∙ c.in-Some.is)

pub returns-in-None : goal.returns-in-None
returns-in-None c =
    let start : words c.in_ok-rest.rest.now ≡ c.args.self.now = ap words_left (sym c.in_ok-rest.was ∙ c.take.ensures.value) ∙ c.self.view_is in
    let found = position_from_yields_List (λ b. eqb b 32) _ _ c.position.result c.position.ensures.ran (YieldsList-from_slice c.in_ok-rest.rest.now c.iter.ensures.rest) (λ x b q k. search (rules, tests)) in
    rw c.take.ensures.after (sym start ∙ words_whole c.in_ok-rest.rest.now (sym found ∙ c.in-None.is))
