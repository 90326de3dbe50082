-- Written by tools/export_proofs/write.py.
use Rattle.eevdf_c.proofs.Steps.{◌≡◌, List, [], ◌∷◌, refl, ◌$◌, !, done, enter, of_opd, addr, stop, no_more, and_then, returns, alloc_all, pass_all, free_all, look_at, get, through, sets, lands_as, i64, Passed, lent, a_code, lifetimes, wholes, references, stored, passed, Contract_of, calls_on, exported, Opened-row}
use Rattle.std.specs.Prelude.{pos, true}
use Rattle.eevdf_queue.specs.{Sums.virtual_time}
use Rattle.eevdf_queue.specs.Rebase as rebases
use Rattle.eevdf_c.specs.Codes as answers
use Rattle.eevdf_c.specs.contracts.exports.tasks.eevdf_rebase as export
use Rattle.eevdf_c.proofs.exports.tasks.eevdf_rebase.Statement.{statement}
use Rattle.eevdf_c.proofs.exports.tasks.eevdf_rebase.Code as code
use Rattle.eevdf_c.specs.contracts.calls.changing.rebase as call
use Rattle.eevdf_c.proofs.calls.changing.rebase.Met.{met}

abbrev ks : List Passed
ks = lent Opened-row ∷ lent i64 ∷ []

abbrev says : Contract_of ks a_code
says N g = record {
  after = λ r. ((rebases.rebase g.0).1, ((rebases.rebase g.0).0, tt));
  answer = λ r. (r ≡ answers.done) ∷ [];
  others = λ r ws. (rebases.can_rebase g.0 ≡ true → virtual_time ws.0 ≡ pos 0) ∷ [];
}

pub eevdf_rebase_spec : {M : Type 1} → statement M
eevdf_rebase_spec 𝓤 𝓛 𝓜 𝓡 wired = exported 𝓛 ks a_code says 𝓜 𝓡 tt
    export.Key.name code.function (code.unfolded 𝓤 𝓛.H 𝓜 𝓡 wired) call.Key.name
    (λ bs ns g ls. met 𝓤 𝓛 𝓜 𝓡 (code.calls-eevdf_c::calls::changing::rebase 𝓡.env wired) ((lifetimes ks ls, wholes ks, tt, references ks bs ns g ls, stored ks bs ns ls), tt))
    (λ bs ns fit fm Q. enter ! _ _ _ _ _ $ alloc_all ! (λ l. pass_all ! refl fit $
    sets ! (of_opd ! (get ! refl)) refl (tt, tt) $ sets ! (addr ! (through ! refl (stop !))) refl (tt, tt) $ sets ! (addr ! (through ! refl (stop !))) refl (tt, tt) $
    calls_on ! fm a_code (passed ks bs ns) Q (and_then ! (get ! refl) (and_then ! (get ! refl) (no_more !))) (λ v lands.
    lands_as ! refl refl lands $ returns ! (look_at ! 0 refl) $ free_all ! refl $ done !)))
