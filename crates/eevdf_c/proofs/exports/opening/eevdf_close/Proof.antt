-- Written by tools/export_proofs/write.py.
use Rattle.eevdf_c.proofs.Steps.{List, [], ◌∷◌, refl, ◌$◌, !, done, enter, unit_lit, of_opd, addr, stop, no_more, and_then, returns, alloc_all, pass_all, free_all, look_at, get, through, sets, lands_as, Passed, lent, nothing_told, lifetimes, wholes, references, stored, passed, Contract_of, calls_on, exported, Opened-row}
use Rattle.eevdf_c.specs.Leaving.{IsEmptied, closed}
use Rattle.eevdf_c.specs.contracts.exports.opening.eevdf_close as export
use Rattle.eevdf_c.proofs.exports.opening.eevdf_close.Statement.{statement}
use Rattle.eevdf_c.proofs.exports.opening.eevdf_close.Code as code
use Rattle.eevdf_c.specs.contracts.calls.closing.close as call
use Rattle.eevdf_c.proofs.calls.closing.close.Met.{met}

abbrev ks : List Passed
ks = lent Opened-row ∷ []

abbrev says : Contract_of ks nothing_told
says N q = record {
  after = λ r. (closed q, tt);
  answer = λ r. [];
  others = λ r ws. (IsEmptied ws.0) ∷ [];
}

pub eevdf_close_spec : {M : Type 1} → statement M
eevdf_close_spec 𝓤 𝓛 𝓜 𝓡 wired = exported 𝓛 ks nothing_told says 𝓜 𝓡 tt
    export.Key.name code.function (code.unfolded 𝓤 𝓛.H 𝓜 𝓡 wired) call.Key.name
    (λ bs ns g ls. met 𝓤 𝓛 𝓜 𝓡 (code.calls-eevdf_c::calls::closing::close 𝓡.env wired) ((lifetimes ks ls, wholes ks, tt, references ks bs ns g ls, stored ks bs ns ls), tt))
    (λ bs ns fit fm Q. enter ! _ _ _ _ _ $ alloc_all ! (λ l. pass_all ! refl fit $
    sets ! (of_opd ! (get ! refl)) refl (tt, tt) $ sets ! (addr ! (through ! refl (stop !))) refl (tt, tt) $
    calls_on ! fm nothing_told (passed ks bs ns) Q (and_then ! (get ! refl) (no_more !)) (λ v lands.
    lands_as ! lands refl (tt, tt) $ sets ! (of_opd ! (unit_lit !)) refl (tt, tt) $ returns ! (look_at ! 0 refl) $ free_all ! refl $ done !)))
