-- Written by tools/export_proofs/write.py.
use Rattle.eevdf_c.proofs.Steps.{◌≡◌, List, [], ◌∷◌, refl, ◌$◌, !, done, enter, of_opd, addr, stop, no_more, and_then, returns, alloc_all, pass_all, free_all, look_at, get, through, sets, lands_as, Passed, number, unsigned, lent, shown, a_code, lifetimes, wholes, references, stored, passed, Contract_of, calls_on, exported, Opened-row, FairShares-row, PlaceOut-row, Opened-laws, FairShares-laws}
use Rattle.eevdf_fair_queue.specs.Beside.{IsOwedOf}
use Rattle.eevdf_fair_queue.specs.Owed.{no_share}
use Rattle.eevdf_c.specs.Errors.{KeepsOnError}
use Rattle.eevdf_c.specs.Codes as answers
use Rattle.eevdf_c.specs.Shares as shares_out
use Rattle.eevdf_c.specs.contracts.exports.shares.eevdf_fair_share_mark as export
use Rattle.eevdf_c.proofs.exports.shares.eevdf_fair_share_mark.Statement.{statement}
use Rattle.eevdf_c.proofs.exports.shares.eevdf_fair_share_mark.Code as code
use Rattle.eevdf_c.specs.contracts.calls.shares.mark as call
use Rattle.eevdf_c.proofs.calls.shares.mark.Met.{met}

abbrev ks : List Passed
ks = shown FairShares-row ∷ shown Opened-row ∷ number unsigned ∷ lent PlaceOut-row ∷ []

abbrev says : Contract_of ks a_code
says N g = let task = N.0 in record {
  after = λ r. (shares_out.told_mark g.0 g.1.0 g.1.1 task, tt);
  answer = λ r. (r ≡ shares_out.mark_code g.0 g.1.0 task) ∷ [];
  others = λ r ws. (r ≡ answers.done → IsOwedOf g.0 g.1.0 task (shares_out.mark_in ws.0) no_share 0) ∷ (KeepsOnError r g.1.1 ws.0) ∷ [];
}

pub eevdf_fair_share_mark_spec : {M : Type 1} → statement M
eevdf_fair_share_mark_spec 𝓤 𝓛 𝓜 𝓡 wired = exported 𝓛 ks a_code says 𝓜 𝓡 (FairShares-laws.shares 𝓛, (Opened-laws.shares 𝓛, tt))
    export.Key.name code.function (code.unfolded 𝓤 𝓛.H 𝓜 𝓡 wired) call.Key.name
    (λ bs ns g ls. met 𝓤 𝓛 𝓜 𝓡 (code.calls-eevdf_c::calls::shares::mark 𝓡.env wired) ((lifetimes ks ls, wholes ks, tt, references ks bs ns g ls, stored ks bs ns ls), tt))
    (λ bs ns fit fm Q. enter ! _ _ _ _ _ $ alloc_all ! (λ l. pass_all ! refl fit $
    sets ! (of_opd ! (get ! refl)) refl (tt, tt) $ sets ! (addr ! (through ! refl (stop !))) refl (tt, tt) $ sets ! (of_opd ! (get ! refl)) refl (tt, tt) $ sets ! (addr ! (through ! refl (stop !))) refl (tt, tt) $ sets ! (addr ! (through ! refl (stop !))) refl (tt, tt) $
    calls_on ! fm a_code (passed ks bs ns) Q (and_then ! (get ! refl) (and_then ! (get ! refl) (and_then ! (get ! refl) (and_then ! (get ! refl) (no_more !))))) (λ v lands.
    lands_as ! refl refl lands $ returns ! (look_at ! 0 refl) $ free_all ! refl $ done !)))
