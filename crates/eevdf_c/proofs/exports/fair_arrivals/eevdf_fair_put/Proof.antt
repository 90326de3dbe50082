-- Written by tools/export_proofs/write.py.
use Rattle.eevdf_c.proofs.Steps.{◌≡◌, List, [], ◌∷◌, refl, ◌$◌, !, done, enter, of_opd, addr, stop, no_more, and_then, returns, alloc_all, pass_all, free_all, look_at, get, through, sets, lands_as, Passed, lent, a_code, lifetimes, wholes, references, stored, passed, Contract_of, calls_on, exported, Opened-row, Hand-row, FairBounds-row}
use Rattle.eevdf_fair_queue.specs.{Fair.IsFair}
use Rattle.eevdf_c.specs.Errors.{KeepsOnError}
use Rattle.eevdf_c.specs.Fair as fairs
use Rattle.eevdf_c.specs.Hands as hands
use Rattle.eevdf_c.specs.contracts.exports.fair_arrivals.eevdf_fair_put as export
use Rattle.eevdf_c.proofs.exports.fair_arrivals.eevdf_fair_put.Statement.{statement}
use Rattle.eevdf_c.proofs.exports.fair_arrivals.eevdf_fair_put.Code as code
use Rattle.eevdf_c.specs.contracts.calls.fair_arrivals.put as call
use Rattle.eevdf_c.proofs.calls.fair_arrivals.put.Met.{met}

abbrev ks : List Passed
ks = lent FairBounds-row ∷ lent Opened-row ∷ lent Hand-row ∷ []

abbrev says : Contract_of ks a_code
says N g = record {
  after = λ r. (fairs.put g.0 g.1.0 g.1.1, ((hands.put g.1.0 g.1.1).queue, ((hands.put g.1.0 g.1.1).hand, tt)));
  answer = λ r. (r ≡ (hands.put g.1.0 g.1.1).answer) ∷ [];
  others = λ r ws. (IsFair g.1.0 g.0 → IsFair ws.1.0 ws.0) ∷ (KeepsOnError r g.1.0 ws.1.0) ∷ (KeepsOnError r g.1.1 ws.1.1.0) ∷ (KeepsOnError r g.0 ws.0) ∷ [];
}

pub eevdf_fair_put_spec : {M : Type 1} → statement M
eevdf_fair_put_spec 𝓤 𝓛 𝓜 𝓡 wired = exported 𝓛 ks a_code says 𝓜 𝓡 tt
    export.Key.name code.function (code.unfolded 𝓤 𝓛.H 𝓜 𝓡 wired) call.Key.name
    (λ bs ns g ls. met 𝓤 𝓛 𝓜 𝓡 (code.calls-eevdf_c::calls::fair_arrivals::put 𝓡.env wired) ((lifetimes ks ls, wholes ks, tt, references ks bs ns g ls, stored ks bs ns ls), tt))
    (λ bs ns fit fm Q. enter ! _ _ _ _ _ $ alloc_all ! (λ l. pass_all ! refl fit $
    sets ! (of_opd ! (get ! refl)) refl (tt, tt) $ sets ! (addr ! (through ! refl (stop !))) refl (tt, tt) $ sets ! (of_opd ! (get ! refl)) refl (tt, tt) $ sets ! (addr ! (through ! refl (stop !))) refl (tt, tt) $ sets ! (of_opd ! (get ! refl)) refl (tt, tt) $ sets ! (addr ! (through ! refl (stop !))) refl (tt, tt) $
    calls_on ! fm a_code (passed ks bs ns) Q (and_then ! (get ! refl) (and_then ! (get ! refl) (and_then ! (get ! refl) (no_more !)))) (λ v lands.
    lands_as ! refl refl lands $ returns ! (look_at ! 0 refl) $ free_all ! refl $ done !)))
