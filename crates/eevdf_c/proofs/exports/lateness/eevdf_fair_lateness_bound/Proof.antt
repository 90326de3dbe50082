-- Written by tools/export_proofs/write.py.
use Rattle.eevdf_c.proofs.Steps.{◌≡◌, List, [], ◌∷◌, refl, ◌$◌, !, done, enter, of_opd, addr, stop, no_more, and_then, returns, alloc_all, pass_all, free_all, look_at, get, through, sets, lands_as, Passed, shown, a_code, lifetimes, wholes, references, stored, passed, Contract_of, calls_on, exported, Opened-row, FairBounds-row, Opened-laws, FairBounds-laws}
use Rattle.eevdf_fair_queue.specs.{Fair.IsFair}
use Rattle.eevdf_fair_queue.specs.Lateness.{NoneIsLaterThan}
use Rattle.eevdf_fair_queue.specs.Lateness as latenesses
use Rattle.eevdf_c.specs.contracts.exports.lateness.eevdf_fair_lateness_bound as export
use Rattle.eevdf_c.proofs.exports.lateness.eevdf_fair_lateness_bound.Statement.{statement}
use Rattle.eevdf_c.proofs.exports.lateness.eevdf_fair_lateness_bound.Code as code
use Rattle.eevdf_c.specs.contracts.calls.lateness.lateness_bound as call
use Rattle.eevdf_c.proofs.calls.lateness.lateness_bound.Met.{met}

abbrev ks : List Passed
ks = shown FairBounds-row ∷ shown Opened-row ∷ []

abbrev says : Contract_of ks a_code
says N g = record {
  after = λ r. tt;
  answer = λ r. (r ≡ latenesses.lateness_bound g.1 g.0) ∷ [];
  others = λ r ws. (IsFair g.1 g.0 → NoneIsLaterThan g.1 r) ∷ [];
}

pub eevdf_fair_lateness_bound_spec : {M : Type 1} → statement M
eevdf_fair_lateness_bound_spec 𝓤 𝓛 𝓜 𝓡 wired = exported 𝓛 ks a_code says 𝓜 𝓡 (FairBounds-laws.shares 𝓛, (Opened-laws.shares 𝓛, tt))
    export.Key.name code.function (code.unfolded 𝓤 𝓛.H 𝓜 𝓡 wired) call.Key.name
    (λ bs ns g ls. met 𝓤 𝓛 𝓜 𝓡 (code.calls-eevdf_c::calls::lateness::lateness_bound 𝓡.env wired) ((lifetimes ks ls, wholes ks, tt, references ks bs ns g ls, stored ks bs ns ls), tt))
    (λ bs ns fit fm Q. enter ! _ _ _ _ _ $ alloc_all ! (λ l. pass_all ! refl fit $
    sets ! (of_opd ! (get ! refl)) refl (tt, tt) $ sets ! (addr ! (through ! refl (stop !))) refl (tt, tt) $ sets ! (of_opd ! (get ! refl)) refl (tt, tt) $ sets ! (addr ! (through ! refl (stop !))) refl (tt, tt) $
    calls_on ! fm a_code (passed ks bs ns) Q (and_then ! (get ! refl) (and_then ! (get ! refl) (no_more !))) (λ v lands.
    lands_as ! refl refl lands $ returns ! (look_at ! 0 refl) $ free_all ! refl $ done !)))
