-- Written by tools/export_proofs/write.py.
use Rattle.eevdf_c.proofs.Steps.{List, [], ◌∷◌, refl, ◌$◌, !, done, enter, of_opd, addr, stop, no_more, and_then, returns, alloc_all, pass_all, free_all, look_at, get, through, sets, lands_as, Passed, number, unsigned, signed, lent, a_code, lifetimes, wholes, references, stored, passed, Contract_of, calls_on, exported, Opened-row, FairBounds-row}
use Rattle.eevdf_fair_queue.specs.{Fair.IsFair}
use Rattle.eevdf_c.specs.Errors.{KeepsOnError}
use Rattle.eevdf_c.specs.Admit as admits
use Rattle.eevdf_c.specs.Fair as fairs
use Rattle.eevdf_c.specs.contracts.exports.fair_arrivals.eevdf_fair_admit as export
use Rattle.eevdf_c.proofs.exports.fair_arrivals.eevdf_fair_admit.Statement.{statement}
use Rattle.eevdf_c.proofs.exports.fair_arrivals.eevdf_fair_admit.Code as code
use Rattle.eevdf_c.specs.contracts.calls.fair_arrivals.admit as call
use Rattle.eevdf_c.proofs.calls.fair_arrivals.admit.Met.{met}

abbrev ks : List Passed
ks = lent FairBounds-row ∷ lent Opened-row ∷ number unsigned ∷ number signed ∷ number unsigned ∷ number signed ∷ []

abbrev says : Contract_of ks a_code
says N g = let task = N.0 in let nice = N.1.0 in let slice_ns = N.1.1.0 in let start = N.1.1.1.0 in record {
  after = λ r. ((fairs.settled g.0 g.1 task (r, admits.after_answer g.1 (admits.admit g.1 task nice slice_ns start) r)), (admits.after_answer g.1 (admits.admit g.1 task nice slice_ns start) r, tt));
  answer = λ r. (admits.IsAnswer (admits.admit g.1 task nice slice_ns start).0 r) ∷ [];
  others = λ r ws. (IsFair g.1 g.0 → IsFair ws.1.0 ws.0) ∷ (KeepsOnError r g.1 ws.1.0) ∷ (KeepsOnError r g.0 ws.0) ∷ [];
}

pub eevdf_fair_admit_spec : {M : Type 1} → statement M
eevdf_fair_admit_spec 𝓤 𝓛 𝓜 𝓡 wired = exported 𝓛 ks a_code says 𝓜 𝓡 tt
    export.Key.name code.function (code.unfolded 𝓤 𝓛.H 𝓜 𝓡 wired) call.Key.name
    (λ bs ns g ls. met 𝓤 𝓛 𝓜 𝓡 (code.calls-eevdf_c::calls::fair_arrivals::admit 𝓡.env wired) ((lifetimes ks ls, wholes ks, tt, references ks bs ns g ls, stored ks bs ns ls), tt))
    (λ bs ns fit fm Q. enter ! _ _ _ _ _ $ alloc_all ! (λ l. pass_all ! refl fit $
    sets ! (of_opd ! (get ! refl)) refl (tt, tt) $ sets ! (addr ! (through ! refl (stop !))) refl (tt, tt) $ sets ! (of_opd ! (get ! refl)) refl (tt, tt) $ sets ! (addr ! (through ! refl (stop !))) refl (tt, tt) $
    calls_on ! fm a_code (passed ks bs ns) Q (and_then ! (get ! refl) (and_then ! (get ! refl) (and_then ! (get ! refl) (and_then ! (get ! refl) (and_then ! (get ! refl) (and_then ! (get ! refl) (no_more !))))))) (λ v lands.
    lands_as ! refl refl lands $ returns ! (look_at ! 0 refl) $ free_all ! refl $ done !)))
