-- Written by tools/export_proofs/write.py.
use Rattle.eevdf_c.proofs.Steps.{◌≡◌, List, [], ◌∷◌, refl, ◌$◌, !, done, enter, of_opd, addr, stop, no_more, and_then, returns, alloc_all, pass_all, free_all, look_at, get, through, sets, lands_as, Passed, number, unsigned, lent, shown, a_code, lifetimes, wholes, references, stored, passed, Contract_of, calls_on, exported, Opened-row, PlaceOut-row, Opened-laws}
use Rattle.std.specs.Prelude.{Some}
use Rattle.eevdf_c.specs.Errors.{KeepsOnError}
use Rattle.eevdf_queue.specs.Doze as dozes
use Rattle.eevdf_c.specs.Codes as answers
use Rattle.eevdf_c.specs.PlaceOut as places
use Rattle.eevdf_c.specs.contracts.exports.readers.eevdf_place_of as export
use Rattle.eevdf_c.proofs.exports.readers.eevdf_place_of.Statement.{statement}
use Rattle.eevdf_c.proofs.exports.readers.eevdf_place_of.Code as code
use Rattle.eevdf_c.specs.contracts.calls.reading.place_of as call
use Rattle.eevdf_c.proofs.calls.reading.place_of.Met.{met}

abbrev ks : List Passed
ks = shown Opened-row ∷ number unsigned ∷ lent PlaceOut-row ∷ []

abbrev says : Contract_of ks a_code
says N g = let task = N.0 in record {
  after = λ r. (places.told_place g.0 g.1 task, tt);
  answer = λ r. (r ≡ places.place g.0 task) ∷ [];
  others = λ r ws. (KeepsOnError r g.1 ws.0) ∷ (r ≡ answers.done → dozes.place_of g.0 task ≡ Some (places.value ws.0)) ∷ [];
}

pub eevdf_place_of_spec : {M : Type 1} → statement M
eevdf_place_of_spec 𝓤 𝓛 𝓜 𝓡 wired = exported 𝓛 ks a_code says 𝓜 𝓡 (Opened-laws.shares 𝓛, tt)
    export.Key.name code.function (code.unfolded 𝓤 𝓛.H 𝓜 𝓡 wired) call.Key.name
    (λ bs ns g ls. met 𝓤 𝓛 𝓜 𝓡 (code.calls-eevdf_c::calls::reading::place_of 𝓡.env wired) ((lifetimes ks ls, wholes ks, tt, references ks bs ns g ls, stored ks bs ns ls), tt))
    (λ bs ns fit fm Q. enter ! _ _ _ _ _ $ alloc_all ! (λ l. pass_all ! refl fit $
    sets ! (of_opd ! (get ! refl)) refl (tt, tt) $ sets ! (addr ! (through ! refl (stop !))) refl (tt, tt) $ sets ! (addr ! (through ! refl (stop !))) refl (tt, tt) $
    calls_on ! fm a_code (passed ks bs ns) Q (and_then ! (get ! refl) (and_then ! (get ! refl) (and_then ! (get ! refl) (no_more !)))) (λ v lands.
    lands_as ! refl refl lands $ returns ! (look_at ! 0 refl) $ free_all ! refl $ done !)))
