-- Written by tools/export_proofs/write.py.
use Rattle.eevdf_c.proofs.Steps.{◌≡◌, List, [], ◌∷◌, refl, ◌$◌, !, done, enter, of_opd, addr, stop, no_more, and_then, returns, alloc_all, pass_all, free_all, look_at, get, through, sets, lands_as, i64, Passed, lent, shown, a_code, lifetimes, wholes, references, stored, passed, Contract_of, calls_on, exported, Opened-row, Opened-laws}
use Rattle.std.specs.Prelude.{true}
use Rattle.eevdf_weight.specs.Limits.{is_in_range}
use Rattle.eevdf_queue.specs.{Sums.virtual_time}
use Rattle.eevdf_c.specs.Codes as answers
use Rattle.eevdf_c.specs.contracts.exports.readers.eevdf_floor_time as export
use Rattle.eevdf_c.proofs.exports.readers.eevdf_floor_time.Statement.{statement}
use Rattle.eevdf_c.proofs.exports.readers.eevdf_floor_time.Code as code
use Rattle.eevdf_c.specs.contracts.calls.reading.floor_time as call
use Rattle.eevdf_c.proofs.calls.reading.floor_time.Met.{met}

abbrev ks : List Passed
ks = shown Opened-row ∷ lent i64 ∷ []

abbrev says : Contract_of ks a_code
says N g = record {
  after = λ r. (virtual_time g.0, tt);
  answer = λ r. (r ≡ answers.done) ∷ [];
  others = λ r ws. (is_in_range ws.0 ≡ true) ∷ [];
}

pub eevdf_floor_time_spec : {M : Type 1} → statement M
eevdf_floor_time_spec 𝓤 𝓛 𝓜 𝓡 wired = exported 𝓛 ks a_code says 𝓜 𝓡 (Opened-laws.shares 𝓛, tt)
    export.Key.name code.function (code.unfolded 𝓤 𝓛.H 𝓜 𝓡 wired) call.Key.name
    (λ bs ns g ls. met 𝓤 𝓛 𝓜 𝓡 (code.calls-eevdf_c::calls::reading::floor_time 𝓡.env wired) ((lifetimes ks ls, wholes ks, tt, references ks bs ns g ls, stored ks bs ns ls), tt))
    (λ bs ns fit fm Q. enter ! _ _ _ _ _ $ alloc_all ! (λ l. pass_all ! refl fit $
    sets ! (of_opd ! (get ! refl)) refl (tt, tt) $ sets ! (addr ! (through ! refl (stop !))) refl (tt, tt) $ sets ! (addr ! (through ! refl (stop !))) refl (tt, tt) $
    calls_on ! fm a_code (passed ks bs ns) Q (and_then ! (get ! refl) (and_then ! (get ! refl) (no_more !))) (λ v lands.
    lands_as ! refl refl lands $ returns ! (look_at ! 0 refl) $ free_all ! refl $ done !)))
