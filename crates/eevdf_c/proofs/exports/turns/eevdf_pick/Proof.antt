-- Written by tools/export_proofs/write.py.
use Rattle.eevdf_c.proofs.Steps.{◌≡◌, ℕ, List, [], ◌∷◌, refl, ◌$◌, !, done, enter, of_opd, addr, stop, no_more, and_then, returns, alloc_all, pass_all, free_all, look_at, get, through, sets, lands_as, Passed, lent, a_code, lifetimes, wholes, references, stored, passed, Contract_of, calls_on, exported, Opened-row}
use Rattle.std.specs.Prelude.{◌↔◌, pos}
use Rattle.eevdf_queue.specs.{Pick.IsPick}
use Rattle.eevdf_c.specs.Codes.{absent}
use Rattle.eevdf_c.specs.Errors.{KeepsOnError}
use Rattle.std.specs.FinMap as map
use Rattle.eevdf_c.specs.Turns as turns
use Rattle.eevdf_c.specs.contracts.exports.turns.eevdf_pick as export
use Rattle.eevdf_c.proofs.exports.turns.eevdf_pick.Statement.{statement}
use Rattle.eevdf_c.proofs.exports.turns.eevdf_pick.Code as code
use Rattle.eevdf_c.specs.contracts.calls.turns.pick as call
use Rattle.eevdf_c.proofs.calls.turns.pick.Met.{met}

abbrev ks : List Passed
ks = lent Opened-row ∷ []

abbrev says : Contract_of ks a_code
says N q = record {
  after = λ r. ((turns.pick q).1, tt);
  answer = λ r. (r ≡ (turns.pick q).0) ∷ [];
  others = λ r ws. ((t : ℕ) → r ≡ pos t → IsPick q.runnable t) ∷ ((r ≡ absent) ↔ (q.runnable ≡ map.empty)) ∷ (KeepsOnError r q ws.0) ∷ [];
}

pub eevdf_pick_spec : {M : Type 1} → statement M
eevdf_pick_spec 𝓤 𝓛 𝓜 𝓡 wired = exported 𝓛 ks a_code says 𝓜 𝓡 tt
    export.Key.name code.function (code.unfolded 𝓤 𝓛.H 𝓜 𝓡 wired) call.Key.name
    (λ bs ns g ls. met 𝓤 𝓛 𝓜 𝓡 (code.calls-eevdf_c::calls::turns::pick 𝓡.env wired) ((lifetimes ks ls, wholes ks, tt, references ks bs ns g ls, stored ks bs ns ls), tt))
    (λ bs ns fit fm Q. enter ! _ _ _ _ _ $ alloc_all ! (λ l. pass_all ! refl fit $
    sets ! (of_opd ! (get ! refl)) refl (tt, tt) $ sets ! (addr ! (through ! refl (stop !))) refl (tt, tt) $
    calls_on ! fm a_code (passed ks bs ns) Q (and_then ! (get ! refl) (no_more !)) (λ v lands.
    lands_as ! refl refl lands $ returns ! (look_at ! 0 refl) $ free_all ! refl $ done !)))
