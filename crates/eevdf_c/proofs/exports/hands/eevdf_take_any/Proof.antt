-- Written by tools/export_proofs/write.py.
use Rattle.eevdf_c.proofs.Steps.{◌≡◌, ℕ, List, [], ◌∷◌, refl, ◌$◌, !, done, enter, of_opd, addr, stop, no_more, and_then, returns, alloc_all, pass_all, free_all, look_at, get, through, sets, lands_as, Passed, lent, a_code, lifetimes, wholes, references, stored, passed, Contract_of, calls_on, exported, Opened-row, Hand-row}
use Rattle.std.specs.Prelude.{◌↔◌, suc, pos, None}
use Rattle.eevdf_queue.specs.{Leaving.IsNowhere}
use Rattle.eevdf_queue.specs.Closing.{IsWithoutTasks, task_count}
use Rattle.eevdf_c.specs.Errors.{KeepsOnError}
use Rattle.eevdf_c.specs.Codes as answers
use Rattle.eevdf_c.specs.Hands as hands
use Rattle.eevdf_c.specs.contracts.exports.hands.eevdf_take_any as export
use Rattle.eevdf_c.proofs.exports.hands.eevdf_take_any.Statement.{statement}
use Rattle.eevdf_c.proofs.exports.hands.eevdf_take_any.Code as code
use Rattle.eevdf_c.specs.contracts.calls.closing.take_any as call
use Rattle.eevdf_c.proofs.calls.closing.take_any.Met.{met}

abbrev ks : List Passed
ks = lent Opened-row ∷ lent Hand-row ∷ []

abbrev says : Contract_of ks a_code
says N g = record {
  after = λ r. ((hands.take_any g.0 g.1).queue, ((hands.take_any g.0 g.1).hand, tt));
  answer = λ r. (r ≡ (hands.take_any g.0 g.1).answer) ∷ [];
  others = λ r ws. (g.1 ≡ None → ((r ≡ answers.absent) ↔ IsWithoutTasks g.0)) ∷ ((t : ℕ) → r ≡ pos t → IsNowhere ws.0 t) ∷ ((t : ℕ) → r ≡ pos t → task_count g.0 ≡ suc (task_count ws.0)) ∷ (KeepsOnError r g.0 ws.0) ∷ (KeepsOnError r g.1 ws.1.0) ∷ [];
}

pub eevdf_take_any_spec : {M : Type 1} → statement M
eevdf_take_any_spec 𝓤 𝓛 𝓜 𝓡 wired = exported 𝓛 ks a_code says 𝓜 𝓡 tt
    export.Key.name code.function (code.unfolded 𝓤 𝓛.H 𝓜 𝓡 wired) call.Key.name
    (λ bs ns g ls. met 𝓤 𝓛 𝓜 𝓡 (code.calls-eevdf_c::calls::closing::take_any 𝓡.env wired) ((lifetimes ks ls, wholes ks, tt, references ks bs ns g ls, stored ks bs ns ls), tt))
    (λ bs ns fit fm Q. enter ! _ _ _ _ _ $ alloc_all ! (λ l. pass_all ! refl fit $
    sets ! (of_opd ! (get ! refl)) refl (tt, tt) $ sets ! (addr ! (through ! refl (stop !))) refl (tt, tt) $ sets ! (of_opd ! (get ! refl)) refl (tt, tt) $ sets ! (addr ! (through ! refl (stop !))) refl (tt, tt) $
    calls_on ! fm a_code (passed ks bs ns) Q (and_then ! (get ! refl) (and_then ! (get ! refl) (no_more !))) (λ v lands.
    lands_as ! refl refl lands $ returns ! (look_at ! 0 refl) $ free_all ! refl $ done !)))
