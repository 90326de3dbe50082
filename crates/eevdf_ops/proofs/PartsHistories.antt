-- Where each queue agrees with all steps, they are the history.
use Rattle.std.proofs.Common.{◌≡◌, ℕ, true, List, [], ◌∷◌, length, refl, sym, ap, subst, ◌∙◌}
use Rattle.std.specs.List.{list_all}
use Rattle.std.proofs.lemmas.Bool.{and_parts}
use Rattle.eevdf_queue.specs.State.{State}
use Rattle.eevdf_ops.specs.{declared.deeds.Deed.Deed, declared.deeds.Answer.Answer, declared.deeds.Line.Line, Setup.is_allowed}
use Rattle.eevdf_ops.specs.{Machine.Machine, Places.AreCpus, Whole.whole, Whole.lines_of}
use Rattle.eevdf_ops.specs.PartsHistory as history
use Rattle.eevdf_ops.specs.PartsHistory.{deeds_in, replayed, AgreesAlong, IsHistory}
use Rattle.eevdf_ops.specs.PartsLaws as laws
use Rattle.eevdf_ops.proofs.{PartsProofs.parts_make_the_whole, WholePlaces.length-whole}

pub history_by_parts : history.HistoryByParts
history_by_parts homes m [] ok cpus along = record { lines = refl; queues = λ c. refl }
history_by_parts homes m (s ∷ ss) ok cpus along =
    let deed : Deed = s.line.deed in
    let after : Machine = (whole homes deed m).1 in
    let allowed : (is_allowed (length m) homes deed ≡ true) × (list_all (is_allowed (length m) homes) (deeds_in ss) ≡ true) =
    and_parts (is_allowed (length m) homes deed) (list_all (is_allowed (length m) homes) (deeds_in ss)) ok in
    let step : laws.ComesTo homes deed m s.line.answer s.moved =
    parts_make_the_whole homes deed m s.line.answer s.moved (record { allowed = allowed.0; cpus = cpus }) (λ c t. (along c).0) in
    let same : length after ≡ length m = length-whole homes deed m in
    let rest : IsHistory homes after ss =
    history_by_parts homes after ss (ap (λ (n : ℕ). list_all (is_allowed n homes) (deeds_in ss)) same ∙ allowed.1)
    (subst (λ (n : ℕ). AreCpus n homes) (sym same) cpus) (λ c. subst (λ (q : State). AgreesAlong homes c q ss) (sym (step.leaves c)) (along c).1) in
    let line : Answer → Line = λ a. record { deed = deed; answer = a } in
    record {
      lines = ap (λ (a : Answer). line a ∷ lines_of homes after (deeds_in ss)) step.answers ∙ ap (λ (l : List Line). s.line ∷ l) rest.lines;
      queues = λ c. rest.queues c ∙ ap (λ (q : State). replayed homes c q ss) (step.leaves c);
    }
