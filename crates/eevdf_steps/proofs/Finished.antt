-- Where every caller is done, the machine is that of the history.
use Rattle.std.proofs.Common.{◌≡◌, ℕ, List, [], length, ap, ◌∙◌, inl, inr, arith}
use Rattle.std.proofs.lemmas.Bool.{cases_lt}
use Rattle.std.specs.Prelude.{None}
use Rattle.eevdf_ops.specs.{declared.deeds.Line.Line, Histories.machine_told}
use Rattle.eevdf_ops.proofs.PartsProofs.{same_machine}
use Rattle.eevdf_steps.specs.{Work.Work, Serial.IsFree, Serial.IsSerial}
use Rattle.eevdf_steps.specs.Plan.{IsSound, Plan, callers}
use Rattle.eevdf_steps.specs.Counters.{Counters, step_next, unfinished}
use Rattle.eevdf_steps.proofs.{Holders.nobody_past, LawfulOrders.done_by_all, OwnCommits.length-machine_after, Walking.walking}
use Rattle.eevdf_steps.proofs.Walks.{Walk, is_in}

-- who is done holds no lock
done_holds_none : (plan : Plan) (counters : Counters) (p : ℕ) (w : Walk plan counters p) → step_next plan counters p ≡ None → w.held ≡ []
done_holds_none plan counters p w e = grind arith

all_free : (plan : Plan) (counters : Counters) (c : ℕ) → IsSound plan → length counters ≡ callers plan → unfinished plan counters ≡ None → IsFree plan counters c
all_free plan counters c sound each done p =
    elim (cases_lt p (callers plan)) [
      | inl below ↦
          let w : Walk plan counters p = walking plan counters p sound each below in
          w.holds_them c ∙ ap (is_in c) (done_holds_none plan counters p w (done_by_all plan counters p done))
      | inr past ↦ nobody_past plan counters c p past
    ]

pub finished_machine : (plan : Plan) (counters : Counters) (w : Work) (lines : List Line) → IsSound plan → length counters ≡ callers plan → length w.machine ≡ callers plan
    → IsSerial plan plan.start counters w lines → unfinished plan counters ≡ None → w.machine ≡ machine_told plan.homes plan.start lines
finished_machine plan counters w lines sound each long serial done = grind (arith, same_machine, length-machine_after, all_free)
