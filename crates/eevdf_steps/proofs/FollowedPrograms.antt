-- The outcome of an order without fault follows the programs.
use Rattle.std.proofs.Common.{◌≡◌, ℕ, ◌*◌, ◌<◌, ◌≤◌, List, [], ◌∷◌, ◌++◌, length, sym, ap, ◌∙◌, refl, arith}
use Rattle.std.proofs.lemmas.Grind.{common_steps}
use Rattle.std.specs.Prelude.{None}
use Rattle.eevdf_ops.specs.{Followed.FollowsPrograms, Followed.left_of, Outcome.Outcome, Setup.Setup}
use Rattle.eevdf_ops.specs.Programs.{deeds_of, lines_by, wakes_from}
use Rattle.eevdf_steps.specs.{Commits.commits, Orders.counters_at_start, Orders.order_fault, Plays.IsOutcome, Counters.Counters}
use Rattle.eevdf_steps.specs.Plan.{IsSound, Plan, callers, plan_of}
use Rattle.eevdf_steps.specs.Requests.{Progress, left, posted, progress_after, progress_at_start}
use Rattle.eevdf_steps.specs.MicroState.{MicroState, micro, micro_after, micro_start, micro_step}
use Rattle.eevdf_steps.proofs.{CommittedPrograms.programs_fit, KeptPosts.posts_taken_or_left, ProgramPosts.posted_when_done}
use Rattle.eevdf_steps.proofs.LawfulOrders.{done_by_all, faultless_whole, whole_ends}

pub micro_progress : (plan : Plan) (s : MicroState) (order : List ℕ) → (micro_after plan s order).progress ≡ progress_after plan s.progress order
micro_progress plan s [] = refl
micro_progress plan s (p ∷ order) = grind (arith, micro_progress plan (micro_step plan s p) order)

none_posted : (plan : Plan) (counters : Counters) (q c : ℕ) → callers plan ≤ q → posted plan counters q c ≡ []
none_posted plan counters q c past = grind (arith, common_steps)

-- nothing is left of a sender that isn't there
none_left : (setup : Setup) (g : Progress) (o : Outcome) (q c : ℕ) → callers (plan_of setup) ≤ q → length o.left ≡ callers (plan_of setup) * callers (plan_of setup)
    → left_of setup o q c ≡ left (plan_of setup) g q c
none_left setup g o q c past each = grind (arith, common_steps)

left_by : (setup : Setup) (order : List ℕ) (o : Outcome) (q c : ℕ) → c < callers (plan_of setup)
    → IsOutcome (record { plan = plan_of setup; state = micro setup order }) o → left_of setup o q c ≡ left (plan_of setup) (micro setup order).progress q c
left_by setup order o q c j is = grind (arith, common_steps)

pub outcome_follows : (setup : Setup) (order : List ℕ) (o : Outcome) → IsSound (plan_of setup)
    → order_fault (plan_of setup) (counters_at_start (plan_of setup)) 0 order ≡ None
    → deeds_of o.lines ≡ commits (plan_of setup) (progress_at_start (plan_of setup)) order
    → IsOutcome (record { plan = plan_of setup; state = micro setup order }) o
    → FollowsPrograms setup o
outcome_follows setup order o sound faultless same is =
    let plan : Plan = plan_of setup in
    let g : Progress = progress_at_start plan in
    let h : Progress = progress_after plan g order in
    record {
      operations = programs_fit plan order o.lines faultless same;
      requests = λ q c j.
          sym (posted_when_done plan h.counters q c (done_by_all plan h.counters q (whole_ends plan g order (faultless_whole plan (counters_at_start plan) 0 order faultless))))
          ∙ posts_taken_or_left plan order o.lines sound faultless same q c j
          ∙ ap (λ (l : List ℕ). wakes_from q (lines_by c o.lines) ++ l)
          (ap (λ (k : Progress). left plan k q c) (sym (micro_progress plan (micro_start setup) order)) ∙ sym (left_by setup order o q c j is));
    }
