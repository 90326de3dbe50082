-- What who commits a line owes of the queues that it has changed, one or two.
use Rattle.std.proofs.Common.{◌≡◌, ◌≢◌, ℕ, ◌+◌, ◌<◌, ◌≤◌, Bool, true, false, ◌||◌, List, [], ◌∷◌, length, map, eq-eqb, refl, sym, ap, subst, ◌∙◌, arith}
use Rattle.std.specs.Prelude.{◌==◌}
use Rattle.std.proofs.{lemmas.Bool.false≢true, lemmas.List.get_or-set_same}
use Rattle.eevdf_queue.specs.State.{State, empty_state}
use Rattle.eevdf_ops.specs.{declared.deeds.Answer.Answer}
use Rattle.eevdf_ops.specs.{declared.deeds.Deed.Deed, declared.deeds.Line.Line, Setup.allows}
use Rattle.eevdf_ops.specs.declared.acts.Act.TheVariants as act
use Rattle.eevdf_ops.specs.{LocalActs.local_done, Machine.Machine, Machine.queue_at, Parts.decider, Transfers.transferred, Whole.whole, Whole.done_at}
use Rattle.eevdf_ops.proofs.DeedNames.{PullNames, decider_below, transfer_names}
use Rattle.eevdf_ops.proofs.{ActDeeds.across-touches, ActDeeds.local-touches, MapCounts.equal, WholeActs.two-left, WholeActs.whole-by}
use Rattle.eevdf_fleet.specs.{declared.board.claims.Terms.Terms, declared.board.claims.Claim.Claim, declared.board.claims.Said.Said}
use Rattle.eevdf_fleet.specs.declared.board.claims.Claim.TheVariants.{Queue}
use Rattle.eevdf_fleet.specs.Claims.{queue, once, times, homes, HasAllClaimed, OwesQueues, advanced}
use Rattle.eevdf_fleet.specs.TouchedQueues.{AreDoneFrom, IsDoneFrom}
use Rattle.eevdf_fleet.proofs.{Advances.one-advanced, Advances.two-advanced}

owes-one : (t : Terms) (cpu : ℕ) (claims : List Claim) (after : State) (s : Said) → decider s.line.deed ≡ cpu → allows t.setup.value s.line.deed ≡ true
    → IsDoneFrom (homes t) claims cpu after s.line → s.second.cpu ≡ cpu → s.second.queue.value.state ≡ after → OwesQueues t claims s
owes-one t cpu claims after s own may done at is =
    let d : Deed = s.line.deed in
    record {
      claimed = λ c e. subst (λ (cs : List Claim). 1 ≤ times (queue c) cs) (sym done.claimed)
          (let here : (c == decider d) ≡ true = sym (local-touches (homes t) d done.by c done.local) ∙ e in
          let counted : once (cpu == c) ≡ 1 = ap once (eq-eqb cpu c (sym (equal c (decider d) here ∙ own))) in
          omega arith);
      allowed = may;
      answers = λ m fits agree.
          let held : HasAllClaimed m (Queue cpu done.before ∷ []) = subst (λ (cs : List Claim). HasAllClaimed m cs) done.claimed agree in
          ap (λ (r : Answer × Machine). r.0) (whole-by (homes t) d m cpu (act.Local done.by) done.local own)
          ∙ ap (λ (q : State). (local_done done.by q).0) held.0 ∙ sym done.answers;
      changes = λ m fits agree.
          let held : HasAllClaimed m (Queue cpu done.before ∷ []) = subst (λ (cs : List Claim). HasAllClaimed m cs) done.claimed agree in
          let below : cpu < length m = subst (λ (n : ℕ). n < length m) own (decider_below (length m) (homes t) d fits.allowed) in
          subst (λ (cs : List Claim). HasAllClaimed (whole (homes t) d m).1 cs) (sym (ap (map (advanced s)) done.claimed ∙ one-advanced s cpu done.before after at is)) (
            ap (λ (r : Answer × Machine). queue_at r.1 cpu) (whole-by (homes t) d m cpu (act.Local done.by) done.local own)
                ∙ get_or-set_same m cpu (local_done done.by (queue_at m cpu)).1 empty_state below
                ∙ ap (λ (q : State). (local_done done.by q).1) held.0 ∙ sym done.leaves,
            tt,
          );
    }

-- a line that has changed the queue of one CPU, which is told as the second
pub one-owes : (t : Terms) (cpu : ℕ) (claims : List Claim) (after : State) (l : Line) (s : Said) → decider l.deed ≡ cpu → allows t.setup.value l.deed ≡ true
    → IsDoneFrom (homes t) claims cpu after l → s.line ≡ l → s.second.cpu ≡ cpu → s.second.queue.value.state ≡ after → OwesQueues t claims s
one-owes t cpu claims after l s own may done line at is =
    owes-one t cpu claims after s (ap (λ (x : Line). decider x.deed) line ∙ own) (ap (λ (x : Line). allows t.setup.value x.deed) line ∙ may)
    (subst (λ (x : Line). IsDoneFrom (homes t) claims cpu after x) (sym line) done) at is

claimed-either : (c cpu other : ℕ) (x y : Bool) → (c == cpu) ≡ x → (c == other) ≡ y → (x || y) ≡ true → 1 ≤ once (cpu == c) + (once (other == c) + 0)
claimed-either c cpu other true y e f some = let here : once (cpu == c) ≡ 1 = ap once (eq-eqb cpu c (sym (equal c cpu e))) in omega arith
claimed-either c cpu other false true e f some = let here : once (other == c) ≡ 1 = ap once (eq-eqb other c (sym (equal c other f))) in omega arith
claimed-either c cpu other false false e f some = absurd (false≢true some)

-- a line that has changed the queues of two CPUs
pub two-owes : (t : Terms) (cpu : ℕ) (claims : List Claim) (s : Said) → decider s.line.deed ≡ cpu → s.first.cpu ≡ cpu → s.second.cpu ≢ cpu → allows t.setup.value s.line.deed ≡ true
    → AreDoneFrom (homes t) claims s → OwesQueues t claims s
two-owes t cpu claims s own own_queue apart' may done =
    let d : Deed = s.line.deed in
    let one : ℕ = s.first.cpu in
    let other : ℕ = s.second.cpu in
    let by_one : decider d ≡ one = own ∙ sym own_queue in
    let apart : other ≢ one = λ e. apart' (e ∙ own_queue) in
    record {
      claimed = λ c e. subst (λ (cs : List Claim). 1 ≤ times (queue c) cs) (sym done.claimed)
          (claimed-either c one other (c == one) (c == other) refl refl
          (ap (λ (n : ℕ). (c == n) || (c == other)) (sym by_one) ∙ sym (across-touches (homes t) d other done.by c done.across) ∙ e));
      allowed = may;
      answers = λ m fits agree.
          let held : HasAllClaimed m (Queue one done.before ∷ Queue other done.other_before ∷ []) = subst (λ (cs : List Claim). HasAllClaimed m cs) done.claimed agree in
          ap (λ (r : Answer × Machine). r.0) (whole-by (homes t) d m one (act.Transfer other done.by) done.across by_one)
          ∙ ap (λ (q : State). (transferred done.by q (queue_at m other)).0) held.0 ∙ ap (λ (q : State). (transferred done.by done.before q).0) held.1.0 ∙ sym done.answers;
      changes = λ m fits agree.
          let held : HasAllClaimed m (Queue one done.before ∷ Queue other done.other_before ∷ []) = subst (λ (cs : List Claim). HasAllClaimed m cs) done.claimed agree in
          let named : PullNames (length m) (decider d) other = transfer_names (length m) (homes t) d other done.by fits.allowed fits.cpus done.across in
          let left = two-left m one other (transferred done.by (queue_at m one) (queue_at m other)) (λ e. apart (sym e)) (omega (arith, named.puller, by_one)) named.from in
          let same : whole (homes t) d m ≡ done_at one (act.Transfer other done.by) m = whole-by (homes t) d m one (act.Transfer other done.by) done.across by_one in
          subst (λ (cs : List Claim). HasAllClaimed (whole (homes t) d m).1 cs)
          (sym (ap (map (advanced s)) done.claimed ∙ two-advanced s one other done.before done.other_before s.first.queue.value.state s.second.queue.value.state apart refl refl refl refl)) (
            ap (λ (r : Answer × Machine). queue_at r.1 one) same ∙ left.0
                ∙ ap (λ (q : State). (transferred done.by q (queue_at m other)).1.0) held.0 ∙ ap (λ (q : State). (transferred done.by done.before q).1.0) held.1.0 ∙ sym done.leaves,
            (
              ap (λ (r : Answer × Machine). queue_at r.1 other) same ∙ left.1
                  ∙ ap (λ (q : State). (transferred done.by q (queue_at m other)).1.1) held.0 ∙ ap (λ (q : State). (transferred done.by done.before q).1.1) held.1.0 ∙ sym done.other_leaves,
              tt,
            ),
          );
    }
