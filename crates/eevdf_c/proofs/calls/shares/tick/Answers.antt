use Rattle.std.proofs.Common.{rules, ◌≡◌, ℕ, ◌≤◌, Option, Some, SFits, w64, sym, ap, subst, ◌∙◌}
use Rattle.std.specs.Prelude.{ℤ, pos, ◌≤ℤ◌}
use Rattle.std.proofs.lemmas.Int.{to_z-of_z}
use Rattle.eevdf_weight.specs.Limits.{checked_tick}
use Rattle.eevdf_queue.specs.{State.State, Sums.total_weight, Tick.tick}
use Rattle.eevdf_c.specs.Tick.{tick_code, tick_by}
use Rattle.eevdf_c.specs.Shares as shares_out
use Rattle.eevdf_c.proofs.Shares.{some_load, tick_shares}
use Rattle.eevdf_c.proofs.calls.shares.tick.Goals as goal

pub charge-requires : goal.charge-requires
charge-requires c = λ done.
    let q = c.args.opened.now in
    let at : checked_tick c.args.ns ≡ Some c.in-Some.length = sym c.new.ensures ∙ c.in-Some.is in
    let code : c.tick-code.result ≡ tick_code (tick q c.in-Some.length).0 = c.tick-code.ensures.answer ∙ ap (λ (o : Option ℕ). (tick_by q o).0) at in
    let after : c.tick-code.new.opened ≡ (tick q c.in-Some.length).1 = c.tick-code.ensures.after ∙ ap (λ (o : Option ℕ). (tick_by q o).1) at in
    let fits : SFits w64 c.tick-code.result = search rules in
    let charges : pos 0 ≤ℤ c.tick-code.result = subst (λ (z : ℤ). pos 0 ≤ℤ z) (to_z-of_z w64 c.tick-code.result fits) done in
    subst (λ (x : State). 1 ≤ total_weight x.runnable) (sym after) (some_load q c.in-Some.length c.tick-code.result code charges)

pub returns-clause-shares : goal.returns-clause-shares
returns-clause-shares c =
    let q = c.args.opened.now in
    let s = c.args.shares.now in
    let at : checked_tick c.args.ns ≡ Some c.in-Some.length = sym c.new.ensures ∙ c.in-Some.is in
    let code : c.tick-code.result ≡ tick_code (tick q c.in-Some.length).0 = c.tick-code.ensures.answer ∙ ap (λ (o : Option ℕ). (tick_by q o).0) at in
    let after : c.tick-code.new.opened ≡ (tick q c.in-Some.length).1 = c.tick-code.ensures.after ∙ ap (λ (o : Option ℕ). (tick_by q o).1) at in
    let load : total_weight c.tick-code.new.opened.runnable ≡ total_weight (tick q c.in-Some.length).1.runnable = ap (λ (x : State). total_weight x.runnable) after in
    let is : c.charge.new.shares ≡ shares_out.charged_with s c.tick-code.result c.in-Some.length (total_weight c.tick-code.new.opened.runnable) = search rules in
    is ∙ tick_shares q s c.in-Some.length c.tick-code.result (total_weight c.tick-code.new.opened.runnable) code load
    ∙ ap (shares_out.tick_by s q) (sym c.in-Some.is ∙ c.new.ensures)
