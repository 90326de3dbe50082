-- What one or two queues are claimed to be, once a line is committed that changes them.
use Rattle.std.proofs.Common.{◌≡◌, ◌≢◌, ℕ, Bool, [], ◌∷◌, map, eq-eqb, sym, ap, ◌∙◌}
use Rattle.std.specs.Prelude.{if◌then◌else◌}
use Rattle.std.proofs.lemmas.Bool.{ne_eqb}
use Rattle.eevdf_queue.specs.State.{State}
use Rattle.eevdf_fleet.specs.{declared.board.claims.Change.Change, declared.board.claims.Said.Said}
use Rattle.eevdf_fleet.specs.declared.board.claims.Claim.TheVariants.{Queue}
use Rattle.eevdf_fleet.specs.Claims.{advanced, changed}

changed_here : (c : Change) (cpu : ℕ) (q after : State) → c.cpu ≡ cpu → c.queue.value.state ≡ after → changed c cpu q ≡ after
changed_here c cpu q after at is =
    ap (λ (b : Bool). if b then c.queue.value.state else q) (eq-eqb cpu c.cpu (sym at)) ∙ is

changed_else : (c : Change) (cpu : ℕ) (q : State) → cpu ≢ c.cpu → changed c cpu q ≡ q
changed_else c cpu q away = ap (λ (b : Bool). if b then c.queue.value.state else q) (ne_eqb cpu c.cpu away)

pub one-advanced : (s : Said) (cpu : ℕ) (q after : State) → s.second.cpu ≡ cpu → s.second.queue.value.state ≡ after → map (advanced s) (Queue cpu q ∷ []) ≡ Queue cpu after ∷ []
one-advanced s cpu q after at is = ap (λ (x : State). Queue cpu x ∷ []) (changed_here s.second cpu (changed s.first cpu q) after at is)

-- the first queue is that of the first change, and the second that of the second
pub two-advanced : (s : Said) (cpu other : ℕ) (q r after other_after : State) → other ≢ cpu → s.first.cpu ≡ cpu → s.second.cpu ≡ other
    → s.first.queue.value.state ≡ after → s.second.queue.value.state ≡ other_after
    → map (advanced s) (Queue cpu q ∷ Queue other r ∷ []) ≡ Queue cpu after ∷ Queue other other_after ∷ []
two-advanced s cpu other q r after other_after apart at other_at is other_is =
    let first : changed s.second cpu (changed s.first cpu q) ≡ after
    = changed_else s.second cpu (changed s.first cpu q) (λ e. apart (sym (e ∙ other_at))) ∙ changed_here s.first cpu q after at is in
    let second : changed s.second other (changed s.first other r) ≡ other_after = changed_here s.second other (changed s.first other r) other_after other_at other_is in
    ap (λ (x : State). Queue cpu x ∷ Queue other (changed s.second other (changed s.first other r)) ∷ []) first
    ∙ ap (λ (x : State). Queue cpu after ∷ Queue other x ∷ []) second
