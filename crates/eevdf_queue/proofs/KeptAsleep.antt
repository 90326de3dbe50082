-- A queue of which a sleeping task gets other things kept of it.
use Rattle.std.proofs.Common.{◌≡◌, ℕ, ap, ◌∙◌}
use Rattle.std.specs.FinMap.{insert, remove}
use Rattle.eevdf_queue.specs.{State.Sleeper, State.Contents, Moves.sleeper_of, Attributes.bringing}
use Rattle.eevdf_queue.proofs.{Renicing.joined_again, Sound.Asleep}

-- the sleeping tasks once one has been taken out in a parcel and put back with what it now brings along
pub put_back : (n n' n'' : Asleep) (t : ℕ) (p p' : Contents) (s : Sleeper) → n' ≡ remove n t → p.task ≡ t → p' ≡ bringing p s
    → n'' ≡ insert n' p'.task (sleeper_of p') → n'' ≡ insert n t s
put_back n n' n'' t p p' s rest same is added =
    added
    ∙ ap (λ (x : Contents). insert n' x.task (sleeper_of x)) is
    ∙ ap (λ (x : Asleep). insert x p.task s) rest
    ∙ ap (λ (x : ℕ). insert (remove n t) x s) same
    ∙ joined_again n t s
