-- A CPU that had nothing still has nothing while its pulls take no task.
use Rattle.std.proofs.Common.{◌≡◌, ◌≢◌, ℕ, false, List, [], ◌∷◌, ◌++◌, refl, sym, ap, subst, arith}
use Rattle.std.specs.Prelude.{All, None}
use Rattle.std.proofs.lemmas.List.Elements.{All-head, All-tail}
use Rattle.eevdf_ops.specs.{declared.deeds.Answer.Answer, declared.deeds.Deed.Deed, declared.deeds.Line.Line, declared.deeds.Deed.TheVariants.Pull}
use Rattle.eevdf_ops.specs.declared.deeds.Answer.TheVariants.{Pulled}
use Rattle.eevdf_ops.specs.{Histories.AreHistory, Places.count, Programs.lines_by}
use Rattle.eevdf_balance.specs.{Crowds.comes, Crowds.comings, Searches.IsFailedPull, Searches.SearchTells, Sweeps.taken}
use Rattle.eevdf_balance.proofs.Tries.{history-before, own_lines_tell_idle, try_tells}

takes_none : (a : Answer) → ((task : ℕ) → a ≢ Pulled task) → taken a ≡ None
takes_none (Pulled task) none = absurd (none task refl)
takes_none a none = refl

comes_by_none : (cpu source : ℕ) (a : Answer) → ((task : ℕ) → a ≢ Pulled task) → comes cpu (Pull cpu source) a ≡ false
comes_by_none cpu source (Pulled task) none = absurd (none task refl)
comes_by_none cpu source a none = refl

none_came : (cpu : ℕ) (lines : List Line) → All (IsFailedPull cpu) lines → comings cpu lines ≡ 0
none_came cpu [] h = refl
none_came cpu (l ∷ ls) h =
    let first = All-head (IsFailedPull cpu) l ls h in
    let still : comes cpu l.deed l.answer ≡ false = subst (λ (d : Deed). comes cpu d l.answer ≡ false) (sym first.1) (comes_by_none cpu first.0 l.answer first.2) in
    omega (arith, ap count still, none_came cpu ls (All-tail (IsFailedPull cpu) l ls h))

pub search_tells : SearchTells
search_tells homes start lines seen since later cpu source answer history told idle own none =
    let line : Line = record { deed = Pull cpu source; answer = answer } in
    let all : AreHistory homes start (seen ++ since ++ line ∷ later) = subst (λ (ls : List Line). AreHistory homes start ls) told history in
    try_tells homes start (seen ++ since) later cpu source answer all
    (own_lines_tell_idle homes start seen since cpu (history-before homes start (seen ++ since) (line ∷ later) all) (none_came cpu (lines_by cpu since) own) idle)
    (takes_none answer none)
