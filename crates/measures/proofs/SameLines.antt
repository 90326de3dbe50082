-- A list of lines is found equal to itself.
use Rattle.std.proofs.Common.{◌≡◌, List, [], ◌∷◌, true, refl, rules}
use Rattle.std.specs.Cmp.Lexicographic.{pointwise}
use Rattle.eevdf_ops.specs.declared.deeds.Line.{Line}
use Rattle.eevdf_ops.specs.declared.deeds.Deed.{Deed}
use Rattle.eevdf_ops.specs.declared.deeds.Deed.TheVariants.{Tick}
use Rattle.eevdf_ops.specs.declared.deeds.Answer.{Answer}
use Rattle.eevdf_ops.specs.declared.deeds.Answer.TheVariants as answers
use Rattle.eevdf_ops.specs.contracts.deeds.DeedPartialEq.TheImpl as deed
use Rattle.eevdf_ops.specs.contracts.deeds.AnswerPartialEq.TheImpl as answer
use Rattle.eevdf_ops.specs.contracts.deeds.LinePartialEq.TheImpl as line

deed_itself : (d : Deed) → deed.eq-value.it d d ≡ true
deed_itself (Tick cpu ns) = search rules
deed_itself d = search rules

answer_itself : (a : Answer) → answer.eq-value.it a a ≡ true
answer_itself (answers.Charged task resched) = search rules
answer_itself (answers.Picked task) = search rules
answer_itself answers.Idle = refl
answer_itself answers.Yielded = refl
answer_itself (answers.Slept lag) = search rules
answer_itself answers.NotRunning = refl
answer_itself answers.Woken = refl
answer_itself answers.Awake = refl
answer_itself (answers.Pulled task) = search rules
answer_itself answers.Balanced = refl
answer_itself answers.Nothing = refl
answer_itself answers.Range = refl
answer_itself answers.Reniced = refl
answer_itself answers.NotHere = refl
answer_itself answers.Begun = refl
answer_itself answers.Ended = refl
answer_itself answers.Set = refl
answer_itself (answers.Rebased by) = search rules

line_itself : (l : Line) → line.eq-value.it l l ≡ true
line_itself l = rw (deed_itself l.deed, answer_itself l.answer) refl

pub lines_themselves : (xs : List Line) → pointwise line.eq-value.it xs xs ≡ true
lines_themselves [] = refl
lines_themselves (x ∷ xs) = rw (line_itself x) (lines_themselves xs)
