-- The times of a history that goes on by a line.
use Rattle.std.proofs.Common.{◌≡◌, ℕ, ◌+◌, ◌<◌, List, [], ◌∷◌, ◌++◌, length, get_or, map, take, refl, sym, ap, ◌∙◌}
use Rattle.std.proofs.lemmas.List.{take_more}
use Rattle.eevdf_ops.specs.declared.deeds.Line.{Line}
use Rattle.eevdf_clocks.specs.declared.moment.Moment.{Moment}
use Rattle.eevdf_clocks.specs.Times.{Clocks, after, after_all, moment_of, moments_from, moments_of, opened}

after_all-append : (c : Clocks) (ls : List Line) (l : Line) → after_all c (ls ++ l ∷ []) ≡ after (after_all c ls) l
after_all-append c [] l = refl
after_all-append c (m ∷ ls) l = after_all-append (after c m) ls l

moments_from-append : (c : Clocks) (ls : List Line) (l : Line) → moments_from c (ls ++ l ∷ []) ≡ moments_from c ls ++ moment_of (after_all c ls) l ∷ []
moments_from-append c [] l = refl
moments_from-append c (m ∷ ls) l = ap (λ (ms : List Moment). moment_of c m ∷ ms) (moments_from-append (after c m) ls l)

-- the lines up to one, and that one
one_more : (lines : List Line) (i : ℕ) (l : Line) → i < length lines → l ≡ get_or lines i l → take i lines ++ l ∷ [] ≡ take (i + 1) lines
one_more lines i l low here = ap (λ (m : Line). take i lines ++ m ∷ []) here ∙ sym (take_more lines i l low)

-- the clocks go on by a line
pub clocks_go_on : (lines : List Line) (i : ℕ) (l : Line) (was now : Clocks) → i < length lines → l ≡ get_or lines i l → was ≡ after_all opened (take i lines) → now ≡ after was l
    → now ≡ after_all opened (take (i + 1) lines)
clocks_go_on lines i l was now low here before is =
    is ∙ ap (λ (c : Clocks). after c l) before ∙ sym (after_all-append opened (take i lines) l) ∙ ap (after_all opened) (one_more lines i l low here)

-- and so do the times
pub moments_go_on : (lines : List Line) (i : ℕ) (l : Line) (was : Clocks) (m : Moment) → i < length lines → l ≡ get_or lines i l → was ≡ after_all opened (take i lines) → m ≡ moment_of was l
    → moments_of (take i lines) ++ m ∷ [] ≡ moments_of (take (i + 1) lines)
moments_go_on lines i l was m low here before is =
    ap (λ (k : Moment). moments_of (take i lines) ++ k ∷ []) (is ∙ ap (λ (c : Clocks). moment_of c l) before)
    ∙ sym (moments_from-append opened (take i lines) l)
    ∙ ap moments_of (one_more lines i l low here)

lines_of-moments_from : (c : Clocks) (ls : List Line) → map (λ (m : Moment). m.line) (moments_from c ls) ≡ ls
lines_of-moments_from c [] = refl
lines_of-moments_from c (l ∷ ls) = ap (λ (ks : List Line). l ∷ ks) (lines_of-moments_from (after c l) ls)

-- the lines keep what they are
pub lines_of-moments_of : (ls : List Line) (ms : List Moment) → ms ≡ moments_of ls → map (λ (m : Moment). m.line) ms ≡ ls
lines_of-moments_of ls ms is = ap (map (λ (m : Moment). m.line)) is ∙ lines_of-moments_from opened ls
