-- The journal has room for the lines of every CPU.
use Rattle.std.proofs.Common.{◌≡◌, ℕ, suc, ◌+◌, ◌*◌, ◌<◌, ◌≤◌, Bool, true, false, cond, List, [], ◌∷◌, ◌++◌, length, refl, ap, ◌∙◌, arith}
use Rattle.std.specs.{Prelude.◌==◌, Prelude.Option, Prelude.Some, Prelude.None, Prelude.IfSome, List.list_all}
use Rattle.std.proofs.{lemmas.Bool.and_parts, lemmas.List.length_push}
use Rattle.eevdf_ops.specs.{declared.deeds.Line.Line, Parts.decider, Programs.deeds_of, Programs.lines_by}
use Rattle.eevdf_ops.specs.Setup.{cpus_of, is_allowed}
use Rattle.eevdf_ops.proofs.DeedNames.{decider_below}
use Rattle.eevdf_fleet.specs.{declared.board.claims.Terms.Terms, Claims.once, Claims.homes, Claims.FitsQuota, Claims.HasAllRoom, Claims.IsOnTerms}
use Rattle.eevdf_fleet.proofs.Sums.{sum_below, sum-most, sum-none, sum-once}

count_of : List Line → ℕ → ℕ
count_of lines cpu = length (lines_by cpu lines)

counted-by : (l : Line) (lines : List Line) (cpu : ℕ) (b : Bool) → (decider l.deed == cpu) ≡ b → count_of (l ∷ lines) cpu ≡ once b + count_of lines cpu
unfolding count_of
counted-by l lines cpu true e = ap (λ (x : Bool). length (cond x (l ∷ lines_by cpu lines) (lines_by cpu lines))) e ∙ (omega arith)
counted-by l lines cpu false e = ap (λ (x : Bool). length (cond x (l ∷ lines_by cpu lines) (lines_by cpu lines))) e ∙ (omega arith)

none-counted : (cpu : ℕ) → count_of [] cpu ≡ 0
unfolding count_of
none-counted cpu = refl

-- the lines of all CPUs are all lines
all-counted : (cpus : ℕ) (hs : List ℕ) (lines : List Line) → list_all (is_allowed cpus hs) (deeds_of lines) ≡ true → sum_below (count_of lines) cpus ≡ length lines
all-counted cpus hs [] ok = sum-none (count_of []) cpus none-counted
all-counted cpus hs (l ∷ lines) ok =
    let here : is_allowed cpus hs l.deed ≡ true = (and_parts _ _ ok).0 in
    let rest : list_all (is_allowed cpus hs) (deeds_of lines) ≡ true = (and_parts (is_allowed cpus hs l.deed) _ ok).1 in
    omega (arith, sum-once (count_of (l ∷ lines)) (count_of lines) (decider l.deed) cpus (λ k. counted-by l lines k (decider l.deed == k) refl) (decider_below cpus hs l.deed here), all-counted cpus hs lines rest)

-- the lines of a history are no more than the quotas of all CPUs
pub all-fit : (t : Terms) (lines : List Line) (most : ℕ) → IsOnTerms t lines → FitsQuota (Some most) lines → length lines ≤ cpus_of t.setup.value * most
unfolding count_of
all-fit t lines most kept fits =
    let total : sum_below (count_of lines) (cpus_of t.setup.value) ≡ length lines = all-counted (cpus_of t.setup.value) (homes t) lines kept.allowed in
    omega (arith, sum-most (count_of lines) most (cpus_of t.setup.value) fits, total)

-- the journal has room for a line with which its lines are a history
journal-room-by : (quota : Option ℕ) (t : Terms) (lines all more : List Line) (capacity : ℕ) → IsOnTerms t lines → FitsQuota quota lines → HasAllRoom quota (cpus_of t.setup.value) capacity
    → IfSome quota (λ (most : ℕ). lines ≡ more) → length more ≡ suc (length all) → length all < capacity
journal-room-by None t lines all more capacity kept fits room is one = absurd room
journal-room-by (Some most) t lines all more capacity kept fits room is one = omega (arith, all-fit t lines most kept fits, ap (λ (l : List Line). length l) is, room, one)

pub journal-room : (t : Terms) (lines all : List Line) (l : Line) (capacity : ℕ) → IsOnTerms t lines → HasAllRoom t.quota (cpus_of t.setup.value) capacity
    → IfSome t.quota (λ (most : ℕ). lines ≡ all ++ l ∷ []) → length all < capacity
journal-room t lines all l capacity kept room is = journal-room-by t.quota t lines all (all ++ l ∷ []) capacity kept kept.fits room is (omega (arith, length_push all l))
