-- Along a history in which no task comes, goes or changes its weight, pulls that take a task come to an end.
use Rattle.std.proofs.Common.{◌≡◌, ℕ, zero, suc, ◌+◌, ◌*◌, ◌≤◌, true, List, [], ◌∷◌, length, refl, sym, ap, subst, ◌∙◌, arith}
use Rattle.std.specs.Prelude.{is_some, Option}
use Rattle.eevdf_ops.specs.{declared.deeds.Deed.Deed, declared.deeds.Deed.TheVariants.Pull}
use Rattle.eevdf_ops.specs.{Machine.Machine, Setup.is_allowed, Places.AreCpus, Places.IsPlaced, Places.count, Whole.whole}
use Rattle.eevdf_ops.specs.WholePull.{load_of}
use Rattle.eevdf_ops.proofs.WholePlaces.{whole-placed, length-whole}
use Rattle.eevdf_balance.specs.{Sweeps.taken, Squares.load_at, Squares.sum_of_squares, Squares.is_turn_or_pull, Squares.AreTurnsAndPulls, Squares.PullsAreFew}
use Rattle.eevdf_balance.proofs.{Squares.pull_lowers_squares, SameWeights.weighs-the-same, SameWeights.turn_or_pull, SameWeights.took}

-- the sum is of the loads alone
same_loads : (m n : Machine) → length n ≡ length m → ((k : ℕ) → load_at n k ≡ load_at m k) → sum_of_squares n ≡ sum_of_squares m
same_loads [] [] e h = refl
same_loads [] (y ∷ n) e h = absurd (omega (arith, e))
same_loads (x ∷ m) [] e h = absurd (omega (arith, e))
same_loads (x ∷ m) (y ∷ n) e h =
    let first : load_of y * load_of y ≡ load_of x * load_of x = ap (λ (w : ℕ). w * w) (h zero) in
    let rest : sum_of_squares n ≡ sum_of_squares m = same_loads m n (omega (arith, e)) (λ k. h (suc k)) in
    omega (arith, first, rest)

-- what the deed takes off the sum
abbrev Pays : List ℕ → Machine → Deed → Type 0
Pays homes m deed = 30 * count (is_some (taken (whole homes deed m).0)) + sum_of_squares (whole homes deed m).1 ≤ sum_of_squares m

pays : (homes : List ℕ) (m : Machine) (deed : Deed) → IsPlaced homes m → is_turn_or_pull deed ≡ true → is_allowed (length m) homes deed ≡ true → Pays homes m deed
pays homes m deed placed kind allowed =
    turn_or_pull homes m deed (Pays homes m) kind
    (λ none.
    let same : sum_of_squares (whole homes deed m).1 ≡ sum_of_squares m = same_loads m (whole homes deed m).1 (length-whole homes deed m) (λ k. (weighs-the-same homes deed m kind none k).load) in
    let no : count (is_some (taken (whole homes deed m).0)) ≡ 0 = ap (λ (o : Option ℕ). count (is_some o)) none in
    omega (arith, same, no))
    (λ cpu source task is e.
    subst (Pays homes m) (sym is)
    (let l = pull_lowers_squares homes m cpu source task (record {
      placed = placed;
      allowed = ap (is_allowed (length m) homes) (sym is) ∙ allowed;
      answered = took (whole homes (Pull cpu source) m).0 task e;
    }) in
    let one : count (is_some (taken (whole homes (Pull cpu source) m).0)) ≡ 1 = ap (λ (o : Option ℕ). count (is_some o)) e in
    omega (arith, l.least, one)))

pub pulls_are_few : PullsAreFew 30
pulls_are_few homes m [] cpus placed kinds = omega arith
pulls_are_few homes m (d ∷ ds) cpus placed kinds =
    let n : Machine = (whole homes d m).1 in
    let same : length n ≡ length m = length-whole homes d m in
    let first : Pays homes m d = pays homes m d placed kinds.0.0 kinds.0.1 in
    let rest = pulls_are_few homes n ds (subst (λ (k : ℕ). AreCpus k homes) (sym same) cpus) (whole-placed homes d m kinds.0.1 cpus placed)
    (subst (λ (k : ℕ). AreTurnsAndPulls k homes ds) (sym same) kinds.1) in
    omega (arith, first, rest)
