-- What an outcome leaves is the list of the lists of all pairs.
use Rattle.std.proofs.Common.{◌≡◌, ℕ, zero, suc, ◌+◌, ◌*◌, ◌/◌, ◌%◌, ◌<◌, List, [], get_or, sym, ap, ◌∙◌, arith}
use Rattle.std.proofs.{Math.Nat.div-lt_iff_lt-mul, Math.Nat.mod-lt, lemmas.Nat.div-add-mod', lemmas.List.FromFn.fill_by_all}
use Rattle.eevdf_ops.specs.Outcome.{Outcome}
use Rattle.eevdf_steps.specs.{Plan.callers, Requests.left, LeftLists.left_lists, Players.Player, Plays.IsOutcome}

some_number : (n k : ℕ) → k < n * n → zero < n
some_number zero k h = omega arith
some_number (suc n) k h = omega arith

-- a place is that of its quotient and its rest
at_place : (n : ℕ) (f : ℕ → ℕ → List ℕ) (lists : List (List ℕ)) → ((q c : ℕ) → q < n → c < n → get_or lists (q * n + c) [] ≡ f q c) → (k : ℕ) → k < n * n
    → get_or lists k [] ≡ f (k / n) (k % n)
at_place n f lists each k low =
    let some : zero < n = some_number n k low in
    ap (λ (i : ℕ). get_or lists i []) (sym (div-add-mod' k n))
    ∙ each (k / n) (k % n) ((div-lt_iff_lt-mul some).1 low) (mod-lt k some)

pub all_left : (a : Player) (o : Outcome) → IsOutcome a o → o.left ≡ left_lists a.plan a.state.progress
all_left a o is =
    let n : ℕ = callers a.plan in
    let f : ℕ → ℕ → List ℕ = left a.plan a.state.progress in
    fill_by_all (λ k. f (k / n) (k % n)) o.left (n * n) [] is.each (at_place n f o.left is.left_over)
