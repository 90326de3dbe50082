-- What every turn keeps: no task is far past a time that some task is due by, and none is ahead.
use Rattle.std.proofs.Common.{◌≡◌, ℕ, ◌+◌, ◌*◌, ◌≤◌, List, [], ◌∷◌, Some, ap, arith}
use Rattle.std.specs.Prelude.{ℤ, pos, ◌+ℤ◌, ◌*ℤ◌, ◌≤ℤ◌, ◌<ℤ◌}
use Rattle.std.specs.FinMap.{get, entries}
use Rattle.std.proofs.{lemmas.Int.ints, Math.Nat.mul-le-mul_right}
use Rattle.eevdf_weight.specs.{Weight.weight_of, Charge.charge_of}
use Rattle.eevdf_queue.specs.{declared.entry.Entry.Entry, Moves.request_of}
use Rattle.eevdf_queue.specs.Sums.{Tasks, sum_weights, sum_moments, total_weight, total_moment}
use Rattle.eevdf_queue.proofs.Scaled.{scaled_sum}
use Rattle.eevdf_fairness.specs.{Turns.IsFresh, Anywhere.NoneIsPast, Fair.NoneIsFarPast, Healing.HasNotYielded}
use Rattle.eevdf_fairness.proofs.Inequalities.{le_then}
use Rattle.eevdf_fairness.proofs.EntrySums.{Each, each, no_heavier}
use Rattle.eevdf_fairness.proofs.Growing.{Grown}

-- an entry is ahead of the weighted mean by at most the charge of a turn, less what its own weight draws the mean along
abbrev pub IsLittleAhead : ℕ → ℕ → ℤ → Entry → Type 0
IsLittleAhead ns W S e =
    ((e.v *ℤ pos W) +ℤ pos (weight_of e.nice * charge_of ns (weight_of e.nice))) ≤ℤ (S +ℤ pos (W * charge_of ns (weight_of e.nice)))

-- how far past a time a task may be, by its number and its nice level
abbrev pub Allowance : Type 0
Allowance = ℕ → ℤ → ℕ

abbrev pub NoneIsPastBy : Allowance → Tasks → ℤ → Type 0
NoneIsPastBy allowed tasks time = (u : ℕ) (f : Entry) → get tasks u ≡ Some f → f.v ≤ℤ (time +ℤ pos (allowed u f.nice))

-- what stays true of a task whatever it is charged
abbrev pub Keeps : (ℕ → Entry → Type 0) → Type 0
Keeps Kept = (t : ℕ) (e f : Entry) (m : ℕ) → Grown e m f → Kept t e → Kept t f

-- What is asked of the tasks, from a time on, the front: how far they may be past a time that a task is due by that counts, which of
-- them may not be ahead, and what else holds of each.
pub record Rule : Type 1 where
  pub ns : ℕ
  pub front : ℤ
  pub allowed : Allowance
  pub enough : (u : ℕ) (nice : ℤ) → charge_of ns (weight_of nice) ≤ allowed u nice
  pub Counts : ℕ → Type 0
  pub Guard : Entry → Type 0
  pub Kept : ℕ → Entry → Type 0
  pub keeps : Keeps Kept

pub record IsWithin (r : Rule) (tasks : Tasks) : Type 0 where
  pub within : (time : ℤ) → r.front ≤ℤ time → (t : ℕ) (e : Entry) → get tasks t ≡ Some e → e.d ≤ℤ time → e.v ≤ℤ time
  pub past : (time : ℤ) → r.front ≤ℤ time → (t : ℕ) (e : Entry) → get tasks t ≡ Some e → r.Counts t → e.d ≤ℤ time → NoneIsPastBy r.allowed tasks time
  pub ahead : (t : ℕ) (e : Entry) → get tasks t ≡ Some e → r.Guard e → IsLittleAhead r.ns (total_weight tasks) (total_moment tasks) e
  pub kept : (t : ℕ) (e : Entry) → get tasks t ≡ Some e → r.Kept t e

-- the rule where all tasks count, and each may be past a time by the charge of a turn
pub same : (n : ℕ) → n ≤ n
same n = omega arith

abbrev pub rule_of : (ns : ℕ) → ℤ → (Entry → Type 0) → (Kept : ℕ → Entry → Type 0) → Keeps Kept → Rule
rule_of ns front Guard Kept keeps = record {
  ns = ns;
  front = front;
  allowed = λ u nice. charge_of ns (weight_of nice);
  enough = λ u nice. same (charge_of ns (weight_of nice));
  Counts = λ t. Unit {0};
  Guard = Guard;
  Kept = Kept;
  keeps = keeps;
}

-- besides, no deadline lies before the front
abbrev pub After : ℤ → (ℕ → Entry → Type 0) → ℕ → Entry → Type 0
After front Kept t e = (front ≤ℤ e.d) × Kept t e

pub keeps_after : (front : ℤ) (Kept : ℕ → Entry → Type 0) → Keeps Kept → Keeps (After front Kept)
keeps_after front Kept keeps t e f m g k = (le_then front e.d f.d k.0 g.later, keeps t e f m g k.1)

abbrev pub Nothing : ℕ → Entry → Type 0
Nothing t e = Unit {0}

pub keeps_nothing : Keeps Nothing
keeps_nothing t e f m g k = k

abbrev pub Short : ℕ → Entry → Type 0
Short t e = HasNotYielded e

pub keeps_short : Keeps Short
keeps_short t e f m g k = g.short k

-- as from a fresh start, with a guard
abbrev pub settled : ℕ → ℤ → (Entry → Type 0) → Rule
settled ns front Guard = rule_of ns front Guard (After front Short) (keeps_after front Short keeps_short)

abbrev pub Everyone : Entry → Type 0
Everyone e = Unit {0}

abbrev pub Nobody : Entry → Type 0
Nobody e = ⊥

-- ---- where no virtual runtime is past the front
no_further : (a b : ℤ) (c : ℕ) → a ≤ℤ b → a ≤ℤ (b +ℤ pos c)
no_further a b c h = omega (arith, ints, h)

none_past : (ns : ℕ) (front time : ℤ) (tasks : Tasks) → NoneIsPast front tasks → front ≤ℤ time → NoneIsFarPast ns tasks time
none_past ns front time tasks h later =
    λ u f found. no_further f.v time (charge_of ns (weight_of f.nice)) (le_then f.v front time (h u f found) later)

not_past_it : (front v : ℤ) → v ≤ℤ front → front <ℤ v → ⊥
not_past_it front v h k = absurd (omega (arith, ints, h, k))

-- whatever the deadlines are
pub anywhere_within : (ns : ℕ) (front : ℤ) (Guard : Entry → Type 0) (Kept : ℕ → Entry → Type 0) (keeps : Keeps Kept) (tasks : Tasks)
    → ((e : Entry) → Guard e → front <ℤ e.v) → NoneIsPast front tasks → ((t : ℕ) (e : Entry) → get tasks t ≡ Some e → Kept t e)
    → IsWithin (rule_of ns front Guard Kept keeps) tasks
anywhere_within ns front Guard Kept keeps tasks far h kept = record {
  within = λ time later t e here due. le_then e.v front time (h t e here) later;
  past = λ time later t e here counts due. none_past ns front time tasks h later;
  ahead = λ t e here so. absurd (not_past_it front e.v (h t e here) (far e so));
  kept = kept;
}

-- ---- a fresh start
one_moment : (a v M : ℤ) (w n : ℕ) → a ≡ v → M ≡ v *ℤ pos n → (a *ℤ pos w) +ℤ M ≡ v *ℤ pos (w + n)
one_moment a v M w n h k =
    let same : a *ℤ pos w ≡ v *ℤ pos w = ap (λ (z : ℤ). z *ℤ pos w) h in
    omega (arith, ints, same, k, scaled_sum v w n)

pub at_one_time : (v : ℤ) (es : List (ℕ × Entry)) → Each (λ e. e.v ≡ v) es → sum_moments es ≡ v *ℤ pos (sum_weights es)
at_one_time v [] h = omega (arith, ints)
at_one_time v (e ∷ es) h = one_moment e.1.v v (sum_moments es) (weight_of e.1.nice) (sum_weights es) h.0 (at_one_time v es h.1)

level : (a v S : ℤ) (W w c : ℕ) → a ≡ v → S ≡ v *ℤ pos W → w ≤ W → ((a *ℤ pos W) +ℤ pos (w * c)) ≤ℤ (S +ℤ pos (W * c))
level a v S W w c h k l =
    let same : a *ℤ pos W ≡ v *ℤ pos W = ap (λ (z : ℤ). z *ℤ pos W) h in
    let more : w * c ≤ W * c = mul-le-mul_right c l in
    omega (arith, ints, same, k, more)

pub at_most : (a b : ℤ) → a ≡ b → a ≤ℤ b
at_most a b h = omega (arith, ints, h)

pub asked_after : (d v : ℤ) (c : ℕ) → d ≡ v +ℤ pos c → v ≤ℤ d
asked_after d v c h = omega (arith, ints, h)

asked_short : (d a v : ℤ) (c : ℕ) → a ≡ v → d ≡ v +ℤ pos c → d ≤ℤ (a +ℤ pos c)
asked_short d a v c h k = omega (arith, ints, h, k)

pub fresh_within : (v : ℤ) (ns : ℕ) (Guard : Entry → Type 0) (tasks : Tasks) → IsFresh v tasks → IsWithin (settled ns v Guard) tasks
fresh_within v ns Guard tasks fresh =
    let runtime : (t : ℕ) (e : Entry) → get tasks t ≡ Some e → e.v ≡ v = λ t e here. ap (λ (x : Entry). x.v) (fresh t e here) in
    let deadline : (t : ℕ) (e : Entry) → get tasks t ≡ Some e → e.d ≡ v +ℤ pos (request_of e.nice e.slice) = λ t e here. ap (λ (x : Entry). x.d) (fresh t e here) in
    let mean : total_moment tasks ≡ v *ℤ pos (total_weight tasks) = at_one_time v (entries tasks) (each (λ e. e.v ≡ v) tasks runtime) in
    let none : NoneIsPast v tasks = λ t e here. at_most e.v v (runtime t e here) in
    record {
      within = λ time later t e here due. le_then e.v v time (none t e here) later;
      past = λ time later t e here counts due. none_past ns v time tasks none later;
      ahead = λ t e here so. level e.v v (total_moment tasks) (total_weight tasks) (weight_of e.nice) (charge_of ns (weight_of e.nice)) (runtime t e here) mean (no_heavier tasks t e here);
      kept = λ t e here. (asked_after e.d v (request_of e.nice e.slice) (deadline t e here), asked_short e.d e.v v (request_of e.nice e.slice) (runtime t e here) (deadline t e here));
    }
