-- How many tasks sleep.
use Rattle.std.proofs.Common.{◌≡◌, ℕ, ◌+◌, ◌-◌, ◌≤◌, Bool, true, cond, None, sym, ap, ◌∙◌, arith}
use Rattle.std.specs.{Prelude.is_some, Cmp.nat_cmp_total}
use Rattle.std.specs.FinMap.{insert, remove, get, len, contains_key, len-insert}
use Rattle.eevdf_queue.specs.{State.Sleeper, Kept.AreLimited}
use Rattle.eevdf_queue.proofs.{Closing.one_fewer, Sound.Asleep, SortedEntries.few_entries}

pub few_asleep : (n : Asleep) → AreLimited n → len n ≤ 1024
few_asleep n limited = few_entries 1024 n (λ t s h. (limited t s h).0)

pub some_asleep : (n : Asleep) (t count : ℕ) → count ≡ len n → contains_key n t ≡ true → 1 ≤ count
some_asleep n t count is here = omega (arith, is, one_fewer n t here)

module _ (n n' : Asleep) (t count : ℕ) (is : count ≡ len n) where
  pub one_more : (s : Sleeper) → n' ≡ insert n t s → get n t ≡ None → count + 1 ≡ len n'
  one_more s after absent =
      ap (λ (k : ℕ). k + 1) is
      ∙ sym (ap len after ∙ len-insert nat_cmp_total n t s ∙ ap (λ (b : Bool). cond b (len n) (len n + 1)) (ap is_some absent))

  pub one_less : n' ≡ remove n t → contains_key n t ≡ true → count - 1 ≡ len n'
  one_less after here =
      let fewer = one_fewer n t here in
      let same : len n' ≡ len (remove n t) = ap len after in
      omega (arith, fewer, same, is)

  pub as_many : (s : Sleeper) → n' ≡ insert n t s → contains_key n t ≡ true → count ≡ len n'
  as_many s after here =
      is ∙ sym (ap len after ∙ len-insert nat_cmp_total n t s ∙ ap (λ (b : Bool). cond b (len n) (len n + 1)) here)
