-- What is there, or isn't.
use Rattle.std.proofs.Common.{◌≡◌, ℕ, true, Option, Some, None, refl, arith}
use Rattle.std.specs.Prelude.{ℤ, pos, ◌+ℤ◌, ◌≤ℤ◌, is_some}
use Rattle.std.specs.Option.{option_map}
use Rattle.std.proofs.lemmas.Int.{ints}
use Rattle.eevdf_queue.specs.declared.entry.Entry.{Entry}
use Rattle.eevdf_dozes.specs.Places.{place_by, IsNoEarlier}

pub one_place : (a b : ℤ) (o : Option ℤ) → o ≡ Some a → o ≡ Some b → a ≡ b
one_place a b o h k = cc

pub one_entry : (a b : Entry) (o : Option Entry) → o ≡ Some a → o ≡ Some b → a ≡ b
one_entry a b o h k = cc

pub there : (o : Option Entry) → is_some o ≡ true → (e : Entry) × (o ≡ Some e)
there None h = cc
there (Some e) h = (e, refl)

-- a place, and the same later by a charge
pub record CameFrom (o : Option ℤ) (x : ℕ) (place : ℤ) : Type 0 where
  pub before : ℤ
  pub there : o ≡ Some before
  pub moved : place ≡ before +ℤ pos x

pub came_from : (o : Option ℤ) (x : ℕ) (place : ℤ) → option_map (λ (z : ℤ). z +ℤ pos x) o ≡ Some place → CameFrom o x place
came_from None x place h = cc
came_from (Some z) x place h = record { before = z; there = refl; moved = cc }

-- a place that isn't earlier than another
pub record IsThen (before : ℤ) (now : Option ℤ) : Type 0 where
  pub place : ℤ
  pub there : now ≡ Some place
  pub later : before ≤ℤ place

pub is_then : (before : ℤ) (o now : Option ℤ) → IsNoEarlier o now → o ≡ Some before → IsThen before now
is_then before None now h is = cc
is_then before (Some z) None h is = absurd h
is_then before (Some z) (Some y) h is =
    let same : z ≡ before = cc in
    record { place = y; there = refl; later = omega (arith, ints, same, h) }

pub no_earlier : (o now : Option ℤ) → o ≡ now → IsNoEarlier o now
no_earlier None now is = tt
no_earlier (Some z) None is = cc
no_earlier (Some z) (Some y) is = let same : z ≡ y = cc in omega (arith, ints, same)

-- ---- where a runnable task stands
pub standing : (shift : ℤ) (kept : Option ℤ) (o : Option Entry) (e : Entry) → o ≡ Some e → place_by shift kept o ≡ Some (e.v +ℤ shift)
standing shift kept None e is = cc
standing shift kept (Some x) e is = let same : x ≡ e = cc in cc
