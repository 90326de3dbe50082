-- How often a key is claimed in all views.
use Rattle.std.proofs.Common.{◌≡◌, ◌≢◌, ℕ, zero, suc, ◌+◌, ◌≤◌, List, [], ◌∷◌, ◌++◌, map, set, take, drop, refl, sym, ap, ◌∙◌, arith}
use mathlib.Core.Option.{some, some-injective, some-ne-none}
use lib.ListN.{get_elem?}
use Rattle.atomic_table.proofs.Lists.{set_else}
use Rattle.eevdf_ops.specs.declared.deeds.Line.{Line}
use Rattle.eevdf_fleet.specs.{declared.board.claims.Claim.Claim, declared.board.claims.View.View, declared.board.claims.Said.Said}
use Rattle.eevdf_fleet.specs.declared.board.claims.Claim.TheVariants.{Seat, Queue, Journal, Past}
use Rattle.eevdf_fleet.specs.Board.{first_past, held, recalled, shared}
use Rattle.eevdf_fleet.specs.Claims.{Subject, seat, queue, journal, here, times, total, nothing, advanced}

pub total-set : (k : Subject) (views : List View) (id : ℕ) (v w : View) → get_elem? views id ≡ some v
    → total k (set views id w) + times k v.claims ≡ total k views + times k w.claims
total-set k [] id v w e = absurd (some-ne-none v (sym e))
total-set k (x ∷ views) zero v w e =
    let same : times k x.claims ≡ times k v.claims = ap (λ (u : View). times k u.claims) (some-injective x v e) in omega arith
total-set k (x ∷ views) (suc id) v w e = omega (arith, total-set k views id v w e)

pub times-at : (k : Subject) (views : List View) (id : ℕ) (v : View) → get_elem? views id ≡ some v → times k v.claims ≤ total k views
times-at k [] id v e = absurd (some-ne-none v (sym e))
times-at k (x ∷ views) zero v e =
    let same : times k x.claims ≡ times k v.claims = ap (λ (u : View). times k u.claims) (some-injective x v e) in omega arith
times-at k (x ∷ views) (suc id) v e = omega (arith, times-at k views id v e)

-- two views claim it together no more often than all do
pub times-two : (k : Subject) (views : List View) (i j : ℕ) (v w : View) → j ≢ i → get_elem? views i ≡ some v → get_elem? views j ≡ some w
    → times k v.claims + times k w.claims ≤ total k views
times-two k views i j v w apart ev ew =
    let rest : times k w.claims ≤ total k (set views i nothing) = times-at k (set views i nothing) j w (set_else views i j nothing apart ∙ ew) in
    omega (arith, total-set k views i v nothing ev, rest)

pub total-append : (k : Subject) (views : List View) (w : View) → total k (views ++ w ∷ []) ≡ total k views + times k w.claims
total-append k [] w = omega arith
total-append k (x ∷ views) w = omega (arith, total-append k views w)

pub times-append : (k : Subject) (xs ys : List Claim) → times k (xs ++ ys) ≡ times k xs + times k ys
times-append k [] ys = omega arith
times-append k (x ∷ xs) ys = omega (arith, times-append k xs ys)

here-advanced : (k : Subject) (s : Said) (c : Claim) → here k (advanced s c) ≡ here k c
here-advanced (seat cpu) s (Seat of lines) = refl
here-advanced (seat cpu) s (Queue of q) = refl
here-advanced (seat cpu) s (Journal lines) = refl
here-advanced (seat cpu) s (Past lines) = refl
here-advanced (queue cpu) s (Seat of lines) = refl
here-advanced (queue cpu) s (Queue of q) = refl
here-advanced (queue cpu) s (Journal lines) = refl
here-advanced (queue cpu) s (Past lines) = refl
here-advanced journal s (Seat of lines) = refl
here-advanced journal s (Queue of q) = refl
here-advanced journal s (Journal lines) = refl
here-advanced journal s (Past lines) = refl

pub times-advanced : (k : Subject) (s : Said) (cs : List Claim) → times k (map (advanced s) cs) ≡ times k cs
times-advanced k s [] = refl
times-advanced k s (c ∷ cs) = omega (arith, here-advanced k s c, times-advanced k s cs)

pub times-parts : (k : Subject) (n : ℕ) (cs : List Claim) → times k (take n cs) + times k (drop n cs) ≡ times k cs
times-parts k zero cs = omega arith
times-parts k (suc n) [] = refl
times-parts k (suc n) (c ∷ cs) = omega (arith, times-parts k n cs)

-- the past is of nothing that is counted
here-past : (k : Subject) (seen : List Line) → here k (Past seen) ≡ 0
here-past (seat cpu) seen = refl
here-past (queue cpu) seen = refl
here-past journal seen = refl

pub times-held : (k : Subject) (cs : List Claim) → times k (held cs) ≡ times k cs
times-held k [] = refl
times-held k (Seat cpu own ∷ cs) = omega (arith, times-held k cs)
times-held k (Queue cpu q ∷ cs) = omega (arith, times-held k cs)
times-held k (Journal all ∷ cs) = omega (arith, times-held k cs)
times-held k (Past seen ∷ cs) = omega (arith, times-held k cs, here-past k seen)

pub times-recalled : (k : Subject) (lines : List Line) (cs : List Claim) → times k (recalled lines cs) ≡ times k cs
times-recalled k lines cs = omega (arith, here-past k lines, times-held k cs)

pub times-shared : (k : Subject) (cs : List Claim) → times k (shared cs) + times k (take 2 cs) ≡ times k cs
times-shared k [] = refl
times-shared k (Seat cpu own ∷ cs) = omega (arith, times-parts k 1 cs)
times-shared k (Queue cpu q ∷ cs) = omega (arith, times-parts k 1 cs)
times-shared k (Journal all ∷ cs) = omega (arith, times-parts k 1 cs)
times-shared k (Past seen ∷ cs) = omega (arith, times-parts k 1 cs, here-past k seen)

-- nothing that others could change is claimed by what is past
pub times-past : (k : Subject) (cs : List Claim) → times k (first_past cs) ≡ 0
times-past k [] = refl
times-past k (Seat cpu own ∷ cs) = refl
times-past k (Queue cpu q ∷ cs) = refl
times-past k (Journal all ∷ cs) = refl
times-past k (Past seen ∷ cs) = omega (arith, here-past k seen)
