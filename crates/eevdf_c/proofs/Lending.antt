-- What lies at an export's pointers is lent, each for a lifetime of its own, and comes back once the call has ended.
--     lends, takes_back     the two, over all that is passed
--     known, says           what is stated as a list of facts is known, and can be stated
--     in_blocks             nothing lies at null, so each pointer leads into a block
--     found, left_there     what lies at the pointers, as a contract says it and as one formula
-- The names are those of Passed.antt.
use Prim.Native.Nat.{zero}
use mathlib.Core.List.{◌++◌}
use Rattle.std.proofs.Common.{◌≡◌, ℕ, List, [], ◌∷◌, refl, w64}
use seplogic.Ra.Ura.{Ura}
use lib.Dec.{T}
use base.Fraction.{full_share}
use base.Logic.{SProp, ent, sep, emp, via, id⊢, fst∗, snd∗, emp∗, assoc∗, mono_l, mono_r}
use base.Fml.{Lft, Incl-refl, flft, flent}
use mir.Syntax.{named, ty_int}
use mir.Val.{vptr, WT, has_ty}
use contract.BorrowLft.{⊑_static}
use contract.Lifetimes.{toks}
use contract.Monad.{fact, fact_i, fact_use}
use types.Logic.{Logic, sem}
use types.Kit.{Item, Goal, Soaks, Seq, use0, ‵, raw, ◌⊛◌, some, later, ◌$◌, move, drop, use1, use2, use3, split, fsplit, fjoin, pick, await, now, ⋆, pop, push}
use types.SemTy.{Body}
use types.Tokens.{lft_new, lft_end, lent_back}
use denote.Builtin.{i64, u64}
use denote.Exit.{yes}
use denote.Laws.{Is, Tells, Are, Ises, Spells, Tellss, valss}
use denote.RattleType.{RattleType, Denots, Valss, owns}
use denote.Lend.{lends_ref, ref_back, lends_shr}
use denote.Memory.{mem, part_at, shared_of}
use denote.RawPtr.{Ptr, RawPtr, InBlock, lies_in_block, block_ptr, lies_at, rawptr_vals, rawptr_Tells}
use denote.Ref.{MutRef, ShrRef}
use denote.Shares.{SharesFrom}
use denote.Signature.{plain, types_at}
use denote.Signed.{sint_Lawful, sint_Makes, sint_Tells}
use denote.Plain.{uint_Lawful, uint_Makes, uint_Tells}
use denote.Steps.{nothing, only}
use denote.Triple.End.{all, Fins}
use denote.Triple.Walked.{Stays, AllGo, has_of, fits_of, stay_dropped, Goes-dropped}
use Rattle.eevdf_c.proofs.Passed.{Number, unsigned, signed, alters, reads, Passed, number, pointer, row, vals, lain, changed, counted, slot, slots, Arguments, Spots, arguments, numbers, InBlocks, Fits, Loans, pointers, lifetimes, wholes, rows, refers, stored, lasts, finals, owed, lies, same, facts, lying}

abbrev pub All : List (Type 0) → Type 0
All [] = Unit {0}
All (φ ∷ φs) = φ × All φs

pub both : (φs ψs : List (Type 0)) → All φs → All ψs → All (φs ++ ψs)
both [] ψs h k = k
both (φ ∷ φs) ψs h k = (h.0, both φs ψs h.1 k)

pub first : (φs ψs : List (Type 0)) → All (φs ++ ψs) → All φs
first [] ψs h = tt
first (φ ∷ φs) ψs h = (h.0, first φs ψs h.1)

pub second : (φs ψs : List (Type 0)) → All (φs ++ ψs) → All ψs
second [] ψs h = h
second (φ ∷ φs) ψs h = second φs ψs h.1

pub are_same : (Rs : List RattleType) (zs ys : Denots Rs) → All (same Rs zs ys) → zs ≡ ys
are_same [] zs ys h = refl
are_same (R ∷ Rs) zs ys h = λ i. (h.0 i, are_same Rs zs.1 ys.1 h.1 i)

-- ---- what the export's own walk says of its parameters
abbrev pub stays : (ks : List Passed) → Stays (slots ks) (all yes (slots ks))
stays [] = tt
stays (k ∷ ks) = (stay_dropped (slot k) yes, stays ks)

abbrev pub spells : (ks : List Passed) → Spells (types_at (slots ks) tt)
spells [] = tt
spells (number n ∷ ks) = (vals n, spells ks)
spells (pointer u R ∷ ks) = (rawptr_vals, spells ks)

pub number_Tells : (n : Number) → Tells (row n) (Is (row n)) (vals n)
number_Tells unsigned = uint_Tells w64
number_Tells signed = sint_Tells w64

pub spells_Tell : (ks : List Passed) → Tellss (types_at (slots ks) tt) (Ises (types_at (slots ks) tt)) (spells ks)
spells_Tell [] = tt
spells_Tell (number n ∷ ks) = (number_Tells n, spells_Tell ks)
spells_Tell (pointer u R ∷ ks) = (rawptr_Tells, spells_Tell ks)

-- that the numbers are in their ranges
abbrev pub Ranged : (ks : List Passed) → Denots (counted ks) → Type 0
Ranged [] ns = Unit {0}
Ranged (number n ∷ ks) ns = Is (row n) ns.0 (vals n ns.0) × Ranged ks ns.1
Ranged (pointer u R ∷ ks) ns = Ranged ks ns

pub ranged : (ks : List Passed) (a : Arguments ks) → Are (types_at (slots ks) tt) (Ises (types_at (slots ks) tt)) a (valss (types_at (slots ks) tt) (spells ks) a) → Ranged ks (numbers ks a)
ranged [] a are = tt
ranged (number n ∷ ks) a are = (are.0, ranged ks a.1 are.1)
ranged (pointer u R ∷ ks) a are = ranged ks a.1 are.1

module _ {M : Type 1} {𝓤 : Ura M} (𝓛 : Logic 𝓤) where
  open 𝓛 use {H}

  pub goes : (ks : List Passed) → AllGo 𝓛 0 (slots ks) (all yes (slots ks)) (stays ks)
  goes [] = tt
  goes (number unsigned ∷ ks) = (Goes-dropped 𝓛 0 (plain (λ _. u64)) yes (λ κs x w. refl), goes ks)
  goes (number signed ∷ ks) = (Goes-dropped 𝓛 0 (plain (λ _. i64)) yes (λ κs x w. refl), goes ks)
  goes (pointer u R ∷ ks) = (Goes-dropped 𝓛 0 (plain (λ _. RawPtr)) yes (λ κs x w. refl), goes ks)

  pub number_fits : (n : Number) (x : (row n).Denot) → Is (row n) x (vals n x) → T (has_ty (ty_int w64) (only (vals n x))) × WT (only (vals n x))
  number_fits unsigned x is = ((uint_Lawful 𝓛 w64).typed x _ is).0
  number_fits signed x is = ((sint_Lawful 𝓛 w64).typed x _ is).0

  pub fits : (ks : List Passed) (ns : Denots (counted ks)) → Ranged ks ns → Fits ks ns
  fits [] ns are = tt
  fits (number n ∷ ks) ns are = (number_fits n ns.0 are.0, fits ks ns.1 are.1)
  fits (pointer u R ∷ ks) ns are = ((tt, tt), fits ks ns are)

  pub number_made : (n : Number) (x : (row n).Denot) → Is (row n) x (vals n x) → ent 𝓤 (emp 𝓤) (sem 𝓛 ((row n).own_val x (vals n x)))
  number_made unsigned x is = uint_Makes 𝓛 w64 x _ is
  number_made signed x is = sint_Makes 𝓛 w64 x _ is

  -- what a type that is shown owes: that it can be shared
  abbrev pub Shared : List Passed → Type 1
  Shared [] = Unit {1}
  Shared (number n ∷ ks) = Shared ks
  Shared (pointer alters R ∷ ks) = Shared ks
  Shared (pointer reads R ∷ ks) = ((x : R.Denot) → SharesFrom 𝓛 full_share R x (shared_of R x) []) × Shared ks

  -- ---- facts
  pub known : (φs : List (Type 0)) → ent 𝓤 (⋆ 𝓛 (facts 𝓤 φs)) (fact 𝓤 (All φs))
  known [] = fact_i 𝓤 (Unit {0}) (emp 𝓤) tt
  known (φ ∷ φs) =
      fact_use 𝓤 φ (via 𝓤 _ (pop 𝓛 (raw (fact 𝓤 φ)) (facts 𝓤 φs)) (fst∗ 𝓤 (fact 𝓤 φ) (⋆ 𝓛 (facts 𝓤 φs)))) (λ h.
      fact_use 𝓤 (All φs) (via 𝓤 _ (pop 𝓛 (raw (fact 𝓤 φ)) (facts 𝓤 φs)) (via 𝓤 (⋆ 𝓛 (facts 𝓤 φs)) (snd∗ 𝓤 (fact 𝓤 φ) (⋆ 𝓛 (facts 𝓤 φs))) (known φs))) (λ k.
      fact_i 𝓤 (φ × All φs) _ (h, k)))

  pub says : (φs : List (Type 0)) → All φs → ent 𝓤 (emp 𝓤) (⋆ 𝓛 (facts 𝓤 φs))
  says [] h = id⊢ 𝓤 (emp 𝓤)
  says (φ ∷ φs) h = via 𝓤 (sep 𝓤 (emp 𝓤) (emp 𝓤)) (emp∗ 𝓤 (emp 𝓤)) (via 𝓤 (sep 𝓤 (fact 𝓤 φ) (emp 𝓤)) (mono_l 𝓤 (emp 𝓤) (fact_i 𝓤 φ (emp 𝓤) h.0))
      (via 𝓤 (sep 𝓤 (fact 𝓤 φ) (⋆ 𝓛 (facts 𝓤 φs))) (mono_r 𝓤 (fact 𝓤 φ) (says φs h.1)) (push 𝓛 (raw (fact 𝓤 φ)) (facts 𝓤 φs))))

  -- ---- what lies at the pointers lies in blocks
  pub block_beside : (R : RattleType) (p : Ptr) (x : R.Denot) (Γ : List (Item 𝓤)) (φ : Type 0) → ent 𝓤 (⋆ 𝓛 Γ) (fact 𝓤 φ) → ent 𝓤 (⋆ 𝓛 (‵ (lies_at R full_share p x) ∷ Γ)) (fact 𝓤 (InBlock p × φ))
  block_beside R p x Γ φ h =
      let F : SProp 𝓤 = sem 𝓛 (lies_at R full_share p x) in
      fact_use 𝓤 (InBlock p) (via 𝓤 (sep 𝓤 F (⋆ 𝓛 Γ)) (pop 𝓛 (‵ (lies_at R full_share p x)) Γ) (via 𝓤 F (fst∗ 𝓤 F (⋆ 𝓛 Γ)) (lies_in_block 𝓛 R full_share p x))) (λ i.
      fact_use 𝓤 φ (via 𝓤 (sep 𝓤 F (⋆ 𝓛 Γ)) (pop 𝓛 (‵ (lies_at R full_share p x)) Γ) (via 𝓤 (⋆ 𝓛 Γ) (snd∗ 𝓤 F (⋆ 𝓛 Γ)) h)) (λ k.
      fact_i 𝓤 (InBlock p × φ) _ (i, k)))

  pub in_blocks : (ks : List Passed) (a : Arguments ks) (xs : Denots (lain ks)) → ent 𝓤 (⋆ 𝓛 (lying 𝓤 ks a xs [])) (fact 𝓤 (InBlocks ks a))
  in_blocks [] a xs = fact_i 𝓤 (Unit {0}) (emp 𝓤) tt
  in_blocks (number n ∷ ks) a xs = in_blocks ks a.1 xs
  in_blocks (pointer u R ∷ ks) a xs = block_beside R a.0 xs.0 (lying 𝓤 ks a.1 xs.1 []) (InBlocks ks a.1) (in_blocks ks a.1 xs.1)

  pub lies_there : (R : RattleType) (b o : ℕ) (x : R.Denot) (Γ : List (Item 𝓤)) (P : SProp 𝓤) → ent 𝓤 (⋆ 𝓛 Γ) P → ent 𝓤 (⋆ 𝓛 (‵ (lies_at R full_share (block_ptr b o) x) ∷ Γ)) (sep 𝓤 (sem 𝓛 (part_at R full_share x b o)) P)
  lies_there R b o x Γ P h = via 𝓤 (sep 𝓤 (sem 𝓛 (part_at R full_share x b o)) (⋆ 𝓛 Γ)) (pop 𝓛 (‵ (lies_at R full_share (block_ptr b o) x)) Γ) (mono_r 𝓤 (sem 𝓛 (part_at R full_share x b o)) h)

  pub found : (ks : List Passed) (bs : Spots ks) (ns : Denots (counted ks)) (xs : Denots (lain ks)) → ent 𝓤 (⋆ 𝓛 (lying 𝓤 ks (arguments ks bs ns) xs [])) (sem 𝓛 (lies ks bs xs))
  found [] bs ns xs = id⊢ 𝓤 (emp 𝓤)
  found (number n ∷ ks) bs ns xs = found ks bs ns.1 xs
  found (pointer u R ∷ ks) bs ns xs = lies_there R bs.0.0 bs.0.1 xs.0 (lying 𝓤 ks (arguments ks bs.1 ns) xs.1 []) (sem 𝓛 (lies ks bs.1 xs.1)) (found ks bs.1 ns xs.1)

  pub lies_before : (R : RattleType) (b o : ℕ) (x : R.Denot) (P Q : SProp 𝓤) (Δ : List (Item 𝓤)) → ent 𝓤 (sep 𝓤 P Q) (⋆ 𝓛 Δ) → ent 𝓤 (sep 𝓤 (sep 𝓤 (sem 𝓛 (part_at R full_share x b o)) P) Q) (⋆ 𝓛 (‵ (lies_at R full_share (block_ptr b o) x) ∷ Δ))
  lies_before R b o x P Q Δ h =
      let F : SProp 𝓤 = sem 𝓛 (part_at R full_share x b o) in
      via 𝓤 (sep 𝓤 F (sep 𝓤 P Q)) (assoc∗ 𝓤 F P Q) (via 𝓤 (sep 𝓤 F (⋆ 𝓛 Δ)) (mono_r 𝓤 F h) (push 𝓛 (‵ (lies_at R full_share (block_ptr b o) x)) Δ))

  pub left_there : (ks : List Passed) (bs : Spots ks) (ns : Denots (counted ks)) (xs : Denots (lain ks)) (Γ : List (Item 𝓤)) → ent 𝓤 (sep 𝓤 (sem 𝓛 (lies ks bs xs)) (⋆ 𝓛 Γ)) (⋆ 𝓛 (lying 𝓤 ks (arguments ks bs ns) xs Γ))
  left_there [] bs ns xs Γ = snd∗ 𝓤 (emp 𝓤) (⋆ 𝓛 Γ)
  left_there (number n ∷ ks) bs ns xs Γ = left_there ks bs ns.1 xs Γ
  left_there (pointer u R ∷ ks) bs ns xs Γ = lies_before R bs.0.0 bs.0.1 xs.0 (sem 𝓛 (lies ks bs.1 xs.1)) (⋆ 𝓛 Γ) (lying 𝓤 ks (arguments ks bs.1 ns) xs.1 Γ) (left_there ks bs.1 ns xs.1 Γ)

  -- the tokens of the loans
  abbrev pub tokens : (ks : List Passed) → Loans ks → Item 𝓤
  tokens ks ls = raw (toks 𝓛 (pointers ks) (lifetimes ks ls) (wholes ks))

module _ {M : Type 1} {𝓤 : Ura M} {𝓛 : Logic 𝓤} {K : Type 0} {G : Goal 𝓤 𝓛.H} where
  open 𝓛 use {H}

  -- each pointer is lent
  pub lends : K → Soaks G → (ks : List Passed) (bs : Spots ks) (ns : Denots (counted ks)) → Ranged ks ns → (xs : Denots (lain ks)) → Shared 𝓛 ks → (Γ : List (Item 𝓤))
      → ((ls : Loans ks) → Seq K 𝓛 (tokens 𝓛 ks ls ∷ ‵ (owns (rows ks ls) (refers ks bs ns xs ls) (stored ks bs ns ls)) ∷ ‵ (owed ks bs xs ls) ∷ Γ) G) → Seq K 𝓛 (‵ (lies ks bs xs) ∷ Γ) G
  lends t z [] bs ns are xs sh Γ k = nothing t $ use0 𝓛 (raw (emp 𝓤)) (id⊢ 𝓤 (emp 𝓤)) $ k tt
  lends t z (number n ∷ ks) bs ns are xs sh Γ k = lends t z ks bs ns.1 are.1 xs sh Γ (λ ls.
      move t (1 ∷ []) $ use0 𝓛 (‵ ((row n).own_val ns.0 (vals n ns.0))) (number_made 𝓛 n ns.0 are.0) $ fjoin t $ move t (1 ∷ []) $ k ls)
  lends t z (pointer alters R ∷ ks) bs ns are xs sh Γ k =
      let b = bs.0.0 in let o = bs.0.1 in
      fsplit t $ lft_new t z (λ α. move t (1 ∷ []) $
      use1 𝓛 (later (some (λ (δ : ℕ). ‵ ((MutRef (named 0) (α ∷ []) R).own_val (record { ref_ptr = (b, o); ghost_name = δ; now = xs.0 }) (vptr b o ∷ [])) ⊛ ‵ (flent (α ∷ []) (Body (mem R) b o δ)))))
      (lends_ref 𝓛 R (named 0) (α ∷ []) xs.0 b o) $ await t z $ pick t (λ δ. split t $ move t (3 ∷ []) $
      lends t z ks bs.1 ns are xs.1 sh _ (λ ls.
      -- [the tokens; the references; what the others are owed; the reference; what this one is owed; its token]
      move t (3 ∷ 1 ∷ []) $ fjoin t $ move t (3 ∷ 2 ∷ []) $ fjoin t $ move t (3 ∷ 2 ∷ []) $ use2 𝓛 (tokens 𝓛 (pointer alters R ∷ ks) ((α, δ), ls)) (id⊢ 𝓤 _) $ move t (0 ∷ 2 ∷ []) $ k ((α, δ), ls))))
  lends t z (pointer reads R ∷ ks) bs ns are xs sh Γ k =
      let b = bs.0.0 in let o = bs.0.1 in
      fsplit t $ lft_new t z (λ α. move t (1 ∷ 0 ∷ []) $
      use2 𝓛 (later ((‵ ((ShrRef (named 0) (α ∷ []) R).own_val (record { ref_ptr = (b, o); now = xs.0 }) (vptr b o ∷ [])) ⊛ ‵ (flent (α ∷ []) (part_at R full_share xs.0 b o))) ⊛ ‵ (flft (α ∷ []) full_share)))
      (lends_shr 𝓛 R (named 0) (α ∷ []) full_share xs.0 b o [] (sh.0 xs.0) ((α ∷ [], full_share) ∷ []) (⊑_static (α ∷ [])) (Incl-refl (α ∷ []))) $ await t z $ split t $ split t $ move t (3 ∷ []) $
      lends t z ks bs.1 ns are xs.1 sh.1 _ (λ ls.
      move t (3 ∷ 1 ∷ []) $ fjoin t $ move t (3 ∷ 2 ∷ []) $ fjoin t $ move t (3 ∷ 2 ∷ []) $ use2 𝓛 (tokens 𝓛 (pointer reads R ∷ ks) ((α, zero), ls)) (id⊢ 𝓤 _) $ move t (0 ∷ 2 ∷ []) $ k ((α, zero), ls)))

  -- each lifetime ends, and what was lent comes back
  pub takes_back : K → Soaks G → (ks : List Passed) (bs : Spots ks) (xs : Denots (lain ks)) (ls : Loans ks) (zs : Denots (changed ks)) (Γ : List (Item 𝓤))
      → Seq K 𝓛 (‵ (lies ks bs (finals ks xs zs)) ∷ Γ) G → Seq K 𝓛 (tokens 𝓛 ks ls ∷ ‵ (owed ks bs xs ls) ∷ ‵ (lasts ks bs ls zs) ∷ Γ) G
  takes_back t z [] bs xs ls zs Γ s = drop t $ drop t $ s
  takes_back t z (number n ∷ ks) bs xs ls zs Γ s = move t (2 ∷ []) $ fsplit t $ drop t $ move t (1 ∷ 2 ∷ []) $ takes_back t z ks bs xs ls zs Γ s
  takes_back t z (pointer alters R ∷ ks) bs xs ls zs Γ s =
      let κ : Lft = ls.0.0 ∷ [] in let b = bs.0.0 in let o = bs.0.1 in
      use1 𝓛 (‵ (flft κ full_share) ⊛ tokens 𝓛 ks ls.1) (id⊢ 𝓤 _) $ split t $ lft_end t z $ move t (2 ∷ []) $ fsplit t $ move t (4 ∷ []) $ fsplit t $ fsplit t $
      -- [what is said of the last value; the borrow; of the others; what is owed; to the others; the lifetime is over; the tokens of the others]
      move t (5 ∷ 3 ∷ 0 ∷ []) $ use3 𝓛 (later (‵ ((mem R).own_at zs.0 b o))) (ref_back 𝓛 R κ ls.0.1 zs.0 b o) $ await t z $ move t (4 ∷ 3 ∷ 2 ∷ []) $
      takes_back t z ks bs.1 xs.1 ls.1 zs.1 _ (move t (1 ∷ 0 ∷ []) $ fjoin t $ move t (1 ∷ []) $ drop t $ s)
  takes_back t z (pointer reads R ∷ ks) bs xs ls zs Γ s =
      let κ : Lft = ls.0.0 ∷ [] in
      use1 𝓛 (‵ (flft κ full_share) ⊛ tokens 𝓛 ks ls.1) (id⊢ 𝓤 _) $ split t $ lft_end t z $ move t (2 ∷ []) $ fsplit t $ move t (4 ∷ []) $ fsplit t $ drop t $
      -- [of the others; what is owed; to the others; the lifetime is over; the tokens of the others]
      move t (3 ∷ 1 ∷ []) $ lent_back t z $ move t (3 ∷ 2 ∷ 1 ∷ []) $ takes_back t z ks bs.1 xs.1 ls.1 zs _ (move t (1 ∷ 0 ∷ []) $ fjoin t $ s)

-- nothing is left of the parameters
abbrev pub blanks : (ks : List Passed) (a : Arguments ks) → Fins tt (slots ks) (all yes (slots ks)) a
blanks [] a = tt
blanks (number unsigned ∷ ks) a = (tt, blanks ks a.1)
blanks (number signed ∷ ks) a = (tt, blanks ks a.1)
blanks (pointer u R ∷ ks) a = (tt, blanks ks a.1)

pub all_fit : (ks : List Passed) (a : Arguments ks) → fits_of tt (slots ks) (all yes (slots ks)) (stays ks) a (blanks ks a)
all_fit [] a = tt
all_fit (number unsigned ∷ ks) a = (tt, all_fit ks a.1)
all_fit (number signed ∷ ks) a = (tt, all_fit ks a.1)
all_fit (pointer u R ∷ ks) a = (tt, all_fit ks a.1)

pub numbers_of : (ks : List Passed) (bs : Spots ks) (ns : Denots (counted ks)) → numbers ks (arguments ks bs ns) ≡ ns
numbers_of [] bs ns = refl
numbers_of (number n ∷ ks) bs ns = λ i. (ns.0, numbers_of ks bs ns.1 i)
numbers_of (pointer u R ∷ ks) bs ns = numbers_of ks bs.1 ns

pub unowned : {M : Type 1} {𝓤 : Ura M} (𝓛 : Logic 𝓤) (ks : List Passed) (a : Arguments ks) (vss : Valss (types_at (slots ks) tt))
    → ent 𝓤 (emp 𝓤) (sem 𝓛 (has_of tt (slots ks) (all yes (slots ks)) (stays ks) a (blanks ks a) vss))
unowned {𝓤 = 𝓤} 𝓛 [] a vss = id⊢ 𝓤 (emp 𝓤)
unowned {𝓤 = 𝓤} 𝓛 (number unsigned ∷ ks) a vss = via 𝓤 (sep 𝓤 (emp 𝓤) (emp 𝓤)) (emp∗ 𝓤 (emp 𝓤)) (mono_r 𝓤 (emp 𝓤) (unowned 𝓛 ks a.1 vss.1))
unowned {𝓤 = 𝓤} 𝓛 (number signed ∷ ks) a vss = via 𝓤 (sep 𝓤 (emp 𝓤) (emp 𝓤)) (emp∗ 𝓤 (emp 𝓤)) (mono_r 𝓤 (emp 𝓤) (unowned 𝓛 ks a.1 vss.1))
unowned {𝓤 = 𝓤} 𝓛 (pointer u R ∷ ks) a vss = via 𝓤 (sep 𝓤 (emp 𝓤) (emp 𝓤)) (emp∗ 𝓤 (emp 𝓤)) (mono_r 𝓤 (emp 𝓤) (unowned 𝓛 ks a.1 vss.1))
