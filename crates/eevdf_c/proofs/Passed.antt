-- What an export is passed, and what becomes of it: a number goes to the call as it is, and what lies at a pointer is lent to the call as
-- a reference.
--     Passed                 a `number`, or a `pointer` to something that is `lent` to the call, to be altered, or `shown` to it, to be read
--     Arguments              what the export is passed.        Spots, arguments     the block and the count of each pointer, and the arguments there
--     Tuple, denots          what lies at the pointers, as the export's ghost value has it, and as a tuple that ends in `tt`
--     Loans                  the lifetime for which each pointer is lent, and the name under which it is
--     rows, references, stored     what the call is passed then: the types, their values, and the machine's
--     lies, owed             what lies at the pointers, and what is owed meanwhile to whoever has lent it
--     lasts, finals          what the call says of it at its end, and what lies there then
-- Below, `ks` is what is passed, `a` the arguments, `bs` the spots, `ns` the numbers, `xs` what lies at the pointers, `zs` what lies at the end
-- where it may be altered, and `ls` the loans. These are definitions, but for `at_blocks`: a pointer that leads into a block is that block's.
use Prim.Native.Nat.{zero, suc}
use mathlib.Core.List.{◌++◌}
use Rattle.std.proofs.Common.{◌≡◌, ℕ, List, [], ◌∷◌, refl, sym, w64}
use seplogic.Ra.Ura.{Ura}
use lib.Dec.{T}
use base.Fraction.{full_share}
use base.Fml.{Fml, ftrue, fsep, flent, fres, fbor}
use mir.Syntax.{named, ty_int}
use mir.Val.{Val, vptr, vunit, WT, has_ty}
use contract.Lifetimes.{Lfts, Shares}
use contract.Monad.{fact}
use types.Kit.{Item, ‵, raw, now}
use types.SemTy.{Body}
use denote.Builtin.{i64, u64, unit}
use denote.Exit.{yes}
use denote.RattleType.{RattleType, Denots, Valss}
use denote.Memory.{mem, part_at}
use denote.RawPtr.{RawPtr, InBlock, at_block, block_of, count_of, block_ptr, lies_at}
use denote.Ref.{MutRef, ShrRef}
use denote.Signature.{Slot, plain, types_at}
use denote.Signed.{sint_vals}
use denote.Plain.{uint_vals}
use denote.Steps.{only}
use denote.Triple.Clauses.{Ended}
use denote.Triple.End.{all}

-- ---- what is passed
pub data Number : Type 0 where
  unsigned : Number
  signed : Number

-- whether what lies at a pointer is lent to be altered, or to be read
pub data Use : Type 0 where
  alters : Use
  reads : Use

pub data Passed : Type 1 where
  number : Number → Passed
  pointer : Use → RattleType → Passed

-- what is answered
pub data Answer : Type 0 where
  a_code : Answer
  nothing_told : Answer

abbrev pub row : Number → RattleType
row unsigned = u64
row signed = i64

abbrev pub vals : (n : Number) → (row n).Denot → List Val
vals unsigned = uint_vals w64
vals signed = sint_vals w64

abbrev pub told : Answer → RattleType
told a_code = i64
told nothing_told = unit

abbrev pub lain : List Passed → List RattleType
lain [] = []
lain (number n ∷ ks) = lain ks
lain (pointer u R ∷ ks) = R ∷ lain ks

abbrev pub changed : List Passed → List RattleType
changed [] = []
changed (number n ∷ ks) = changed ks
changed (pointer alters R ∷ ks) = R ∷ changed ks
changed (pointer reads R ∷ ks) = changed ks

abbrev pub counted : List Passed → List RattleType
counted [] = []
counted (number n ∷ ks) = row n ∷ counted ks
counted (pointer u R ∷ ks) = counted ks

-- a ghost value is what lies at one pointer, or a pair nested to the right
abbrev pub Tuple : List RattleType → Type 0
Tuple [] = Unit {0}
Tuple (R ∷ []) = R.Denot
Tuple (R ∷ S ∷ Rs) = R.Denot × Tuple (S ∷ Rs)

abbrev pub denots : (Rs : List RattleType) → Tuple Rs → Denots Rs
denots [] g = tt
denots (R ∷ []) g = (g, tt)
denots (R ∷ S ∷ Rs) g = (g.0, denots (S ∷ Rs) g.1)

abbrev pub slot : Passed → Slot 0
slot (number n) = plain (λ _. row n)
slot (pointer u R) = plain (λ _. RawPtr)

abbrev pub slots : List Passed → List (Slot 0)
slots [] = []
slots (k ∷ ks) = slot k ∷ slots ks

abbrev pub ended : List Passed → Answer → Ended
ended ks r = record { signature = record { lifetimes = 0; outlives = []; params = slots ks; result = plain (λ _. told r) }; kept = all yes (slots ks) }

abbrev pub Arguments : List Passed → Type 0
Arguments ks = Denots (types_at (slots ks) tt)

abbrev pub Spots : List Passed → Type 0
Spots [] = Unit {0}
Spots (number n ∷ ks) = Spots ks
Spots (pointer u R ∷ ks) = (ℕ × ℕ) × Spots ks

abbrev pub arguments : (ks : List Passed) → Spots ks → Denots (counted ks) → Arguments ks
arguments [] bs ns = tt
arguments (number n ∷ ks) bs ns = (ns.0, arguments ks bs ns.1)
arguments (pointer u R ∷ ks) bs ns = (block_ptr bs.0.0 bs.0.1, arguments ks bs.1 ns)

abbrev pub numbers : (ks : List Passed) → Arguments ks → Denots (counted ks)
numbers [] a = tt
numbers (number n ∷ ks) a = (a.0, numbers ks a.1)
numbers (pointer u R ∷ ks) a = numbers ks a.1

abbrev pub spots : (ks : List Passed) → Arguments ks → Spots ks
spots [] a = tt
spots (number n ∷ ks) a = spots ks a.1
spots (pointer u R ∷ ks) a = ((block_of a.0, count_of a.0), spots ks a.1)

abbrev pub InBlocks : (ks : List Passed) → Arguments ks → Type 0
InBlocks [] a = Unit {0}
InBlocks (number n ∷ ks) a = InBlocks ks a.1
InBlocks (pointer u R ∷ ks) a = InBlock a.0 × InBlocks ks a.1

pub at_blocks : (ks : List Passed) (a : Arguments ks) → InBlocks ks a → arguments ks (spots ks a) (numbers ks a) ≡ a
at_blocks [] a h = refl
at_blocks (number n ∷ ks) a h = λ i. (a.0, at_blocks ks a.1 h i)
at_blocks (pointer u R ∷ ks) a h = λ i. (sym (at_block a.0 h.0) i, at_blocks ks a.1 h.1 i)

-- the machine values that are passed on
abbrev pub passed : (ks : List Passed) → Spots ks → Denots (counted ks) → List Val
passed [] bs ns = []
passed (number n ∷ ks) bs ns = vals n ns.0 ++ passed ks bs ns.1
passed (pointer u R ∷ ks) bs ns = vptr bs.0.0 bs.0.1 ∷ passed ks bs.1 ns

-- each fits where it is stored
abbrev pub Fits : (ks : List Passed) → Denots (counted ks) → Type 0
Fits [] ns = Unit {0}
Fits (number n ∷ ks) ns = (T (has_ty (ty_int w64) (only (vals n ns.0))) × WT (only (vals n ns.0))) × Fits ks ns.1
Fits (pointer u R ∷ ks) ns = (Unit {0} × Unit {0}) × Fits ks ns

-- to be altered, or to be read
abbrev pub lent : RattleType → Passed
lent R = pointer alters R

abbrev pub shown : RattleType → Passed
shown R = pointer reads R

-- ---- loans
abbrev pub Loans : List Passed → Type 0
Loans [] = Unit {0}
Loans (number n ∷ ks) = Loans ks
Loans (pointer u R ∷ ks) = (ℕ × ℕ) × Loans ks

abbrev pub pointers : List Passed → ℕ
pointers [] = zero
pointers (number n ∷ ks) = pointers ks
pointers (pointer u R ∷ ks) = suc (pointers ks)

abbrev pub lifetimes : (ks : List Passed) → Loans ks → Lfts (pointers ks)
lifetimes [] ls = tt
lifetimes (number n ∷ ks) ls = lifetimes ks ls
lifetimes (pointer u R ∷ ks) ls = (ls.0.0 ∷ [], lifetimes ks ls.1)

abbrev pub wholes : (ks : List Passed) → Shares (pointers ks)
wholes [] = tt
wholes (number n ∷ ks) = wholes ks
wholes (pointer u R ∷ ks) = (full_share, wholes ks)

abbrev pub rows : (ks : List Passed) → Loans ks → List RattleType
rows [] ls = []
rows (number n ∷ ks) ls = row n ∷ rows ks ls
rows (pointer alters R ∷ ks) ls = MutRef (named 0) (ls.0.0 ∷ []) R ∷ rows ks ls.1
rows (pointer reads R ∷ ks) ls = ShrRef (named 0) (ls.0.0 ∷ []) R ∷ rows ks ls.1

abbrev pub refers : (ks : List Passed) → Spots ks → Denots (counted ks) → Denots (lain ks) → (ls : Loans ks) → Denots (rows ks ls)
refers [] bs ns xs ls = tt
refers (number n ∷ ks) bs ns xs ls = (ns.0, refers ks bs ns.1 xs ls)
refers (pointer alters R ∷ ks) bs ns xs ls = (record { ref_ptr = bs.0; ghost_name = ls.0.1; now = xs.0 }, refers ks bs.1 ns xs.1 ls.1)
refers (pointer reads R ∷ ks) bs ns xs ls = (record { ref_ptr = bs.0; now = xs.0 }, refers ks bs.1 ns xs.1 ls.1)

abbrev pub references : (ks : List Passed) → Spots ks → Denots (counted ks) → Tuple (lain ks) → (ls : Loans ks) → Denots (rows ks ls)
references ks bs ns g ls = refers ks bs ns (denots (lain ks) g) ls

abbrev pub stored : (ks : List Passed) → Spots ks → Denots (counted ks) → (ls : Loans ks) → Valss (rows ks ls)
stored [] bs ns ls = tt
stored (number n ∷ ks) bs ns ls = (vals n ns.0, stored ks bs ns.1 ls)
stored (pointer alters R ∷ ks) bs ns ls = (vptr bs.0.0 bs.0.1 ∷ [], stored ks bs.1 ns ls.1)
stored (pointer reads R ∷ ks) bs ns ls = (vptr bs.0.0 bs.0.1 ∷ [], stored ks bs.1 ns ls.1)

-- what the call tells of each argument at the end
abbrev pub Lasts : List Passed → Type 0
Lasts [] = Unit {0}
Lasts (number n ∷ ks) = Unit {0} × Lasts ks
Lasts (pointer alters R ∷ ks) = R.Denot × Lasts ks
Lasts (pointer reads R ∷ ks) = Unit {0} × Lasts ks

abbrev pub left : (ks : List Passed) → Lasts ks → Denots (changed ks)
left [] ws = tt
left (number n ∷ ks) ws = left ks ws.1
left (pointer alters R ∷ ks) ws = (ws.0, left ks ws.1)
left (pointer reads R ∷ ks) ws = left ks ws.1

abbrev pub lasts : (ks : List Passed) → Spots ks → Loans ks → Denots (changed ks) → Fml
lasts [] bs ls zs = ftrue
lasts (number n ∷ ks) bs ls zs = fsep ftrue (lasts ks bs ls zs)
lasts (pointer alters R ∷ ks) bs ls zs = fsep (fsep (fres ls.0.1 (R.coded.code zs.0)) (fbor (ls.0.0 ∷ []) (Body (mem R) bs.0.0 bs.0.1 ls.0.1))) (lasts ks bs.1 ls.1 zs.1)
lasts (pointer reads R ∷ ks) bs ls zs = fsep ftrue (lasts ks bs.1 ls.1 zs)

-- what lies at the pointers after the call
abbrev pub finals : (ks : List Passed) → Denots (lain ks) → Denots (changed ks) → Denots (lain ks)
finals [] xs zs = tt
finals (number n ∷ ks) xs zs = finals ks xs zs
finals (pointer alters R ∷ ks) xs zs = (zs.0, finals ks xs.1 zs.1)
finals (pointer reads R ∷ ks) xs zs = (xs.0, finals ks xs.1 zs)

abbrev pub owed : (ks : List Passed) → Spots ks → Denots (lain ks) → Loans ks → Fml
owed [] bs xs ls = ftrue
owed (number n ∷ ks) bs xs ls = owed ks bs xs ls
owed (pointer alters R ∷ ks) bs xs ls = fsep (flent (ls.0.0 ∷ []) (Body (mem R) bs.0.0 bs.0.1 ls.0.1)) (owed ks bs.1 xs.1 ls.1)
owed (pointer reads R ∷ ks) bs xs ls = fsep (flent (ls.0.0 ∷ []) (part_at R full_share xs.0 bs.0.0 bs.0.1)) (owed ks bs.1 xs.1 ls.1)

abbrev pub lies : (ks : List Passed) → Spots ks → Denots (lain ks) → Fml
lies [] bs xs = ftrue
lies (number n ∷ ks) bs xs = lies ks bs xs
lies (pointer u R ∷ ks) bs xs = fsep (part_at R full_share xs.0 bs.0.0 bs.0.1) (lies ks bs.1 xs.1)

-- ---- facts
abbrev pub same : (Rs : List RattleType) → Denots Rs → Denots Rs → List (Type 0)
same [] zs ys = []
same (R ∷ Rs) zs ys = (zs.0 ≡ ys.0) ∷ same Rs zs.1 ys.1

abbrev pub facts : {M : Type 1} (𝓤 : Ura M) → List (Type 0) → List (Item 𝓤)
facts 𝓤 [] = []
facts 𝓤 (φ ∷ φs) = raw (fact 𝓤 φ) ∷ facts 𝓤 φs

abbrev pub lying : {M : Type 1} (𝓤 : Ura M) (ks : List Passed) → Arguments ks → Denots (lain ks) → List (Item 𝓤) → List (Item 𝓤)
lying 𝓤 [] a xs Γ = Γ
lying 𝓤 (number n ∷ ks) a xs Γ = lying 𝓤 ks a.1 xs Γ
lying 𝓤 (pointer u R ∷ ks) a xs Γ = ‵ (lies_at R full_share a.0 xs.0) ∷ lying 𝓤 ks a.1 xs.1 Γ

-- what the call gives back of v, and what of it the export returns
abbrev pub Lands : Answer → Val → Type 0
Lands a_code v = T (has_ty (ty_int w64) v) × WT v
Lands nothing_told v = v ≡ vunit

abbrev pub returned : Answer → Val → Val
returned a_code v = v
returned nothing_told v = vunit
