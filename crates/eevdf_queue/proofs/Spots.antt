-- A `Spot` by value is what it owns. Assumes `Logic`.
use Rattle.std.proofs.Common.{◌≡◌, ℕ, List, [], ◌∷◌, ◌++◌, refl, subst}
use mir.Syntax.{Ty}
use mir.Raw.{raw as bare}
use mir.Val.{Val, vstruct, vcons, vnil, of_list}
use seplogic.Ra.Ura.{Ura}
use base.Logic.{ent, snd∗, via, guard_i}
use types.Logic.{Logic, sem}
use types.Kit.{Item, Goal, Seq, Step, step, ‵, given, ◌$◌, drop, fsplit, fjoin, fpick, fpack, feq_i, feq_l, use1, learn}
use contract.Monad.{fact, fact_use}
use denote.RattleType.{RattleType, Valss}
use denote.Builtin.{RawPtr}
use denote.Memory.{lone}
use denote.RawPtr.{Ptr, block_ptr, null_ptr, ptr_val, room_for, Testable}
use denote.Steps.{nothing}
use denote.Struct.Struct.{within}
use denote.Struct.Owning.{shape}
use Rattle.std_heap.proofs.GlobalToken.{dealloc_token-Testable}
use Rattle.std_alloc.specs.Vacant.{vacant}
use Rattle.eevdf_queue.specs.Spare.{may_free, spare}
use Rattle.eevdf_queue.specs.contracts.spot.Spot as spots

abbrev pub lone_ptr : Ptr → Val
lone_ptr p = vstruct (vcons (ptr_val p) vnil)

testable : {M : Type 1} {𝓤 : Ura M} (𝓛 : Logic 𝓤) (τ : Ty) (p : Ptr) → ent 𝓤 (sem 𝓛 (may_free τ p)) (fact 𝓤 (Testable p))
testable 𝓛 τ p = dealloc_token-Testable 𝓛 _ τ p

module _ (R : RattleType) where
  abbrev pub Spot : RattleType
  Spot = spots.the_row R

  module _ {M : Type 1} {𝓤 : Ura M} {𝓛 : Logic 𝓤} {K : Type 0} {Γ : List (Item 𝓤)} {G : Goal 𝓤 𝓛.H} where
    pub spot_out : K → (d : Spot.Denot) (vs : List Val) → (vs ≡ lone_ptr d.at ∷ [] → Seq K 𝓛 (‵ (spare R d.at) ∷ Γ) G) → Seq K 𝓛 (‵ (Spot.own_val d vs) ∷ Γ) G
    spot_out t d vs k =
        fsplit t $ fpick t (λ vss. fsplit t $ feq_l t (λ ev. fsplit t $ feq_l t (λ ep. drop t $
        k (subst (λ (ps : List Val). vs ≡ vstruct (of_list (ps ++ [])) ∷ []) ep ev))))

    pub spot_in : K → (p : Ptr) → Step K 𝓛 (‵ (Spot.own_val (record { at = p }) (lone_ptr p ∷ [])) ∷ Γ) G (‵ (spare R p) ∷ Γ) G
    spot_in t p = step (λ s. let v : Val = lone_ptr p in
        nothing t $ feq_i t (List Val) (ptr_val p ∷ []) (ptr_val p ∷ []) refl $ fjoin t $ feq_i t (List Val) (v ∷ []) (v ∷ []) refl $ fjoin t $
        fpack t (Valss (RawPtr ∷ [])) (within (shape (spots.the_type R)) (p, tt) (v ∷ [])) (ptr_val p ∷ [], tt) $ fjoin t $ s)

    -- what is owned tells whether the pointer is null, and that it may be compared with null
    pub either_spare : K → (p : Ptr) → (p ≡ null_ptr → Seq K 𝓛 Γ G)
        → ((b o : ℕ) → p ≡ block_ptr b o → Testable (block_ptr b o) → Seq K 𝓛 (‵ (vacant may_free R (block_ptr b o)) ∷ Γ) G) → Seq K 𝓛 (‵ (spare R p) ∷ Γ) G
    either_spare t null_ptr none one = drop t $ none refl
    either_spare t (block_ptr b o) none one =
        let V = vacant may_free R (block_ptr b o) in let τ = bare (lone R.mir) in
        use1 𝓛 (given (Testable (block_ptr b o)) (‵ V)) (fact_use 𝓤 (Testable (block_ptr b o)) (via 𝓤 (sem 𝓛 (may_free τ (block_ptr b o))) (snd∗ 𝓤 (sem 𝓛 (room_for τ (block_ptr b o))) (sem 𝓛 (may_free τ (block_ptr b o)))) (testable 𝓛 τ (block_ptr b o))) (guard_i 𝓤 (Testable (block_ptr b o)) (sem 𝓛 V))) $
        learn t (λ e. one b o refl e)
