-- A function that copies the bytes of a value from one pointer to another: the value lies there then, and where it lay is room.
--     Copies           the function's own code copies the one machine value that the type has: the one thing that a proof walks through
--     moved            then what lies at the one pointer lies at the other
use Rattle.std.proofs.Common.{ℕ, List, [], ◌∷◌, refl, subst}
use Rattle.std.proofs.raw_atomic.Walks.{proved}
use seplogic.Ra.Ura.{Ura}
use lib.Dec.{T}
use base.Fraction.{full_share}
use base.Logic.{SProp, sep, id⊢}
use base.Fml.{fat, froom}
use mir.Syntax.{Fn, Callee, Ty}
use mir.Val.{Val, vptr, vunit, WT, has_ty}
use contract.Running.{Running, MachineTables, tables}
use prog.Model.{Model}
use prog.Wp.{WpFn, Closed}
use types.Logic.{Logic, sem}
use types.Kit.{Sq, ‵, raw, ◌⊛◌, some, prop, ◌$◌, ◌∵◌, !, qed, by, done, move, drop, use1, use2, split, join, regoal, pick, suffices, group, feq_i}
use borrow.Table.OneValue.{One, part_in, part_out}
use denote.Builtin.{unit}
use denote.Exit.{yes}
use denote.Laws.{Is, Lawful, Typed, shows}
use denote.Memory.{lone, part_at}
use denote.RattleType.{RattleType}
use denote.RawPtr.{Ptr, RawPtr, ptr_val, block_ptr, in_a_block, lies_at, room_at, rawptr_vals, rawptr_Tells}
use denote.Signature.{plain}
use denote.Steps.{nothing, peeks}
use denote.Triple.Clauses.{Ended, Clauses, closing}
use denote.Triple.Entry.{on_entry}
use denote.Triple.Spec.{Meets}
use denote.Triple.Walked.{Stays, walk_of, stay_dropped, Goes-dropped, ends_at}

abbrev pub from_and_to : Ended
from_and_to = record { signature = record { lifetimes = 0; outlives = []; params = plain (λ _. RawPtr) ∷ plain (λ _. RawPtr) ∷ []; result = plain (λ _. unit) }; kept = (yes, (yes, tt)) }

abbrev stayed : Stays from_and_to.signature.params from_and_to.kept
stayed = (stay_dropped _ yes, (stay_dropped _ yes, tt))

module _ {M : Type 1} {𝓤 : Ura M} (𝓛 : Logic 𝓤) (R : RattleType) where
  open 𝓛 use {H}

  abbrev pub moves : Clauses 𝓤 from_and_to
  moves κs a = record {
    ghost = R.Denot;
    requires = λ g. sep 𝓤 (sem 𝓛 (lies_at R full_share a.0 g)) (sem 𝓛 (room_at R a.1.0));
    ensures = λ g r e. sep 𝓤 (sem 𝓛 (lies_at R full_share a.1.0 g)) (sem 𝓛 (room_at R a.0));
  }

  module _ (𝓜 : Model 𝓤 H) (𝓡 : Running 𝓤 H 𝓜) where
    abbrev 𝓣 : MachineTables 𝓤 H 𝓜
    𝓣 = tables 𝓤 H 𝓜 𝓡 𝓡.env

    -- P is what is owned besides
    abbrev pub Copies : Fn → Type 2
    Copies e = (b0 o0 b1 o1 : ℕ) (v : Val) → T (has_ty (lone R.mir) v) × WT v → (P : SProp 𝓤) (Q : Val → SProp 𝓤)
        → Sq 𝓛 (‵ (fat full_share (lone R.mir) b1 o1 v) ∷ ‵ (fat full_share (lone R.mir) b0 o0 v) ∷ raw P ∷ []) (prop (Q vunit))
        → Sq 𝓛 (‵ (froom (lone R.mir) b1 o1) ∷ ‵ (fat full_share (lone R.mir) b0 o0 v) ∷ raw P ∷ []) (prop (WpFn 𝓤 H 𝓣.C 𝓣.Λ e (vptr b0 o0 ∷ vptr b1 o1 ∷ []) Q))

    pub moved : One R → Lawful 𝓛 R → (k : Callee) (e : Fn) → Closed 𝓤 H 𝓣.C 𝓣.Λ k e → Copies e → Meets 𝓛 from_and_to.signature (𝓣.C k) (closing 𝓛 from_and_to moves)
    moved one lawful k e closed copies =
        let W = walk_of 𝓛 from_and_to stayed moves in
        let goes = Goes-dropped 𝓛 0 (plain (λ _. RawPtr)) yes (λ κs x w. refl) in
        proved 𝓛 from_and_to stayed moves 𝓜 𝓡 (goes, (goes, tt)) k e closed (λ κs. (rawptr_vals, (rawptr_vals, tt))) (λ κs. (rawptr_Tells, (rawptr_Tells, tt))) (λ κs qs bounds a g are.
        let y : Ptr → Ptr → W.Ghost = λ p0 p1. ((κs, qs, bounds, (p0, (p1, tt)), (rawptr_vals p0, (rawptr_vals p1, tt))), g) in
        let runs : Ptr → Ptr → SProp 𝓤 = λ p0 p1. WpFn 𝓤 H 𝓣.C 𝓣.Λ e (ptr_val p0 ∷ ptr_val p1 ∷ []) (W.post (y p0 p1)) in
        qed 𝓛 (raw (on_entry 𝓛 from_and_to.signature κs qs a (y a.0 a.1.0).0.4) ∷ ‵ (lies_at R full_share a.0 g) ∷ ‵ (room_at R a.1.0) ∷ []) ∵
        drop ! $ in_a_block ! a.0 (λ p. lies_at R full_share p g) (id⊢ 𝓤 _) (λ b0 o0 e0. regoal ! (λ p. prop (runs p a.1.0)) e0 refl $
        move ! (1 ∷ []) $ in_a_block ! a.1.0 (λ p. room_at R p) (id⊢ 𝓤 _) (λ b1 o1 e1. regoal ! (λ p. prop (runs (block_ptr b0 o0) p)) e1 refl $
        -- [the room; what lies here]
        move ! (1 ∷ []) $ use1 𝓛 (some (λ (v : Val). ‵ (fat full_share (lone R.mir) b0 o0 v) ⊛ ‵ (R.own_val g (v ∷ [])))) (part_out 𝓛 R one full_share g b0 o0) $ pick ! (λ v. split ! $
        move ! (1 ∷ []) $ peeks ! R (Is R) (shows 𝓛 R) g (v ∷ []) (λ is.
        let typed = (subst (λ (τs : List Ty). Typed τs (v ∷ [])) one (lawful.typed g (v ∷ []) is)).0 in
        let own : SProp 𝓤 = sem 𝓛 (R.own_val g (v ∷ [])) in
        use1 𝓛 (raw own) (id⊢ 𝓤 own) $ move ! (2 ∷ 1 ∷ []) $
        by ! (copies b0 o0 b1 o1 v typed own (W.post (y (block_ptr b0 o0) (block_ptr b1 o1))) (
        -- [its machine value there; and here; what it owns]
        move ! (0 ∷ 2 ∷ []) $ use2 𝓛 (‵ (part_at R full_share g b1 o1)) (part_in 𝓛 R one full_share g b1 o1 v) $
        move ! (1 ∷ []) $ use1 𝓛 (‵ (froom (lone R.mir) b0 o0)) (𝓛.laws.at_room (lone R.mir) b0 o0 v) $ move ! (1 ∷ []) $
        suffices ! _ (ends_at 𝓛 from_and_to stayed moves (y (block_ptr b0 o0) (block_ptr b1 o1)) vunit tt (tt, (tt, tt)) (tt, (tt, tt))) $
        feq_i ! _ (vunit ∷ []) _ refl $ nothing ! $ nothing ! $ join ! $ nothing ! $ join ! $ nothing ! $ group ! 3 $ done !)).prf)))))
