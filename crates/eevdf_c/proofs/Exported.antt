-- An export whose body is one call, to which it passes on what it is passed, does what the call does.
--     Ensured, Contract_of  what such an export says: what lies at the pointers afterwards, and facts
--     clauses               the contract that this makes: beside it, what lies at the pointers before
--     PassesOn              the export's own code makes the call, and returns what that gives back: the one thing that a proof walks through
--     calls_on              the call's step in such a walk
--     exported              then the export meets that contract, by the call's own
-- The names are those of Passed.antt.
use mathlib.Core.List.{◌++◌}
use Rattle.std.proofs.Common.{◌≡◌, List, [], ◌∷◌, refl, sym, ap, subst, w64}
use Rattle.std.proofs.raw_atomic.Walks.{proved, leaves}
use seplogic.Ra.Ura.{Ura}
use lib.Dec.{T}
use base.Logic.{SProp, ent, sep, ex, emp, guard, guard_i, via, id⊢, fst∗, snd∗, emp∗, comm∗, mono_l, mono_r}
use mir.Syntax.{Fn, Callee, Place, Opd as Operand, Body as Code, seq, call}
use mir.Val.{Val, vunit}
use contract.Lifetimes.{Lfts, Shares, AllOutlive, toks}
use contract.Monad.{fact_use}
use contract.Running.{Running, MachineTables, tables}
use prog.Model.{Model}
use prog.Wp.{Env, Calls, Loops, WpFn, Closed}
use sound.WpLaws.{FmC}
use types.Logic.{Logic, sem}
use types.Kit.{Item, Seq, Sq, Post, runs, lands as lands_goal, ‵, raw, given, ◌⊛◌, some, later, prop, ◌$◌, ◌∵◌, !, qed, move, use1, use2, split, pick, learn, check, await, updating, now, ⋆, feq_l, by}
use types.Run.{Opds}
use denote.Builtin.{i64, unit}
use denote.Exit.{yes}
use denote.Laws.{Is, shows, valss}
use denote.RattleType.{Denots, owns, flat}
use denote.Signature.{types_at}
use denote.Signed.{sint_Lawful}
use denote.Steps.{only}
use denote.Triple.Call.{calls_from}
use denote.Triple.Clauses.{Clauses, closing}
use denote.Triple.End.{all}
use denote.Triple.Entry.{on_entry}
use denote.Triple.Spec.{Meets}
use denote.Triple.Table.{framed, enters}
use denote.Triple.Walked.{walk_of, has_of}
use Rattle.eevdf_c.proofs.Passed.{Passed, Answer, a_code, nothing_told, told, lain, changed, counted, Tuple, denots, slots, ended, Arguments, Spots, arguments, numbers, spots, InBlocks, at_blocks, passed, Fits, Loans, pointers, lifetimes, wholes, rows, references, stored, Lasts, left, lasts, finals, owed, lies, same, facts, lying, Lands, returned}
use Rattle.eevdf_c.proofs.Lending.{All, both, first, second, are_same, stays, spells, spells_Tell, Ranged, ranged, goes, fits, Shared, known, says, in_blocks, found, left_there, tokens, lends, takes_back, blanks, all_fit, numbers_of, unowned}

-- ---- what a call gives back
module _ {M : Type 1} {𝓤 : Ura M} (𝓛 : Logic 𝓤) (r : Answer) where
  abbrev gives : Val → (told r).Denot → SProp 𝓤
  gives v x = sem 𝓛 ((told r).own_val x (v ∷ []))

lands : {M : Type 1} {𝓤 : Ura M} (𝓛 : Logic 𝓤) (r : Answer) (v : Val) (x : (told r).Denot) → ent 𝓤 (gives 𝓛 r v x) (guard 𝓤 (Lands r v) (gives 𝓛 r (returned r v) x))
lands {𝓤 = 𝓤} 𝓛 a_code v x =
    let P : SProp 𝓤 = gives 𝓛 a_code v x in
    fact_use 𝓤 (Is i64 x (v ∷ [])) (shows 𝓛 i64 x (v ∷ [])) (λ is. guard_i 𝓤 (Lands a_code v) P ((sint_Lawful 𝓛 w64).typed x (v ∷ []) is).0)
lands {𝓤 = 𝓤} 𝓛 nothing_told v x =
    let P : SProp 𝓤 = gives 𝓛 nothing_told vunit tt in
    qed 𝓛 (‵ (unit.own_val x (v ∷ [])) ∷ []) {P = guard 𝓤 (v ≡ vunit) P} (feq_l ! (λ e.
    by ! (via 𝓤 P (guard_i 𝓤 (vunit ∷ [] ≡ vunit ∷ []) (emp 𝓤) refl) (guard_i 𝓤 (v ≡ vunit) P (ap only e)))))

-- what is to be had from the call, where the export is to return what Q holds of
abbrev pub back : {M : Type 1} {𝓤 : Ura M} (𝓛 : Logic 𝓤) (r : Answer) → (Val → SProp 𝓤) → Val → SProp 𝓤
back {𝓤 = 𝓤} 𝓛 r Q v = 𝓛.H.⇛ (guard 𝓤 (Lands r v) (Q (returned r v)))

-- in a walk: the call is made, and what it gives back fits where it is stored
pub calls_on : {M : Type 1} {𝓤 : Ura M} {𝓛 : Logic 𝓤} {K : Type 0} {Γ : List (Item 𝓤)} {E : Env 𝓤 𝓛.H} {C : Calls 𝓤 𝓛.H} {f : Callee} {os : List Operand} {Λ : Loops 𝓤 𝓛.H} {q : Post 𝓤 𝓛.H} {d : Place} {rest : Code}
    → K → FmC 𝓤 𝓛.H 𝓛.laws C → (r : Answer) (vs : List Val) (Q : Val → SProp 𝓤) → Opds K 𝓛 (raw (C f vs (back 𝓛 r Q)) ∷ Γ) E os vs
    → ((v : Val) → Lands r v → Seq K 𝓛 (raw (Q (returned r v)) ∷ Γ) (lands_goal C Λ E d v rest q)) → Seq K 𝓛 (raw (C f vs (back 𝓛 r Q)) ∷ Γ) (runs C Λ E (seq (call f os d) rest) q)
calls_on {𝓤 = 𝓤} {𝓛} {C = C} {f} t fm r vs Q os k = calls_from t fm (raw (C f vs (back 𝓛 r Q))) vs (back 𝓛 r Q) (id⊢ 𝓤 (C f vs (back 𝓛 r Q))) os (λ v.
    use1 𝓛 (later (given (Lands r v) (raw (Q (returned r v))))) (id⊢ 𝓤 (back 𝓛 r Q v)) $ await t tt $ learn t (λ lands. k v lands))

-- ---- the whole
-- At given numbers and a given ghost value: what lies afterwards at each pointer that is lent, what the call ensures of its answer first, and
-- what else it ensures
pub record Ensured (ks : List Passed) (r : Answer) : Type 1 where
  pub after : (told r).Denot → Denots (changed ks)
  pub answer : (told r).Denot → List (Type 0)
  pub others : (told r).Denot → Denots (changed ks) → List (Type 0)

abbrev pub Contract_of : List Passed → Answer → Type 1
Contract_of ks r = Denots (counted ks) → Tuple (lain ks) → Ensured ks r

module _ {M : Type 1} {𝓤 : Ura M} (𝓛 : Logic 𝓤) (ks : List Passed) (r : Answer) (E : Contract_of ks r) where
  open 𝓛 use {H}

  abbrev pub clauses : Clauses 𝓤 (ended ks r)
  clauses κs a = record {
    ghost = Tuple (lain ks);
    requires = λ g. ⋆ 𝓛 (lying 𝓤 ks a (denots (lain ks) g) []);
    ensures = λ g x e. let s = E (numbers ks a) g in ⋆ 𝓛 (lying 𝓤 ks a (finals ks (denots (lain ks) g) (s.after x)) (facts 𝓤 (s.answer x ++ s.others x (s.after x))));
  }

  -- what the call has at its beginning, and what it gives back
  module _ (bs : Spots ks) (ns : Denots (counted ks)) (g : Tuple (lain ks)) (ls : Loans ks) where
    abbrev xs : Denots (lain ks)
    xs = denots (lain ks) g

    abbrev Given : SProp 𝓤
    Given = sep 𝓤 (toks 𝓛 (pointers ks) (lifetimes ks ls) (wholes ks)) (sem 𝓛 (owns (rows ks ls) (references ks bs ns g ls) (stored ks bs ns ls)))

    abbrev pub Begun : SProp 𝓤
    Begun = sep 𝓤 Given (emp 𝓤)

    abbrev Said : (told r).Denot → Lasts ks → List (Type 0)
    Said x ws = let s = E ns g in s.answer x ++ (same (changed ks) (left ks ws) (s.after x) ++ s.others x (left ks ws))

    abbrev pub Done : Val → SProp 𝓤
    Done v = H.⇛ (ex 𝓤 (λ (x : (told r).Denot). sep 𝓤 (sep 𝓤 (toks 𝓛 (pointers ks) (lifetimes ks ls) (wholes ks)) (gives 𝓛 r v x))
        (ex 𝓤 (λ (ws : Lasts ks). sep 𝓤 (sem 𝓛 (lasts ks bs ls (left ks ws))) (⋆ 𝓛 (facts 𝓤 (Said x ws)))))))

  abbrev Told : Denots (counted ks) → Tuple (lain ks) → (told r).Denot → List (Type 0)
  Told ns g x = let s = E ns g in s.answer x ++ s.others x (s.after x)

  -- what the call says is what the export says
  hears : (bs : Spots ks) (ns : Denots (counted ks)) (g : Tuple (lain ks)) (ls : Loans ks) (x : (told r).Denot) (ws : Lasts ks)
      → ent 𝓤 (sep 𝓤 (sem 𝓛 (lasts ks bs ls (left ks ws))) (⋆ 𝓛 (facts 𝓤 (Said bs ns g ls x ws)))) (guard 𝓤 (All (Told ns g x)) (sem 𝓛 (lasts ks bs ls ((E ns g).after x))))
  hears bs ns g ls x ws =
      let s = E ns g in
      let zs : Denots (changed ks) = left ks ws in
      let eqs : List (Type 0) = same (changed ks) zs (s.after x) in
      let F : SProp 𝓤 = ⋆ 𝓛 (facts 𝓤 (s.answer x ++ (eqs ++ s.others x zs))) in
      let L : Denots (changed ks) → SProp 𝓤 = λ m. sem 𝓛 (lasts ks bs ls m) in
      fact_use 𝓤 (All (s.answer x ++ (eqs ++ s.others x zs))) (via 𝓤 F (snd∗ 𝓤 (L zs) F) (known 𝓛 (s.answer x ++ (eqs ++ s.others x zs)))) (λ h.
      via 𝓤 (L zs) (fst∗ 𝓤 (L zs) F)
      (let k : All (eqs ++ s.others x zs) = second (s.answer x) (eqs ++ s.others x zs) h in
      subst (λ (m : Denots (changed ks)). All (s.others x m) → ent 𝓤 (L m) (guard 𝓤 (All (Told ns g x)) (L (s.after x)))) (sym (are_same (changed ks) zs (s.after x) (first eqs (s.others x zs) k)))
      (λ o. guard_i 𝓤 (All (Told ns g x)) (L (s.after x)) (both (s.answer x) (s.others x (s.after x)) (first (s.answer x) (eqs ++ s.others x zs) h) o)) (second eqs (s.others x zs) k)))

  -- how the export ends
  ends_with : (bs : Spots ks) (ns : Denots (counted ks)) (κs : Lfts 0) (qs : Shares 0) (bounds : AllOutlive 0 [] κs) (g : Tuple (lain ks)) (v : Val) (x : (told r).Denot) → All (Told ns g x)
      → ent 𝓤 (sep 𝓤 (gives 𝓛 r v x) (sem 𝓛 (lies ks bs (finals ks (denots (lain ks) g) ((E ns g).after x)))))
      ((walk_of 𝓛 (ended ks r) (stays ks) clauses).post ((κs, qs, bounds, arguments ks bs ns, valss (types_at (slots ks) tt) (spells ks) (arguments ks bs ns)), g) v)
  ends_with bs ns κs qs bounds g v x h =
      let a = arguments ks bs ns in
      let V : SProp 𝓤 = gives 𝓛 r v x in
      let xs : Denots (lain ks) = denots (lain ks) g in
      let s = E ns g in
      let L : SProp 𝓤 = sem 𝓛 (lies ks bs (finals ks xs (s.after x))) in
      let T : Denots (counted ks) → SProp 𝓤 = λ m. ⋆ 𝓛 (lying 𝓤 ks a (finals ks xs ((E m g).after x)) (facts 𝓤 (Told m g x))) in
      let tells : ent 𝓤 L (T (numbers ks a)) = subst (λ (m : Denots (counted ks)). ent 𝓤 L (T m)) (sym (numbers_of ks bs ns))
      (via 𝓤 (sep 𝓤 L (emp 𝓤)) (via 𝓤 (sep 𝓤 (emp 𝓤) L) (emp∗ 𝓤 L) (comm∗ 𝓤 (emp 𝓤) L)) (via 𝓤 (sep 𝓤 L (⋆ 𝓛 (facts 𝓤 (Told ns g x)))) (mono_r 𝓤 L (says 𝓛 (Told ns g x) h))
      (left_there 𝓛 ks bs ns (finals ks xs (s.after x)) (facts 𝓤 (Told ns g x))))) in
      let vss = valss (types_at (slots ks) tt) (spells ks) a in
      let B : SProp 𝓤 = sem 𝓛 (has_of tt (slots ks) (all yes (slots ks)) (stays ks) a (blanks ks a) vss) in
      let X : SProp 𝓤 = sep 𝓤 V (T (numbers ks a)) in
      via 𝓤 X (mono_r 𝓤 V tells) (via 𝓤 (sep 𝓤 (emp 𝓤) X) (emp∗ 𝓤 X) (via 𝓤 (sep 𝓤 B X) (mono_l 𝓤 X (unowned 𝓛 ks a vss))
      (via 𝓤 (sep 𝓤 (emp 𝓤) (sep 𝓤 B X)) (emp∗ 𝓤 (sep 𝓤 B X))
      (leaves 𝓛 (ended ks r) (stays ks) clauses ((κs, qs, bounds, a, vss), g) v x (blanks ks a) (all_fit ks a)))))

  module _ (𝓜 : Model 𝓤 H) (𝓡 : Running 𝓤 H 𝓜) where
    abbrev 𝓣 : MachineTables 𝓤 H 𝓜
    𝓣 = tables 𝓤 H 𝓜 𝓡 𝓡.env

    -- the export's own code passes its arguments on to the call, and returns what the call gives back
    abbrev pub PassesOn : Fn → Callee → Type 2
    PassesOn e f = (bs : Spots ks) (ns : Denots (counted ks)) → Fits ks ns → FmC 𝓤 H 𝓛.laws 𝓣.C → (Q : Val → SProp 𝓤)
        → Sq 𝓛 (raw (𝓣.C f (passed ks bs ns) (back 𝓛 r Q)) ∷ []) (prop (WpFn 𝓤 H 𝓣.C 𝓣.Λ e (flat (types_at (slots ks) tt) (valss (types_at (slots ks) tt) (spells ks) (arguments ks bs ns))) Q))

    abbrev pub IsCalled : Callee → Type 1
    IsCalled f = (bs : Spots ks) (ns : Denots (counted ks)) (g : Tuple (lain ks)) (ls : Loans ks) → ent 𝓤 (Begun bs ns g ls) (𝓣.C f (passed ks bs ns) (Done bs ns g ls))

    -- the call, from blocks at the pointers to what lies there afterwards
    calls_with : (f : Callee) → IsCalled f → Shared 𝓛 ks → (bs : Spots ks) (ns : Denots (counted ks)) → Ranged ks ns → (g : Tuple (lain ks)) (Q : Val → SProp 𝓤)
        → ((v : Val) (x : (told r).Denot) → All (Told ns g x) → ent 𝓤 (sep 𝓤 (gives 𝓛 r v x) (sem 𝓛 (lies ks bs (finals ks (denots (lain ks) g) ((E ns g).after x))))) (Q v))
        → ent 𝓤 (sem 𝓛 (lies ks bs (denots (lain ks) g))) (𝓣.C f (passed ks bs ns) (back 𝓛 r Q))
    calls_with f called sh bs ns are g Q ends =
        let vs = passed ks bs ns in
        let xs : Denots (lain ks) = denots (lain ks) g in
        let R : Val → SProp 𝓤 = back 𝓛 r Q in
        let comes : (ls : Loans ks) (v : Val) → ent 𝓤 (sep 𝓤 (Done bs ns g ls v) (sem 𝓛 (owed ks bs xs ls))) (R v) = λ ls v.
        qed 𝓛 (later (some (λ (x : (told r).Denot). (tokens 𝓛 ks ls ⊛ ‵ ((told r).own_val x (v ∷ []))) ⊛ some (λ (ws : Lasts ks). ‵ (lasts ks bs ls (left ks ws)) ⊛ raw (⋆ 𝓛 (facts 𝓤 (Said bs ns g ls x ws)))))) ∷ ‵ (owed ks bs xs ls) ∷ []) ∵
        updating ! $ await ! tt $ pick ! (λ x. split ! $ split ! $ move ! (2 ∷ []) $ pick ! (λ ws.
        use1 𝓛 (given (All (Told ns g x)) (‵ (lasts ks bs ls ((E ns g).after x)))) (hears bs ns g ls x ws) $ learn ! (λ h. move ! (1 ∷ 3 ∷ 0 ∷ []) $
        takes_back ! tt ks bs xs ls ((E ns g).after x) _ (move ! (1 ∷ []) $
        use1 𝓛 (given (Lands r v) (‵ ((told r).own_val x (returned r v ∷ [])))) (lands 𝓛 r v x) $ learn ! (λ land. now ! $ check ! land $ by ! (ends (returned r v) x h)))))) in
        via 𝓤 (H.⇛ (𝓣.C f vs R))
        (qed 𝓛 (‵ (lies ks bs xs) ∷ []) ∵ updating ! $ lends ! tt ks bs ns are xs sh [] (λ ls.
        use2 𝓛 (raw (Begun bs ns g ls)) (via 𝓤 (sep 𝓤 (emp 𝓤) (Given bs ns g ls)) (emp∗ 𝓤 (Given bs ns g ls)) (comm∗ 𝓤 (emp 𝓤) (Given bs ns g ls))) $ now ! $
        by ! (via 𝓤 (sep 𝓤 (𝓣.C f vs (Done bs ns g ls)) (sem 𝓛 (owed ks bs xs ls))) (mono_l 𝓤 (sem 𝓛 (owed ks bs xs ls)) (called bs ns g ls))
        (framed 𝓤 H 𝓜 𝓣 f vs (Done bs ns g ls) R (sem 𝓛 (owed ks bs xs ls)) (comes ls)))))
        (enters 𝓤 H 𝓜 𝓣 f vs R)

    pub exported : Shared 𝓛 ks → (k : Callee) (e : Fn) → Closed 𝓤 H 𝓣.C 𝓣.Λ k e → (f : Callee) → IsCalled f → PassesOn e f → Meets 𝓛 (ended ks r).signature (𝓣.C k) (closing 𝓛 (ended ks r) clauses)
    exported sh k e closed f called passes = proved 𝓛 (ended ks r) (stays ks) clauses 𝓜 𝓡 (goes 𝓛 ks) k e closed (λ κs. spells ks) (λ κs. spells_Tell ks) (λ κs qs bounds a g are.
        let xs : Denots (lain ks) = denots (lain ks) g in
        let W = walk_of 𝓛 (ended ks r) (stays ks) clauses in
        let y : Arguments ks → W.Ghost = λ a'. ((κs, qs, bounds, a', valss (types_at (slots ks) tt) (spells ks) a'), g) in
        let goal : Arguments ks → Type 1 = λ a'. ent 𝓤 (⋆ 𝓛 (lying 𝓤 ks a' xs [])) (WpFn 𝓤 H 𝓣.C 𝓣.Λ e (flat (types_at (slots ks) tt) (valss (types_at (slots ks) tt) (spells ks) a')) (W.post (y a'))) in
        let bs = spots ks a in let ns = numbers ks a in
        via 𝓤 (⋆ 𝓛 (lying 𝓤 ks a xs [])) (snd∗ 𝓤 (on_entry 𝓛 (ended ks r).signature κs qs a (valss (types_at (slots ks) tt) (spells ks) a)) (⋆ 𝓛 (lying 𝓤 ks a xs []))) (fact_use 𝓤 (InBlocks ks a) (in_blocks 𝓛 ks a xs) (λ h. subst goal (at_blocks ks a h)
        (via 𝓤 (sem 𝓛 (lies ks bs xs)) (found 𝓛 ks bs ns xs) (via 𝓤 (𝓣.C f (passed ks bs ns) (back 𝓛 r (W.post (y (arguments ks bs ns)))))
        (calls_with f called sh bs ns (ranged ks a are) g (W.post (y (arguments ks bs ns))) (λ v x h. ends_with bs ns κs qs bounds g v x h))
        (passes bs ns (fits 𝓛 ks ns (ranged ks a are)) (framed 𝓤 H 𝓜 𝓣) (W.post (y (arguments ks bs ns)))).prf)))))
