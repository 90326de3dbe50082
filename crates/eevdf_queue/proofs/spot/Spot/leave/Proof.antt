-- What is owned is let go, as the allocator's handle is: `requires` says that it is nothing.
use Rattle.std.proofs.Common.{◌≡◌, List, [], ◌∷◌, ◌++◌, refl, sym, ap, ◌∙◌, subst, lit<}
use mir.Syntax.{a_type}
use mir.Val.{Val, vunit}
use mir.MapTy.{inst_fn}
use base.Logic.{SProp, ent, id⊢}
use base.Fml.{ftrue, flft}
use prog.Wp.{WpFn}
use types.Kit.{‵, raw, ◌⊛◌, ◌$◌, ◌∵◌, !, qed, by, move, keep, split, fsplit, fjoin, suffices, feq_i}
use types.Run.{unit_lit, of_opd, returns, enter}
use types.ByLocal.{alloc_all, pass_all, free_all, look_at, sets}
use contract.Running.{tables}
use denote.Exit.{no}
use denote.RattleType.{RattleType, owns}
use denote.Signature.{types_at, plain}
use denote.RawPtr.{Ptr, block_ptr, null_ptr}
use denote.Steps.{nothing}
use denote.Param.{param, layouts}
use denote.Triple.Walked.{Stays, stay_dropped, walk_of}
use Rattle.core.proofs.alloc.Calls.{Goes-blank}
use Rattle.std.specs.contracts.alloc.Global as heap
use Rattle.std.proofs.alloc.Global.TheLaws as heap_laws
use Rattle.std.proofs.raw_atomic.Walks.{proved_at, leaves}
use Rattle.eevdf_queue.proofs.Spots.{lone_ptr, Spot, spot_out, either_spare}
use Rattle.eevdf_queue.specs.contracts.spot.Spot.leave.{ended, clauses}
use Rattle.eevdf_queue.specs.contracts.spot.Spot.leave.Key.{name as #self}
use Rattle.eevdf_queue.proofs.spot.Spot.leave.Statement.{statement}
use Rattle.eevdf_queue.proofs.spot.Spot.leave.Code as code

pub leave_spec : {M : Type 1} → statement M
leave_spec 𝓤 𝓛 𝓜 𝓡 wired T L =
    let H = 𝓛.H in let 𝓣 = tables 𝓤 H 𝓜 𝓡 𝓡.env in let R : RattleType = param 0 T in let Z : RattleType = heap.the_row in let LZ = heap_laws.the_row_laws in
    let En = ended T in let c = clauses T 𝓛 𝓜.mem 𝓡.returns in let inst = layouts (a_type ∷ []) (T, tt) in let fn = inst_fn inst code.function in
    let hs : Stays En.signature.params En.kept = (stay_dropped (plain (λ _. Spot R)) no, tt) in
    proved_at 𝓛 En hs c 𝓜 𝓡 (Goes-blank 𝓛 1 (plain (λ _. Spot R)) no (λ κs x f. tt), tt) (#self inst) fn (code.unfolded 𝓤 H 𝓜 𝓡 wired (T, tt)) (λ z are.
    let κs = z.0.0 in let qs = z.0.1 in let v = z.0.3.0 in let Post : Val → SProp 𝓤 = (walk_of 𝓛 En hs c).post z in let Run : List Val → SProp 𝓤 = λ ws. WpFn 𝓤 H 𝓣.C 𝓣.Λ fn ws Post in let toks = ‵ (flft κs.0 qs.0) ⊛ ‵ ftrue in
    let w : Val = lone_ptr v.at in
    qed 𝓛 ((toks ⊛ ‵ (owns (types_at En.signature.params κs) z.0.3 z.0.4)) ∷ raw ((c κs z.0.3).requires z.1) ∷ []) ∵ split ! $ move ! (1 ∷ []) $ fsplit ! $ spot_out R ! v z.0.4.0 (λ us.
    -- [what is owned; nothing; the tokens; what is asked]
    either_spare R ! v.at (λ is. let w : Val = lone_ptr null_ptr in let us' : z.0.4.0 ≡ w ∷ [] = us ∙ ap (λ (p : Ptr). lone_ptr p ∷ []) is in
    suffices ! (Run (w ∷ [])) (subst (λ (ns : List Val). ent 𝓤 (Run (w ∷ [])) (Run ns)) (sym (λ i. us' i ++ [])) (id⊢ 𝓤 (Run (w ∷ [])))) $
    enter ! 𝓣.C 𝓣.Λ fn (w ∷ []) Post $ alloc_all ! (λ l. pass_all ! refl ((tt, (record { fits = lit< tt }, tt)), tt) $
    sets ! (of_opd ! (unit_lit !)) refl (tt, tt) $ returns ! (look_at ! 0 refl) $ free_all ! refl $
    nothing ! $ feq_i ! (List Val) (vunit ∷ []) (vunit ∷ []) refl $ nothing ! $ nothing ! $ fjoin ! $
    -- [the parameters; the result; what is ensured; nothing; the tokens; what is asked]
    keep ! (4 ∷ 0 ∷ 1 ∷ 2 ∷ []) $ by ! (leaves 𝓛 En hs c z vunit tt (tt, tt) (tt, tt))))
    (λ b o is t. let w : Val = lone_ptr (block_ptr b o) in let us' : z.0.4.0 ≡ w ∷ [] = us ∙ ap (λ (p : Ptr). lone_ptr p ∷ []) is in
    suffices ! (Run (w ∷ [])) (subst (λ (ns : List Val). ent 𝓤 (Run (w ∷ [])) (Run ns)) (sym (λ i. us' i ++ [])) (id⊢ 𝓤 (Run (w ∷ [])))) $
    enter ! 𝓣.C 𝓣.Λ fn (w ∷ []) Post $ alloc_all ! (λ l. pass_all ! refl ((tt, (tt, tt)), tt) $
    sets ! (of_opd ! (unit_lit !)) refl (tt, tt) $ returns ! (look_at ! 0 refl) $ free_all ! refl $
    nothing ! $ feq_i ! (List Val) (vunit ∷ []) (vunit ∷ []) refl $ nothing ! $ nothing ! $ fjoin ! $
    -- [the parameters; the result; what is ensured; what is owned; nothing; the tokens; what is asked]
    keep ! (5 ∷ 0 ∷ 1 ∷ 2 ∷ []) $ by ! (leaves 𝓛 En hs c z vunit tt (tt, tt) (tt, tt))))))
