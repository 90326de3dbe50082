-- An empty hand is made and written into the room that the caller gave.
use Rattle.eevdf_c.proofs.Steps.{◌≡◌, [], ◌∷◌, refl, proved, full_share, id⊢, ftrue, vunit, fact, tables, WpFn, ‵, raw, feq_i, ◌⊛◌, some, later, prop, ◌$◌, ◌∵◌, !, qed, done, move, drop, use1, use2, split, join, fsplit, rewrite, regoal, pick, await, suffices, group, enter, unit_lit, of_opd, stop, no_more, and_then, returns, alloc_all, pass_all, free_all, look_at, get, through, sets, lands_as, yes, Is, shows, flat, part_at, Ptr, RawPtr, block_ptr, in_a_block, rawptr_vals, rawptr_Tells, plain, types_at, nothing, heard, peeks, calls_at, lasts, triple_of, framed, Stays, walk_of, stay_dropped, Goes-dropped, ends_at}
use Rattle.std.specs.Prelude.{Option, None}
use types.Run.{assigns, init}
use denote.RattleType.{owns}
use denote.RawPtr.{room_at}
use borrow.Table.OneValue.{part_in}
use Rattle.std.specs.contracts.alloc.Global.{the_row as Global-row}
use Rattle.std.proofs.alloc.Global.TheLaws.{lowers, the_row_laws as Global-laws}
use Rattle.eevdf_queue.specs.State.{Contents}
use Rattle.eevdf_c.specs.contracts.hand.Hand.{the_row as Hand-row}
use Rattle.eevdf_c.proofs.hand.Hand.TheLaws.{the_row_laws as Hand-laws}
use Rattle.eevdf_c.specs.contracts.exports.hands.eevdf_hand_open as export
use Rattle.eevdf_c.proofs.exports.hands.eevdf_hand_open.Statement.{statement}
use Rattle.eevdf_c.proofs.exports.hands.eevdf_hand_open.Code as code
use Rattle.eevdf_c.specs.contracts.hand.Hand.open as call
use Rattle.eevdf_c.proofs.hand.Hand.open.Met.{met}

abbrev stayed : Stays export.ended.signature.params export.ended.kept
stayed = (stay_dropped _ yes, (stay_dropped _ yes, tt))

pub eevdf_hand_open_spec : {M : Type 1} → statement M
eevdf_hand_open_spec 𝓤 𝓛 𝓜 𝓡 wired =
    let c = export.clauses 𝓛 𝓜.mem 𝓡.returns in let W = walk_of 𝓛 export.ended stayed c in let 𝓣 = tables 𝓤 𝓛.H 𝓜 𝓡 𝓡.env in
    let G = triple_of 𝓛 call.signature (call.spec 𝓛 𝓜.mem 𝓡.returns) in
    proved 𝓛 export.ended stayed c 𝓜 𝓡 (Goes-dropped 𝓛 0 (plain (λ _. Global-row)) yes (λ κs x w. refl), (Goes-dropped 𝓛 0 (plain (λ _. RawPtr)) yes (λ κs x w. refl), tt))
    export.Key.name code.function (code.unfolded 𝓤 𝓛.H 𝓜 𝓡 wired)
    (λ κs. ((λ x. lowers.lowered x ∷ []), (rawptr_vals, tt))) (λ κs. (lowers.val_is, (rawptr_Tells, tt))) (λ κs qs bounds a none are.
    let alloc = a.0 in
    let y : Ptr → W.Ghost = λ p. ((κs, qs, bounds, (alloc, (p, tt)), (lowers.lowered alloc ∷ [], (rawptr_vals p, tt))), none) in
    qed 𝓛 ((‵ ftrue ⊛ ‵ (owns (Global-row ∷ RawPtr ∷ []) a (y a.1.0).0.4)) ∷ ‵ (room_at Hand-row a.1.0) ∷ []) ∵
    split ! $ drop ! $ fsplit ! $ move ! (1 ∷ []) $ drop ! $ move ! (1 ∷ []) $
    in_a_block ! a.1.0 (λ p. room_at Hand-row p) (id⊢ 𝓤 _) (λ b o e.
    regoal ! (λ p. prop (WpFn 𝓤 𝓛.H 𝓣.C 𝓣.Λ code.function (flat (types_at export.signature.params κs) (lowers.lowered alloc ∷ [], (rawptr_vals p, tt))) (W.post (y p)))) e refl $
    enter ! _ _ _ _ _ $ alloc_all ! (λ l. pass_all ! refl (((Global-laws.lawful 𝓛).typed alloc _ are.0).0, ((tt, tt), tt)) $
    sets ! (of_opd ! (get ! refl)) refl (tt, tt) $
    -- [the room; the allocator]
    nothing ! $ move ! (2 ∷ 0 ∷ []) $ join ! $ nothing ! $ join ! $ nothing ! $ move ! (1 ∷ 0 ∷ []) $
    let z : G.Ghost = ((tt, tt, tt, (alloc, tt), (lowers.lowered alloc ∷ [], tt)), tt) in
    use2 𝓛 (raw (G.pre z)) (id⊢ 𝓤 _) $
    calls_at ! (framed 𝓤 𝓛.H 𝓜 𝓣) G (met 𝓤 𝓛 𝓜 𝓡 (code.calls-eevdf_c::hand::Hand::open 𝓡.env wired)) z (and_then ! (get ! refl) (no_more !)) (λ v.
    use1 𝓛 (later (some (λ (r : Option Contents). (‵ ftrue ⊛ ‵ (Hand-row.own_val r (v ∷ []))) ⊛
    some (λ (ws : Unit {0} × Unit {0}). ‵ (lasts call.ended z.0.0 z.0.3 ws) ⊛ raw (fact 𝓤 (r ≡ None)))))) (id⊢ 𝓤 _) $ await ! tt $
    pick ! (λ r. split ! $ split ! $ drop ! $ move ! (1 ∷ []) $ pick ! (λ ws. split ! $ drop ! $ heard ! _ (λ opened.
    -- [what the hand owns; the room]
    rewrite ! 0 (λ (s : Option Contents). ‵ (Hand-row.own_val s (v ∷ []))) opened refl $
    peeks ! Hand-row (Is Hand-row) (shows 𝓛 Hand-row) None (v ∷ []) (λ is.
    let typed = ((Hand-laws.lawful 𝓛).typed None (v ∷ []) is).0 in
    lands_as ! refl refl typed $
    assigns ! (of_opd ! (get ! refl)) (through ! refl (stop !)) (init ! 1 refl typed) $
    sets ! (of_opd ! (unit_lit !)) refl (tt, tt) $ returns ! (look_at ! 0 refl) $ free_all ! refl $
    move ! (1 ∷ 0 ∷ []) $ use2 𝓛 (‵ (part_at Hand-row full_share None b o)) (part_in 𝓛 Hand-row refl full_share None b o v) $
    suffices ! _ (ends_at 𝓛 export.ended stayed c (y (block_ptr b o)) vunit tt (tt, (tt, tt)) (tt, (tt, tt))) $
    feq_i ! _ (vunit ∷ []) _ refl $ nothing ! $ nothing ! $ join ! $ nothing ! $ join ! $ nothing ! $ group ! 3 $ done !))))))))
