-- Fresh shares are made and written into the room that the caller gave.
use Rattle.eevdf_c.proofs.Steps.{◌≡◌, [], ◌∷◌, refl, proved, full_share, id⊢, ftrue, vunit, fact, tables, WpFn, ‵, raw, feq_i, ◌⊛◌, some, later, prop, ◌$◌, ◌∵◌, !, qed, done, move, drop, use1, use2, split, join, rewrite, regoal, pick, await, suffices, group, enter, unit_lit, of_opd, stop, no_more, returns, alloc_all, pass_all, free_all, look_at, get, through, sets, lands_as, yes, Is, shows, flat, part_at, Ptr, RawPtr, block_ptr, in_a_block, rawptr_vals, rawptr_Tells, plain, types_at, nothing, heard, peeks, calls_at, lasts, on_entry, triple_of, framed, Stays, walk_of, stay_dropped, Goes-dropped, ends_at}
use types.Run.{assigns, init}
use denote.RawPtr.{room_at}
use borrow.Table.OneValue.{part_in}
use Rattle.eevdf_fair_queue.specs.Beside as beside
use Rattle.eevdf_fair_queue.specs.Beside.{SharesView}
use Rattle.eevdf_c.specs.contracts.fair_shares.FairShares.{the_row as FairShares-row}
use Rattle.eevdf_c.proofs.fair_shares.FairShares.TheLaws.{the_row_laws as FairShares-laws}
use Rattle.eevdf_c.specs.contracts.exports.shares.eevdf_fair_share_open as export
use Rattle.eevdf_c.proofs.exports.shares.eevdf_fair_share_open.Statement.{statement}
use Rattle.eevdf_c.proofs.exports.shares.eevdf_fair_share_open.Code as code
use Rattle.eevdf_c.specs.contracts.fair_shares.FairShares.open as call
use Rattle.eevdf_c.proofs.fair_shares.FairShares.open.Met.{met}

abbrev stayed : Stays export.ended.signature.params export.ended.kept
stayed = (stay_dropped _ yes, tt)

pub eevdf_fair_share_open_spec : {M : Type 1} → statement M
eevdf_fair_share_open_spec 𝓤 𝓛 𝓜 𝓡 wired =
    let c = export.clauses 𝓛 𝓜.mem 𝓡.returns in let W = walk_of 𝓛 export.ended stayed c in let 𝓣 = tables 𝓤 𝓛.H 𝓜 𝓡 𝓡.env in
    let G = triple_of 𝓛 call.signature (call.spec 𝓛 𝓜.mem 𝓡.returns) in
    proved 𝓛 export.ended stayed c 𝓜 𝓡 (Goes-dropped 𝓛 0 (plain (λ _. RawPtr)) yes (λ κs x w. refl), tt)
    export.Key.name code.function (code.unfolded 𝓤 𝓛.H 𝓜 𝓡 wired)
    (λ κs. (rawptr_vals, tt)) (λ κs. (rawptr_Tells, tt)) (λ κs qs bounds a none are.
    let y : Ptr → W.Ghost = λ p. ((κs, qs, bounds, (p, tt), (rawptr_vals p, tt)), none) in
    qed 𝓛 (raw (on_entry 𝓛 export.signature κs qs a (y a.0).0.4) ∷ ‵ (room_at FairShares-row a.0) ∷ []) ∵
    drop ! $ in_a_block ! a.0 (λ p. room_at FairShares-row p) (id⊢ 𝓤 _) (λ b o e.
    regoal ! (λ p. prop (WpFn 𝓤 𝓛.H 𝓣.C 𝓣.Λ code.function (flat (types_at export.signature.params κs) (rawptr_vals p, tt)) (W.post (y p)))) e refl $
    enter ! _ _ _ _ _ $ alloc_all ! (λ l. pass_all ! refl ((tt, tt), tt) $
    sets ! (of_opd ! (get ! refl)) refl (tt, tt) $
    nothing ! $ nothing ! $ join ! $ nothing ! $ move ! (1 ∷ 0 ∷ []) $
    let z : G.Ghost = ((tt, tt, tt, tt, tt), tt) in
    use2 𝓛 (raw (G.pre z)) (id⊢ 𝓤 _) $
    calls_at ! (framed 𝓤 𝓛.H 𝓜 𝓣) G (met 𝓤 𝓛 𝓜 𝓡 (code.calls-eevdf_c::fair_shares::FairShares::open 𝓡.env wired)) z (no_more !) (λ v.
    use1 𝓛 (later (some (λ (r : SharesView). (‵ ftrue ⊛ ‵ (FairShares-row.own_val r (v ∷ []))) ⊛
    some (λ (ws : Unit {0}). ‵ (lasts call.ended z.0.0 z.0.3 ws) ⊛ raw (fact 𝓤 (r ≡ beside.fresh_shares)))))) (id⊢ 𝓤 _) $ await ! tt $
    pick ! (λ r. split ! $ split ! $ drop ! $ move ! (1 ∷ []) $ pick ! (λ ws. split ! $ drop ! $ heard ! _ (λ opened.
    -- [what the shares own; the room]
    rewrite ! 0 (λ (s : SharesView). ‵ (FairShares-row.own_val s (v ∷ []))) opened refl $
    peeks ! FairShares-row (Is FairShares-row) (shows 𝓛 FairShares-row) beside.fresh_shares (v ∷ []) (λ is.
    let typed = ((FairShares-laws.lawful 𝓛).typed beside.fresh_shares (v ∷ []) is).0 in
    lands_as ! refl refl typed $
    assigns ! (of_opd ! (get ! refl)) (through ! refl (stop !)) (init ! 1 refl typed) $
    sets ! (of_opd ! (unit_lit !)) refl (tt, tt) $ returns ! (look_at ! 0 refl) $ free_all ! refl $
    move ! (1 ∷ 0 ∷ []) $ use2 𝓛 (‵ (part_at FairShares-row full_share beside.fresh_shares b o)) (part_in 𝓛 FairShares-row refl full_share beside.fresh_shares b o v) $
    suffices ! _ (ends_at 𝓛 export.ended stayed c (y (block_ptr b o)) vunit tt (tt, tt) (tt, tt)) $
    feq_i ! _ (vunit ∷ []) _ refl $ nothing ! $ nothing ! $ join ! $ nothing ! $ group ! 3 $ done !))))))))
