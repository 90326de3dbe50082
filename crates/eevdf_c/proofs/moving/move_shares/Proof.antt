-- The machine value is read from the one place and written to the other.
use Rattle.eevdf_c.proofs.Steps.{[], ◌∷◌, refl, ◌$◌, !, enter, unit_lit, of_opd, stop, load, look, assigns, init, returns, alloc_all, pass_all, free_all, look_at, get, through, sets, moved, FairShares-row, FairShares-laws}
use Rattle.eevdf_c.specs.contracts.moving.move_shares as f
use Rattle.eevdf_c.proofs.moving.move_shares.Statement.{statement}
use Rattle.eevdf_c.proofs.moving.move_shares.Code as code

pub move_shares_spec : {M : Type 1} → statement M
move_shares_spec 𝓤 𝓛 𝓜 𝓡 wired = moved 𝓛 FairShares-row 𝓜 𝓡 refl (FairShares-laws.lawful 𝓛) f.Key.name code.function (code.unfolded 𝓤 𝓛.H 𝓜 𝓡 wired) (λ b0 o0 b1 o1 v typed P Q done.
    -- [the room; the machine value that lies here]
    enter ! _ _ _ _ _ $ alloc_all ! (λ l. pass_all ! refl ((tt, tt), ((tt, tt), tt)) $
    sets ! (of_opd ! (get ! refl)) refl (tt, tt) $ sets ! (of_opd ! (get ! refl)) refl (tt, tt) $
    sets ! (of_opd ! (load ! (through ! refl (stop !)) (look ! 1 refl))) refl typed $
    assigns ! (of_opd ! (get ! refl)) (through ! refl (stop !)) (init ! 0 refl typed) $
    sets ! (of_opd ! (unit_lit !)) refl (tt, tt) $ returns ! (look_at ! 0 refl) $ free_all ! refl $ done))
