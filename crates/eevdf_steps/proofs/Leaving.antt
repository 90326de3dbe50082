-- What a player leaves.
use Rattle.std.proofs.Common.{◌≡◌, ℕ, ◌*◌, ◌<◌, List, [], length, map, drop, get_or, arith}
use Rattle.std.proofs.lemmas.Grind.{common_steps}
use Rattle.std.specs.Prelude.{Option}
use Rattle.eevdf_steps.specs.{Plan.callers, Plan.pair, Requests.left, Callers.Callers, Recorded.Recorded}
use Rattle.eevdf_steps.specs.{Players.Player, Playing.IsPlaying, Playing.player_of, PostLists.PostList}

abbrev rest : PostList → List ℕ
rest l = drop l.taken l.posted

pub left_each : (w : Callers) (lists : List PostList) (found : List (Option ℕ)) (done : Recorded) (a : Player) (lefts : List (List ℕ)) → player_of w lists found done ≡ a → IsPlaying w lists found done
    → lefts ≡ map rest lists → length lefts ≡ callers a.plan * callers a.plan
left_each w lists found done a lefts same playing e = grind (arith, common_steps)

pub left_over : (w : Callers) (lists : List PostList) (found : List (Option ℕ)) (done : Recorded) (a : Player) (lefts : List (List ℕ)) → player_of w lists found done ≡ a → IsPlaying w lists found done
    → lefts ≡ map rest lists
    → (q c : ℕ) → q < callers a.plan → c < callers a.plan → get_or lefts (pair a.plan q c) [] ≡ left a.plan a.state.progress q c
left_over w lists found done a lefts same playing e q c i j = grind (arith, common_steps)
