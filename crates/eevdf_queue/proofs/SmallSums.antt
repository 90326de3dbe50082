-- The sums over the tasks of a queue are far from the ends of the types that hold them.
use Rattle.std.proofs.Common.{◌≡◌, ℕ, ◌*◌, ◌^◌, ◌<◌, ◌≤◌, arith}
use Rattle.std.specs.Prelude.{ℤ, pos, ◌*ℤ◌, unsigned_abs}
use Rattle.eevdf_queue.specs.Sums.{Tasks, total_weight, total_moment}
use Rattle.eevdf_queue.specs.{Kept.AreInRange, Laws.AreSumsSmall}
use Rattle.eevdf_queue.proofs.Bounds.{range_v, scaled_small}

below : (n w : ℕ) → w ≤ 88761 * 1024 → n ≤ 2 ^ 60 * w → n < 2 ^ 88
below n w h k = omega arith

pub sums_small : (tasks : Tasks) (weight : ℕ) (moment : ℤ) → weight ≡ total_weight tasks → moment ≡ total_moment tasks
    → weight ≤ 88761 * 1024 → unsigned_abs moment ≤ 2 ^ 60 * weight → AreInRange tasks → AreSumsSmall tasks
sums_small tasks weight moment e f few small h =
    let w : total_weight tasks ≤ 88761 * 1024 = rw (← e) few in
    let m : unsigned_abs (total_moment tasks) ≤ 2 ^ 60 * total_weight tasks = rw (← e, ← f) small in
    record {
      weight = w;
      moment = m;
      sum = below (unsigned_abs (total_moment tasks)) (total_weight tasks) w m;
      compared = λ t x k. below (unsigned_abs (x.v *ℤ pos (total_weight tasks))) (total_weight tasks) w (scaled_small x.v (total_weight tasks) (range_v x (h t x k).1));
    }
