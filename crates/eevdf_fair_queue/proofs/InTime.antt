-- A bound in virtual time is one in nanoseconds.
use Rattle.std.proofs.Common.{◌≡◌, ℕ, ◌+◌, ◌*◌, ◌/◌, ◌≤◌, ap, ◌∙◌, arith}
use Rattle.std.specs.Prelude.{ℤ, pos, negsuc, ◌+ℤ◌, ◌*ℤ◌, ◌≤ℤ◌}
use Rattle.std.proofs.{lemmas.Int.ints, Math.IntN.pos-*ℤ-pos}
use Rattle.eevdf_queue.proofs.Scaled.{sum_scaled, scaled_le}
use Rattle.eevdf_queue.specs.{State.State, Sums.total_weight, Sums.total_moment}
use Rattle.eevdf_fair_queue.specs.{Lateness.NoneIsLaterThan, InTime.in_time, InTime.NoneIsLaterInTime}
use Rattle.eevdf_fair_queue.proofs.Orders.{then}

rounded_up : (n : ℕ) → n ≤ 1024 * ((n + 1023) / 1024)
rounded_up n = omega arith

spread : (d : ℤ) (by w : ℕ) → (d +ℤ pos by) *ℤ pos w ≡ (d *ℤ pos w) +ℤ pos (by * w)
spread d by w = sum_scaled d (pos by) w ∙ ap (λ (x : ℤ). (d *ℤ pos w) +ℤ x) (pos-*ℤ-pos by w)

less : (d : ℤ) (by : ℕ) → (d +ℤ negsuc by) ≤ℤ d
less d by = omega (arith, ints)

and_nothing : (x : ℤ) → x ≤ℤ (x +ℤ pos (1024 * 0))
and_nothing x = omega (arith, ints)

within_time : (m d x : ℤ) (n ns : ℕ) → m ≤ℤ x → x ≡ d +ℤ pos n → n ≤ 1024 * ns → m ≤ℤ (d +ℤ pos (1024 * ns))
within_time m d x n ns h is k = omega (arith, ints, h, is, k)

pub none_later_in_time : (q : State) (by : ℤ) → NoneIsLaterThan q by → NoneIsLaterInTime q (in_time by (total_weight q.runnable))
none_later_in_time q (pos by) late task e here =
    let w : ℕ = total_weight q.runnable in
    within_time (total_moment q.runnable) (e.d *ℤ pos w) ((e.d +ℤ pos by) *ℤ pos w) (by * w) ((by * w + 1023) / 1024) (late task e here)
    (spread e.d by w) (rounded_up (by * w))
none_later_in_time q (negsuc by) late task e here =
    let w : ℕ = total_weight q.runnable in
    then (total_moment q.runnable) ((e.d +ℤ negsuc by) *ℤ pos w) ((e.d *ℤ pos w) +ℤ pos (1024 * 0)) (late task e here)
    (then ((e.d +ℤ negsuc by) *ℤ pos w) (e.d *ℤ pos w) ((e.d *ℤ pos w) +ℤ pos (1024 * 0)) (scaled_le (e.d +ℤ negsuc by) e.d w (less e.d by))
    (and_nothing (e.d *ℤ pos w)))
