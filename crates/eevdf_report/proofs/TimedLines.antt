-- A schedule with times that goes on by a line.
use Rattle.std.proofs.Common.{◌≡◌, ℕ, ◌+◌, ◌<◌, List, ◌++◌, length, get_or, take, ap, ◌∙◌}
use Rattle.std.specs.List.{flat_map}
use Rattle.std.proofs.lemmas.List.{flat_map_more}
use Rattle.eevdf_ops.specs.declared.deeds.Line.{Line}
use Rattle.eevdf_clocks.specs.declared.moment.Moment.{Moment}
use Rattle.eevdf_clocks.specs.Times.{Clocks, after_all, moment_of, moments_of, opened}
use Rattle.eevdf_clocks.proofs.MoreLines.{moments_go_on}
use Rattle.eevdf_report.specs.TextTimes.{timed_line, timed_schedule}

pub schedule_more : (cpu : ℕ) (lines : List Line) (i : ℕ) (l : Line) (was : Clocks) (m : Moment) (old text now : List ℕ) → i < length lines → l ≡ get_or lines i l
    → was ≡ after_all opened (take i lines) → m ≡ moment_of was l → text ≡ old ++ timed_schedule cpu (take i lines) → now ≡ text ++ timed_line cpu m
    → now ≡ old ++ timed_schedule cpu (take (i + 1) lines)
schedule_more cpu lines i l was m old text now low here before is t n =
    n
    ∙ ap (λ (bs : List ℕ). bs ++ timed_line cpu m) t
    ∙ flat_map_more (timed_line cpu) old (moments_of (take i lines)) m
    ∙ ap (λ (ms : List Moment). old ++ flat_map (timed_line cpu) ms) (moments_go_on lines i l was m low here before is)
