-- A document of one version means the same in the next.
use Rattle.std.proofs.Common.{◌≡◌, refl, Ok, sym, ◌∙◌, arith}
use Rattle.toml.specs.Data.{Members}
use Rattle.eevdf_workload.specs.{declared.version.Limits.Limits, declared.version.Version.Version}
use Rattle.eevdf_workload.specs.declared.version.Version.TheVariants.{One, Two, Three, Four}
use Rattle.eevdf_workload.specs.{Versions.limits_of}
use Rattle.eevdf_workload.specs.Meaning as meant
use Rattle.eevdf_workload.specs.MeaningLaws as law
use Rattle.eevdf_workload.proofs.WiderLimits.{AreWider, workload_kept}

-- within the same limits two documents that differ in the version alone describe the same
same_within : (limits : Limits) (one other : Version) (first second : Members) → law.DifferInVersion one other first second → meant.workload_in limits second ≡ meant.workload_in limits first
unfolding meant.workload_in meant.tasks meant.programs meant.order meant.script
same_within limits one other first second differ = rw (differ.tasks, differ.programs, differ.orders, differ.scripts)

pub in_version : (document : Members) (v : Version) → meant.version document ≡ Ok v → meant.workload_of document ≡ meant.workload_in (limits_of v) document
unfolding meant.workload_of
in_version document v is = rw is

-- a version with wider limits keeps the meaning
kept_by_wider : (one other : Version) → AreWider (limits_of one) (limits_of other) → law.KeepsMeaning one other
kept_by_wider one other wider first second w differ means =
    in_version second other differ.second_is ∙ same_within (limits_of other) one other first second differ
    ∙ workload_kept (limits_of one) (limits_of other) wider first w (sym (in_version first one differ.first_is) ∙ means)

pub version_two_keeps_meaning : law.KeepsMeaning One Two
version_two_keeps_meaning =
    kept_by_wider One Two (record { cpus = omega arith; deeds = omega arith; renice = λ known. refl; begin = λ known. known; doze = λ known. known })

pub version_three_keeps_meaning : law.KeepsMeaning Two Three
version_three_keeps_meaning =
    kept_by_wider Two Three (record { cpus = omega arith; deeds = omega arith; renice = λ known. refl; begin = λ known. refl; doze = λ known. known })

pub version_four_keeps_meaning : law.KeepsMeaning Three Four
version_four_keeps_meaning =
    kept_by_wider Three Four (record { cpus = omega arith; deeds = omega arith; renice = λ known. refl; begin = λ known. refl; doze = λ known. refl })
