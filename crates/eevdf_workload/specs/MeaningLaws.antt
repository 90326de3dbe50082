-- What becomes of the meaning of a document where its version alone is changed.
use Rattle.std.specs.Prelude.{◌≡◌, codes, Ok}
use Rattle.toml.specs.Data.{Members, get_member}
use Rattle.eevdf_workload.specs.declared.version.Version.{Version}
use Rattle.eevdf_workload.specs.Meaning.{Workload, version, workload_of}

-- documents of two versions, which have the same value at each other key of a workload
pub record DifferInVersion (one other : Version) (first second : Members) : Type 0 where
  pub first_is : version first ≡ Ok one
  pub second_is : version second ≡ Ok other
  pub tasks : get_member (codes "task") second ≡ get_member (codes "task") first
  pub programs : get_member (codes "program") second ≡ get_member (codes "program") first
  pub orders : get_member (codes "order") second ≡ get_member (codes "order") first
  pub scripts : get_member (codes "script") second ≡ get_member (codes "script") first

-- a workload that a document describes in one version is also that of the document in another
abbrev pub KeepsMeaning : Version → Version → Type 0
KeepsMeaning one other =
    (first second : Members) (w : Workload) → DifferInVersion one other first second → workload_of first ≡ Ok w → workload_of second ≡ Ok w
