-- How far a reader was read, what a read puts onto an input, and what a write that broke off leaves.
use Rattle.std.specs.Prelude.{◌≡◌, ◌≢◌, ◌<◌, ◌≤◌, ◌-◌, ◌⊎◌, ℕ, Bool, true, false, List, ◌++◌, length, take, Option, IfSome}
use Rattle.std.specs.Prelude.{Result, Err, IfOk, OnOk, IfErr}
use Rattle.std.specs.Io.KnownBytes.{Appends, Consumes, IsAtEnd}
use Rattle.eevdf_workload.specs.Meaning.{read_limit}
use Rattle.eevdf_bench.specs.declared.workbench_fault.BenchFault.{BenchFault, TheVariants.Read, TheVariants.Memory}

-- a piece of n bytes went from the reader onto the input, an empty one only at the end
pub record ReadsOn (left left' : Option (List ℕ)) (input input' : List ℕ) (n : ℕ) : Type 0 where
  pub piece : List ℕ
  pub grows : input' ≡ input ++ piece
  pub count : length piece ≡ n
  pub consumes : Consumes left left' piece
  pub ends : n ≡ 0 → IsAtEnd left'

-- known bytes were read to their end, or as far as a limit
abbrev pub ReadsTo : ℕ → Option (List ℕ) → Option (List ℕ) → Type 0
ReadsTo limit left left' = IfSome left (λ all. Consumes left left' (take limit all))

-- no more bytes were read than a limit
pub record ReadsWithin (limit : ℕ) (left left' : Option (List ℕ)) : Type 0 where
  pub piece : List ℕ
  pub within : length piece ≤ limit
  pub consumes : Consumes left left' piece

-- what a call answers that reads a piece onto an input, what it leaves of the reader and of the input, and whether the reader has failed
pub record ReadsPiece (result : Result ℕ BenchFault) (left left' : Option (List ℕ)) (has_failed : Bool) (input input' : List ℕ) : Type 0 where
  pub piece : IfOk result (ReadsOn left left' input input')
  pub limit : length input' ≤ read_limit
  pub within : ReadsWithin (read_limit - length input) left left'
  pub whole : OnOk result (has_failed ≡ false)
  pub failed : result ≡ Err Read → has_failed ≡ true
  pub unfailed : IfErr result (λ f. f ≢ Read → has_failed ≡ false)
  pub kinds : IfErr result (λ f. (f ≡ Read) ⊎ (f ≡ Memory))

-- a beginning of the text was written that isn't the whole
pub record BreaksOff (held held' : Option (List ℕ)) (text : List ℕ) : Type 0 where
  pub count : ℕ
  pub short : count < length text
  pub written : Appends held held' (take count text)

-- what a call that failed leaves written of the text: the whole of it, where that was a flush, and else less
abbrev pub HasBegun : Bool → Option (List ℕ) → Option (List ℕ) → List ℕ → Type 0
HasBegun true held held' text = Appends held held' text
HasBegun false held held' text = BreaksOff held held' text
