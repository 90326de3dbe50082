-- Memory for a value, or none.
use Rattle.std.specs.Prelude.{Bool, true, false}
use mir.Syntax.{Ty}
use base.Fml.{Fml, ftrue}
use denote.RattleType.{RattleType}
use denote.RawPtr.{Ptr, block_ptr, null_ptr}
use Rattle.std_alloc.specs.Vacant.{vacant}
use Rattle.std_heap.specs.contracts.GlobalAllocator.TheImpl.{ghosts}

-- a pointer to some block
abbrev pub is_block : Ptr → Bool
is_block null_ptr = false
is_block (block_ptr b o) = true

-- the right to free a block of the heap
abbrev pub may_free : Ty → Ptr → Fml
may_free ty p = ghosts.dealloc_token (record { memory = record { seal = tt } }) ty p

-- at a pointer to a block room for a value and the right to free it, and at null nothing
abbrev pub spare : RattleType → Ptr → Fml
spare R null_ptr = ftrue
spare R (block_ptr b o) = vacant may_free R (block_ptr b o)
