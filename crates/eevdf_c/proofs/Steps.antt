-- The names that the proofs of the exports cite.
pub use Rattle.std.proofs.Common.{◌≡◌, ℕ, List, [], ◌∷◌, refl}
pub use Rattle.std.proofs.raw_atomic.Walks.{proved}
pub use base.Fraction.{full_share}
pub use base.Logic.{id⊢, emp}
pub use base.Fml.{ftrue}
pub use mir.Val.{vunit}
pub use contract.Monad.{fact, fact_i}
pub use contract.Running.{tables}
pub use prog.Wp.{WpFn}
pub use types.Kit.{use0, ‵, raw, feq_i, ◌⊛◌, some, later, prop, ◌$◌, ◌∵◌, !, qed, done, move, drop, use1, use2, split, join, fsplit, rewrite, regoal, pick, await, suffices, group}
pub use types.Run.{enter, unit_lit, of_opd, addr, load, look, assigns, init, stop, no_more, and_then, returns}
pub use types.ByLocal.{alloc_all, pass_all, free_all, look_at, get, through, sets, lands_as}
pub use denote.Builtin.{i64}
pub use denote.Exit.{yes}
pub use denote.Laws.{Is, shows}
pub use denote.RattleType.{flat}
pub use denote.Memory.{part_at}
pub use denote.RawPtr.{Ptr, RawPtr, block_ptr, in_a_block, rawptr_vals, rawptr_Tells}
pub use denote.Signature.{plain, types_at}
pub use denote.Steps.{nothing, heard, peeks}
pub use denote.Triple.Call.{calls_at}
pub use denote.Triple.Clauses.{lasts}
pub use denote.Triple.Entry.{on_entry}
pub use denote.Triple.Spec.{triple_of}
pub use denote.Triple.Table.{framed}
pub use denote.Triple.Walked.{Stays, walk_of, stay_dropped, Goes-dropped, ends_at}
pub use Rattle.eevdf_c.proofs.Passed.{Passed, number, unsigned, signed, lent, shown, a_code, nothing_told, lifetimes, wholes, references, stored, passed}
pub use Rattle.eevdf_c.proofs.Exported.{Contract_of, calls_on, exported}
pub use Rattle.eevdf_c.proofs.Moved.{moved}
pub use Rattle.eevdf_c.specs.contracts.opened.Opened.{the_row as Opened-row}
pub use Rattle.eevdf_c.specs.contracts.given_block.GivenBlock.{the_row as GivenBlock-row}
pub use Rattle.eevdf_c.specs.contracts.hand.Hand.{the_row as Hand-row}
pub use Rattle.eevdf_c.specs.contracts.fair_bounds.FairBounds.{the_row as FairBounds-row}
pub use Rattle.eevdf_c.specs.contracts.fair_shares.FairShares.{the_row as FairShares-row}
pub use Rattle.eevdf_c.specs.contracts.parcel_out.ParcelOut.{the_row as ParcelOut-row}
pub use Rattle.eevdf_c.specs.contracts.entry_out.EntryOut.{the_row as EntryOut-row}
pub use Rattle.eevdf_c.specs.contracts.sleeper_out.SleeperOut.{the_row as SleeperOut-row}
pub use Rattle.eevdf_c.specs.contracts.place_out.PlaceOut.{the_row as PlaceOut-row}
pub use Rattle.eevdf_c.proofs.opened.Opened.TheLaws.{the_row_laws as Opened-laws}
pub use Rattle.eevdf_c.proofs.hand.Hand.TheLaws.{the_row_laws as Hand-laws}
pub use Rattle.eevdf_c.proofs.fair_bounds.FairBounds.TheLaws.{the_row_laws as FairBounds-laws}
pub use Rattle.eevdf_c.proofs.fair_shares.FairShares.TheLaws.{the_row_laws as FairShares-laws}
pub use Rattle.eevdf_c.proofs.place_out.PlaceOut.TheLaws.{the_row_laws as PlaceOut-laws}
