-- A CPU that has nothing to run and finds no work: what that tells of the others.
use Rattle.std.proofs.Common.{ℕ, refl}
use Rattle.std.specs.Prelude.{None}
use Rattle.eevdf_balance.proofs.Searches.{search_tells}
use Rattle.eevdf_ops.specs.{Histories.AreHistory, Machine.start, Setup.Setup, Setup.homes_of}
use Rattle.eevdf_fleet.specs.Endless.{Seat}
use Rattle.eevdf_fleet.specs.EndlessSweeps.{HasNothing, HasSwept, HasTried, NoneWasCrowded, WasNotCrowded}

not-crowded : (s : Setup) (before after : Seat) (source : ℕ) → AreHistory (homes_of s) (start s) after.seen → HasNothing s before → HasTried before after source → WasNotCrowded s before after source
not-crowded s before after source history idle t = record {
  tried = t;
  few = search_tells (homes_of s) (start s) after.seen before.seen t.since t.later before.cpu source t.answer history t.told idle t.own t.nothing;
}

pub none-crowded : (s : Setup) (before after : Seat) → HasSwept s None before after → HasNothing s before → NoneWasCrowded s before after
none-crowded s before after swept idle = λ source below other. not-crowded s before after source swept.has_seen.one_thread.history idle (swept.tried refl source below other)
