use Rattle.std.proofs.Common.{List, map}
use Rattle.clap.specs.Words.{Text}
use Rattle.eevdf_orders.proofs.SeedReading.{Matched, number_refused, seed_read}
use Rattle.eevdf_orders.proofs.word_seed.seed_of.Goals as goal

pub returns-clause-ok : goal.returns-clause-ok
returns-clause-ok g c =
    let words : List Text = map g.S.AsStr.text c.args.words.now in
    let met = c.in_ok-matches.ensures.ok in
    let matched : Matched words c.in_ok-matches.matches = record { taken = met.0; value = met.1 } in
    seed_read words c.in_ok-matches.matches _ c.number_of.result matched c.get_str.ensures c.number_of.ensures.ok

pub returns-clause-refused : goal.returns-clause-refused
returns-clause-refused g c e =
    let words : List Text = map g.S.AsStr.text c.args.words.now in
    let met = c.in_ok-matches.ensures.ok in
    let matched : Matched words c.in_ok-matches.matches = record { taken = met.0; value = met.1 } in
    number_refused words c.in_ok-matches.matches _ matched c.get_str.ensures (c.number_of.ensures.refused e)
