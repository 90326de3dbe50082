use Rattle.std.proofs.Common.{◌≡◌, List, ℕ, length, ap, sym, rules, arith}
use Rattle.std.specs.Prelude.{codes}
use Rattle.std.proofs.lemmas.Slice.Eq.{HasBytesAt, text_from_reads}
use Rattle.eevdf_workload.specs.Words.{verb_of}
use Rattle.eevdf_workload.proofs.reading.verb_text.Verb.of.Goals as goal

-- a word that was read byte by byte
as_read : (word text : List ℕ) → length word ≡ length text → HasBytesAt word 0 text → verb_of text ≡ verb_of word
as_read word text long bytes = sym (ap verb_of (text_from_reads word text long bytes))

pub returns-in-tick : goal.returns-in-tick
returns-in-tick c = as_read c.args.word.now (codes "tick") (omega arith) (search rules)

pub returns-in-pick : goal.returns-in-pick
returns-in-pick c = as_read c.args.word.now (codes "pick") (omega arith) (search rules)

pub returns-in-post : goal.returns-in-post
returns-in-post c = as_read c.args.word.now (codes "post") (omega arith) (search rules)

pub returns-in-pull : goal.returns-in-pull
returns-in-pull c = as_read c.args.word.now (codes "pull") (omega arith) (search rules)

pub returns-in-yield : goal.returns-in-yield
returns-in-yield c = as_read c.args.word.now (codes "yield") (omega arith) (search rules)

pub returns-in-sleep : goal.returns-in-sleep
returns-in-sleep c = as_read c.args.word.now (codes "sleep") (omega arith) (search rules)

pub returns-in-drain : goal.returns-in-drain
returns-in-drain c = as_read c.args.word.now (codes "drain") (omega arith) (search rules)

pub returns-in-renice : goal.returns-in-renice
returns-in-renice c = as_read c.args.word.now (codes "renice") (omega arith) (search rules)

pub returns-in-begin : goal.returns-in-begin
returns-in-begin c = as_read c.args.word.now (codes "begin") (omega arith) (search rules)

pub returns-in-end : goal.returns-in-end
returns-in-end c = as_read c.args.word.now (codes "end") (omega arith) (search rules)

pub returns-in-set : goal.returns-in-set
returns-in-set c = as_read c.args.word.now (codes "set") (omega arith) (search rules)

pub returns-in-rebase : goal.returns-in-rebase
returns-in-rebase c = as_read c.args.word.now (codes "rebase") (omega arith) (search rules)

pub returns-in-doze : goal.returns-in-doze
returns-in-doze c = as_read c.args.word.now (codes "doze") (omega arith) (search rules)
