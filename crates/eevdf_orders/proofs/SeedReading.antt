-- From the parse of the words to the seed.
use Rattle.std.proofs.Common.{◌≡◌, ◌∙◌, ℕ, List, true, subst, codes, inr}
use Rattle.std.specs.Prelude.{Option, Result, Ok, Err, IfOk}
use Rattle.clap.specs.Words.{Text, first_of, first_value, found_of, rows_of}
use Rattle.clap.specs.declared.parser.matches.ArgMatches.{ArgMatches}
use Rattle.clap.proofs.WalkLemmas.{first_value-rows}
use Rattle.eevdf_bench.specs.declared.command.WordFault.{WordFault}
use Rattle.eevdf_orders.specs.SeedWords.{AreRefused, IsNoNumber, IsSeedOf, ReadsAs, is_taken, value_in}

-- what the words' matches say
pub record Matched (words : List Text) (m : ArgMatches) : Type 0 where
  pub taken : is_taken words ≡ true
  pub value : first_of (codes "seed") (rows_of (found_of m)) ≡ value_in words

value_is : (words : List Text) (m : ArgMatches) (value : Option Text) → Matched words m → value ≡ first_value (found_of m) (codes "seed") → value ≡ value_in words
value_is words m value h e = e ∙ first_value-rows (found_of m) (codes "seed") ∙ h.value

pub seed_read : (words : List Text) (m : ArgMatches) (value : Option Text) (r : Result (Option ℕ) WordFault) → Matched words m → value ≡ first_value (found_of m) (codes "seed")
    → IfOk r (ReadsAs value) → IfOk r (IsSeedOf words)
seed_read words m value (Ok seed) h e read = (h.taken, subst (λ (o : Option Text). ReadsAs o seed) (value_is words m value h e) read)
seed_read words m value (Err f) h e read = tt

pub number_refused : (words : List Text) (m : ArgMatches) (value : Option Text) → Matched words m → value ≡ first_value (found_of m) (codes "seed")
    → IsNoNumber value → AreRefused words
number_refused words m value h e wrong = inr (subst (λ (o : Option Text). IsNoNumber o) (value_is words m value h e) wrong)
