use Rattle.std.proofs.Common.{◌≡◌, Bool, Bor, Option, Some, None, ap, codes, ◌∙◌, option_map, refl}
use Rattle.std.specs.{Option.option_eq, Str.bytes_eq}
use Rattle.clap.specs.Words.{Text, found_of}
use Rattle.clap.proofs.WalkLemmas.{first_value-rows}
use Rattle.eevdf_bench.specs.Command.{flag_in, is_set}
use Rattle.eevdf_bench.proofs.command.has_flag.Goals as goal

text_is_set : (eq : Bor Text → Bor Text → Bool) → ((a b : Bor Text) → eq a b ≡ bytes_eq a.now b.now) → (held : Option (Bor Text)) (word : Bor Text) → word.now ≡ codes "true"
    → option_eq eq held (Some word) ≡ is_set (option_map (λ s. s.now) held)
text_is_set eq by_bytes None word is = refl
text_is_set eq by_bytes (Some b) word is = by_bytes b word ∙ ap (bytes_eq b.now) is

pub returns-in-Some : goal.returns-in-Some
returns-in-Some c =
    c.eq.ensures
    ∙ text_is_set _ (λ a b. refl) c.get_str.result _ refl
    ∙ ap is_set (c.get_str.ensures ∙ first_value-rows (found_of c.in-Some.found.now) c.args.name.now)
    ∙ ap (flag_in c.args.name.now) c.in-Some.ensures.rows
