use Rattle.std.proofs.Common.{ℕ, List, ◌≡◌, ◌≢◌, ◌++◌, inl, inr, ◌∙◌}
use Rattle.std.specs.Prelude.{codes, Some, None}
use Rattle.std.proofs.lemmas.Str.Pattern.{split_text_parts}
use Rattle.eevdf_time_text.specs.Lengths.{IsLength}
use Rattle.eevdf_time_text.proofs.OneLength.{one_length, span_cut, span_uncut}
use Rattle.eevdf_time_text.proofs.spans.ends.Goals as goal

pub returns-in_err-length-in-Some-clause-none : goal.returns-in_err-length-in-Some-clause-none
returns-in_err-length-in-Some-clause-none c =
    let e = c.in-Some.ensures.cases in
    let parts : c.args.text.now ≡ c.in-Some.least.now ++ (codes ".." ++ c.in-Some.most.now)
    = split_text_parts (codes "..") c.args.text.now (Some (c.in-Some.least, c.in-Some.most)) e in
    rw c.from_residual.ensures (λ least most is.
    inl (c.in_err-length-in-Some.ensures.none least (span_cut c.args.text.now c.in-Some.least.now c.in-Some.most.now e.0 least most parts e.6 e.2.0 is).0))

pub returns-in_err-length-in-Some-2-clause-none : goal.returns-in_err-length-in-Some-2-clause-none
returns-in_err-length-in-Some-2-clause-none c =
    let e = c.in-Some.ensures.cases in
    let parts : c.args.text.now ≡ c.in-Some.least.now ++ (codes ".." ++ c.in-Some.most.now)
    = split_text_parts (codes "..") c.args.text.now (Some (c.in-Some.least, c.in-Some.most)) e in
    rw c.from_residual-in_err-length-in-Some-2.ensures (λ least most is.
    inr (c.in_err-length-in-Some-2.ensures.none most (span_cut c.args.text.now c.in-Some.least.now c.in-Some.most.now e.0 least most parts e.6 e.2.0 is).1))

pub returns-in_ok-length-in-Some-2-clause-only : goal.returns-in_ok-length-in-Some-2-clause-only
returns-in_ok-length-in-Some-2-clause-only c =
    let e = c.in-Some.ensures.cases in
    let parts : c.args.text.now ≡ c.in-Some.least.now ++ (codes ".." ++ c.in-Some.most.now)
    = split_text_parts (codes "..") c.args.text.now (Some (c.in-Some.least, c.in-Some.most)) e in
    λ least most is.
    let cut : IsLength c.in-Some.least.now least × IsLength c.in-Some.most.now most
    = span_cut c.args.text.now c.in-Some.least.now c.in-Some.most.now e.0 least most parts e.6 e.2.0 is in (
      one_length c.in-Some.least.now least c.in_ok-length-in-Some.field-0 cut.0 c.in_ok-length-in-Some.ensures.length,
      one_length c.in-Some.most.now most c.in_ok-length-in-Some-2.field-0 cut.1 c.in_ok-length-in-Some-2.ensures.length,
    )

pub returns-in_err-only-in-None-clause-none : goal.returns-in_err-only-in-None-clause-none
returns-in_err-only-in-None-clause-none c =
    let no_points : (xs ys : List ℕ) → c.args.text.now ≢ xs ++ (codes ".." ++ ys) = split_text_parts (codes "..") c.args.text.now None c.in-None.ensures.cases in
    rw c.from_residual-in_err-only-in-None.ensures (λ least most is.
    inl (c.in_err-only-in-None.ensures.none least (span_uncut c.args.text.now least most no_points is).0))

pub returns-in_ok-only-in-None-clause-only : goal.returns-in_ok-only-in-None-clause-only
returns-in_ok-only-in-None-clause-only c =
    let no_points : (xs ys : List ℕ) → c.args.text.now ≢ xs ++ (codes ".." ++ ys) = split_text_parts (codes "..") c.args.text.now None c.in-None.ensures.cases in
    λ least most is.
    let alone : IsLength c.args.text.now least × (most ≡ least) = span_uncut c.args.text.now least most no_points is in
    let same : least ≡ c.in_ok-only-in-None.only = one_length c.args.text.now least c.in_ok-only-in-None.only alone.0 c.in_ok-only-in-None.ensures.length in
    (same, alone.1 ∙ same)
