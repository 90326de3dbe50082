use Rattle.std.proofs.Common.{◌≡◌, ◌≤◌, ◌^◌, ℕ, true, Option, Some, to_z, of_z, sym, ap, subst, ◌∙◌, arith, rules}
use Rattle.std.specs.Prelude.{ℤ, pos, ◌+ℤ◌, IfSome, unsigned_abs}
use Rattle.std.proofs.lemmas.Int.{ints, to_z-of_z}
use Rattle.std.proofs.lemmas.Bool.Decides.{nat_tests}
use mir.Syntax.{w64}
use mir.Val.{SFits}
use Rattle.eevdf_weight.specs.{Limits.is_in_range, Weight.weight_of, Charge.charge_of}
use Rattle.eevdf_queue.specs.{declared.entry.Entry.Entry}
use Rattle.eevdf_queue.proofs.{Bounds.charge_of_small, Signed.sum_kept}
use Rattle.eevdf_fair_queue.specs.Bounds.{ticked, charged_from}
use Rattle.eevdf_fair_queue.proofs.bounds.Bounds.charge_from.Goals as goal

some : (o : Option Entry) (e : Entry) → o ≡ Some e → IfSome o (λ x. is_in_range x.v ≡ true) → is_in_range e.v ≡ true
some o e is h = subst (λ (x : Option Entry). IfSome x (λ y. is_in_range y.v ≡ true)) is h

small : (v : ℤ) (n : ℕ) → is_in_range v ≡ true → n ≤ 2 ^ 40 → unsigned_abs (v +ℤ pos n) ≤ 2 ^ 62
small v n h k = let near : unsigned_abs v ≤ 2 ^ 60 = grind (arith, nat_tests) in omega (arith, ints, near, k)

pub returns-in-Some : goal.returns-in-Some
returns-in-Some c =
    let b = c.args.self.now in
    let e = c.in-Some.entry in
    let charge : ℤ = c.level_charge-charge.result in
    let n : ℕ = charge_of c.args.ns (weight_of e.nice) in
    let within : c.args.ns ≤ 1000000000 = search rules in
    let fits : SFits w64 charge = record { sfits = c.level_charge-charge.type_inv } in
    let started : SFits w64 e.v = search rules in
    let is : charge ≡ pos n = c.level_charge-charge.ensures ∙ ap (λ (x : ℕ). pos (charge_of x (weight_of e.nice))) c.get.ensures.length in
    let kept : unsigned_abs (e.v +ℤ charge) ≤ 2 ^ 62 =
    subst (λ (z : ℤ). unsigned_abs (e.v +ℤ z) ≤ 2 ^ 62) (sym is)
    (small e.v n (some c.args.runner e c.in-Some.is c.requires) (charge_of_small c.args.ns (weight_of e.nice) within)) in
    c.charge.ensures
    ∙ ap (λ (z : ℤ). ticked b z (to_z w64 (of_z w64 (to_z w64 (of_z w64 e.v) +ℤ to_z w64 (of_z w64 charge))))) (to_z-of_z w64 charge fits ∙ is)
    ∙ ap (ticked b (pos n)) (sum_kept e.v charge started fits kept ∙ ap (λ (z : ℤ). e.v +ℤ z) is)
    ∙ ap (charged_from b c.args.ns) (sym c.in-Some.is)
