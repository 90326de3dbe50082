-- What a step of a caller changes of the requests, and what it leaves.
use Rattle.std.proofs.Common.{◌≡◌, ◌≢◌, ℕ, ◌+◌, ◌<◌, List, [], ◌++◌, length, inl, inr, sym, subst, ◌∙◌, append-nil, refl, arith}
use Rattle.std.proofs.Math.ListN.{length-set}
use Rattle.std.proofs.lemmas.{List.get_or-set_other, Nat.same_from_place, Bool.cases_eq}
use Rattle.std.specs.Prelude.{Option, Some, None}
use Rattle.eevdf_steps.specs.{declared.micro.Micro.Micro, declared.micro.Micro.TheVariants.Take, declared.micro.Micro.TheVariants.Settle, declared.plan.Step.Step}
use Rattle.eevdf_steps.specs.Plan.{Plan, callers, pair}
use Rattle.eevdf_steps.specs.Counters.{Counters, counted, step_next}
use Rattle.eevdf_steps.specs.Requests.{Progress, found_by, post_to, posted, requested, taken_of, takes}
use Rattle.eevdf_steps.proofs.Posting.{posted_other, posted_own}

-- as many pairs and callers as before
pub record IsAsLong (g h : Progress) : Type 0 where
  pub taken : length h.taken ≡ length g.taken
  pub found : length h.found ≡ length g.found

takes_as_long : (plan : Plan) (g : Progress) (x s : ℕ) (r : Option ℕ) → IsAsLong g (takes plan g x s r)
takes_as_long plan g x s None = record { taken = refl; found = length-set g.found x None }
takes_as_long plan g x s (Some t) = record { taken = length-set g.taken (pair plan s x) (taken_of plan g s x + 1); found = length-set g.found x (Some t) }

pub as_long : (plan : Plan) (g : Progress) (x : ℕ) (m : Micro) → IsAsLong g (requested plan g x m)
as_long plan g x (Take s) = takes_as_long plan g x s _
as_long plan g x (Settle s) = record { taken = refl; found = length-set g.found x None }
as_long plan g x _ = record { taken = refl; found = refl }

-- what another caller has taken and found stays
pub record IsElsewhere (plan : Plan) (g h : Progress) (q c : ℕ) : Type 0 where
  pub taken : taken_of plan h q c ≡ taken_of plan g q c
  pub found : found_by h c ≡ found_by g c

takes_elsewhere : (plan : Plan) (g : Progress) (x s q c : ℕ) (r : Option ℕ) → x < callers plan → c < callers plan → c ≢ x
    → IsElsewhere plan g (takes plan g x s r) q c
takes_elsewhere plan g x s q c None i j apart = record { taken = refl; found = get_or-set_other g.found x c None None apart }
takes_elsewhere plan g x s q c (Some t) i j apart = record {
  taken = get_or-set_other g.taken (pair plan s x) (pair plan q c) (taken_of plan g s x + 1) 0
      (λ same. apart (same_from_place q c s x (callers plan) j i same).1);
  found = get_or-set_other g.found x c (Some t) None apart;
}

pub elsewhere : (plan : Plan) (g : Progress) (x q c : ℕ) (m : Micro) → x < callers plan → c < callers plan → c ≢ x
    → IsElsewhere plan g (requested plan g x m) q c
elsewhere plan g x q c m i j apart = grind (arith, takes_elsewhere, get_or-set_other)

-- a list that has grown at its end
pub record HasGrown (before after : List ℕ) : Type 0 where
  pub extra : List ℕ
  pub grown : after ≡ before ++ extra

pub posts_grow : (plan : Plan) (counters : Counters) (x q c : ℕ) (s : Step) → x < length counters → step_next plan counters x ≡ Some s
    → HasGrown (posted plan counters q c) (posted plan (counted counters x) q c)
posts_grow plan counters x q c s h e =
    elim (cases_eq q x) [
      | inl same ↦ record {
        extra = post_to plan c s.micro;
        grown = subst (λ (y : ℕ). posted plan (counted counters x) y c ≡ posted plan counters y c ++ post_to plan c s.micro) (sym same) (posted_own plan counters x c s h e);
      }
      | inr apart ↦ record { extra = []; grown = posted_other plan counters x q c apart ∙ sym (append-nil (posted plan counters q c)) }
    ]
