-- The claims at the start hold of the history that has no line yet.
use Rattle.std.proofs.Common.{◌≡◌, ℕ, zero, suc, ◌+◌, ◌<◌, ◌≤◌, Bool, true, false, cond, List, [], ◌∷◌, length, replicate, refl, sym, ap, subst, ◌∙◌, arith}
use Rattle.std.specs.Prelude.{◌==◌, Option, Some, None, IfSome}
use Rattle.std.proofs.lemmas.Bool.Decides.{nat_tests}
use mathlib.Core.Option as option
use lib.ListN.{get_elem?}
use Rattle.eevdf_ops.specs.{declared.deeds.Line.Line, Machine.Machine, Machine.queue_at}
use Rattle.eevdf_fleet.specs.{declared.board.claims.Terms.Terms, declared.board.claims.View.View}
use Rattle.eevdf_fleet.specs.Claims.{Subject, seat, queue, journal, once, times, IsOnTerms, AllTell, claims_from, knowing, no_posts, opening, start}
use Rattle.eevdf_fleet.specs.declared.board.claims.PostClaim.TheVariants.{Posts}
use Rattle.eevdf_fleet.specs.PostClaims.{AllSay, is_of, posts_from, posts_times, tasks_to}
use Rattle.eevdf_ops.specs.Setup.{cpus_of}
use Rattle.eevdf_fleet.specs.Board.{ViewTells, IsOneHistory}

tell-journal : (quota : Option ℕ) → IfSome quota (λ (most : ℕ). ◌≡◌ {A = List Line} [] [])
tell-journal None = tt
tell-journal (Some most) = refl

tell-from : (t : Terms) (m : Machine) (cpu : ℕ) → ((k : ℕ) → k < length m → queue_at (start t) (cpu + k) ≡ queue_at m k) → AllTell t [] (claims_from cpu m)
tell-from t [] cpu same = (tell-journal t.quota, tt)
tell-from t (q ∷ m) cpu same = (
  ([], refl),
  (
    refl,
    (
      ap (λ (c : ℕ). queue_at (start t) c) (let e : cpu ≡ cpu + 0 = omega arith in e) ∙ same 0 (omega arith),
      tell-from t m (cpu + 1) (λ k less. ap (λ (c : ℕ). queue_at (start t) c) (let e : (cpu + 1) + k ≡ cpu + suc k = omega arith in e) ∙ same (suc k) (omega arith)),
    ),
  ),
)

-- what isn't from one CPU on, isn't claimed
none-from : (m : Machine) (cpu from : ℕ) → cpu < from → (times (seat cpu) (claims_from from m) ≡ 0) × (times (queue cpu) (claims_from from m) ≡ 0)
none-from [] cpu from less = (refl, refl)
none-from (q ∷ m) cpu from less =
    let rest : (times (seat cpu) (claims_from (from + 1) m) ≡ 0) × (times (queue cpu) (claims_from (from + 1) m) ≡ 0) = none-from m cpu (from + 1) (omega arith) in
    let apart : once (from == cpu) ≡ 0 = grind (arith, nat_tests) in
    (omega (arith, rest.0), omega (arith, rest.1))

seat-once : (m : Machine) (cpu from : ℕ) (b : Bool) → (from == cpu) ≡ b → times (seat cpu) (claims_from (from + 1) m) ≤ 1
    → once b + times (seat cpu) (claims_from (from + 1) m) ≤ 1
seat-once m cpu from true e rest =
    let same : from ≡ cpu = grind (arith, nat_tests) in omega (arith, (none-from m cpu (from + 1) (omega arith)).0)
seat-once m cpu from false e rest = omega arith

queue-once : (m : Machine) (cpu from : ℕ) (b : Bool) → (from == cpu) ≡ b → times (queue cpu) (claims_from (from + 1) m) ≤ 1
    → once b + times (queue cpu) (claims_from (from + 1) m) ≤ 1
queue-once m cpu from true e rest =
    let same : from ≡ cpu = grind (arith, nat_tests) in omega (arith, (none-from m cpu (from + 1) (omega arith)).1)
queue-once m cpu from false e rest = omega arith

once-from : (m : Machine) (k : Subject) (from : ℕ) → times k (claims_from from m) ≤ 1
once-from [] (seat cpu) from = omega arith
once-from [] (queue cpu) from = omega arith
once-from [] journal from = omega arith
once-from (q ∷ m) (seat cpu) from = omega (arith, seat-once m cpu from (from == cpu) refl (once-from m (seat cpu) (from + 1)))
once-from (q ∷ m) (queue cpu) from = omega (arith, queue-once m cpu from (from == cpu) refl (once-from m (queue cpu) (from + 1)))
once-from (q ∷ m) journal from = omega (arith, once-from m journal (from + 1))

opened_views : (t : Terms) (id : ℕ) (v : View) → get_elem? (knowing t (opening t) (no_posts t) ∷ []) id ≡ option.some v → ViewTells t [] v
opened_views t zero v e =
    subst (λ (u : View). ViewTells t [] u) (option.some-injective _ _ e) (refl, tell-from t (start t) 0 (λ k less. ap (λ (c : ℕ). queue_at (start t) c) (let z : 0 + k ≡ k = omega arith in z)))
opened_views t (suc id) v e = absurd (option.some-ne-none v (sym e))

-- nothing is posted
none-posted : (cpus from count : ℕ) → AllSay (λ sender. replicate cpus []) (posts_from cpus from count)
none-posted cpus from zero = tt
none-posted cpus from (suc count) = (refl, none-posted cpus (from + 1) count)

none-of : (cpus from count sender : ℕ) → sender < from → posts_times sender (posts_from cpus from count) ≡ 0
none-of cpus from zero sender less = refl
none-of cpus from (suc count) sender less =
    let apart : is_of sender (Posts from (replicate cpus [])) ≡ 0 = ap (λ (b : Bool). cond b 1 0) (let e : (from == sender) ≡ false = grind (arith, nat_tests) in e) in
    omega (arith, none-of cpus (from + 1) count sender (omega arith))

posts-once : (cpus from count sender : ℕ) (b : Bool) → (from == sender) ≡ b → posts_times sender (posts_from cpus (from + 1) count) ≤ 1 → cond b 1 0 + posts_times sender (posts_from cpus (from + 1) count) ≤ 1
posts-once cpus from count sender true e rest =
    let same : from ≡ sender = grind (arith, nat_tests) in omega (arith, none-of cpus (from + 1) count sender (omega arith))
posts-once cpus from count sender false e rest = omega arith

once-posted : (cpus from count sender : ℕ) → posts_times sender (posts_from cpus from count) ≤ 1
once-posted cpus from zero sender = omega arith
once-posted cpus from (suc count) sender = posts-once cpus from count sender (from == sender) refl (once-posted cpus (from + 1) count sender)

opened_posts : (t : Terms) (id : ℕ) (v : View) → get_elem? (knowing t (opening t) (no_posts t) ∷ []) id ≡ option.some v → AllSay (λ sender. replicate (cpus_of t.setup.value) []) v.posts
opened_posts t zero v e =
    subst (λ (u : View). AllSay (λ sender. replicate (cpus_of t.setup.value) []) u.posts) (option.some-injective _ _ e) (none-posted (cpus_of t.setup.value) 0 (cpus_of t.setup.value))
opened_posts t (suc id) v e = absurd (option.some-ne-none v (sym e))

pub opens : (t : Terms) → IsOnTerms t [] → IsOneHistory t (knowing t (opening t) (no_posts t) ∷ [])
opens t kept = record {
  lines = [];
  kept = kept;
  fits = opened_views t;
  once = λ k. omega (arith, once-from (start t) k 0);
  posted = record {
    posted = λ sender. replicate (cpus_of t.setup.value) [];
    say = opened_posts t;
    once = λ sender. omega (arith, once-posted (cpus_of t.setup.value) 0 (cpus_of t.setup.value) sender);
    asked = λ sender home. (tasks_to (replicate (cpus_of t.setup.value) []) home, refl);
  };
}
