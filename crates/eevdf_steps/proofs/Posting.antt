-- The lists of requests stay those that the steps have posted.
use Rattle.std.proofs.Common.{◌≡◌, ◌≢◌, ℕ, zero, suc, ◌+◌, ◌*◌, ◌<◌, ◌≤◌, Bool, true, cond, List, [], ◌∷◌, ◌++◌, length, take, set, inl, inr, sym, ap, subst, ◌∙◌, arith, refl, append-nil}
use Rattle.std.proofs.Math.ListN.{length-set}
use Rattle.std.proofs.lemmas.{List.get_or-set_same, List.get_or-set_other, Nat.mul-add-lt, Nat.same_from_place, Grind.common_steps}
use Rattle.std.specs.Prelude.{Some}
use Rattle.eevdf_steps.specs.{declared.micro.Micro.Micro, declared.plan.Step.Step, declared.micro.Micro.TheVariants.Take}
use Rattle.eevdf_steps.specs.{declared.micro.Micro.TheVariants.Post, MicroSteps.steps_by, SoundSteps.is_sound_micro}
use Rattle.eevdf_steps.specs.Requests.{post_to, posted, posts_to}
use Rattle.eevdf_steps.specs.Plan.{IsSound, Plan, callers, home, pair}
use Rattle.eevdf_steps.specs.Counters.{Counters, count_of, counted, done_by, step_next}
use Rattle.eevdf_steps.specs.PostLists.{ArePosted, PostList, has_room, list_at, no_posts, place_of, posted_more, posts_after, taken_more}
use Rattle.eevdf_steps.proofs.{SoundSteps.home_below, Holders.take_next}
use Rattle.std.proofs.lemmas.Bool.{lt-ltb, ltb-true, cases_eq, ne_eqb, eq-eqb}

pub posts_joined : (plan : Plan) (c : ℕ) (xs ys : List Step) → posts_to plan c (xs ++ ys) ≡ posts_to plan c xs ++ posts_to plan c ys
posts_joined plan c [] ys = refl
posts_joined plan c (x ∷ xs) ys = grind (arith, posts_joined plan c xs ys)

-- what a caller has posted after its step
pub posted_own : (plan : Plan) (counters : Counters) (p c : ℕ) (s : Step) → p < length counters → step_next plan counters p ≡ Some s
    → posted plan (counted counters p) p c ≡ posted plan counters p c ++ post_to plan c s.micro
posted_own plan counters p c s h e =
    ap (λ (k : ℕ). posts_to plan c (take k (steps_by plan p)))
    (get_or-set_same counters p (count_of counters p + 1) 0 h ∙ (let one : count_of counters p + 1 ≡ suc (count_of counters p) = omega arith in one))
    ∙ ap (λ (ss : List Step). posts_to plan c ss) (take_next (steps_by plan p) (count_of counters p) s e)
    ∙ posts_joined plan c (done_by plan counters p) (s ∷ [])
    ∙ ap (λ (l : List ℕ). posted plan counters p c ++ l) (append-nil (post_to plan c s.micro))

pub posted_other : (plan : Plan) (counters : Counters) (p q c : ℕ) → q ≢ p → posted plan (counted counters p) q c ≡ posted plan counters q c
posted_other plan counters p q c apart = grind (arith, common_steps)

-- a step that posts nothing to a home
pub quiet : (plan : Plan) (counters : Counters) (p q c : ℕ) (s : Step) → p < length counters → step_next plan counters p ≡ Some s → post_to plan c s.micro ≡ []
    → posted plan (counted counters p) q c ≡ posted plan counters q c
quiet plan counters p q c s h e none =
    elim (cases_eq q p) [
      | inl same ↦ subst (λ (r : ℕ). posted plan (counted counters p) r c ≡ posted plan counters r c) (sym same)
          (posted_own plan counters p c s h e ∙ ap (λ (l : List ℕ). posted plan counters p c ++ l) none ∙ append-nil (posted plan counters p c))
      | inr apart ↦ posted_other plan counters p q c apart
    ]

pair_below : (plan : Plan) (q c : ℕ) → q < callers plan → c < callers plan → pair plan q c < callers plan * callers plan
pair_below plan q c h k = mul-add-lt q (callers plan) c (callers plan) h k

-- the list of a step is one of those that there are
pub place_below : (plan : Plan) (p : ℕ) (m : Micro) → IsSound plan → p < callers plan → is_sound_micro plan m ≡ true → place_of plan p m < callers plan * callers plan
place_below plan p m sound h well = grind (arith, pair_below, ltb-true, home_below)

-- a list is written, the others stay
list_same : (lists : List PostList) (k : ℕ) (l : PostList) → k < length lists → list_at (set lists k l) k ≡ l
list_same lists k l h = get_or-set_same lists k l no_posts h

list_other : (lists : List PostList) (k i : ℕ) (l : PostList) → i ≢ k → list_at (set lists k l) i ≡ list_at lists i
list_other lists k i l apart = get_or-set_other lists k i l no_posts apart

-- the lists are as they were, and so is what was posted
still_posted : (plan : Plan) (counters : Counters) (lists : List PostList) (p : ℕ) (s : Step) → ArePosted plan counters lists → p < length counters
    → step_next plan counters p ≡ Some s → ((c : ℕ) → post_to plan c s.micro ≡ []) → ArePosted plan (counted counters p) lists
still_posted plan counters lists p s a h e none = record {
  each = a.each;
  posted = λ q c i j. a.posted q c i j ∙ sym (quiet plan counters p q c s h e (none c));
  room = a.room;
}

-- a list in which only the number of taken requests changes
retaken : (plan : Plan) (counters : Counters) (lists : List PostList) (k : ℕ) (l : PostList) → ArePosted plan counters lists → k < length lists
    → l.posted ≡ (list_at lists k).posted → l.room ≡ (list_at lists k).room → ArePosted plan counters (set lists k l)
retaken plan counters lists k l a h same room = grind (arith, common_steps)

more_taken : (l : PostList) (b : Bool) → (cond b (record l { taken = l.taken + 1 }) l).posted ≡ l.posted
more_taken l b = grind arith

more_taken_room : (l : PostList) (b : Bool) → (cond b (record l { taken = l.taken + 1 }) l).room ≡ l.room
more_taken_room l b = grind arith

post_here : (plan : Plan) (t : ℕ) → post_to plan (home plan t) (Post t) ≡ t ∷ []
post_here plan t = ap (λ (b : Bool). cond b (t ∷ []) []) (eq-eqb (home plan t) (home plan t) refl)

post_elsewhere : (plan : Plan) (t c : ℕ) → c ≢ home plan t → post_to plan c (Post t) ≡ []
post_elsewhere plan t c apart = ap (λ (b : Bool). cond b (t ∷ []) []) (ne_eqb (home plan t) c (λ e. apart (sym e)))

-- what is posted is a part of what all steps post
posts_within : (plan : Plan) (c k : ℕ) (ss : List Step) → length (posts_to plan c (take k ss)) ≤ length (posts_to plan c ss)
posts_within plan c zero ss = omega arith
posts_within plan c (suc k) [] = omega arith
posts_within plan c (suc k) (s ∷ ss) = grind (arith, posts_within plan c k ss)

-- a caller that posts a task to its home
record Posts (plan : Plan) (counters : Counters) (p t : ℕ) : Type 0 where
  counted_it : p < length counters
  caller : p < callers plan
  at_home : home plan t < callers plan
  adds : (c : ℕ) → posted plan (counted counters p) p c ≡ posted plan counters p c ++ post_to plan c (Post t)

posts_room : (plan : Plan) (counters : Counters) (lists : List PostList) (p t : ℕ) → ArePosted plan counters lists → Posts plan counters p t
    → length (list_at lists (pair plan p (home plan t))).posted < (list_at lists (pair plan p (home plan t))).room
posts_room plan counters lists p t a ps = grind (arith, common_steps, post_here, posts_within)

posts_kept : (plan : Plan) (counters : Counters) (lists : List PostList) (p t : ℕ) → ArePosted plan counters lists → Posts plan counters p t
    → ArePosted plan (counted counters p) (posts_after (pair plan p (home plan t)) (Post t) lists)
posts_kept plan counters lists p t a ps =
    let k : ℕ = pair plan p (home plan t) in
    let l : PostList = posted_more (list_at lists k) t in
    let below : k < length lists = subst (λ (n : ℕ). k < n) (sym a.each) (pair_below plan p (home plan t) ps.caller ps.at_home) in
    record {
      each = length-set lists k l ∙ a.each;
      posted = λ q c i j.
          elim (cases_eq (pair plan q c) k) [
            | inl here ↦
                let both_same : (q ≡ p) × (c ≡ home plan t) = same_from_place q c p (home plan t) (callers plan) j ps.at_home here in
                subst (λ (x : ℕ). (list_at (set lists k l) (pair plan x c)).posted ≡ posted plan (counted counters p) x c) (sym both_same.0)
                (subst (λ (y : ℕ). (list_at (set lists k l) (pair plan p y)).posted ≡ posted plan (counted counters p) p y) (sym both_same.1)
                (ap (λ (m : PostList). m.posted) (list_same lists k l below)
                ∙ ap (λ (xs : List ℕ). xs ++ t ∷ []) (a.posted p (home plan t) ps.caller ps.at_home)
                ∙ ap (λ (ys : List ℕ). posted plan counters p (home plan t) ++ ys) (sym (post_here plan t)) ∙ sym (ps.adds (home plan t))))
            | inr apart ↦ ap (λ (m : PostList). m.posted) (list_other lists k (pair plan q c) l apart) ∙ a.posted q c i j ∙ sym (unposted q c i j apart)
          ];
      room = λ q c i j.
          elim (cases_eq (pair plan q c) k) [
            | inl here ↦ subst (λ (n : ℕ). length (posts_to plan c (steps_by plan q)) ≤ n)
                (sym (ap (λ (m : PostList). m.room) (ap (λ (x : ℕ). list_at (set lists k l) x) here ∙ list_same lists k l below)
                ∙ ap (λ (x : ℕ). (list_at lists x).room) (sym here))) (a.room q c i j)
            | inr apart ↦ subst (λ (n : ℕ). length (posts_to plan c (steps_by plan q)) ≤ n)
                (sym (ap (λ (m : PostList). m.room) (list_other lists k (pair plan q c) l apart))) (a.room q c i j)
          ];
    } where
      unposted : (q c : ℕ) → q < callers plan → c < callers plan → pair plan q c ≢ pair plan p (home plan t) → posted plan (counted counters p) q c ≡ posted plan counters q c
      unposted q c i j apart =
          elim (cases_eq q p) [
            | inl same ↦ subst (λ (x : ℕ). posted plan (counted counters p) x c ≡ posted plan counters x c) (sym same)
                (ps.adds c ∙ ap (λ (ys : List ℕ). posted plan counters p c ++ ys)
                (post_elsewhere plan t c (λ at. apart (ap (λ (x : ℕ). pair plan x c) same ∙ ap (λ (y : ℕ). pair plan p y) at)))
                ∙ append-nil (posted plan counters p c))
            | inr other ↦ posted_other plan counters p q c other
          ]

-- the step of a caller, by its micro-step
posts_by : (plan : Plan) (counters : Counters) (lists : List PostList) (p : ℕ) (s : Step) (m : Micro) → IsSound plan → ArePosted plan counters lists → p < length counters → p < callers plan
    → step_next plan counters p ≡ Some s → s.micro ≡ m → is_sound_micro plan m ≡ true
    → (has_room (list_at lists (place_of plan p m)) m ≡ true) × ArePosted plan (counted counters p) (posts_after (place_of plan p m) m lists)
posts_by plan counters lists p s (Post t) sound a h below e is well =
    let ps : Posts plan counters p t = record {
      counted_it = h;
      caller = below;
      at_home = home_below plan t sound (ltb-true t (length plan.homes) well);
      adds = λ c. posted_own plan counters p c s h e ∙ ap (λ (m : Micro). posted plan counters p c ++ post_to plan c m) is;
    } in
    (lt-ltb _ _ (posts_room plan counters lists p t a ps), posts_kept plan counters lists p t a ps)
posts_by plan counters lists p s (Take q) sound a h below e is well =
    let k : ℕ = pair plan q p in
    let within : k < length lists = subst (λ (n : ℕ). k < n) (sym a.each) (pair_below plan q p (ltb-true q (callers plan) well) below) in (
      refl,
      still_posted plan counters (set lists k (taken_more (list_at lists k))) p s
          (retaken plan counters lists k (taken_more (list_at lists k)) a within (more_taken (list_at lists k) _) (more_taken_room (list_at lists k) _))
          h e (λ c. ap (λ (m : Micro). post_to plan c m) is),
    )
posts_by plan counters lists p s _ sound a h below e is well = (refl, still_posted plan counters lists p s a h e (λ c. ap (λ (m : Micro). post_to plan c m) is))

pub posts_step : (plan : Plan) (counters : Counters) (lists : List PostList) (p : ℕ) (s : Step) → IsSound plan → ArePosted plan counters lists → p < length counters → p < callers plan
    → step_next plan counters p ≡ Some s → is_sound_micro plan s.micro ≡ true
    → (has_room (list_at lists (place_of plan p s.micro)) s.micro ≡ true) × ArePosted plan (counted counters p) (posts_after (place_of plan p s.micro) s.micro lists)
posts_step plan counters lists p s sound a h below e well = posts_by plan counters lists p s s.micro sound a h below e refl well
