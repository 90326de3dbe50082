-- What is claimed of posts, where claims change hands, a task is posted, or a line is committed.
use Rattle.std.proofs.Common.{◌≡◌, ◌≢◌, ⊎_elim, ℕ, zero, suc, ◌+◌, ◌≤◌, Bool, true, false, cond, List, [], ◌∷◌, ◌++◌, set, take, drop, append-nil, eq-eqb, refl, sym, ap, subst, ◌∙◌, arith}
use Rattle.std.specs.Prelude.{◌==◌}
use Rattle.std.proofs.lemmas.Bool.{ne_eqb, cases_eq}
use Rattle.std.proofs.lemmas.Bool.Decides.{nat_tests}
use mathlib.Core.List.{IsPrefix}
use mathlib.Core.Option as option
use lib.ListN.{get_elem?}
use base.Growing.{prefix_refl, prefix_trans}
use Rattle.atomic_table.proofs.Lists.{at_set, at_snoc, set_else}
use Rattle.eevdf_ops.specs.{declared.deeds.Deed.Deed, declared.deeds.Line.Line, Parts.decider, Programs.lines_by, Programs.wake_from, Programs.wakes_from}
use Rattle.eevdf_ops.specs.declared.deeds.Deed.TheVariants.{Wake}
use Rattle.eevdf_fleet.specs.declared.board.claims.{PostClaim.PostClaim, View.View}
use Rattle.eevdf_fleet.specs.declared.board.claims.PostClaim.TheVariants.{Posts, Sent}
use Rattle.eevdf_fleet.specs.Claims.{nothing}
use Rattle.eevdf_fleet.specs.PostClaims.{AllBegin, AllSay, AreAskedFor, ArePosted, HasSent, IsAmong, IsAsked, Says, is_of, posts_times, posts_total, tasks_to, with_task}
use Rattle.eevdf_fleet.proofs.{Takes.wake-other, Takes.wake-own, Takes.wakes-append, Takes.wakes-one, Told.lines_by-more}

-- how often it is claimed what a sender's posts are
total-set : (k : ℕ) (views : List View) (id : ℕ) (v w : View) → get_elem? views id ≡ option.some v
    → posts_total k (set views id w) + posts_times k v.posts ≡ posts_total k views + posts_times k w.posts
total-set k [] id v w e = absurd (option.some-ne-none v (sym e))
total-set k (x ∷ views) zero v w e =
    let same : posts_times k x.posts ≡ posts_times k v.posts = ap (λ (u : View). posts_times k u.posts) (option.some-injective x v e) in omega arith
total-set k (x ∷ views) (suc id) v w e = omega (arith, total-set k views id v w e)

times-at : (k : ℕ) (views : List View) (id : ℕ) (v : View) → get_elem? views id ≡ option.some v → posts_times k v.posts ≤ posts_total k views
times-at k [] id v e = absurd (option.some-ne-none v (sym e))
times-at k (x ∷ views) zero v e =
    let same : posts_times k x.posts ≡ posts_times k v.posts = ap (λ (u : View). posts_times k u.posts) (option.some-injective x v e) in omega arith
times-at k (x ∷ views) (suc id) v e = omega (arith, times-at k views id v e)

times-two : (k : ℕ) (views : List View) (i j : ℕ) (v w : View) → j ≢ i → get_elem? views i ≡ option.some v → get_elem? views j ≡ option.some w
    → posts_times k v.posts + posts_times k w.posts ≤ posts_total k views
times-two k views i j v w apart ev ew =
    let rest : posts_times k w.posts ≤ posts_total k (set views i nothing) = times-at k (set views i nothing) j w (set_else views i j nothing apart ∙ ew) in
    omega (arith, total-set k views i v nothing ev, rest)

total-append : (k : ℕ) (views : List View) (w : View) → posts_total k (views ++ w ∷ []) ≡ posts_total k views + posts_times k w.posts
total-append k [] w = omega arith
total-append k (x ∷ views) w = omega (arith, total-append k views w)

pub times-append : (k : ℕ) (xs ys : List PostClaim) → posts_times k (xs ++ ys) ≡ posts_times k xs + posts_times k ys
times-append k [] ys = omega arith
times-append k (x ∷ xs) ys = omega (arith, times-append k xs ys)

pub times-parts : (k : ℕ) (n : ℕ) (cs : List PostClaim) → posts_times k (take n cs) + posts_times k (drop n cs) ≡ posts_times k cs
times-parts k zero cs = omega arith
times-parts k (suc n) [] = refl
times-parts k (suc n) (c ∷ cs) = omega (arith, times-parts k n cs)

pub say-append : (posted : ℕ → List (List ℕ)) (cs ds : List PostClaim) → AllSay posted cs → AllSay posted ds → AllSay posted (cs ++ ds)
say-append posted [] ds h g = g
say-append posted (c ∷ cs) ds h g = (h.0, say-append posted cs ds h.1 g)

pub say-take : (posted : ℕ → List (List ℕ)) (n : ℕ) (cs : List PostClaim) → AllSay posted cs → AllSay posted (take n cs)
say-take posted zero cs h = tt
say-take posted (suc n) [] h = tt
say-take posted (suc n) (c ∷ cs) h = (h.0, say-take posted n cs h.1)

pub say-drop : (posted : ℕ → List (List ℕ)) (n : ℕ) (cs : List PostClaim) → AllSay posted cs → AllSay posted (drop n cs)
say-drop posted zero cs h = h
say-drop posted (suc n) [] h = tt
say-drop posted (suc n) (c ∷ cs) h = say-drop posted n cs h.1

-- a view says of posts what it said before
say-set : (posted : ℕ → List (List ℕ)) (views : List View) (id : ℕ) (w : View) → ((j : ℕ) (u : View) → j ≢ id → get_elem? views j ≡ option.some u → AllSay posted u.posts) → AllSay posted w.posts
    → (j : ℕ) (u : View) → get_elem? (set views id w) j ≡ option.some u → AllSay posted u.posts
say-set posted views id w others mine j u e =
    ⊎_elim
    (λ (x : (j ≡ id) × (w ≡ u)). subst (λ (y : View). AllSay posted y.posts) x.1 mine)
    (λ (x : (j ≢ id) × (get_elem? views j ≡ option.some u)). others j u x.0 x.1)
    (at_set views id j w u e)

pub posted-set : (lines : List Line) (views : List View) (id : ℕ) (v w : View) → get_elem? views id ≡ option.some v → w.posts ≡ v.posts → ArePosted lines views → ArePosted lines (set views id w)
posted-set lines views id v w at same h = record {
  posted = h.posted;
  say = say-set h.posted views id w (λ j u apart e. h.say j u e) (subst (λ (cs : List PostClaim). AllSay h.posted cs) (sym same) (h.say id v at));
  once = λ k. let times : posts_times k w.posts ≡ posts_times k v.posts = ap (posts_times k) same in omega (arith, total-set k views id v w at, h.once k);
  asked = h.asked;
}

-- a view is cut in two
pub posted-cut : (lines : List Line) (views : List View) (id : ℕ) (v left right : View) → ((posted : ℕ → List (List ℕ)) → AllSay posted v.posts → AllSay posted left.posts × AllSay posted right.posts)
    → ((k : ℕ) → posts_times k left.posts + posts_times k right.posts ≡ posts_times k v.posts) → get_elem? views id ≡ option.some v → ArePosted lines views
    → ArePosted lines (set views id left ++ right ∷ [])
posted-cut lines views id v left right says parts at h =
    let both : AllSay h.posted left.posts × AllSay h.posted right.posts = says h.posted (h.say id v at) in
    record {
      posted = h.posted;
      say = λ j u e.
          ⊎_elim (λ (x : get_elem? (set views id left) j ≡ option.some u). say-set h.posted views id left (λ i y apart f. h.say i y f) both.0 j u x)
          (λ (x : right ≡ u). subst (λ (y : View). AllSay h.posted y.posts) x both.1)
          (at_snoc (set views id left) right u j e);
      once = λ k. omega (arith, total-append k (set views id left) right, total-set k views id v left at, parts k, h.once k);
      asked = h.asked;
    }

-- two views are made one
pub posted-join : (lines : List Line) (views : List View) (id other : ℕ) (v w both : View) → both.posts ≡ w.posts ++ v.posts → get_elem? views id ≡ option.some v → other ≢ id
    → get_elem? (set views id both) other ≡ option.some w → ArePosted lines views → ArePosted lines (set (set views id both) other nothing)
posted-join lines views id other v w both is at apart there h =
    let was : get_elem? views other ≡ option.some w = sym (set_else views id other both apart) ∙ there in
    record {
      posted = h.posted;
      say = say-set h.posted (set views id both) other nothing
          (λ j u _ e. say-set h.posted views id both (λ i x _ f. h.say i x f)
          (subst (λ (cs : List PostClaim). AllSay h.posted cs) (sym is) (say-append h.posted w.posts v.posts (h.say other w was) (h.say id v at))) j u e)
          tt;
      once = λ k.
          let times : posts_times k both.posts ≡ posts_times k (w.posts ++ v.posts) = ap (posts_times k) is in
          omega (arith, total-set k (set views id both) other w nothing there, total-set k views id v both at, times-append k w.posts v.posts, h.once k);
      asked = h.asked;
    }

-- a request is posted
begins-more : (lists : List (List ℕ)) (home task : ℕ) → AllBegin lists (with_task lists home task)
begins-more [] home task k = prefix_refl _
begins-more (x ∷ lists) zero task zero = (task ∷ [], refl)
begins-more (x ∷ lists) zero task (suc k) = prefix_refl _
begins-more (x ∷ lists) (suc home) task zero = prefix_refl _
begins-more (x ∷ lists) (suc home) task (suc k) = begins-more lists home task k

abbrev posted_with : (ℕ → List (List ℕ)) → ℕ → List (List ℕ) → ℕ → List (List ℕ)
posted_with posted sender lists k = cond (k == sender) lists (posted k)

module _ (posted : ℕ → List (List ℕ)) (sender : ℕ) (lists : List (List ℕ)) (begins : AllBegin (posted sender) lists) where
  abbrev after : ℕ → List (List ℕ)
  after = posted_with posted sender lists

  here : after sender ≡ lists
  here = ap (λ (b : Bool). cond b lists (posted sender)) (eq-eqb sender sender refl)

  away : (k : ℕ) → k ≢ sender → after k ≡ posted k
  away k apart = ap (λ (b : Bool). cond b lists (posted k)) (ne_eqb k sender apart)

  grows : (k : ℕ) → AllBegin (posted k) (after k)
  grows k =
      ⊎_elim
      (λ (same : k ≡ sender). subst (λ (n : ℕ). AllBegin (posted n) (after n)) (sym same) (subst (λ (l : List (List ℕ)). AllBegin (posted sender) l) (sym here) begins))
      (λ (apart : k ≢ sender). subst (λ (l : List (List ℕ)). AllBegin (posted k) l) (sym (away k apart)) (λ home. prefix_refl _))
      (cases_eq k sender)

  others-say : (cs : List PostClaim) → posts_times sender cs ≡ 0 → AllSay posted cs → AllSay after cs
  others-say [] none h = tt
  others-say (Posts of own ∷ cs) none h = (
    away of (λ same. absurd (let one : is_of sender (Posts of own) ≡ 1 = ap (λ (b : Bool). cond b 1 0) (eq-eqb of sender same) in omega arith)) ∙ h.0,
    others-say cs (omega arith) h.1,
  )
  others-say (Sent of own ∷ cs) none h = ((λ home. prefix_trans _ _ _ (h.0 home) (grows of home)), others-say cs (omega arith) h.1)

  asked-still : (lines : List Line) → AreAskedFor posted lines → AreAskedFor after lines
  asked-still lines h k home = prefix_trans _ _ _ (h k home) (grows k home)

pub posted-more : (lines : List Line) (views : List View) (id sender home task : ℕ) (lists : List (List ℕ)) (v left right : View) → v.posts ≡ Posts sender lists ∷ []
    → left.posts ≡ Posts sender (with_task lists home task) ∷ [] → right.posts ≡ Sent sender (with_task lists home task) ∷ [] → get_elem? views id ≡ option.some v
    → ArePosted lines views → ArePosted lines (set views id left ++ right ∷ [])
posted-more lines views id sender home task lists v left right was is told at h =
    let more : List (List ℕ) = with_task lists home task in
    let mine : AllSay h.posted (Posts sender lists ∷ []) = subst (λ (cs : List PostClaim). AllSay h.posted cs) was (h.say id v at) in
    let begins : AllBegin (h.posted sender) more = subst (λ (l : List (List ℕ)). AllBegin l more) (sym mine.0) (begins-more lists home task) in
    let new : ℕ → List (List ℕ) = posted_with h.posted sender more in
    let one : posts_times sender (Posts sender lists ∷ []) ≡ 1 = let e : is_of sender (Posts sender lists) ≡ 1 = ap (λ (b : Bool). cond b 1 0) (eq-eqb sender sender refl) in omega arith in
    let once : posts_times sender v.posts ≡ 1 = ap (posts_times sender) was ∙ one in
    record {
      posted = new;
      say = λ j u e.
          ⊎_elim
          (λ (x : get_elem? (set views id left) j ≡ option.some u).
          say-set new views id left (λ i y apart f. others-say h.posted sender more begins y.posts (omega (arith, times-two sender views id i v y apart at f, once, h.once sender)) (h.say i y f))
          (subst (λ (cs : List PostClaim). AllSay new cs) (sym is) (here h.posted sender more begins, tt)) j u x)
          (λ (x : right ≡ u). subst (λ (y : View). AllSay new y.posts) x
          (subst (λ (cs : List PostClaim). AllSay new cs) (sym told) (subst (λ (l : List (List ℕ)). AllBegin more l) (sym (here h.posted sender more begins)) (λ k. prefix_refl _), tt)))
          (at_snoc (set views id left) right u j e);
      once = λ k.
          let before : posts_times k v.posts ≡ posts_times k (Posts sender lists ∷ []) = ap (posts_times k) was in
          let after : posts_times k left.posts ≡ posts_times k (Posts sender more ∷ []) = ap (posts_times k) is in
          let sent : posts_times k right.posts ≡ posts_times k (Sent sender more ∷ []) = ap (posts_times k) told in
          omega (arith, total-append k (set views id left) right, total-set k views id v left at, h.once k);
      asked = asked-still h.posted sender more begins lines h.asked;
    }

-- a line is committed whose wake was asked for
pub say-among : (posted : ℕ → List (List ℕ)) (c : PostClaim) (cs : List PostClaim) → AllSay posted cs → IsAmong c cs → Says posted c
say-among posted c [] h among = absurd among
say-among posted c (d ∷ cs) h among =
    ⊎_elim (λ (same : d ≡ c). subst (λ (x : PostClaim). Says posted x) same h.0) (λ (later : IsAmong c cs). say-among posted c cs h.1 later) among

has-sent : (posted : ℕ → List (List ℕ)) (cs : List PostClaim) (sender home : ℕ) (tasks : List ℕ) → AllSay posted cs → HasSent cs sender home tasks → IsPrefix tasks (tasks_to (posted sender) home)
has-sent posted cs sender home tasks h sent = subst (λ (l : List ℕ). IsPrefix l (tasks_to (posted sender) home)) sent.are (say-among posted (Sent sender sent.lists) cs h sent.claimed home)

module _ (posted : ℕ → List (List ℕ)) (lines : List Line) (cs : List PostClaim) (h : AreAskedFor posted lines) (says : AllSay posted cs) where
  none-more : (sender home : ℕ) (more : List ℕ) → more ≡ [] → IsPrefix (wakes_from sender (lines_by home lines) ++ more) (tasks_to (posted sender) home)
  none-more sender home more none =
      subst (λ (l : List ℕ). IsPrefix l (tasks_to (posted sender) home)) (sym (ap (λ (l : List ℕ). wakes_from sender (lines_by home lines) ++ l) none ∙ append-nil _)) (h sender home)

  next : (d : Deed) (sender : ℕ) → IsAsked (lines_by (decider d) lines) cs d → IsPrefix (wakes_from sender (lines_by (decider d) lines) ++ wake_from sender d) (tasks_to (posted sender) (decider d))
  next (Wake cpu task by) sender asked =
      ⊎_elim
      (λ (same : sender ≡ by).
      subst (λ (l : List ℕ). IsPrefix (wakes_from sender (lines_by cpu lines) ++ l) (tasks_to (posted sender) cpu)) (sym (wake-own cpu task sender by (sym same)))
      (has-sent posted cs sender cpu (wakes_from sender (lines_by cpu lines) ++ task ∷ []) says
      (subst (λ (k : ℕ). HasSent cs k cpu (wakes_from k (lines_by cpu lines) ++ task ∷ [])) (sym same) asked)))
      (λ (apart : sender ≢ by). none-more sender cpu (wake_from sender (Wake cpu task by)) (wake-other cpu task sender by apart))
      (cases_eq sender by)
  next d sender asked = none-more sender (decider d) [] refl

  -- the lines of a home with one more of it, or of another CPU
  by-home : (l : Line) (sender home : ℕ) (b : Bool) → (decider l.deed == home) ≡ b → IsAsked (lines_by (decider l.deed) lines) cs l.deed
      → IsPrefix (wakes_from sender (lines_by home lines ++ cond b (l ∷ []) [])) (tasks_to (posted sender) home)
  by-home l sender home true e asked =
      let same : decider l.deed ≡ home = grind (arith, nat_tests) in
      subst (λ (k : ℕ). IsPrefix (wakes_from sender (lines_by k lines ++ l ∷ [])) (tasks_to (posted sender) k)) same
      (subst (λ (x : List ℕ). IsPrefix x (tasks_to (posted sender) (decider l.deed)))
      (sym (wakes-append sender (lines_by (decider l.deed) lines) (l ∷ []) ∙ ap (λ (x : List ℕ). wakes_from sender (lines_by (decider l.deed) lines) ++ x) (wakes-one sender l)))
      (next l.deed sender asked))
  by-home l sender home false e asked = subst (λ (x : List Line). IsPrefix (wakes_from sender x) (tasks_to (posted sender) home)) (sym (append-nil (lines_by home lines))) (h sender home)

  pub asked-more : (l : Line) → IsAsked (lines_by (decider l.deed) lines) cs l.deed → AreAskedFor posted (lines ++ l ∷ [])
  asked-more l asked sender home =
      subst (λ (x : List Line). IsPrefix (wakes_from sender x) (tasks_to (posted sender) home)) (sym (lines_by-more home lines l)) (by-home l sender home (decider l.deed == home) refl asked)

pub posted-lines : (lines : List Line) (l : Line) (views : List View) (id : ℕ) (v : View) → get_elem? views id ≡ option.some v → IsAsked (lines_by (decider l.deed) lines) v.posts l.deed
    → ArePosted lines views → ArePosted (lines ++ l ∷ []) views
posted-lines lines l views id v at asked h = record {
  posted = h.posted;
  say = h.say;
  once = h.once;
  asked = asked-more h.posted lines v.posts h.asked (h.say id v at) l asked;
}
