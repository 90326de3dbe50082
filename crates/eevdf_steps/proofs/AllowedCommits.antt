-- Every order of a sound plan commits only deeds that are allowed.
use Rattle.std.proofs.Common.{◌≡◌, ℕ, zero, suc, ◌<◌, Bool, true, false, cond, List, [], ◌∷◌, length, get_or, set, take, inl, inr, sym, subst, refl}
use Rattle.std.proofs.lemmas.{List.Elements.All-take, List.Sums.AllPass-from_list_all, List.Sums.list_all-from_AllPass}
use Rattle.std.proofs.lemmas.{List.get_or-set_other, Bool.and_from, Bool.and_parts, Bool.cases_eq, Bool.lt-ltb, Bool.ltb-true}
use Rattle.std.specs.{List.list_all, Option.option_to_list}
use Rattle.std.specs.Prelude.{◌==◌, nat_lt, slice_get, IfSome, Option, Some, None}
use Rattle.eevdf_ops.specs.{declared.deeds.Op.Op, declared.deeds.Deed.Deed}
use Rattle.eevdf_ops.specs.Programs.{deed_of}
use Rattle.eevdf_ops.specs.Setup.{Setup, allows, is_allowed, is_at_home}
use Rattle.eevdf_steps.specs.{declared.micro.Micro.Micro, declared.plan.Step.Step, MicroSteps.steps_by, SoundSteps.is_sound_micro}
use Rattle.eevdf_steps.specs.{SoundSteps.is_sound_step, declared.micro.Micro.TheVariants.Take}
use Rattle.eevdf_steps.specs.declared.micro.Micro.TheVariants.{Commit, Settle, Post}
use Rattle.eevdf_steps.specs.Counters.{count_of, done_by, step_next}
use Rattle.eevdf_steps.specs.Plan.{IsSound, Plan, callers, fits_cpu, home, is_sound_op, plan_of}
use Rattle.eevdf_steps.specs.Requests.{Progress, found_by, oldest, post_to, posted, posts_to, progress_at_start, progress_by, progress_step, requested, taken_of, takes}
use Rattle.eevdf_steps.specs.Commits.{commits, committed, committed_by, deeds_committed}
use Rattle.eevdf_steps.proofs.{Holders.none_first, SoundDeeds.allowed_op, SoundDeeds.next_fits_cpu}
use Rattle.eevdf_steps.proofs.SoundSteps.{all_joined, all_steps_sound, is_caller, some_all, step_sound}

all_taken : {A : Type 0} (test : A → Bool) (xs : List A) (k : ℕ) → list_all test xs ≡ true → list_all test (take k xs) ≡ true
all_taken test xs k all = list_all-from_AllPass test (take k xs) (All-take (λ x. test x ≡ true) k xs (AllPass-from_list_all test xs all))

-- an element of a list all of whose elements pass, where there is one
some_passes : {A : Type 0} (test : A → Bool) (xs : List A) (k : ℕ) (r : Option A) → list_all test xs ≡ true → slice_get xs k ≡ r → IfSome r (λ (x : A). test x ≡ true)
some_passes test xs k None all e = tt
some_passes test xs k (Some x) all e = some_all test xs k x all e

-- a request to a home is for a task of that home
abbrev IsForHome : Plan → ℕ → Option ℕ → Type 0
IsForHome plan c r = IfSome r (λ (task : ℕ). is_at_home plan.homes task c ≡ true)

post_is_for_home : (plan : Plan) (c t : ℕ) (b : Bool) → (home plan t == c) ≡ b → nat_lt t (length plan.homes) ≡ true
    → list_all (λ (k : ℕ). is_at_home plan.homes k c) (cond b (t ∷ []) []) ≡ true
post_is_for_home plan c t true at there = and_from _ true (and_from _ _ there at) refl
post_is_for_home plan c t false at there = refl

micro_posts : (plan : Plan) (c : ℕ) (m : Micro) → is_sound_micro plan m ≡ true → list_all (λ (t : ℕ). is_at_home plan.homes t c) (post_to plan c m) ≡ true
micro_posts plan c (Post t) sound = post_is_for_home plan c t (home plan t == c) refl sound
micro_posts plan c _ sound = refl

posts_are_for_home : (plan : Plan) (c : ℕ) (ss : List Step) → list_all (is_sound_step plan) ss ≡ true → list_all (λ (t : ℕ). is_at_home plan.homes t c) (posts_to plan c ss) ≡ true
posts_are_for_home plan c [] all = refl
posts_are_for_home plan c (s ∷ ss) all =
    let parts = and_parts (is_sound_step plan s) (list_all (is_sound_step plan) ss) all in
    let micro = (and_parts (is_sound_op plan s.op) (is_sound_micro plan s.micro) parts.0).1 in
    all_joined (λ (t : ℕ). is_at_home plan.homes t c) (post_to plan c s.micro) (posts_to plan c ss) (micro_posts plan c s.micro micro) (posts_are_for_home plan c ss parts.1)

oldest_is_for_home : (plan : Plan) (g : Progress) (q c : ℕ) → IsSound plan → q < callers plan → IsForHome plan c (oldest plan g q c)
oldest_is_for_home plan g q c sound h =
    some_passes (λ (t : ℕ). is_at_home plan.homes t c) (posted plan g.counters q c) (taken_of plan g q c) (oldest plan g q c)
    (posts_are_for_home plan c (done_by plan g.counters q)
    (all_taken (is_sound_step plan) (steps_by plan q) (count_of g.counters q) (all_steps_sound plan q sound h))) refl

-- what the callers have found are requests to their own homes
abbrev FindTheirOwn : Plan → Progress → Type 0
FindTheirOwn plan g = (c : ℕ) → IsForHome plan c (found_by g c)

found_first : (plan : Plan) → FindTheirOwn plan (progress_at_start plan)
found_first plan c = subst (λ (r : Option ℕ). IsForHome plan c r) (sym (none_first (callers plan) c)) tt

found_now : (P : Option ℕ → Type 0) (found : List (Option ℕ)) (x : ℕ) (r : Option ℕ) → P None → P r → P (get_or (set found x r) x None)
found_now P [] x r none new = none
found_now P (f ∷ fs) zero r none new = new
found_now P (f ∷ fs) (suc x) r none new = found_now P fs x r none new

-- a caller finds something, or nothing
found_next : (plan : Plan) (found : List (Option ℕ)) (x : ℕ) (r : Option ℕ) → ((c : ℕ) → IsForHome plan c (get_or found c None)) → IsForHome plan x r
    → (c : ℕ) → IsForHome plan c (get_or (set found x r) c None)
found_next plan found x r own new c =
    elim (cases_eq c x) [
      | inl same ↦ subst (λ (k : ℕ). IsForHome plan k (get_or (set found x r) k None)) (sym same) (found_now (IsForHome plan x) found x r tt new)
      | inr apart ↦ subst (IsForHome plan c) (sym (get_or-set_other found x c r None apart)) (own c)
    ]

takes_own : (plan : Plan) (g : Progress) (x s : ℕ) (r : Option ℕ) → FindTheirOwn plan g → IsForHome plan x r → FindTheirOwn plan (takes plan g x s r)
takes_own plan g x s None own new = found_next plan g.found x None own new
takes_own plan g x s (Some task) own new = found_next plan g.found x (Some task) own new

requested_own : (plan : Plan) (g : Progress) (x : ℕ) (m : Micro) → IsSound plan → is_sound_micro plan m ≡ true → FindTheirOwn plan g → FindTheirOwn plan (requested plan g x m)
requested_own plan g x (Take s) sound well own =
    takes_own plan g x s (oldest plan g s x) own (oldest_is_for_home plan g s x sound (ltb-true s (callers plan) well))
requested_own plan g x (Settle s) sound well own = found_next plan g.found x None own tt
requested_own plan g x _ sound well own = own

-- what is known of a step that a caller is to do
record SoundStep (plan : Plan) (g : Progress) (x : ℕ) (s : Step) : Type 0 where
  caller : x < callers plan
  op : is_sound_op plan s.op ≡ true
  micro : is_sound_micro plan s.micro ≡ true
  fits : fits_cpu plan.homes x s.op ≡ true

sound_step : (plan : Plan) (g : Progress) (x : ℕ) (s : Step) → IsSound plan → step_next plan g.counters x ≡ Some s → SoundStep plan g x s
sound_step plan g x s sound e =
    let caller : x < callers plan = is_caller plan g.counters x s e in
    let parts = and_parts (is_sound_op plan s.op) (is_sound_micro plan s.micro) (step_sound plan g.counters x s sound caller e) in
    record { caller = caller; op = parts.0; micro = parts.1; fits = next_fits_cpu plan g.counters x s sound e }

abbrev AllAllowed : Plan → List Deed → Type 0
AllAllowed plan deeds = list_all (is_allowed (callers plan) plan.homes) deeds ≡ true

if_any_allowed : (plan : Plan) (r : Option Deed) → ((d : Deed) → r ≡ Some d → is_allowed (callers plan) plan.homes d ≡ true) → AllAllowed plan (option_to_list r)
if_any_allowed plan None all = refl
if_any_allowed plan (Some d) all = and_from _ true (all d refl) refl

micro_allowed : (plan : Plan) (found : Option ℕ) (x : ℕ) (o : Op) (m : Micro) → x < callers plan → is_sound_op plan o ≡ true → fits_cpu plan.homes x o ≡ true
    → is_sound_micro plan m ≡ true → IsForHome plan x found → AllAllowed plan (option_to_list (committed found x o m))
micro_allowed plan found x o Commit h sound fits well own = if_any_allowed plan (deed_of x o) (λ d e. allowed_op plan x o d h sound fits e)
micro_allowed plan None x o (Settle s) h sound fits well own = refl
micro_allowed plan (Some task) x o (Settle s) h sound fits well own = and_from _ true (and_from _ _ (lt-ltb x (callers plan) h) (and_from _ _ well own)) refl
micro_allowed plan found x o _ h sound fits well own = refl

-- a step commits what is allowed, and leaves each caller with requests of its own
step_allowed : (plan : Plan) (g : Progress) (x : ℕ) (r : Option Step) → IsSound plan → FindTheirOwn plan g → step_next plan g.counters x ≡ r
    → AllAllowed plan (committed_by g x r) × FindTheirOwn plan (progress_by plan g x r)
step_allowed plan g x None sound own e = (refl, own)
step_allowed plan g x (Some s) sound own e =
    let st : SoundStep plan g x s = sound_step plan g x s sound e in
    (micro_allowed plan (found_by g x) x s.op s.micro st.caller st.op st.fits st.micro (own x), requested_own plan g x s.micro sound st.micro own)

allowed_from : (plan : Plan) (g : Progress) (order : List ℕ) → IsSound plan → FindTheirOwn plan g → AllAllowed plan (commits plan g order)
allowed_from plan g [] sound own = refl
allowed_from plan g (x ∷ order) sound own =
    let step = step_allowed plan g x (step_next plan g.counters x) sound own refl in
    all_joined (is_allowed (callers plan) plan.homes) (committed_by g x (step_next plan g.counters x)) (commits plan (progress_step plan g x) order) step.0
    (allowed_from plan (progress_step plan g x) order sound step.1)

pub commits_allowed : (plan : Plan) (order : List ℕ) → IsSound plan → list_all (is_allowed (callers plan) plan.homes) (commits plan (progress_at_start plan) order) ≡ true
commits_allowed plan order sound = allowed_from plan (progress_at_start plan) order sound (found_first plan)

pub deeds_allowed : (setup : Setup) (order : List ℕ) → IsSound (plan_of setup) → list_all (allows setup) (deeds_committed setup order) ≡ true
deeds_allowed setup order sound = commits_allowed (plan_of setup) order sound
