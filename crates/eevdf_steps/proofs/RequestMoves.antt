-- What each step makes of the requests from one caller to another.
use Rattle.std.proofs.Common.{append-nil, ◌≡◌, ◌≢◌, ℕ, suc, ◌+◌, ◌*◌, ◌<◌, ◌≤◌, Bool, true, false, cond, List, [], ◌∷◌, ◌++◌, length, drop, inl, inr, ◌⊎◌, sym, ap, subst, ◌∙◌, arith, refl}
use Rattle.std.proofs.Math.ListN.{length-append, length-set}
use Rattle.std.proofs.lemmas.{Nat.mul-add-lt, Nat.same_from_place, Option.slice_get_within}
use Rattle.std.proofs.lemmas.List.{drop-append-le, get_or-set_other, get_or-set_same}
use Rattle.std.proofs.lemmas.Bool.{cases_eq, ne_eqb, eq-eqb}
use Rattle.std.specs.Prelude.{slice_get, MatchOption, Option, Some, None}
use Rattle.std.specs.Option.{option_map, option_to_list}
use Rattle.eevdf_ops.specs.{declared.deeds.Op.Op, declared.deeds.Deed.Deed}
use Rattle.eevdf_ops.specs.Programs.{deed_of, deeds_by, wakes_in}
use Rattle.eevdf_steps.specs.{declared.micro.Micro.Micro, declared.plan.Step.Step, MicroSteps.steps_by}
use Rattle.eevdf_steps.specs.Commits.{committed, committed_by, wake_of}
use Rattle.eevdf_steps.specs.declared.micro.Micro.TheVariants.{Commit, Take, Settle}
use Rattle.eevdf_steps.specs.Plan.{IsSound, Plan, callers, pair}
use Rattle.eevdf_steps.specs.Counters.{Counters, count_of, counted, next, step_next}
use Rattle.eevdf_steps.specs.Requests.{Progress, found_by, left, oldest, posted, progress_by, requested, taken_of, takes}
use Rattle.eevdf_steps.proofs.CommittedLines.{to_settle, to_settle_next, unsettled}
use Rattle.eevdf_steps.proofs.CommittedPrograms.{count_other, other_deeds, own_deeds}
use Rattle.eevdf_steps.proofs.{Positions.step_in, Lists.drop_next, Posting.quiet, SoundSteps.is_caller, Walking.walking}
use Rattle.eevdf_steps.proofs.Requesting.{HasGrown, IsAsLong, IsElsewhere, as_long, elsewhere, posts_grow}
use Rattle.eevdf_steps.proofs.Walks.{FitsWalk, Taking, Walk}

-- who has found something settles it next
abbrev SettlesFound : Option Micro → Option ℕ → Type 0
SettlesFound m found = (found ≡ None) ⊎ ((q : ℕ) × (m ≡ Some (Settle q)))

pub record IsOrderly (plan : Plan) (g : Progress) (q c : ℕ) : Type 0 where
  pub each : length g.counters ≡ callers plan
  pub finds : length g.found ≡ callers plan
  pub takes : length g.taken ≡ callers plan * callers plan
  pub within : taken_of plan g q c ≤ length (posted plan g.counters q c)
  pub settles : SettlesFound (next plan g.counters c) (found_by g c)

-- what a step changes: more may be posted, and what was found or left is settled, found or left
pub record Moves (plan : Plan) (g h : Progress) (q c : ℕ) (wakes : List ℕ) : Type 0 where
  pub orderly : IsOrderly plan h q c
  pub posts : HasGrown (posted plan g.counters q c) (posted plan h.counters q c)
  pub flows : unsettled plan g q c ++ (left plan g q c ++ posts.extra) ≡ wakes ++ (unsettled plan h q c ++ left plan h q c)

pub nothing_found : (q : ℕ) (m : Option Micro) → to_settle_next q m None ≡ []
nothing_found q m = grind arith

-- a step that takes and settles nothing of this pair's
record Stays (plan : Plan) (g h : Progress) (q c : ℕ) : Type 0 where
  each : length h.counters ≡ callers plan
  finds : length h.found ≡ callers plan
  takes : length h.taken ≡ callers plan * callers plan
  taken : taken_of plan h q c ≡ taken_of plan g q c
  waiting : unsettled plan h q c ≡ unsettled plan g q c
  settles : SettlesFound (next plan h.counters c) (found_by h c)

stays : (plan : Plan) (g h : Progress) (q c : ℕ) (wakes : List ℕ) → IsOrderly plan g q c → HasGrown (posted plan g.counters q c) (posted plan h.counters q c)
    → Stays plan g h q c → wakes ≡ [] → Moves plan g h q c wakes
stays plan g h q c wakes o grow s none =
    let longer : length (posted plan h.counters q c) ≡ length (posted plan g.counters q c) + length grow.extra
    = ap (λ (l : List ℕ). length l) grow.grown ∙ length-append (posted plan g.counters q c) grow.extra in
    let lefts : left plan h q c ≡ left plan g q c ++ grow.extra
    = ap (λ (k : ℕ). drop k (posted plan h.counters q c)) s.taken ∙ ap (λ (l : List ℕ). drop (taken_of plan g q c) l) grow.grown
    ∙ drop-append-le (taken_of plan g q c) (posted plan g.counters q c) grow.extra o.within in
    record {
      orderly = record {
        each = s.each;
        finds = s.finds;
        takes = s.takes;
        within = subst (λ (k : ℕ). k ≤ length (posted plan h.counters q c)) (sym s.taken) (omega (arith, longer, o.within));
        settles = s.settles;
      };
      posts = grow;
      flows = ap (λ (l : List ℕ). unsettled plan g q c ++ l) (sym lefts) ∙ ap (λ (l : List ℕ). l ++ left plan h q c) (sym s.waiting)
          ∙ ap (λ (l : List ℕ). l ++ (unsettled plan h q c ++ left plan h q c)) (sym none);
    }

-- a step of another caller
next_other : (plan : Plan) (counters : Counters) (x c : ℕ) → c ≢ x → next plan (counted counters x) c ≡ next plan counters c
next_other plan counters x c apart = ap (λ (k : ℕ). option_map (λ (s : Step). s.micro) (slice_get (steps_by plan c) k)) (count_other counters x c apart)

other_moves : (plan : Plan) (g : Progress) (x q c : ℕ) (o : Op) (m : Micro) → x < callers plan → c < callers plan → c ≢ x
    → step_next plan g.counters x ≡ Some (step_in o m) → IsOrderly plan g q c
    → Moves plan g (record (requested plan g x m) { counters = counted g.counters x }) q c (wakes_in q (deeds_by c (option_to_list (committed (found_by g x) x o m))))
other_moves plan g x q c o m i j apart e ord =
    let h : Progress = record (requested plan g x m) { counters = counted g.counters x } in
    let there : IsElsewhere plan g (requested plan g x m) q c = elsewhere plan g x q c m i j apart in
    let long : IsAsLong g (requested plan g x m) = as_long plan g x m in
    stays plan g h q c (wakes_in q (deeds_by c (option_to_list (committed (found_by g x) x o m)))) ord
    (posts_grow plan g.counters x q c (step_in o m) (subst (λ (n : ℕ). x < n) (sym ord.each) i) e) (record {
      each = length-set g.counters x (count_of g.counters x + 1) ∙ ord.each;
      finds = long.found ∙ ord.finds;
      takes = long.taken ∙ ord.takes;
      taken = there.taken;
      waiting = ap (λ (n : Option Micro). to_settle_next q n (found_by h c)) (next_other plan g.counters x c apart)
          ∙ ap (λ (f : Option ℕ). to_settle_next q (next plan g.counters c) f) there.found;
      settles = subst (λ (n : Option Micro). SettlesFound n (found_by h c)) (sym (next_other plan g.counters x c apart))
          (subst (λ (f : Option ℕ). SettlesFound (next plan g.counters c) f) (sym there.found) ord.settles);
    }) (ap (λ (ds : List Deed). wakes_in q ds) (other_deeds (found_by g x) c x o m (λ same. apart (sym same))))

-- a step of the home that neither takes nor settles: it has found nothing
abbrev is_settle : Option Micro → Bool
is_settle (Some (Settle s)) = true
is_settle other = false

found_nothing : (m : Option Micro) (found : Option ℕ) → is_settle m ≡ false → SettlesFound m found → found ≡ None
found_nothing m found e s = grind arith

record Goes (plan : Plan) (g : Progress) (q c : ℕ) (o : Op) (m : Micro) : Type 0 where
  caller : c < callers plan
  step : step_next plan g.counters c ≡ Some (step_in o m)
  orderly : IsOrderly plan g q c

next_is : (plan : Plan) (g : Progress) (q c : ℕ) (o : Op) (m : Micro) → Goes plan g q c o m → next plan g.counters c ≡ Some m
next_is plan g q c o m s = ap (λ (r : Option Step). option_map (λ (t : Step). t.micro) r) s.step

idles : (plan : Plan) (g : Progress) (q c : ℕ) (o : Op) (m : Micro) → Goes plan g q c o m → is_settle (Some m) ≡ false
    → wakes_in q (option_to_list (committed (found_by g c) c o m)) ≡ []
    → Moves plan g (record g { counters = counted g.counters c }) q c (wakes_in q (deeds_by c (option_to_list (committed (found_by g c) c o m))))
idles plan g q c o m s quietly none =
    let nothing : found_by g c ≡ None
    = found_nothing (next plan g.counters c) (found_by g c) (ap is_settle (next_is plan g q c o m s) ∙ quietly) s.orderly.settles in
    stays plan g (record g { counters = counted g.counters c }) q c (wakes_in q (deeds_by c (option_to_list (committed (found_by g c) c o m)))) s.orderly
    (posts_grow plan g.counters c q c (step_in o m) (subst (λ (n : ℕ). c < n) (sym s.orderly.each) s.caller) s.step) (record {
      each = length-set g.counters c (count_of g.counters c + 1) ∙ s.orderly.each;
      finds = s.orderly.finds;
      takes = s.orderly.takes;
      taken = refl;
      waiting = ap (λ (f : Option ℕ). to_settle_next q (next plan (counted g.counters c) c) f) nothing ∙ nothing_found q (next plan (counted g.counters c) c)
          ∙ sym (ap (λ (f : Option ℕ). to_settle_next q (next plan g.counters c) f) nothing ∙ nothing_found q (next plan g.counters c));
      settles = inl nothing;
    }) (ap (λ (ds : List Deed). wakes_in q ds) (own_deeds (found_by g c) c o m) ∙ none)

commit_wakes : (q c : ℕ) (o : Op) → wakes_in q (option_to_list (deed_of c o)) ≡ []
commit_wakes q c o = grind arith

-- the home settles what it found
settle_wakes : (q c s : ℕ) (found : Option ℕ) → wakes_in q (option_to_list (wake_of c s found)) ≡ to_settle q (Settle s) found
settle_wakes q c s found = grind arith

settles : (plan : Plan) (g : Progress) (q c s : ℕ) (o : Op) → Goes plan g q c o (Settle s)
    → Moves plan g (record (requested plan g c (Settle s)) { counters = counted g.counters c }) q c
    (wakes_in q (deeds_by c (option_to_list (committed (found_by g c) c o (Settle s)))))
settles plan g q c s o t =
    let h : Progress = record (requested plan g c (Settle s)) { counters = counted g.counters c } in
    let same : posted plan h.counters q c ≡ posted plan g.counters q c
    = quiet plan g.counters c q c (step_in o (Settle s)) (subst (λ (n : ℕ). c < n) (sym t.orderly.each) t.caller) t.step refl in
    let nothing : found_by h c ≡ None = get_or-set_same g.found c None None (subst (λ (n : ℕ). c < n) (sym t.orderly.finds) t.caller) in
    let mine : wakes_in q (deeds_by c (option_to_list (committed (found_by g c) c o (Settle s)))) ≡ unsettled plan g q c
    = ap (λ (ds : List Deed). wakes_in q ds) (own_deeds (found_by g c) c o (Settle s)) ∙ settle_wakes q c s (found_by g c)
    ∙ sym (ap (λ (n : Option Micro). to_settle_next q n (found_by g c)) (next_is plan g q c o (Settle s) t)) in
    let none : unsettled plan h q c ≡ []
    = ap (λ (f : Option ℕ). to_settle_next q (next plan h.counters c) f) nothing ∙ nothing_found q (next plan h.counters c) in
    record {
      orderly = record {
        each = length-set g.counters c (count_of g.counters c + 1) ∙ t.orderly.each;
        finds = length-set g.found c None ∙ t.orderly.finds;
        takes = t.orderly.takes;
        within = subst (λ (l : List ℕ). taken_of plan g q c ≤ length l) (sym same) t.orderly.within;
        settles = inl nothing;
      };
      posts = record { extra = []; grown = same ∙ sym (append-nil (posted plan g.counters q c)) };
      flows = ap (λ (l : List ℕ). unsettled plan g q c ++ l) (append-nil (left plan g q c) ∙ ap (λ (l : List ℕ). drop (taken_of plan g q c) l) (sym same))
          ∙ ap (λ (l : List ℕ). l ++ left plan h q c) (sym mine)
          ∙ ap (λ (l : List ℕ). wakes_in q (deeds_by c (option_to_list (committed (found_by g c) c o (Settle s)))) ++ (l ++ left plan h q c)) (sym none);
    }

-- the home takes a request, which it settles next
record Grasps (plan : Plan) (g : Progress) (q c s : ℕ) (o : Op) : Type 0 where
  goes : Goes plan g q c o (Take s)
  sender : s < callers plan
  follows : next plan (counted g.counters c) c ≡ Some (Settle s)

grasps : (plan : Plan) (g : Progress) (q c s : ℕ) (o : Op) → IsSound plan → Goes plan g q c o (Take s) → Grasps plan g q c s o
grasps plan g q c s o sound t =
    let w : Walk plan g.counters c = walking plan g.counters c sound t.orderly.each t.caller in
    let following : Option Step = step_next plan (counted g.counters c) c in
    let fits : Taking plan c w.held o s following
    = subst (λ (r : Option Step). MatchOption r (w.held ≡ []) (λ u. FitsWalk plan c w.held u following)) t.step w.fits in
    record { goes = t; sender = fits.sender; follows = ap (λ (r : Option Step). option_map (λ (u : Step). u.micro) r) fits.follows }

taking_waits : (plan : Plan) (g : Progress) (q c s : ℕ) (o : Op) → Goes plan g q c o (Take s) → unsettled plan g q c ≡ []
taking_waits plan g q c s o t = ap (λ (n : Option Micro). to_settle_next q n (found_by g c)) (next_is plan g q c o (Take s) t)

takes_none : (plan : Plan) (g : Progress) (q c s : ℕ) (o : Op) → Goes plan g q c o (Take s)
    → Moves plan g (record (takes plan g c s None) { counters = counted g.counters c }) q c []
takes_none plan g q c s o t =
    let h : Progress = record (takes plan g c s None) { counters = counted g.counters c } in
    let nothing : found_by h c ≡ None = get_or-set_same g.found c None None (subst (λ (n : ℕ). c < n) (sym t.orderly.finds) t.caller) in
    stays plan g h q c [] t.orderly (posts_grow plan g.counters c q c (step_in o (Take s)) (subst (λ (n : ℕ). c < n) (sym t.orderly.each) t.caller) t.step) (record {
      each = length-set g.counters c (count_of g.counters c + 1) ∙ t.orderly.each;
      finds = length-set g.found c None ∙ t.orderly.finds;
      takes = t.orderly.takes;
      taken = refl;
      waiting = ap (λ (f : Option ℕ). to_settle_next q (next plan h.counters c) f) nothing ∙ nothing_found q (next plan h.counters c)
          ∙ sym (taking_waits plan g q c s o t);
      settles = inl nothing;
    }) refl

-- of another sender than the one meant
takes_elsewhere : (plan : Plan) (g : Progress) (q c s task : ℕ) (o : Op) → Grasps plan g q c s o → s ≢ q
    → Moves plan g (record (takes plan g c s (Some task)) { counters = counted g.counters c }) q c []
takes_elsewhere plan g q c s task o t apart =
    let h : Progress = record (takes plan g c s (Some task)) { counters = counted g.counters c } in
    let ord : IsOrderly plan g q c = t.goes.orderly in
    stays plan g h q c [] ord (posts_grow plan g.counters c q c (step_in o (Take s)) (subst (λ (n : ℕ). c < n) (sym ord.each) t.goes.caller) t.goes.step) (record {
      each = length-set g.counters c (count_of g.counters c + 1) ∙ ord.each;
      finds = length-set g.found c (Some task) ∙ ord.finds;
      takes = length-set g.taken (pair plan s c) (taken_of plan g s c + 1) ∙ ord.takes;
      taken = get_or-set_other g.taken (pair plan s c) (pair plan q c) (taken_of plan g s c + 1) 0
          (λ same. apart (sym (same_from_place q c s c (callers plan) t.goes.caller t.goes.caller same).0));
      waiting = ap (λ (n : Option Micro). to_settle_next q n (found_by h c)) t.follows
          ∙ ap (λ (b : Bool). cond b (option_to_list (found_by h c)) []) (ne_eqb s q apart) ∙ sym (taking_waits plan g q c s o t.goes);
      settles = inr (s, t.follows);
    }) refl

-- the oldest request of the sender that is meant
takes_oldest : (plan : Plan) (g : Progress) (q c task : ℕ) (o : Op) → Grasps plan g q c q o → oldest plan g q c ≡ Some task
    → Moves plan g (record (takes plan g c q (Some task)) { counters = counted g.counters c }) q c []
takes_oldest plan g q c task o t e =
    let h : Progress = record (takes plan g c q (Some task)) { counters = counted g.counters c } in
    let ord : IsOrderly plan g q c = t.goes.orderly in
    let place : pair plan q c < length g.taken
    = subst (λ (n : ℕ). pair plan q c < n) (sym ord.takes) (mul-add-lt q (callers plan) c (callers plan) t.sender t.goes.caller) in
    let same : posted plan h.counters q c ≡ posted plan g.counters q c
    = quiet plan g.counters c q c (step_in o (Take q)) (subst (λ (n : ℕ). c < n) (sym ord.each) t.goes.caller) t.goes.step refl in
    let more : taken_of plan h q c ≡ suc (taken_of plan g q c)
    = get_or-set_same g.taken (pair plan q c) (taken_of plan g q c + 1) 0 place
    ∙ (let one : taken_of plan g q c + 1 ≡ suc (taken_of plan g q c) = omega arith in one) in
    let found : found_by h c ≡ Some task = get_or-set_same g.found c (Some task) None (subst (λ (n : ℕ). c < n) (sym ord.finds) t.goes.caller) in
    let waits : unsettled plan h q c ≡ task ∷ []
    = ap (λ (n : Option Micro). to_settle_next q n (found_by h c)) t.follows
    ∙ ap (λ (f : Option ℕ). to_settle q (Settle q) f) found ∙ ap (λ (b : Bool). cond b (task ∷ []) []) (eq-eqb q q refl) in
    let rest : left plan h q c ≡ drop (suc (taken_of plan g q c)) (posted plan g.counters q c)
    = ap (λ (k : ℕ). drop k (posted plan h.counters q c)) more ∙ ap (λ (l : List ℕ). drop (suc (taken_of plan g q c)) l) same in
    let below : taken_of plan g q c < length (posted plan g.counters q c) = slice_get_within (posted plan g.counters q c) (taken_of plan g q c) task e in
    record {
      orderly = record {
        each = length-set g.counters c (count_of g.counters c + 1) ∙ ord.each;
        finds = length-set g.found c (Some task) ∙ ord.finds;
        takes = length-set g.taken (pair plan q c) (taken_of plan g q c + 1) ∙ ord.takes;
        within = subst (λ (l : List ℕ). taken_of plan h q c ≤ length l) (sym same) (omega (arith, more, below));
        settles = inr (q, t.follows);
      };
      posts = record { extra = []; grown = same ∙ sym (append-nil (posted plan g.counters q c)) };
      flows = ap (λ (l : List ℕ). l ++ (left plan g q c ++ [])) (taking_waits plan g q c q o t.goes) ∙ append-nil (left plan g q c)
          ∙ drop_next (posted plan g.counters q c) (taken_of plan g q c) task e
          ∙ ap (λ (l : List ℕ). task ∷ l) (sym rest) ∙ ap (λ (l : List ℕ). l ++ left plan h q c) (sym waits);
    }

grasp_moves : (plan : Plan) (g : Progress) (q c s : ℕ) (o : Op) (r : Option ℕ) → Grasps plan g q c s o → oldest plan g s c ≡ r
    → Moves plan g (record (takes plan g c s r) { counters = counted g.counters c }) q c []
grasp_moves plan g q c s o None t e = takes_none plan g q c s o t.goes
grasp_moves plan g q c s o (Some task) t e =
    elim (cases_eq s q) [
      | inl same ↦ subst
          (λ (y : ℕ). Grasps plan g q c y o → oldest plan g y c ≡ Some task → Moves plan g (record (takes plan g c y (Some task)) { counters = counted g.counters c }) q c [])
          (sym same) (takes_oldest plan g q c task o) t e
      | inr apart ↦ takes_elsewhere plan g q c s task o t apart
    ]

own_moves : (plan : Plan) (g : Progress) (q c : ℕ) (o : Op) (m : Micro) → IsSound plan → Goes plan g q c o m
    → Moves plan g (record (requested plan g c m) { counters = counted g.counters c }) q c (wakes_in q (deeds_by c (option_to_list (committed (found_by g c) c o m))))
own_moves plan g q c o (Take s) sound t = grasp_moves plan g q c s o (oldest plan g s c) (grasps plan g q c s o sound t) refl
own_moves plan g q c o (Settle s) sound t = settles plan g q c s o t
own_moves plan g q c o Commit sound t = idles plan g q c o Commit t refl (commit_wakes q c o)
own_moves plan g q c o m sound t = idles plan g q c o m t refl refl

pub step_moves : (plan : Plan) (g : Progress) (x q c : ℕ) (r : Option Step) → IsSound plan → c < callers plan → IsOrderly plan g q c → step_next plan g.counters x ≡ r
    → Moves plan g (progress_by plan g x r) q c (wakes_in q (deeds_by c (committed_by g x r)))
step_moves plan g x q c None sound caller ord e = record {
  orderly = ord;
  posts = record { extra = []; grown = sym (append-nil (posted plan g.counters q c)) };
  flows = ap (λ (l : List ℕ). unsettled plan g q c ++ l) (append-nil (left plan g q c));
}
step_moves plan g x q c (Some s) sound caller ord e =
    elim (cases_eq c x) [
      | inl same ↦ subst
          (λ (y : ℕ). step_next plan g.counters y ≡ Some s → Moves plan g (progress_by plan g y (Some s)) q c (wakes_in q (deeds_by c (committed_by g y (Some s)))))
          same (λ here. own_moves plan g q c s.op s.micro sound (record { caller = caller; step = here; orderly = ord })) e
      | inr apart ↦ other_moves plan g x q c s.op s.micro (is_caller plan g.counters x s e) caller apart e ord
    ]
