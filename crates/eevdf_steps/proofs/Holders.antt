-- What becomes of the locks at a step.
use Rattle.std.proofs.Common.{◌≡◌, ◌≢◌, ℕ, zero, suc, ◌+◌, ◌-◌, ◌<◌, ◌≤◌, Bool, true, false, cond, List, [], ◌∷◌, ◌++◌, length, take, drop, get_or, set, replicate, inl, inr, sym, ap, subst, ◌∙◌, arith, refl}
use Rattle.std.proofs.lemmas.Bool.{and_parts, false≢true, cases_eq, cases_lt, eqb-true, ltb-true, eq-eqb, ne_eqb}
use Rattle.std.proofs.lemmas.{List.length-set, List.get_or-set_same, List.get_or-set_other, List.get_or_read, Grind.common_steps}
use Rattle.std.proofs.Math.Seq.{take-append_seam}
use Rattle.std.specs.Prelude.{nat_lt, slice_get, Option, Some, None}
use Rattle.eevdf_steps.specs.{declared.micro.Micro.Micro, declared.plan.Step.Step, declared.micro.Micro.TheVariants.Acquire}
use Rattle.eevdf_steps.specs.{declared.micro.Micro.TheVariants.Release, MicroSteps.steps_by, Orders.counters_at_start}
use Rattle.eevdf_steps.specs.{SoundSteps.is_sound_micro, SoundSteps.is_sound_step, Plan.Plan, Plan.callers, Plan.is_sound_op}
use Rattle.eevdf_steps.specs.Counters.{Counters, blocked_by, count_of, counted, held_after, held_by_steps, holder, holds, least, refused, step_next}
use Rattle.eevdf_steps.specs.Holders.{AreHolders, given_up, holders_after, is_holder, names_lock}

pub take_next : {A : Type 0} (xs : List A) (k : ℕ) (x : A) → slice_get xs k ≡ Some x → take (suc k) xs ≡ take k xs ++ x ∷ []
take_next [] k x e = cc
take_next (y ∷ xs) zero x e = let same : y ≡ x = cc in ap (λ z. z ∷ []) same
take_next (y ∷ xs) (suc k) x e = ap (λ zs. y ∷ zs) (take_next xs k x e)

held_next : (cpu : ℕ) (held : Bool) (ss : List Step) (s : Step) → held_by_steps cpu held (ss ++ s ∷ []) ≡ held_after cpu (held_by_steps cpu held ss) s.micro
held_next cpu held [] s = refl
held_next cpu held (t ∷ ss) s = held_next cpu (held_after cpu held t.micro) ss s

-- the caller of a step
pub holds_own : (plan : Plan) (counters : Counters) (cpu p : ℕ) (s : Step) → p < length counters → step_next plan counters p ≡ Some s
    → holds plan (counted counters p) cpu p ≡ held_after cpu (holds plan counters cpu p) s.micro
holds_own plan counters cpu p s h e =
    ap (λ (k : ℕ). held_by_steps cpu false (take k (steps_by plan p)))
    (get_or-set_same counters p (count_of counters p + 1) 0 h ∙ (let one : count_of counters p + 1 ≡ suc (count_of counters p) = omega arith in one))
    ∙ ap (λ (ss : List Step). held_by_steps cpu false ss) (take_next (steps_by plan p) (count_of counters p) s e)
    ∙ held_next cpu false (take (count_of counters p) (steps_by plan p)) s

-- any other caller
pub holds_other : (plan : Plan) (counters : Counters) (cpu p q : ℕ) → q ≢ p → holds plan (counted counters p) cpu q ≡ holds plan counters cpu q
holds_other plan counters cpu p q apart =
    ap (λ (k : ℕ). held_by_steps cpu false (take k (steps_by plan q))) (get_or-set_other counters p q (count_of counters p + 1) 0 apart)

least_same : (f g : ℕ → Bool) (from n : ℕ) → ((p : ℕ) → f p ≡ g p) → least f from n ≡ least g from n
least_same f g from zero same = refl
least_same f g from (suc n) same =
    ap (λ (b : Bool). cond b (Some from) (least f (from + 1) n)) (same from) ∙ ap (λ (o : Option ℕ). cond (g from) (Some from) o) (least_same f g (from + 1) n same)

least_none : (from n : ℕ) → least (is_holder None) from n ≡ None
least_none from zero = refl
least_none from (suc n) = least_none (from + 1) n

least_some : (q from n : ℕ) → from ≤ q → q < from + n → least (is_holder (Some q)) from n ≡ Some q
least_some q from zero low high = absurd (omega arith)
least_some q from (suc n) low high = grind (arith, least_some q (from + 1) n)

taken_none : (cpu k : ℕ) → held_by_steps cpu false (take k []) ≡ false
taken_none cpu zero = refl
taken_none cpu (suc k) = refl

pub nobody_past : (plan : Plan) (counters : Counters) (cpu p : ℕ) → callers plan ≤ p → holds plan counters cpu p ≡ false
nobody_past plan counters cpu p h = grind (arith, common_steps)

holder_below : (plan : Plan) (counters : Counters) (holders : List (Option ℕ)) (cpu : ℕ) (h : Option ℕ) → cpu < callers plan → AreHolders plan counters holders
    → get_or holders cpu None ≡ h → least (is_holder h) 0 (callers plan) ≡ h
holder_below plan counters holders cpu None k a e = least_none 0 (callers plan)
holder_below plan counters holders cpu (Some q) k a e =
    elim (cases_lt q (callers plan)) [
      | inl below ↦ least_some q 0 (callers plan) (omega arith) (omega arith)
      | inr past ↦ absurd (false≢true (sym (nobody_past plan counters cpu q past) ∙ a.held cpu q k ∙ ap (λ (o : Option ℕ). is_holder o q) e ∙ eq-eqb q q refl))
    ]

-- the holder that is written down is the holder
pub holder_is : (plan : Plan) (counters : Counters) (holders : List (Option ℕ)) (cpu : ℕ) → cpu < callers plan → AreHolders plan counters holders
    → holder plan counters cpu ≡ get_or holders cpu None
holder_is plan counters holders cpu k a =
    least_same (holds plan counters cpu) (is_holder (get_or holders cpu None)) 0 (callers plan) (λ p. a.held cpu p k)
    ∙ holder_below plan counters holders cpu (get_or holders cpu None) k a refl

-- what a step of a caller does to its own hold of a lock
abbrev Follows : Plan → Counters → ℕ → Micro → Type 0
Follows plan counters p m = (cpu : ℕ) → holds plan (counted counters p) cpu p ≡ held_after cpu (holds plan counters cpu p) m

abbrev Matches : Plan → Counters → List (Option ℕ) → ℕ → ℕ → Type 0
Matches plan counters holders cpu q = holds plan counters cpu q ≡ is_holder (get_or holders cpu None) q

-- at any other lock nothing changes
elsewhere : (plan : Plan) (counters : Counters) (holders : List (Option ℕ)) (p c cpu q : ℕ) (h : Option ℕ)
    → cpu ≢ c → Matches plan counters holders cpu q → holds plan (counted counters p) cpu q ≡ holds plan counters cpu q
    → Matches plan (counted counters p) (set holders c h) cpu q
elsewhere plan counters holders p c cpu q h apart here same =
    same ∙ here ∙ ap (λ (o : Option ℕ). is_holder o q) (sym (get_or-set_other holders c cpu h None apart))

-- nor at a lock that the step leaves as it is
stays : (plan : Plan) (counters : Counters) (p : ℕ) (m : Micro) (cpu q : ℕ) → Follows plan counters p m → held_after cpu (holds plan counters cpu p) m ≡ holds plan counters cpu p
    → holds plan (counted counters p) cpu q ≡ holds plan counters cpu q
stays plan counters p m cpu q follows still =
    elim (cases_eq q p) [
      | inl same ↦ ap (λ (k : ℕ). holds plan (counted counters p) cpu k) same ∙ follows cpu ∙ still ∙ ap (λ (k : ℕ). holds plan counters cpu k) (sym same)
      | inr apart ↦ holds_other plan counters cpu p q apart
    ]

acquires_at : (plan : Plan) (counters : Counters) (holders : List (Option ℕ)) (p c q : ℕ) → AreHolders plan counters holders → Follows plan counters p (Acquire c)
    → c < callers plan → get_or holders c None ≡ None → holds plan (counted counters p) c q ≡ is_holder (Some p) q
acquires_at plan counters holders p c q a follows below free =
    elim (cases_eq q p) [
      | inl same ↦
          ap (λ (k : ℕ). holds plan (counted counters p) c k) same ∙ follows c ∙ ap (λ (b : Bool). cond b true (holds plan counters c p)) (eq-eqb c c refl)
          ∙ sym (eq-eqb p q (sym same))
      | inr apart ↦
          holds_other plan counters c p q apart ∙ a.held c q below ∙ ap (λ (o : Option ℕ). is_holder o q) free ∙ sym (ne_eqb p q (λ e. apart (sym e)))
    ]

-- the holder of one lock is written down
written : (plan : Plan) (counters : Counters) (holders : List (Option ℕ)) (p c : ℕ) (h : Option ℕ) → AreHolders plan counters holders → c < callers plan
    → ((q : ℕ) → holds plan (counted counters p) c q ≡ is_holder h q)
    → ((cpu q : ℕ) → cpu ≢ c → holds plan (counted counters p) cpu q ≡ holds plan counters cpu q) → AreHolders plan (counted counters p) (set holders c h)
written plan counters holders p c h a below here other = record {
  each = length-set holders c h ∙ a.each;
  held = λ cpu q k. elim (cases_eq cpu c) [
    | inl same ↦
        ap (λ (i : ℕ). holds plan (counted counters p) i q) same ∙ here q
        ∙ ap (λ (o : Option ℕ). is_holder o q) (sym (get_or-set_same holders c h None (omega (arith, below, a.each))))
        ∙ ap (λ (i : ℕ). is_holder (get_or (set holders c h) i None) q) (sym same)
    | inr apart ↦ elsewhere plan counters holders p c cpu q h apart (a.held cpu q k) (other cpu q apart)
  ];
}

pub acquired : (plan : Plan) (counters : Counters) (holders : List (Option ℕ)) (p c : ℕ) → AreHolders plan counters holders → Follows plan counters p (Acquire c)
    → c < callers plan → get_or holders c None ≡ None → AreHolders plan (counted counters p) (set holders c (Some p))
acquired plan counters holders p c a follows below free =
    written plan counters holders p c (Some p) a below (λ q. acquires_at plan counters holders p c q a follows below free)
    (λ cpu q apart. stays plan counters p (Acquire c) cpu q follows (ap (λ (b : Bool). cond b true (holds plan counters cpu p)) (ne_eqb c cpu (λ e. apart (sym e)))))

gives_up : (h : Option ℕ) (p q : ℕ) (b : Bool) → is_holder h p ≡ b → q ≢ p → is_holder h q ≡ is_holder (cond b None h) q
gives_up None p q true e apart = refl
gives_up (Some o) p q true e apart = ne_eqb o q (λ same. apart (sym same ∙ eqb-true o p e))
gives_up h p q false e apart = refl

gone : (h : Option ℕ) (p : ℕ) (b : Bool) → is_holder h p ≡ b → is_holder (cond b None h) p ≡ false
gone h p true e = refl
gone h p false e = e

releases_at : (plan : Plan) (counters : Counters) (p c q : ℕ) (h : Option ℕ) → Follows plan counters p (Release c) → holds plan counters c q ≡ is_holder h q
    → holds plan (counted counters p) c q ≡ is_holder (given_up h p) q
releases_at plan counters p c q h follows here =
    elim (cases_eq q p) [
      | inl same ↦
          ap (λ (k : ℕ). holds plan (counted counters p) c k) same ∙ follows c ∙ ap (λ (b : Bool). cond b false (holds plan counters c p)) (eq-eqb c c refl)
          ∙ sym (gone h p (is_holder h p) refl) ∙ ap (λ (k : ℕ). is_holder (given_up h p) k) (sym same)
      | inr apart ↦ holds_other plan counters c p q apart ∙ here ∙ gives_up h p q (is_holder h p) refl apart
    ]

pub released : (plan : Plan) (counters : Counters) (holders : List (Option ℕ)) (p c : ℕ) → AreHolders plan counters holders → Follows plan counters p (Release c)
    → c < callers plan → AreHolders plan (counted counters p) (set holders c (given_up (get_or holders c None) p))
released plan counters holders p c a follows below =
    written plan counters holders p c (given_up (get_or holders c None) p) a below
    (λ q. releases_at plan counters p c q (get_or holders c None) follows (a.held c q below))
    (λ cpu q apart. stays plan counters p (Release c) cpu q follows (ap (λ (b : Bool). cond b false (holds plan counters cpu p)) (ne_eqb c cpu (λ e. apart (sym e)))))

kept : (plan : Plan) (counters : Counters) (holders : List (Option ℕ)) (p : ℕ) (m : Micro) → AreHolders plan counters holders → Follows plan counters p m
    → ((cpu : ℕ) (b : Bool) → held_after cpu b m ≡ b) → AreHolders plan (counted counters p) holders
kept plan counters holders p m a follows still = record {
  each = a.each;
  held = λ cpu q k. stays plan counters p m cpu q follows (still cpu (holds plan counters cpu p)) ∙ a.held cpu q k;
}

pub not_blocked : (cpu : ℕ) (o : Option ℕ) → blocked_by cpu o ≡ None → o ≡ None
not_blocked cpu None e = refl
not_blocked cpu (Some q) e = cc

-- the holders after a step that nothing refuses
holders_step : (plan : Plan) (counters : Counters) (holders : List (Option ℕ)) (p : ℕ) (m : Micro) → AreHolders plan counters holders → Follows plan counters p m
    → is_sound_micro plan m ≡ true → refused plan counters m ≡ None → AreHolders plan (counted counters p) (holders_after p m holders)
holders_step plan counters holders p (Acquire c) a follows sound free =
    let below : c < callers plan = ltb-true c (callers plan) sound in
    acquired plan counters holders p c a follows below (sym (holder_is plan counters holders c below a) ∙ not_blocked c (holder plan counters c) free)
holders_step plan counters holders p (Release c) a follows sound free = released plan counters holders p c a follows (ltb-true c (callers plan) sound)
holders_step plan counters holders p m a follows sound free = kept plan counters holders p m a follows (λ cpu b. refl)

pub holders_next : (plan : Plan) (counters : Counters) (holders : List (Option ℕ)) (p : ℕ) (s : Step) → AreHolders plan counters holders → p < length counters
    → step_next plan counters p ≡ Some s → is_sound_step plan s ≡ true → refused plan counters s.micro ≡ None
    → AreHolders plan (counted counters p) (holders_after p s.micro holders)
holders_next plan counters holders p s a h e sound free =
    holders_step plan counters holders p s.micro a (λ cpu. holds_own plan counters cpu p s h e) (and_parts (is_sound_op plan s.op) (is_sound_micro plan s.micro) sound).1 free

-- at the start nobody holds a lock
pub count_first : (n p : ℕ) → ◌≡◌ {A = ℕ} (get_or (replicate n 0) p 0) 0
count_first zero p = refl
count_first (suc n) zero = refl
count_first (suc n) (suc p) = count_first n p

pub none_first : {A : Type 0} (n c : ℕ) → ◌≡◌ {A = Option A} (get_or (replicate n None) c None) None
none_first zero c = refl
none_first (suc n) zero = refl
none_first (suc n) (suc c) = none_first n c

pub holders_first : (plan : Plan) → AreHolders plan (counters_at_start plan) (replicate (callers plan) None)
holders_first plan = grind (arith, common_steps)

-- the same, where the counters and the list are known by equations
pub same_holders : (plan : Plan) (counters counters' : Counters) (holders holders' : List (Option ℕ)) → counters' ≡ counters → holders' ≡ holders
    → AreHolders plan counters holders → AreHolders plan counters' holders'
same_holders plan counters counters' holders holders' f g a =
    subst (λ (cs : Counters). AreHolders plan cs holders') (sym f) (subst (AreHolders plan counters) (sym g) a)

-- what a write through a slice leaves
pub written_back : {A : Type 0} (n : ℕ) (xs ys : List A) → length xs ≡ n → take n (xs ++ drop (length xs) ys) ≡ xs
written_back n xs ys e = ap (λ (k : ℕ). take k (xs ++ drop (length xs) ys)) (sym e) ∙ take-append_seam xs (drop (length xs) ys)

pub sound_lock : (plan : Plan) (n : ℕ) (m : Micro) → n ≡ callers plan → is_sound_micro plan m ≡ true → names_lock n m ≡ true
sound_lock plan n (Acquire c) e h = ap (nat_lt c) e ∙ h
sound_lock plan n (Release c) e h = ap (nat_lt c) e ∙ h
sound_lock plan n _ e h = refl

pub length-holders_after : (p : ℕ) (m : Micro) (holders : List (Option ℕ)) → length (holders_after p m holders) ≡ length holders
length-holders_after p (Acquire c) holders = length-set holders c _
length-holders_after p (Release c) holders = length-set holders c _
length-holders_after p _ holders = refl

-- the holder that was read
pub read_holder : (plan : Plan) (counters : Counters) (holders : List (Option ℕ)) (cpu k : ℕ) (h : Option ℕ) → k ≡ cpu → cpu < callers plan → AreHolders plan counters holders
    → h ≡ get_or holders k h → h ≡ holder plan counters cpu
read_holder plan counters holders cpu k h at below a e =
    get_or_read holders k h (omega (arith, at, below, a.each)) e None ∙ ap (λ (i : ℕ). get_or holders i None) at ∙ sym (holder_is plan counters holders cpu below a)

-- a number that doesn't pass is passed over
pub least_past : (f : ℕ → Bool) (from n : ℕ) → from < n → f from ≡ false → least f from (n - from) ≡ least f (from + 1) (n - (from + 1))
least_past f from n below fails =
    ap (least f from) (let one : n - from ≡ suc (n - (from + 1)) = omega arith in one) ∙ ap (λ (b : Bool). cond b (Some from) (least f (from + 1) (n - (from + 1)))) fails
