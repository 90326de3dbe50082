-- What comes back, number by number and sender by sender.
use Rattle.std.proofs.Common.{◌≡◌, ℕ, zero, suc, ◌+◌, ◌<◌, ◌≤◌, List, [], ◌∷◌, ◌++◌, length, map, get_or, set, ap, sym, subst, ◌∙◌, arith}
use Rattle.std.proofs.lemmas.List.{append-nil, append_assoc, length-append, length-set, map-set, get_or-map, get_or-set_same}
use Rattle.std.proofs.Math.Path.{refl}
use Rattle.std.proofs.Math.Seq.{map-set_same}
use Rattle.eevdf_free_tasks.specs.Slots.{given_back}
use Rattle.eevdf_free_tasks.specs.Parts.{all_given_back, appended, AreEmpty, concatenated, HasCome, HaveCome}
use Rattle.eevdf_free_tasks.specs.declared.slot.Slot.{Slot}

given-append : (own : List Slot) (xs ys : List ℕ) → all_given_back own (xs ++ ys) ≡ all_given_back (all_given_back own xs) ys
given-append own [] ys = refl
given-append own (x ∷ xs) ys = given-append (given_back own x) xs ys

pub come-none : (before : List ℕ) (own : List Slot) → HasCome before before own own
come-none before own = record { came = []; received = sym (append-nil before); own_is = refl }

pub come-more : {before now after : List ℕ} {own own_now own_after : List Slot} (task : ℕ) → HasCome before now own own_now
    → after ≡ now ++ task ∷ [] → own_after ≡ given_back own_now task → HasCome before after own own_after
come-more {before = before} {own = own} task come received own_is = record {
  came = come.came ++ task ∷ [];
  received = received ∙ ap (λ (l : List ℕ). l ++ task ∷ []) come.received ∙ append_assoc before come.came (task ∷ []);
  own_is = own_is ∙ ap (λ (o : List Slot). given_back o task) come.own_is ∙ sym (given-append own come.came (task ∷ []));
}

concatenated-more : (came : List (List ℕ)) (more : List ℕ) → concatenated (came ++ more ∷ []) ≡ concatenated came ++ more
concatenated-more [] more = append-nil more
concatenated-more (c ∷ came) more = ap (λ (l : List ℕ). c ++ l) (concatenated-more came more) ∙ sym (append_assoc c (concatenated came) more)

-- the sender after those of whom something came has its list as it was
pub next-list : (before came : List (List ℕ)) (k : ℕ) → length came ≡ k → get_or (appended before came) k [] ≡ get_or before k []
next-list before [] k is = refl
next-list [] (c ∷ came) k is = refl
next-list (l ∷ before) (c ∷ came) zero is = grind arith
next-list (l ∷ before) (c ∷ came) (suc k) is = next-list before came k (omega (arith, is))

appended-more : (before came : List (List ℕ)) (k : ℕ) (more : List ℕ) → length came ≡ k → k < length before
    → appended before (came ++ more ∷ []) ≡ set (appended before came) k (get_or before k [] ++ more)
appended-more [] came k more is within = grind arith
appended-more (l ∷ before) [] zero more is within = refl
appended-more (l ∷ before) [] (suc k) more is within = grind arith
appended-more (l ∷ before) (c ∷ came) zero more is within = grind arith
appended-more (l ∷ before) (c ∷ came) (suc k) more is within = ap (λ ls. (l ++ c) ∷ ls) (appended-more before came k more (omega (arith, is)) (omega (arith, within)))

pub have-none : (before : List (List ℕ)) (own : List Slot) → HaveCome 0 before before own own
have-none before own = record { came = []; each = refl; received = refl; own_is = refl }

-- and then of one sender more
pub have-more : {k : ℕ} {before now : List (List ℕ)} {own own_now own_after : List Slot} (after : List ℕ) → HaveCome k before now own own_now → k < length before
    → HasCome (get_or now k []) after own_now own_after → HaveCome (k + 1) before (set now k after) own own_after
have-more {k = k} {before = before} {now = now} {own = own} after have within come = record {
  came = have.came ++ come.came ∷ [];
  each = length-append have.came (come.came ∷ []) ∙ ap (λ n. n + 1) have.each;
  received =
      let list : get_or now k [] ≡ get_or before k [] = ap (λ (ls : List (List ℕ)). get_or ls k []) have.received ∙ next-list before have.came k have.each in
      ap (λ (l : List ℕ). set now k l) (come.received ∙ ap (λ (l : List ℕ). l ++ come.came) list)
      ∙ ap (λ (ls : List (List ℕ)). set ls k (get_or before k [] ++ come.came)) have.received
      ∙ sym (appended-more before have.came k come.came have.each within);
  own_is = come.own_is ∙ ap (λ (o : List Slot). all_given_back o come.came) have.own_is
      ∙ sym (given-append own (concatenated have.came) come.came) ∙ ap (all_given_back own) (sym (concatenated-more have.came come.came));
}

-- the rings of the first so many senders are empty, and then that of one sender more
empty-more : (lists : List (List ℕ)) (k : ℕ) → ((place : ℕ) → place < k → get_or lists place [] ≡ []) → (place : ℕ) → place < k + 1 → get_or (set lists k []) place [] ≡ []
empty-more [] k empty place within = refl
empty-more (l ∷ lists) zero empty zero within = refl
empty-more (l ∷ lists) zero empty (suc place) within = let no : ⊥ = omega (arith, within) in absurd no
empty-more (l ∷ lists) (suc k) empty zero within = empty zero (omega arith)
empty-more (l ∷ lists) (suc k) empty (suc place) within = empty-more lists k (λ p less. empty (suc p) (omega (arith, less))) place (omega (arith, within))

pub ends-empty-more : {C : Type 0} (f : C → List ℕ) (k : ℕ) (ends : List C) (after : C) → ((place : ℕ) → place < k → get_or (map f ends) place [] ≡ []) → f after ≡ []
    → (place : ℕ) → place < k + 1 → get_or (map f (set ends k after)) place [] ≡ []
ends-empty-more f k ends after empty none place within =
    ap (λ (ls : List (List ℕ)). get_or ls place []) (map-set f ends k after ∙ ap (λ (l : List ℕ). set (map f ends) k l) none) ∙ empty-more (map f ends) k empty place within

-- and those of all
pub are-empty : (lists : List (List ℕ)) (n : ℕ) → n ≡ length lists → ((place : ℕ) → place < n → get_or lists place [] ≡ []) → AreEmpty lists
are-empty [] n is empty place = refl
are-empty (l ∷ lists) n is empty zero = empty zero (omega (arith, is))
are-empty (l ∷ lists) n is empty (suc place) = are-empty lists (length lists) refl (λ p less. empty (suc p) (omega (arith, is, less))) place

-- and of one sender more, through which nothing has come yet
pub empty-push : (lists : List (List ℕ)) → AreEmpty lists → AreEmpty (lists ++ [] ∷ [])
empty-push [] empty zero = refl
empty-push [] empty (suc place) = refl
empty-push (l ∷ lists) empty zero = empty zero
empty-push (l ∷ lists) empty (suc place) = empty-push lists (λ p. empty (suc p)) place

-- the same where the lists are those of ends
pub ends-more : {C : Type 0} (f : C → List ℕ) (k : ℕ) (before : List (List ℕ)) (ends : List C) {own own_now own_after : List Slot} (end after : C) → end ≡ get_or ends k end
    → k < length ends → k < length before → HaveCome k before (map f ends) own own_now → HasCome (f end) (f after) own_now own_after
    → HaveCome (k + 1) before (map f (set ends k after)) own own_after
ends-more f k before ends {own = own} {own_now = own_now} {own_after = own_after} end after is within below have come =
    let list : f end ≡ get_or (map f ends) k [] = ap f is ∙ sym (get_or-map f ends k end [] within) in
    subst (λ (ls : List (List ℕ)). HaveCome (k + 1) before ls own own_after) (sym (map-set f ends k after))
    (have-more (f after) have below (subst (λ (l : List ℕ). HasCome l (f after) own_now own_after) list come))

-- a number more goes through one of the rings
pub end_more : {C : Type 0} (f : C → List ℕ) (k : ℕ) (ends : List C) (end after : C) (more : List ℕ) → end ≡ get_or ends k end → k < length ends → f after ≡ f end ++ more
    → map f (set ends k after) ≡ set (map f ends) k (get_or (map f ends) k [] ++ more)
end_more f k ends end after more is within grown =
    map-set f ends k after ∙ ap (λ (l : List ℕ). set (map f ends) k l) (grown ∙ ap (λ (l : List ℕ). l ++ more) (ap f is ∙ sym (get_or-map f ends k end [] within)))

-- none does
pub end_same : {C Y : Type 0} (f : C → Y) (k : ℕ) (ends : List C) (end after : C) → end ≡ get_or ends k end → f after ≡ f end → map f (set ends k after) ≡ map f ends
end_same f k ends end after is same = map-set_same f ends k after end (same ∙ ap f is)

-- the other rings have as many places as before
at_end : {C : Type 0} (f : C → ℕ) (k : ℕ) (ends : List C) (after : C) → k < length ends → get_or (map f (set ends k after)) k 0 ≡ f after
at_end f k ends after within =
    let inside : k < length (set ends k after) = omega (arith, within, length-set ends k after) in
    get_or-map f (set ends k after) k after 0 inside ∙ ap f (get_or-set_same ends k after after within)

pub others_same : {C : Type 0} (f : C → ℕ) (k : ℕ) (ends : List C) (after : C) → k < length ends → map f (set ends k after) ≡ set (map f ends) k (get_or (map f (set ends k after)) k 0)
others_same f k ends after within = map-set f ends k after ∙ ap (λ (n : ℕ). set (map f ends) k n) (sym (at_end f k ends after within))

-- and that one has at most one less
pub one_less : {C : Type 0} (f : C → ℕ) (k : ℕ) (ends : List C) (end after : C) → end ≡ get_or ends k end → k < length ends → f end ≤ f after + 1
    → get_or (map f ends) k 0 ≤ get_or (map f (set ends k after)) k 0 + 1
one_less f k ends end after is within less =
    let before : get_or (map f ends) k 0 ≡ f end = get_or-map f ends k end 0 within ∙ ap f (sym is) in
    let now = at_end f k ends after within in
    omega (arith, before, now, less)
