-- How the rings are emptied, one pair after the other.
use Rattle.std.proofs.Common.{◌≡◌, ◌≢◌, ℕ, zero, suc, ◌+◌, ◌*◌, ◌/◌, ◌%◌, ◌<◌, ◌≤◌, ◌⊎◌, inl, inr, ⊎_elim, List, [], ◌∷◌, ◌++◌, length, map, get_or, set, refl, sym, ap, subst, ◌∙◌, arith, get_or-set_same, get_or-set_other}
use Rattle.std.proofs.lemmas.List.{get_or_default, length-set, length-map, map-set, set-get_or}
use Rattle.std.proofs.{lemmas.Bool.cases_eq, lemmas.Option.slice_get_read}
use Rattle.std.proofs.lemmas.Nat.{div-add-mod', div_below, div-mul-add, mod-mul-add, mul-add-lt}
use Rattle.std.specs.{declared.alloc.Global.Global, declared.vec.Vec.Vec}
use Rattle.eevdf_fleet.specs.Rings.{Posted, Posts, Takes, Returned, AllReturned, AreLeft, given_to, posted_by, posted_to, posts_at, takes_at, taken_from, taken_more, no_takes}
use Rattle.eevdf_fleet.specs.ReturnedEnds.{EmptiedBelow, IsEmptyList, posted_at, taken_at}
use Rattle.eevdf_fleet.specs.RingEnds.{lists_of}
use Rattle.eevdf_fleet.proofs.RingPlaces.{got-set_other, read-given}

-- an element after a change at a place: the new one, or the one that was there
at_set : {A : Type 0} (xs : List A) (k j : ℕ) (y d : A) → ((j ≡ k) × (get_or (set xs k y) j d ≡ y)) ⊎ (get_or (set xs k y) j d ≡ get_or xs j d)
at_set [] k j y d = inr refl
at_set (x ∷ xs) zero zero y d = inl (refl, refl)
at_set (x ∷ xs) zero (suc j) y d = inr refl
at_set (x ∷ xs) (suc k) zero y d = inr refl
at_set (x ∷ xs) (suc k) (suc j) y d = ⊎_elim (λ same. inl (ap suc same.0, same.1)) (λ other. inr other) (at_set xs k j y d)

pub home-within : (cpus place : ℕ) → place < cpus * cpus → place % cpus < cpus
home-within zero place below = absurd (omega arith)
home-within (suc n) place below = omega arith

pub sender-within : (cpus place : ℕ) → place < cpus * cpus → place / cpus < cpus
sender-within zero place below = absurd (omega arith)
sender-within (suc n) place below = div_below place (suc n) (suc n) (omega arith) below

apart : (cpus place k : ℕ) → place < k → k % cpus ≡ place % cpus → k / cpus ≢ place / cpus
apart cpus place k above homes senders =
    omega (arith, div-add-mod' k cpus, div-add-mod' place cpus, ap (λ (q : ℕ). q * cpus) senders)

module _ (r : Returned) (ends : AllReturned r) where
  pub posts-read : (q : ℕ) (p : Posted) → q < r.cpus → p ≡ get_or r.posts q p → posts_at r q ≡ p
  posts-read q p within at =
      get_or_default r.posts q (record { sender = q; posted = [] }) p (omega (arith, ends.senders)) ∙ sym at

  pub takes-read : (h : ℕ) (t : Takes) → h < r.cpus → t ≡ get_or r.takes h t → takes_at r h ≡ t
  takes-read h t within at =
      get_or_default r.takes h (no_takes 0 h) t (omega (arith, ends.homes)) ∙ sym at

  pub reads-sender : (q : ℕ) (p : Posted) → q < r.cpus → p ≡ get_or r.posts q p → p.sender ≡ q
  reads-sender q p within at = ap (λ (x : Posted). x.sender) (sym (posts-read q p within at)) ∙ (ends.each q within).sender_is

  pub reads-home : (h : ℕ) (t : Takes) → h < r.cpus → t ≡ get_or r.takes h t → t.home ≡ h
  reads-home h t within at = ap (λ (x : Takes). x.home) (sym (takes-read h t within at)) ∙ (ends.each h within).home_is

  pub reads-to_all : (q : ℕ) (p : Posted) → q < r.cpus → p ≡ get_or r.posts q p → length p.posted ≡ r.cpus
  reads-to_all q p within at = ap (λ (x : Posted). length x.posted) (sym (posts-read q p within at)) ∙ (ends.each q within).to_all

  pub reads-from_all : (h : ℕ) (t : Takes) → h < r.cpus → t ≡ get_or r.takes h t → length t.taken ≡ r.cpus
  reads-from_all h t within at = ap (λ (x : Takes). length x.taken) (sym (takes-read h t within at)) ∙ (ends.each h within).from_all

-- the ends after those of one home have taken more of one sender
module _ (cpus : ℕ) (posts : List Posted) (takes : List Takes) (place : ℕ) (t : Takes) (tasks : List ℕ) where
  abbrev before : Returned
  before = record { cpus = cpus; posts = posts; takes = takes }

  abbrev taken : Takes
  taken = taken_more t (place / cpus) tasks

  abbrev after : Returned
  after = record { cpus = cpus; posts = posts; takes = set takes (place % cpus) taken }

  after_home : (j : ℕ) → t ≡ takes_at before (place % cpus) → (takes_at after j).home ≡ (takes_at before j).home
  after_home j is =
      ⊎_elim
      (λ same. ap (λ (x : Takes). x.home) same.1 ∙ ap (λ (x : Takes). x.home) is ∙ ap (λ (h : ℕ). (takes_at before h).home) (sym same.0))
      (λ other. ap (λ (x : Takes). x.home) other)
      (at_set takes (place % cpus) j taken (no_takes 0 j))

  after_width : (j : ℕ) → t ≡ takes_at before (place % cpus) → length (takes_at after j).taken ≡ length (takes_at before j).taken
  after_width j is =
      ⊎_elim
      (λ same. ap (λ (x : Takes). length x.taken) same.1 ∙ length-set t.taken (place / cpus) _ ∙ ap (λ (x : Takes). length x.taken) is
      ∙ ap (λ (h : ℕ). length (takes_at before h).taken) (sym same.0))
      (λ other. ap (λ (x : Takes). length x.taken) other)
      (at_set takes (place % cpus) j taken (no_takes 0 j))

  after_other : (j s : ℕ) → t ≡ takes_at before (place % cpus) → (j ≡ place % cpus → s ≢ place / cpus) → taken_from (takes_at after j) s ≡ taken_from (takes_at before j) s
  after_other j s is away =
      ⊎_elim
      (λ same. ap (λ (x : Takes). taken_from x s) same.1 ∙ get_or-set_other t.taken (place / cpus) s _ [] (away same.0) ∙ ap (λ (x : Takes). taken_from x s) is
      ∙ ap (λ (h : ℕ). taken_from (takes_at before h) s) (sym same.0))
      (λ other. ap (λ (x : Takes). taken_from x s) other)
      (at_set takes (place % cpus) j taken (no_takes 0 j))

  after_ends : AllReturned before → t ≡ takes_at before (place % cpus) → AllReturned after
  after_ends ends is = record {
    senders = ends.senders;
    homes = length-set takes (place % cpus) taken ∙ ends.homes;
    each = λ j within. record {
      within = within;
      sender_is = (ends.each j within).sender_is;
      to_all = (ends.each j within).to_all;
      home_is = after_home j is ∙ (ends.each j within).home_is;
      from_all = after_width j is ∙ (ends.each j within).from_all;
    };
  }

abbrev ends_of : ℕ → List Posted → List Takes → Returned
ends_of cpus posts takes = record { cpus = cpus; posts = posts; takes = takes }

-- a list that is put into its place
list_there : (left : List (Vec ℕ Global)) (place : ℕ) (list : Vec ℕ Global) → place < length left → get_or (lists_of (set left place list)) place [] ≡ list.items
list_there left place list within =
    ap (λ (xs : List (List ℕ)). get_or xs place []) (map-set (λ (l : Vec ℕ Global). l.items) left place list)
    ∙ get_or-set_same (lists_of left) place list.items [] (omega (arith, length-map left (λ (l : Vec ℕ Global). l.items)))

list_elsewhere : (left : List (Vec ℕ Global)) (place k : ℕ) (list : Vec ℕ Global) → k ≢ place → get_or (lists_of (set left place list)) k [] ≡ get_or (lists_of left) k []
list_elsewhere left place k list away =
    ap (λ (xs : List (List ℕ)). get_or xs k []) (map-set (λ (l : Vec ℕ Global). l.items) left place list)
    ∙ get_or-set_other (lists_of left) place k list.items [] away

module _ (capacity cpus : ℕ) (posts : List Posted) (first_takes takes : List Takes) (place : ℕ) (left : List (Vec ℕ Global)) (t : Takes) (p : Posted) (list : Vec ℕ Global) where
  abbrev first : Returned
  first = ends_of cpus posts first_takes

  abbrev left_after : List (Vec ℕ Global)
  left_after = set left place list

  emptied_here : EmptiedBelow capacity first (ends_of cpus posts takes) place left → place < cpus * cpus
      → t ≡ takes_at (ends_of cpus posts takes) (place % cpus) → p ≡ posts_at first (place / cpus)
      → given_to p (place % cpus) ≡ taken_from t (place / cpus) ++ list.items
      → posted_at first place ≡ taken_at first place ++ get_or (lists_of left_after) place []
  emptied_here h below at_t at_p rest =
      ap (λ (x : Posted). given_to x (place % cpus)) (sym at_p) ∙ rest
      ∙ ap (λ (x : List ℕ). x ++ list.items) (ap (λ (x : Takes). taken_from x (place / cpus)) at_t ∙ h.others place (omega arith))
      ∙ ap (λ (x : List ℕ). taken_at first place ++ x) (sym (list_there left place list (omega (arith, h.each))))

  emptied_at : (k : ℕ) → EmptiedBelow capacity first (ends_of cpus posts takes) place left → place < cpus * cpus
      → t ≡ takes_at (ends_of cpus posts takes) (place % cpus) → p ≡ posts_at first (place / cpus)
      → given_to p (place % cpus) ≡ taken_from t (place / cpus) ++ list.items → k < place + 1
      → posted_at first k ≡ taken_at first k ++ get_or (lists_of left_after) k []
  emptied_at k h below at_t at_p rest within =
      ⊎_elim
      (λ same. subst (λ (j : ℕ). posted_at first j ≡ taken_at first j ++ get_or (lists_of left_after) j []) (sym same) (emptied_here h below at_t at_p rest))
      (λ away. h.emptied k (omega arith) ∙ ap (λ (x : List ℕ). taken_at first k ++ x) (sym (list_elsewhere left place k list away)))
      (cases_eq k place)

  -- one pair more
  pub more-emptied : EmptiedBelow capacity first (ends_of cpus posts takes) place left → place < cpus * cpus
      → t ≡ takes_at (ends_of cpus posts takes) (place % cpus) → p ≡ posts_at first (place / cpus)
      → given_to p (place % cpus) ≡ taken_from t (place / cpus) ++ list.items
      → EmptiedBelow capacity first (ends_of cpus posts (set takes (place % cpus) (taken_more t (place / cpus) list.items))) (place + 1) left_after
  more-emptied h below at_t at_p rest = record {
    posts = refl;
    ends = after_ends cpus posts takes place t list.items h.ends at_t;
    each = length-set left place list ∙ h.each;
    emptied = λ k within. emptied_at k h below at_t at_p rest within;
    others = λ k above. after_other cpus posts takes place t list.items (k % cpus) (k / cpus) at_t (apart cpus place k (omega arith)) ∙ h.others k (omega arith);
    room = λ k l above got. h.room k l (omega arith) (sym (got-set_other left place k list (omega arith)) ∙ got);
  }

-- the same, of the ends as they were read and as they are put back
pub emptied-more : {capacity : ℕ} {r now : Returned} {place : ℕ} {left : List (Vec ℕ Global)} (t t' : Takes) (p p' : Posted) (list : Vec ℕ Global)
    → EmptiedBelow capacity r now place left → now.cpus ≡ r.cpus → place < now.cpus * now.cpus
    → t ≡ get_or now.takes (place % now.cpus) t → p ≡ get_or now.posts (place / now.cpus) p
    → t' ≡ taken_more t p.sender list.items → given_to p t.home ≡ taken_from t p.sender ++ list.items → p' ≡ p
    → EmptiedBelow capacity r (ends_of now.cpus (set now.posts (place / now.cpus) p') (set now.takes (place % now.cpus) t')) (place + 1) (set left place list)
emptied-more {capacity} {r} {now} {place} {left} t t' p p' list h same_cpus below at_t at_p taken rest same_p =
    let home = home-within now.cpus place below in
    let sender = sender-within now.cpus place below in
    let first : ends_of now.cpus now.posts r.takes ≡ r
    = ap (λ (n : ℕ). ends_of n now.posts r.takes) same_cpus ∙ ap (λ (ps : List Posted). ends_of r.cpus ps r.takes) h.posts in
    let q : p.sender ≡ place / now.cpus = reads-sender now h.ends (place / now.cpus) p sender at_p in
    let c : t.home ≡ place % now.cpus = reads-home now h.ends (place % now.cpus) t home at_t in
    let step = more-emptied capacity now.cpus now.posts r.takes now.takes place left t p list
    (subst (λ (x : Returned). EmptiedBelow capacity x now place left) (sym first) h) below
    (sym (takes-read now h.ends (place % now.cpus) t home at_t)) (sym (posts-read now h.ends (place / now.cpus) p sender at_p))
    (ap (λ (x : ℕ). given_to p x) (sym c) ∙ rest ∙ ap (λ (x : ℕ). taken_from t x ++ list.items) q) in
    let posts : set now.posts (place / now.cpus) p' ≡ now.posts
    = ap (λ (x : Posted). set now.posts (place / now.cpus) x) (same_p ∙ at_p) ∙ set-get_or now.posts (place / now.cpus) p in
    let takes : set now.takes (place % now.cpus) t' ≡ set now.takes (place % now.cpus) (taken_more t (place / now.cpus) list.items)
    = ap (λ (x : Takes). set now.takes (place % now.cpus) x) (taken ∙ ap (λ (x : ℕ). taken_more t x list.items) q) in
    subst (λ (x : Returned). EmptiedBelow capacity x (ends_of now.cpus (set now.posts (place / now.cpus) p') (set now.takes (place % now.cpus) t')) (place + 1) (set left place list)) first
    (subst (λ (ps : List Posted). EmptiedBelow capacity (ends_of now.cpus now.posts r.takes) (ends_of now.cpus ps (set now.takes (place % now.cpus) t')) (place + 1) (set left place list)) (sym posts)
    (subst (λ (ts : List Takes). EmptiedBelow capacity (ends_of now.cpus now.posts r.takes) (ends_of now.cpus now.posts ts) (place + 1) (set left place list)) (sym takes) step))

-- the same, of ends of which more is seen
pub emptied-given : {capacity : ℕ} {r : Returned} {place : ℕ} {left : List (Vec ℕ Global)} (cpus : ℕ) (ps : List Posts) (ts : List Takes) (t t' : Takes) (p p' : Posts) (list : Vec ℕ Global)
    → EmptiedBelow capacity r (ends_of cpus (map posted_by ps) ts) place left → cpus ≡ r.cpus → place < cpus * cpus
    → t ≡ get_or ts (place % cpus) t → p ≡ get_or ps (place / cpus) p
    → t' ≡ taken_more t p.sender list.items → posted_to p t.home ≡ taken_from t p.sender ++ list.items → posted_by p' ≡ posted_by p
    → EmptiedBelow capacity r (ends_of cpus (map posted_by (set ps (place / cpus) p')) (set ts (place % cpus) t')) (place + 1) (set left place list)
emptied-given {capacity} {r} {place} {left} cpus ps ts t t' p p' list h same_cpus below at_t at_p taken rest same_p =
    subst (λ (l : List Posted). EmptiedBelow capacity r (ends_of cpus l (set ts (place % cpus) t')) (place + 1) (set left place list)) (sym (map-set posted_by ps (place / cpus) p'))
    (emptied-more t t' (posted_by p) (posted_by p') list h same_cpus below at_t (read-given posted_by ps (place / cpus) p at_p) taken rest same_p)

pub empty-at : {capacity : ℕ} {r now : Returned} {place : ℕ} {left : List (Vec ℕ Global)} (list : Vec ℕ Global) → EmptiedBelow capacity r now place left
    → place < now.cpus * now.cpus → list ≡ get_or left place list → IsEmptyList capacity list
empty-at {now = now} {place = place} {left = left} list h below at =
    h.room place list (omega arith) (slice_get_read left (now.cpus * now.cpus) place list (sym h.each) below at)

-- when all are emptied, what is in the lists is what was left
pub all-left : {capacity : ℕ} {r now : Returned} {place : ℕ} {left : List (Vec ℕ Global)} → EmptiedBelow capacity r now place left
    → now.cpus ≡ r.cpus → now.cpus * now.cpus ≤ place → AreLeft r (lists_of left)
all-left {capacity} {r} {now} {place} {left} h same_cpus all = record {
  each = length-map left (λ (l : Vec ℕ Global). l.items) ∙ h.each ∙ ap (λ (n : ℕ). n * n) same_cpus;
  pairs = λ sender home in_senders in_homes.
      let at = h.emptied (sender * r.cpus + home) (omega (arith, mul-add-lt sender r.cpus home r.cpus in_senders in_homes, ap (λ (n : ℕ). n * n) same_cpus)) in
      let s = div-mul-add sender r.cpus home in_homes in
      let c = mod-mul-add sender r.cpus home in_homes in
      ap (λ (q : ℕ). given_to (posts_at r q) home) (sym s) ∙ ap (λ (j : ℕ). given_to (posts_at r ((sender * r.cpus + home) / r.cpus)) j) (sym c) ∙ at
      ∙ ap (λ (x : List ℕ). x ++ get_or (lists_of left) (sender * r.cpus + home) [])
      (ap (λ (j : ℕ). taken_from (takes_at r j) ((sender * r.cpus + home) / r.cpus)) c ∙ ap (λ (q : ℕ). taken_from (takes_at r home) q) s);
}
