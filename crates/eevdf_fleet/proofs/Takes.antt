-- What lines say that their CPU took, with one line more.
use Rattle.std.proofs.Common.{◌≡◌, ◌≢◌, ℕ, ◌<◌, Bool, true, false, ⊎_elim, List, [], ◌∷◌, ◌++◌, map, get_or, set, replicate, refl, sym, ap, ◌∙◌, arith, get_or-set_same, get_or-set_other}
use Rattle.std.specs.{Prelude.◌==◌, Prelude.if◌then◌else◌, List.flat_map, List.range_with_len}
use Rattle.std.proofs.{lemmas.Bool.cases_eq, lemmas.Bool.false≢true, lemmas.Bool.Decides.nat_tests, lemmas.Grind.flat_map-append}
use Rattle.std.proofs.lemmas.List.{length-set, length-replicate, map-append, append-nil, get_or-replicate}
use Rattle.std.proofs.lemmas.List.FromFn.{fill_by_all, get_or-map-range_with_len, length-map-range_with_len}
use Rattle.eevdf_ops.specs.{declared.deeds.Answer.Answer, declared.deeds.Deed.Deed, declared.deeds.Line.Line}
use Rattle.eevdf_ops.specs.declared.deeds.Deed.TheVariants.{Wake}
use Rattle.eevdf_ops.specs.Programs.{wake_from, wakes_from, deeds_of}
use Rattle.eevdf_fleet.specs.Rings.{taken_from, taken_more, no_takes}
use Rattle.eevdf_fleet.specs.{Fleets.takes_by, TouchedQueues.IsNoWake}

-- two lists of the same elements
all_same : {X : Type 0} (f g : ℕ → X) (n : ℕ) (d : X) → ((k : ℕ) → k < n → f k ≡ g k) → map f (range_with_len 0 n) ≡ map g (range_with_len 0 n)
all_same f g n d same =
    fill_by_all g (map f (range_with_len 0 n)) n d (length-map-range_with_len f 0 n)
    (λ k within. get_or-map-range_with_len f 0 n k k d within (omega arith) ∙ same k within)

-- and two that differ at one place
one_other : {X : Type 0} (f g : ℕ → X) (n at : ℕ) (d y : X) → at < n → y ≡ g at → ((k : ℕ) → k < n → k ≢ at → f k ≡ g k) → set (map f (range_with_len 0 n)) at y ≡ map g (range_with_len 0 n)
one_other f g n at d y within here same =
    fill_by_all g (set (map f (range_with_len 0 n)) at y) n d (length-set (map f (range_with_len 0 n)) at y ∙ length-map-range_with_len f 0 n)
    (λ k less. ⊎_elim
    (λ is. ap (λ (j : ℕ). get_or (set (map f (range_with_len 0 n)) at y) j d) is
    ∙ get_or-set_same (map f (range_with_len 0 n)) at y d (omega (arith, length-map-range_with_len f 0 n)) ∙ here ∙ ap g (sym is))
    (λ away. get_or-set_other (map f (range_with_len 0 n)) at k y d away ∙ get_or-map-range_with_len f 0 n k k d less (omega arith) ∙ same k less away)
    (cases_eq k at))

pub wakes-append : (sender : ℕ) (xs ys : List Line) → wakes_from sender (xs ++ ys) ≡ wakes_from sender xs ++ wakes_from sender ys
wakes-append sender xs ys =
    ap (flat_map (wake_from sender)) (map-append (λ (l : Line). l.deed) xs ys) ∙ flat_map-append (wake_from sender) (deeds_of xs) (deeds_of ys)

pub wakes-one : (sender : ℕ) (l : Line) → wakes_from sender (l ∷ []) ≡ wake_from sender l.deed
wakes-one sender l = append-nil (wake_from sender l.deed)

pub none-from : (sender : ℕ) (d : Deed) → IsNoWake d → wake_from sender d ≡ []
none-from sender (Wake cpu task by) h = absurd h
none-from sender other h = refl

asked_by : (b : Bool) (task : ℕ) → b ≡ true → (if b then task ∷ [] else []) ≡ task ∷ []
asked_by true task e = refl
asked_by false task e = absurd (false≢true e)

asked_by_other : (b : Bool) (task : ℕ) → b ≡ false → (if b then task ∷ [] else []) ≡ []
asked_by_other false task e = refl
asked_by_other true task e = absurd (false≢true (sym e))

pub wake-own : (cpu task sender by : ℕ) → by ≡ sender → wake_from sender (Wake cpu task by) ≡ task ∷ []
wake-own cpu task sender by same = asked_by (by == sender) task (let e : (by == sender) ≡ true = grind (arith, nat_tests) in e)

pub wake-other : (cpu task sender by : ℕ) → sender ≢ by → wake_from sender (Wake cpu task by) ≡ []
wake-other cpu task sender by away = asked_by_other (by == sender) task (let e : (by == sender) ≡ false = grind (arith, nat_tests) in e)

wakes-more : (sender : ℕ) (lines : List Line) (l : Line) → wakes_from sender (lines ++ l ∷ []) ≡ wakes_from sender lines ++ wake_from sender l.deed
wakes-more sender lines l = wakes-append sender lines (l ∷ []) ∙ ap (λ (x : List ℕ). wakes_from sender lines ++ x) (wakes-one sender l)

pub wakes-unless : (sender : ℕ) (lines : List Line) (l : Line) → wake_from sender l.deed ≡ [] → wakes_from sender (lines ++ l ∷ []) ≡ wakes_from sender lines
wakes-unless sender lines l none = wakes-more sender lines l ∙ ap (λ (x : List ℕ). wakes_from sender lines ++ x) none ∙ append-nil (wakes_from sender lines)

-- nothing is taken by what is no wake
pub same-takes : (cpus cpu : ℕ) (lines : List Line) (l : Line) → IsNoWake l.deed → takes_by cpus cpu (lines ++ l ∷ []) ≡ takes_by cpus cpu lines
same-takes cpus cpu lines l none =
    ap (λ (x : List (List ℕ)). record { home = cpu; taken = x })
    (all_same (λ (q : ℕ). wakes_from q (lines ++ l ∷ [])) (λ (q : ℕ). wakes_from q lines) cpus [] (λ q within. wakes-unless q lines l (none-from q l.deed none)))

pub taken-of : (cpus cpu : ℕ) (lines : List Line) (sender : ℕ) → sender < cpus → taken_from (takes_by cpus cpu lines) sender ≡ wakes_from sender lines
taken-of cpus cpu lines sender within = get_or-map-range_with_len (λ (q : ℕ). wakes_from q lines) 0 cpus sender sender [] within (omega arith)

-- a wake takes one request of its sender
pub more-takes : (cpus cpu : ℕ) (lines : List Line) (on task sender : ℕ) (answer : Answer) → sender < cpus
    → taken_more (takes_by cpus cpu lines) sender (task ∷ []) ≡ takes_by cpus cpu (lines ++ record { deed = Wake on task sender; answer = answer } ∷ [])
more-takes cpus cpu lines on task sender answer within =
    let l : Line = record { deed = Wake on task sender; answer = answer } in
    ap (λ (x : List (List ℕ)). record { home = cpu; taken = x })
    (one_other (λ (q : ℕ). wakes_from q lines) (λ (q : ℕ). wakes_from q (lines ++ l ∷ [])) cpus sender [] (taken_from (takes_by cpus cpu lines) sender ++ task ∷ []) within
    (ap (λ (x : List ℕ). x ++ task ∷ []) (taken-of cpus cpu lines sender within) ∙ sym (wakes-more sender lines l ∙ ap (λ (x : List ℕ). wakes_from sender lines ++ x) (wake-own on task sender sender refl)))
    (λ k less away. sym (wakes-unless k lines l (wake-other on task k sender away))))

none_at_all : (cpus : ℕ) → map (λ (q : ℕ). let none : List ℕ = [] in none) (range_with_len 0 cpus) ≡ replicate cpus []
none_at_all cpus = sym (fill_by_all (λ (q : ℕ). let none : List ℕ = [] in none) (replicate cpus []) cpus [] (length-replicate cpus []) (λ k within. get_or-replicate cpus k [] [] within))

-- nothing is taken before there are lines
pub no-takes : (cpus cpu : ℕ) → takes_by cpus cpu [] ≡ no_takes cpus cpu
no-takes cpus cpu = ap (λ (x : List (List ℕ)). record { home = cpu; taken = x }) (none_at_all cpus)
