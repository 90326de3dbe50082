-- What is asked for by the programs of a setup, and by the first operations of a program.
use Rattle.std.proofs.Common.{◌≡◌, ◌≢◌, ℕ, zero, suc, ◌+◌, ◌<◌, ◌≤◌, Bool, true, false, cond, List, [], ◌∷◌, ◌++◌, length, take, get_or, max, sym, ap, subst, ◌∙◌, arith, refl}
use Rattle.std.proofs.{Math.ListN.length-append, lemmas.List.get_or_read, lemmas.List.take_more, lemmas.List.Sums.sum_by-cons}
use Rattle.std.proofs.lemmas.Bool.Decides.{nat_tests}
use Rattle.std.specs.{Ordering.nat_cmp, Ordering.ord_max, Prelude.◌==◌, Prelude.None}
use Rattle.eevdf_ops.specs.{declared.deeds.Op.Op, Faults.setup_fault, Followed.program_of, Numbers.most_operations}
use Rattle.eevdf_ops.specs.{Programs.post_of, Programs.posts_in}
use Rattle.eevdf_ops.specs.declared.deeds.Op.TheVariants as op
use Rattle.eevdf_ops.specs.Setup.{Setup, cpus_of, home_of}
use Rattle.eevdf_ops.proofs.SetupFaults.{program_short}
use Rattle.eevdf_fleet.specs.ProgramRuns.{greatest, posts_of, program_posts}

greatest-more : (asked : List Op → ℕ) (programs : List (List Op)) (program : List Op)
    → greatest asked (programs ++ program ∷ []) ≡ max (greatest asked programs) (asked program)
greatest-more asked [] program = omega arith
greatest-more asked (ops ∷ programs) program = omega (arith, greatest-more asked programs program)

-- the greatest of one program more
pub greatest-next : (asked : List Op → ℕ) (programs : List (List Op)) (cpu : ℕ) (d : List Op) → cpu < length programs
    → greatest asked (take (cpu + 1) programs) ≡ max (greatest asked (take cpu programs)) (asked (get_or programs cpu d))
greatest-next asked programs cpu d h =
    ap (λ (ps : List (List Op)). greatest asked ps) (take_more programs cpu d h) ∙ greatest-more asked (take cpu programs) (get_or programs cpu d)

-- no program asks for more
pub greatest-bounds : (asked : List Op → ℕ) (programs : List (List Op)) (cpu : ℕ) (d : List Op) → cpu < length programs
    → asked (get_or programs cpu d) ≤ greatest asked programs
greatest-bounds asked [] cpu d h = absurd (omega arith)
greatest-bounds asked (ops ∷ programs) zero d h = omega arith
greatest-bounds asked (ops ∷ programs) (suc cpu) d h = omega (arith, greatest-bounds asked programs cpu d (omega arith))

-- the program that is read of a setup
pub program-read : (s : Setup) (cpu at : ℕ) (got : List Op) → got ≡ get_or s.programs at got → at ≡ cpu → cpu < cpus_of s → got ≡ program_of s cpu
program-read s cpu at got is same h =
    get_or_read s.programs cpu got h (is ∙ ap (λ (k : ℕ). get_or s.programs k got) same) []

pub read-short : (s : Setup) (cpu at : ℕ) (got : List Op) → setup_fault s.tasks s.programs ≡ None → got ≡ get_or s.programs at got → at ≡ cpu → cpu < cpus_of s
    → length got ≤ most_operations
read-short s cpu at got sound is same h =
    subst (λ (ops : List Op). length ops ≤ most_operations) (sym (program-read s cpu at got is same h)) (program_short s cpu sound h)

pub larger : (a b : ℕ) → ord_max nat_cmp a b ≡ max a b
larger a b = grind (arith, nat_tests)

pub read-greatest : (asked : List Op → ℕ) (s : Setup) (cpu at most given picked : ℕ) (got : List Op) → got ≡ get_or s.programs at got → at ≡ cpu → cpu < cpus_of s
    → most ≡ greatest asked (take cpu s.programs) → given ≡ asked got → picked ≡ ord_max nat_cmp most given → picked ≡ greatest asked (take (cpu + 1) s.programs)
read-greatest asked s cpu at most given picked got is same h so_far here pick =
    let read : asked got ≡ asked (get_or s.programs cpu []) = ap asked (program-read s cpu at got is same h) in
    omega (arith, larger most given, greatest-next asked s.programs cpu [] h)

-- an operation posts no more requests to a home than to all, and one that posts to a home posts one
posts-counted : (homes : List ℕ) (home : ℕ) (o : Op) → length (post_of homes home o) ≤ posts_of o
posts-counted homes home (op.Post task) = few (home_of homes task == home)
  where
    few : (b : Bool) → length (cond b (task ∷ []) []) ≤ 1
    few true = omega arith
    few false = omega arith
posts-counted homes home other = omega arith

pub all-posts-counted : (homes : List ℕ) (home : ℕ) (ops : List Op) → length (posts_in homes home ops) ≤ program_posts ops
all-posts-counted homes home [] = omega arith
all-posts-counted homes home (o ∷ ops) =
    omega (arith, posts-counted homes home o, all-posts-counted homes home ops, sum_by-cons posts_of o ops, length-append (post_of homes home o) (posts_in homes home ops))

pub posts-one : (homes : List ℕ) (home : ℕ) (o : Op) → post_of homes home o ≢ [] → posts_of o ≡ 1
posts-one homes home (op.Post task) some = refl
posts-one homes home other some = absurd (some refl)
