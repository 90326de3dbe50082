-- Tasks that begin together on a CPU make a fresh queue there.
use Rattle.std.proofs.Common.{◌≡◌, ℕ, ◌+◌, Bool, true, false, List, [], ◌∷◌, None, replicate, refl, ap}
use Rattle.std.specs.Prelude.{ℤ}
use Rattle.std.specs.FinMap.{get}
use Rattle.eevdf_queue.specs.{State.State, State.Contents, State.empty_state, Moves.fresh_entry}
use Rattle.eevdf_ops.specs.{declared.task_spec.TaskSpec.TaskSpec, Setup.cpus_of}
use Rattle.eevdf_ops.specs.Machine.{queue_at, joined, beginner, begin, begin_at_homes}
use Rattle.eevdf_ops.proofs.{Starting.absent_empty, MachinePlaces.each-set}
use Rattle.eevdf_fairness.specs.{Turns.IsFresh, Opening.StartTogether, Opening.OpeningIsFresh}
use Rattle.eevdf_fairness.proofs.Growing.{found_after}

none_there : (a : State) (v : ℤ) → ((t : ℕ) → get a.runnable t ≡ None) → IsFresh v a.runnable
none_there a v none t e found = let no : get a.runnable t ≡ None = none t in cc

joins : (v : ℤ) (asleep : Bool) (p : Contents) (q : State) → (asleep ≡ false → p.start ≡ v) → IsFresh v q.runnable → IsFresh v (joined asleep p q).runnable
joins v true p q h fresh = fresh
joins v false p q h fresh =
    found_after (λ e. e ≡ fresh_entry v e.nice e.slice) q.runnable p.task (fresh_entry p.start p.nice p.slice)
    (ap (λ (z : ℤ). fresh_entry z p.nice p.slice) (h refl)) fresh

begun : (cpu : ℕ) (v : ℤ) (n task : ℕ) (ts : List TaskSpec) → StartTogether cpu v ts
    → (c : ℕ) → c ≡ cpu → IsFresh v (queue_at (begin_at_homes task ts (replicate n empty_state)) c).runnable
begun cpu v n task [] h c is = none_there (queue_at (replicate n empty_state) c) v (λ t. (absent_empty n c t).not_runnable)
begun cpu v n task (t ∷ ts) h c is =
    let rest : (k : ℕ) → k ≡ cpu → IsFresh v (queue_at (begin_at_homes (task + 1) ts (replicate n empty_state)) k).runnable = begun cpu v n (task + 1) ts h.1 in
    each-set (λ k q. k ≡ cpu → IsFresh v q.runnable) (begin_at_homes (task + 1) ts (replicate n empty_state)) t.home
    (begin task t (queue_at (begin_at_homes (task + 1) ts (replicate n empty_state)) t.home))
    (λ home. joins v t.asleep (beginner task t) (queue_at (begin_at_homes (task + 1) ts (replicate n empty_state)) t.home) (h.0 home) (rest t.home home))
    rest c is

pub opening_is_fresh : OpeningIsFresh
opening_is_fresh s cpu v h = begun cpu v (cpus_of s) 0 s.tasks h cpu refl
