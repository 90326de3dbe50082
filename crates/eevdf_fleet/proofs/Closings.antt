-- The queues that are gathered are those of the history.
use Rattle.std.proofs.Common.{◌≡◌, ◌≢◌, ℕ, zero, suc, ◌+◌, ◌<◌, ◌≤◌, ◌⊎◌, Bool, true, false, List, [], ◌∷◌, length, set, inl, inr, refl, sym, ap, subst, ◌∙◌, arith}
use Rattle.std.specs.Prelude.{◌==◌, Option, Some, None, IfSome, is_some}
use Rattle.std.specs.{declared.alloc.Global.Global, declared.vec.Vec.Vec}
use Rattle.std.proofs.lemmas.List.{get_or_past, get_or-set_same, get_or-set_other}
use Rattle.std.proofs.lemmas.Bool.Decides.{nat_tests}
use Rattle.eevdf_queue.specs.State.{View, empty_state}
use Rattle.eevdf_ops.specs.{declared.deeds.Line.Line, Machine.Machine, Machine.queue_at, Outcome.machine_of, Setup.cpus_of}
use Rattle.eevdf_ops.proofs.{Machines.length-machine_of, Machines.machine_with, PartsProofs.same_machine}
use Rattle.eevdf_fleet.specs.{declared.board.claims.Terms.Terms, declared.board.claims.Claim.Claim, Board.Known}
use Rattle.eevdf_fleet.specs.declared.board.claims.Claim.TheVariants.{Seat, Queue, Journal, Past}
use Rattle.eevdf_fleet.specs.Claims.{Subject, queue, once, here, times, told, AllTell}
use Rattle.eevdf_fleet.specs.Closings.{AllPut, queue_count, with_journal}
use Rattle.eevdf_fleet.proofs.Told.{length-told}
use Rattle.eevdf_fleet.proofs.Sums.{sum_below, sum-less, sum-none, sum-once, sum-same}

-- what is known of claims is known of all but the first
pub known-rest : (t : Terms) (lines : List Line) (c : Claim) (cs : List Claim) → Known t lines (c ∷ cs) → Known t lines cs
known-rest t lines c cs known = record { kept = known.kept; tell = known.tell.1; once = λ k. omega (arith, known.once k) }

-- a queue that is put at its number stands there
put-here : (qs : List View) (n : ℕ) (v : View) → n < length qs → queue_at (machine_of (set qs n v)) n ≡ v.state
put-here qs n v h = ap (λ (x : Machine). queue_at x n) (machine_with qs n n v v.state refl refl) ∙ get_or-set_same (machine_of qs) n v.state empty_state (omega (arith, length-machine_of qs))

-- and no other is moved by it
put-else : (qs : List View) (n c : ℕ) (v : View) → c ≢ n → queue_at (machine_of (set qs n v)) c ≡ queue_at (machine_of qs) c
put-else qs n c v apart = ap (λ (x : Machine). queue_at x c) (machine_with qs n n v v.state refl refl) ∙ get_or-set_other (machine_of qs) n c v.state empty_state apart

none-claimed : (n cpu : ℕ) → once (cpu == n) ≡ 0 → cpu ≢ n
none-claimed n cpu none = λ same. absurd (let one : once (cpu == n) ≡ 1 = grind (arith, nat_tests) in omega arith)

still-put : (cpus : ℕ) (qs : List View) (n : ℕ) (v : View) (cs : List Claim) → times (queue n) cs ≡ 0 → AllPut cpus qs cs → AllPut cpus (set qs n v) cs
still-put cpus qs n v [] none put = tt
still-put cpus qs n v (Seat cpu own ∷ cs) none put = (tt, still-put cpus qs n v cs (omega arith) put.1)
still-put cpus qs n v (Queue cpu q ∷ cs) none put =
    let apart : once (cpu == n) ≡ 0 = omega arith in
    ((put.0.0, put-else qs n cpu v (none-claimed n cpu apart) ∙ put.0.1), still-put cpus qs n v cs (omega arith) put.1)
still-put cpus qs n v (Journal all ∷ cs) none put = (tt, still-put cpus qs n v cs (omega arith) put.1)
still-put cpus qs n v (Past seen ∷ cs) none put = (tt, still-put cpus qs n v cs (omega arith) put.1)

-- where no queue is claimed, none has to stand anywhere
pub none-put : (cpus : ℕ) (qs : List View) (cs : List Claim) → queue_count cs ≡ 0 → AllPut cpus qs cs
none-put cpus qs [] none = tt
none-put cpus qs (Seat cpu own ∷ cs) none = (tt, none-put cpus qs cs (omega arith))
none-put cpus qs (Queue cpu q ∷ cs) none = absurd (omega arith)
none-put cpus qs (Journal all ∷ cs) none = (tt, none-put cpus qs cs (omega arith))
none-put cpus qs (Past seen ∷ cs) none = (tt, none-put cpus qs cs (omega arith))

-- one queue more is put, which nobody claimed before
pub put-more : (t : Terms) (lines : List Line) (cpus : ℕ) (qs : List View) (n : ℕ) (v : View) (cs : List Claim) → Known t lines (Queue n v.state ∷ cs) → n < cpus → n < length qs
    → (Known t lines cs → AllPut cpus qs cs) → AllPut cpus (set qs n v) (Queue n v.state ∷ cs)
put-more t lines cpus qs n v cs known less h put =
    let one : once (n == n) ≡ 1 = grind (arith, nat_tests) in
    ((less, put-here qs n v h), still-put cpus qs n v cs (omega (arith, known.once (queue n), one)) (put (known-rest t lines (Queue n v.state) cs known)))

-- how often each queue is claimed, summed up
claimed : List Claim → ℕ → ℕ
claimed cs c = times (queue c) cs

claimed-sum : (cpus : ℕ) (qs : List View) (cs : List Claim) → AllPut cpus qs cs → sum_below (claimed cs) cpus ≡ queue_count cs
unfolding claimed
claimed-sum cpus qs [] put = sum-none (claimed []) cpus (λ k. refl)
claimed-sum cpus qs (Seat cpu own ∷ cs) put = omega (arith, sum-same (claimed (Seat cpu own ∷ cs)) (claimed cs) cpus (λ k. omega arith), claimed-sum cpus qs cs put.1)
claimed-sum cpus qs (Queue cpu q ∷ cs) put =
    omega (arith, sum-once (claimed (Queue cpu q ∷ cs)) (claimed cs) cpu cpus (λ k. refl) put.0.0, claimed-sum cpus qs cs put.1)
claimed-sum cpus qs (Journal all ∷ cs) put = omega (arith, sum-same (claimed (Journal all ∷ cs)) (claimed cs) cpus (λ k. omega arith), claimed-sum cpus qs cs put.1)
claimed-sum cpus qs (Past seen ∷ cs) put = omega (arith, sum-same (claimed (Past seen ∷ cs)) (claimed cs) cpus (λ k. omega arith), claimed-sum cpus qs cs put.1)

-- where each queue is claimed once at most, and as many are claimed as there are, each is claimed
each-claimed : (cpus : ℕ) (qs : List View) (cs : List Claim) (c : ℕ) → AllPut cpus qs cs → ((k : Subject) → times k cs ≤ 1) → queue_count cs ≡ cpus → c < cpus → 1 ≤ times (queue c) cs
unfolding claimed
each-claimed cpus qs cs c put few all less = enough-of (times (queue c) cs) refl
  where
    enough-of : (n : ℕ) → times (queue c) cs ≡ n → 1 ≤ n
    enough-of zero e = absurd (omega (arith, sum-less (claimed cs) 1 cpus c (λ k. few (queue k)) less (omega arith), claimed-sum cpus qs cs put))
    enough-of (suc n) e = omega arith

-- and stands at its number
stands-by : (qs : List View) (m : Machine) (c cpu : ℕ) (b : Bool) (rest : ℕ) → (cpu == c) ≡ b → 1 ≤ once b + rest → queue_at (machine_of qs) cpu ≡ queue_at m cpu
    → (1 ≤ rest → queue_at (machine_of qs) c ≡ queue_at m c) → queue_at (machine_of qs) c ≡ queue_at m c
stands-by qs m c cpu true rest e some here others =
    let same : cpu ≡ c = grind (arith, nat_tests) in subst (λ (k : ℕ). queue_at (machine_of qs) k ≡ queue_at m k) same here
stands-by qs m c cpu false rest e some here others = others (omega arith)

stands : (t : Terms) (lines : List Line) (cpus : ℕ) (qs : List View) (cs : List Claim) (c : ℕ) → AllTell t lines cs → AllPut cpus qs cs → 1 ≤ times (queue c) cs
    → queue_at (machine_of qs) c ≡ queue_at (told t lines) c
stands t lines cpus qs [] c tell put some = absurd (omega arith)
stands t lines cpus qs (Seat cpu own ∷ cs) c tell put some = stands t lines cpus qs cs c tell.1 put.1 (omega arith)
stands t lines cpus qs (Queue cpu q ∷ cs) c tell put some =
    stands-by qs (told t lines) c cpu (cpu == c) (times (queue c) cs) refl some (put.0.1 ∙ sym tell.0) (λ rest. stands t lines cpus qs cs c tell.1 put.1 rest)
stands t lines cpus qs (Journal all ∷ cs) c tell put some = stands t lines cpus qs cs c tell.1 put.1 (omega arith)
stands t lines cpus qs (Past seen ∷ cs) c tell put some = stands t lines cpus qs cs c tell.1 put.1 (omega arith)

either_side : (c n : ℕ) → (c < n) ⊎ (n ≤ c)
either_side c n = grind arith

-- so the queues are the machine that the lines leave
pub whole-machine : (t : Terms) (lines : List Line) (qs : List View) (cs : List Claim) → Known t lines cs → AllPut (cpus_of t.setup.value) qs cs → queue_count cs ≡ cpus_of t.setup.value
    → length qs ≡ cpus_of t.setup.value → machine_of qs ≡ told t lines
whole-machine t lines qs cs known put all many =
    same_machine (machine_of qs) (told t lines) (length-machine_of qs ∙ many ∙ sym (length-told t lines)) (λ c. at c (either_side c (cpus_of t.setup.value)))
  where
    at : (c : ℕ) → (c < cpus_of t.setup.value) ⊎ (cpus_of t.setup.value ≤ c) → queue_at (machine_of qs) c ≡ queue_at (told t lines) c
    at c side =
        elim side [
          | inl less ↦ stands t lines (cpus_of t.setup.value) qs cs c known.tell put (each-claimed (cpus_of t.setup.value) qs cs c put known.once all less)
          | inr past ↦ get_or_past (machine_of qs) c empty_state (omega (arith, length-machine_of qs)) ∙ sym (get_or_past (told t lines) c empty_state (omega (arith, length-told t lines)))
        ]

-- the claims without the journal's
pub without-journal : (t : Terms) (lines : List Line) (o : Option (Vec Line Global)) (cs : List Claim) → Known t lines (with_journal o cs) → Known t lines cs
without-journal t lines None cs known = known
without-journal t lines (Some all) cs known = known-rest t lines (Journal all.items) cs known

-- the journal's lines are the history
journal-by : (t : Terms) (lines : List Line) (quota : Option ℕ) (all : List Line) → is_some quota ≡ true → IfSome quota (λ (most : ℕ). lines ≡ all) → all ≡ lines
journal-by t lines None all e h = absurd (let no : false ≡ true = e in cc)
journal-by t lines (Some most) all e h = sym h

pub journal-has : (t : Terms) (lines : List Line) (o : Option (Vec Line Global)) (cs : List Claim) → is_some o ≡ is_some t.quota → Known t lines (with_journal o cs) → IfSome o (λ all. all.items ≡ lines)
journal-has t lines None cs kept known = tt
journal-has t lines (Some all) cs kept known = journal-by t lines t.quota all.items (sym kept) known.tell.0
