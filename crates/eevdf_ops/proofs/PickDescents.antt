-- The depth of a pick, by what a queue says of it.
use Rattle.std.proofs.Common.{◌≡◌, ℕ, zero, suc, ◌<◌, List, [], ◌∷◌, length, get_or, set, refl, sym, ap, subst, ◌∙◌, arith}
use Rattle.std.specs.Prelude.{⊤}
use Rattle.eevdf_queue.specs.{State.State, State.View}
use Rattle.eevdf_ops.specs.PickDepths.{HasActDepth, HasPickDepth, depth_at, depths_of}
use Rattle.eevdf_ops.specs.{declared.acts.Act.Act, declared.acts.LocalAct.LocalAct, declared.deeds.Deed.Deed}
use Rattle.eevdf_ops.specs.{Acts.act_of, Machine.Machine, Machine.queue_at, Outcome.machine_of, Parts.decider}
use Rattle.eevdf_ops.specs.declared.acts.Act.TheVariants as act
use Rattle.eevdf_ops.specs.declared.deeds.Deed.TheVariants.{Pick}
use Rattle.eevdf_ops.proofs.Machines.{queue_read}

get_depth : (queues : List View) (k : ℕ) (q : View) → k < length queues → get_or (depths_of (set queues k q)) k 0 ≡ q.pick_depth
get_depth [] k q h = absurd (omega arith)
get_depth (x ∷ queues) zero q h = refl
get_depth (x ∷ queues) (suc k) q h = get_depth queues k q (omega arith)

-- what holds of the depth of a queue that was written
depth_written : (P : State → ℕ → Type 0) (s s' : State) (queues : List View) (cpu k : ℕ) (q : View) → k ≡ cpu → k < length queues → s ≡ s' → P s q.pick_depth → P s' (depth_at (set queues k q) cpu)
depth_written P s s' queues cpu k q at within e h =
    let there : q.pick_depth ≡ depth_at (set queues k q) cpu =
    sym (get_depth queues k q within) ∙ ap (λ (i : ℕ). depth_at (set queues k q) i) at in
    subst (λ (n : ℕ). P s' n) there (subst (λ (r : State). P r q.pick_depth) e h)

abbrev HasDepthOf : Act → State → ℕ → Type 0
HasDepthOf (act.Local a) q depth = HasActDepth a q depth
HasDepthOf (act.Transfer other t) q depth = ⊤

of_deed : (homes : List ℕ) (deed : Deed) (m : Machine) (queues : List View) → HasDepthOf (act_of homes deed) (queue_at m (decider deed)) (depth_at queues (decider deed)) → HasPickDepth m deed queues
of_deed homes (Pick cpu) m queues h = h
of_deed homes deed m queues h = tt

-- a deed on one queue sets its depth where it is a pick
pub depth_of_deed : (homes : List ℕ) (deed : Deed) (a : LocalAct) (queues : List View) (cpu k : ℕ) (read written : View) → act_of homes deed ≡ act.Local a → decider deed ≡ cpu → k ≡ cpu → k < length queues
    → HasActDepth a (get_or queues k read).state written.pick_depth → HasPickDepth (machine_of queues) deed (set queues k written)
depth_of_deed homes deed a queues cpu k read written is own at within h =
    let there : HasActDepth a (queue_at (machine_of queues) cpu) (depth_at (set queues k written) cpu) =
    depth_written (HasActDepth a) (get_or queues k read).state (queue_at (machine_of queues) cpu) queues cpu k written at within (sym (queue_read queues cpu k read at within)) h in
    of_deed homes deed (machine_of queues) (set queues k written)
    (subst (λ (c : ℕ). HasDepthOf (act_of homes deed) (queue_at (machine_of queues) c) (depth_at (set queues k written) c)) (sym own)
    (subst (λ (x : Act). HasDepthOf x (queue_at (machine_of queues) cpu) (depth_at (set queues k written) cpu)) (sym is) there))
