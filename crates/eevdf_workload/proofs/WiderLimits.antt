-- What is read within limits is read the same within wider ones.
use Rattle.std.proofs.Common.{◌≡◌, ℕ, ◌≤◌, codes, Bool, true, false, cond, ltb, List, [], ◌∷◌, length, Option, None, option_map, option_and_then, refl, inl, inr, arith}
use Rattle.std.proofs.{lemmas.Bool.cases_Bool, lemmas.Bool.Decides.nat_tests, lemmas.Option.none-some}
use Rattle.std.specs.{Prelude.ℤ, Prelude.nat_le, Option.option_or, Str.bytes_eq}
use Rattle.toml.specs.Data.{Data, table, Members, Items, get_member, as_str}
use Rattle.eevdf_ops.specs.{Faults.setup_fault, Faults.unless, Programs.deed_of, Setup.Setup, declared.deeds.Op.Op}
use Rattle.eevdf_ops.specs.{declared.deeds.Deed.Deed, declared.task_spec.TaskSpec.TaskSpec}
use Rattle.eevdf_ops.specs.{declared.setup_fault.SetupFault.SetupFault, declared.setup_fault.SetupFault.TheVariants.BadCpus}
use Rattle.eevdf_ops.specs.declared.deeds.Op.TheVariants as op
use Rattle.eevdf_ops.specs.declared.deeds.Deed.TheVariants as deed
use Rattle.eevdf_workload.specs.{declared.version.Limits.Limits, declared.load_fault.Key.Key, Versions.cpu_within}
use Rattle.eevdf_workload.specs.declared.reading.verb_text.Verb.{Verb}
use Rattle.eevdf_workload.specs.declared.reading.verb_text.Verb.TheVariants as verb
use Rattle.eevdf_workload.specs.declared.load_fault.Key.TheVariants as key
use Rattle.eevdf_workload.specs.MeaningSteps.{array_at, at_most, count, natural, integer_or}
use Rattle.eevdf_workload.specs.Words.{words, number, only_number, only_cpu, only_task, alone, renice_of, begin_of, set_of, verb_of, task_in, operation_by, operation_of, operation, sender_of, wake_of, deed_on, deed_in}
use Rattle.eevdf_workload.specs.Meaning as meant
use Rattle.eevdf_workload.proofs.KeptResults.{KeepsSome, KeepsOk, kept_cond, kept_then, kept_after, kept_map, kept_good, kept_bind, kept_behind, kept_each, kept_required, kept_present}

-- limits, and others that are no narrower
pub record AreWider (narrow wide : Limits) : Type 0 where
  pub cpus : narrow.cpus ≤ wide.cpus
  pub deeds : narrow.deeds ≤ wide.deeds
  pub renice : narrow.renice ≡ true → wide.renice ≡ true
  pub begin : narrow.begin ≡ true → wide.begin ≡ true
  pub doze : narrow.doze ≡ true → wide.doze ≡ true

below_too : (n a b : ℕ) → a ≤ b → ltb n a ≡ true → ltb n b ≡ true
below_too n a b wider h = grind (arith, nat_tests)

no_more : (n a b : ℕ) → a ≤ b → nat_le n a ≡ true → nat_le n b ≡ true
no_more n a b wider h = grind (arith, nat_tests)

at_most_kept : (a b : ℕ) (k : Key) (ds : Items) → a ≤ b → KeepsOk Items (at_most a k ds) (at_most b k ds)
at_most_kept a b k ds wider es h =
    elim (cases_Bool (ltb a (count ds))) [
      | inl more ↦ let none = rw more at h in cc
      | inr fits ↦
          let too : ltb b (count ds) ≡ false = grind (arith, nat_tests) in
          rw too (rw fits at h)
    ]

set_up_kept : (a b : Bool) (f : Option SetupFault) (s : Setup) → (a ≡ true → b ≡ true) → KeepsOk Setup (meant.set_up (option_or (unless a BadCpus) f) s) (meant.set_up (option_or (unless b BadCpus) f) s)
set_up_kept true b f s too t h = rw (too refl) h
set_up_kept false b f s too t h = cc

known_kept : (a b : Bool) (o : Option Op) → (a ≡ true → b ≡ true) → KeepsSome Op (cond a o None) (cond b o None)
known_kept true b o too p h = rw (too refl) h
known_kept false b o too p h = absurd (none-some p h)

module _ (narrow wide : Limits) (wider : AreWider narrow wide) where
  -- ---- words

  cpu_kept : (n : ℕ) → KeepsSome ℕ (cpu_within narrow n) (cpu_within wide n)
  cpu_kept n c h =
      elim (cases_Bool (ltb n narrow.cpus)) [
        | inl below ↦ rw (below_too n narrow.cpus wide.cpus wider.cpus below) (rw below at h)
        | inr above ↦ absurd (none-some c (rw above at h))
      ]

  only_cpu_kept : (ws : List (List ℕ)) → KeepsSome ℕ (only_cpu narrow ws) (only_cpu wide ws)
  only_cpu_kept ws = kept_after ℕ ℕ (only_number ws) _ _ cpu_kept

  operation_by_kept : (ws : List (List ℕ)) (v : Verb) → KeepsSome Op (operation_by narrow ws v) (operation_by wide ws v)
  operation_by_kept ws verb.Pull = kept_map ℕ Op op.Pull _ _ (only_cpu_kept ws)
  operation_by_kept ws verb.Renice = known_kept narrow.renice wide.renice (renice_of ws) wider.renice
  operation_by_kept ws verb.Begin = known_kept narrow.begin wide.begin (begin_of ws) wider.begin
  operation_by_kept ws verb.End = known_kept narrow.begin wide.begin (option_map op.End (only_task ws)) wider.begin
  operation_by_kept ws verb.Set = known_kept narrow.begin wide.begin (set_of ws) wider.begin
  operation_by_kept ws verb.Rebase = known_kept narrow.begin wide.begin (alone op.Rebase ws) wider.begin
  operation_by_kept ws verb.Doze = known_kept narrow.doze wide.doze (option_map op.Doze (only_task ws)) wider.doze
  operation_by_kept ws _ = λ o h. h

  operation_of_kept : (verb : List ℕ) (ws : List (List ℕ)) → KeepsSome Op (operation_of narrow verb ws) (operation_of wide verb ws)
  operation_of_kept verb ws = kept_after Verb Op (verb_of verb) _ _ (operation_by_kept ws)

  operation_kept : (ws : List (List ℕ)) → KeepsSome Op (operation narrow ws) (operation wide ws)
  unfolding operation
  operation_kept [] = λ o h. h
  operation_kept (verb ∷ ws) = operation_of_kept verb ws

  sender_kept : (ws : List (List ℕ)) → KeepsSome ℕ (sender_of narrow ws) (sender_of wide ws)
  sender_kept [] = λ n h. h
  sender_kept (word ∷ ws) =
      kept_cond ℕ (bytes_eq word (codes "from")) (only_cpu narrow ws) (only_cpu wide ws) None None (only_cpu_kept ws) (λ n h. h)

  wake_kept : (cpu : ℕ) (ws : List (List ℕ)) → KeepsSome Deed (wake_of narrow cpu ws) (wake_of wide cpu ws)
  wake_kept cpu [] = λ d h. h
  wake_kept cpu (word ∷ ws) =
      kept_after ℕ Deed (task_in word) _ _
      (λ task. kept_map ℕ Deed (deed.Wake cpu task) _ _ (sender_kept ws))

  deed_on_kept : (cpu : ℕ) (ws : List (List ℕ)) → KeepsSome Deed (deed_on narrow cpu ws) (deed_on wide cpu ws)
  deed_on_kept cpu [] = λ d h. h
  deed_on_kept cpu (verb ∷ ws) =
      kept_cond Deed (bytes_eq verb (codes "wake")) (wake_of narrow cpu ws) (wake_of wide cpu ws) (option_and_then (deed_of cpu) (operation_of narrow verb ws)) (option_and_then (deed_of cpu) (operation_of wide verb ws))
      (wake_kept cpu ws)
      (kept_then Op Deed _ _ _ _ (operation_of_kept verb ws) (λ o d h. h))

  deed_kept : (ws : List (List ℕ)) → KeepsSome Deed (deed_in narrow ws) (deed_in wide ws)
  unfolding deed_in
  deed_kept [] = λ d h. h
  deed_kept (word ∷ ws) =
      kept_then ℕ Deed _ _ _ _
      (kept_after ℕ ℕ (number word) _ _ cpu_kept) (λ cpu. deed_on_kept cpu ws)

  -- ---- the keys

  home_kept : (place : ℕ) (task : Members) → KeepsOk ℕ (meant.home_of narrow place task) (meant.home_of wide place task)
  unfolding meant.home_of
  home_kept place task =
      kept_good ℕ (key.Home place) _ _
      (kept_after ℤ ℕ (integer_or meant.default_home (get_member (codes "home") task)) _ _ (λ z. kept_after ℕ ℕ (natural z) _ _ cpu_kept))

  task_kept : (place : ℕ) (d : Data) → KeepsOk TaskSpec (meant.task_at narrow place d) (meant.task_at wide place d)
  unfolding meant.task_at meant.task_of
  task_kept place (table task) = kept_bind ℕ TaskSpec _ _ _ _ (home_kept place task) (λ home t h. h)
  task_kept place _ = λ t h. h

  tasks_kept : (document : Members) → KeepsOk (List TaskSpec) (meant.tasks narrow document) (meant.tasks wide document)
  unfolding meant.tasks
  tasks_kept document =
      kept_required (List TaskSpec) key.Tasks (get_member (codes "task") document) _ _
      (λ d. kept_behind Items (List TaskSpec) (array_at key.Tasks d) _ _ (kept_each TaskSpec _ _ task_kept 0))

  operation_at_kept : (cpu place : ℕ) (d : Data) → KeepsOk Op (meant.operation_at narrow cpu place d) (meant.operation_at wide cpu place d)
  unfolding meant.operation_at
  operation_at_kept cpu place d =
      kept_good Op (key.Op cpu place) _ _
      (kept_after (List ℕ) Op (as_str d) _ _ (λ text. operation_kept (words text)))

  program_kept : (cpu : ℕ) (d : Data) → KeepsOk (List Op) (meant.program_at narrow cpu d) (meant.program_at wide cpu d)
  unfolding meant.program_at
  program_kept cpu d =
      kept_behind Items (List Op) (array_at (key.Program cpu) d) _ _ (kept_each Op _ _ (operation_at_kept cpu) 0)

  programs_kept : (document : Members) → KeepsOk (List (List Op)) (meant.programs narrow document) (meant.programs wide document)
  unfolding meant.programs
  programs_kept document =
      kept_required (List (List Op)) key.Programs (get_member (codes "program") document) _ _
      (λ d. kept_behind Items (List (List Op)) (array_at key.Programs d) _ _ (kept_each (List Op) _ _ program_kept 0))

  deed_at_kept : (place : ℕ) (d : Data) → KeepsOk Deed (meant.deed_at narrow place d) (meant.deed_at wide place d)
  unfolding meant.deed_at
  deed_at_kept place d =
      kept_good Deed (key.Script place) _ _
      (kept_after (List ℕ) Deed (as_str d) _ _ (λ text. deed_kept (words text)))

  script_kept : (document : Members) → KeepsOk (Option (List Deed)) (meant.script narrow document) (meant.script wide document)
  unfolding meant.script
  script_kept document =
      kept_present (List Deed) (get_member (codes "script") document) _ _
      (λ d. kept_bind Items (List Deed) _ _ _ _
      (kept_behind Items Items (array_at key.Scripts d) _ _ (λ ds. at_most_kept narrow.deeds wide.deeds key.Scripts ds wider.deeds))
      (kept_each Deed _ _ deed_at_kept 0))

  -- ---- the whole

  setup_kept : (specs : List TaskSpec) (operations : List (List Op)) → KeepsOk Setup (meant.setup_of narrow specs operations) (meant.setup_of wide specs operations)
  unfolding meant.setup_of
  setup_kept specs operations =
      set_up_kept (nat_le (length operations) narrow.cpus) (nat_le (length operations) wide.cpus) (setup_fault specs operations) _ (no_more (length operations) narrow.cpus wide.cpus wider.cpus)

  pub workload_kept : (document : Members) → KeepsOk meant.Workload (meant.workload_in narrow document) (meant.workload_in wide document)
  unfolding meant.workload_in
  workload_kept document =
      kept_bind (List TaskSpec) meant.Workload _ _ _ _ (tasks_kept document)
      (λ specs. kept_bind (List (List Op)) meant.Workload _ _ _ _ (programs_kept document)
      (λ operations. kept_behind (Option (List ℕ)) meant.Workload (meant.order document) _ _
      (λ callers. kept_bind (Option (List Deed)) meant.Workload _ _ _ _ (script_kept document)
      (λ deeds. kept_bind Setup meant.Workload _ _ _ _ (setup_kept specs operations)
      (λ setup w h. h)))))
