-- What a document describes, by what its keys are read as.
use Rattle.std.proofs.Common.{◌≡◌, ◌∙◌, ℕ, List, Option, Result, Ok, Err, refl, ap, ⊎_elim, inl, inr}
use Rattle.std.specs.Prelude.{◌⊎◌}
use Rattle.toml.specs.Data.{Members}
use Rattle.eevdf_ops.specs.{Setup.Setup, declared.task_spec.TaskSpec.TaskSpec, declared.deeds.Op.Op, declared.deeds.Deed.Deed}
use Rattle.eevdf_workload.specs.{declared.version.Limits.Limits, declared.load_fault.LoadFault.LoadFault, declared.load_fault.LoadFault.TheVariants.Memory}
use Rattle.eevdf_workload.specs.MeaningSteps.{◌>>=◌}
use Rattle.eevdf_workload.specs.Meaning.{allowed, order, programs, script, setup_of, tasks, workload_in}

-- a step that finds something, and one that finds a fault
found : {A B : Type 0} (m : Result A LoadFault) (f : A → Result B LoadFault) (a : A) (r : Result B LoadFault) → m ≡ Ok a → f a ≡ r → (m >>= f) ≡ r
found {A} {B} m f a r is on = ap (λ (s : Result A LoadFault). s >>= f) is ∙ on

failed : {A B : Type 0} (m : Result A LoadFault) (f : A → Result B LoadFault) (e : LoadFault) → m ≡ Err e → (m >>= f) ≡ Err e
failed {A} {B} m f e is = ap (λ (s : Result A LoadFault). s >>= f) is

-- a fault of the other is one, where both are the same
pub same_fault : {A : Type 0} (m other : Result A LoadFault) (e : LoadFault) → m ≡ other → (e ≡ Memory) ⊎ (other ≡ Err e) → (e ≡ Memory) ⊎ (m ≡ Err e)
same_fault m other e same h = ⊎_elim inl (λ f. inr (same ∙ f)) h

module _ (limits : Limits) (document : Members) where
  -- out of memory, or the fault of the document
  abbrev IsFault : LoadFault → Type 0
  IsFault e = (e ≡ Memory) ⊎ (workload_in limits document ≡ Err e)

  pub tasks_fault : (e : LoadFault) → (e ≡ Memory) ⊎ (tasks limits document ≡ Err e) → IsFault e
  unfolding workload_in
  tasks_fault e h = ⊎_elim inl (λ f. inr (failed _ _ e f)) h

  pub programs_fault : (specs : List TaskSpec) → tasks limits document ≡ Ok specs → (e : LoadFault) → (e ≡ Memory) ⊎ (programs limits document ≡ Err e) → IsFault e
  unfolding workload_in
  programs_fault specs has_specs e h = ⊎_elim inl (λ f. inr (found _ _ specs _ has_specs (failed _ _ e f))) h

  module _ (specs : List TaskSpec) (has_specs : tasks limits document ≡ Ok specs) (operations : List (List Op)) (has_operations : programs limits document ≡ Ok operations) where
    pub order_fault : (e : LoadFault) → (e ≡ Memory) ⊎ (order document ≡ Err e) → IsFault e
    unfolding workload_in
    order_fault e h = ⊎_elim inl (λ f. inr (found _ _ specs _ has_specs (found _ _ operations _ has_operations (failed _ _ e f)))) h

    pub script_fault : (callers : Option (List ℕ)) → order document ≡ Ok callers → (e : LoadFault) → (e ≡ Memory) ⊎ (script limits document ≡ Err e) → IsFault e
    unfolding workload_in
    script_fault callers has_callers e h =
        ⊎_elim inl (λ f. inr (found _ _ specs _ has_specs (found _ _ operations _ has_operations (found _ _ callers _ has_callers (failed _ _ e f))))) h

    module _ (callers : Option (List ℕ)) (has_callers : order document ≡ Ok callers) (deeds : Option (List Deed)) (has_deeds : script limits document ≡ Ok deeds) where
      pub setup_fault : (e : LoadFault) → (e ≡ Memory) ⊎ (setup_of limits specs operations ≡ Err e) → IsFault e
      unfolding workload_in
      setup_fault e h =
          ⊎_elim inl (λ f. inr (found _ _ specs _ has_specs (found _ _ operations _ has_operations (found _ _ callers _ has_callers (found _ _ deeds _ has_deeds (failed _ _ e f)))))) h

      pub deed_fault : (setup : Setup) → setup_of limits specs operations ≡ Ok setup → (e : LoadFault) → allowed setup deeds ≡ Err e → IsFault e
      unfolding workload_in
      deed_fault setup has_setup e f =
          inr (found _ _ specs _ has_specs (found _ _ operations _ has_operations (found _ _ callers _ has_callers (found _ _ deeds _ has_deeds (found _ _ setup _ has_setup (failed _ _ e f))))))

    pub whole : (callers : Option (List ℕ)) (deeds : Option (List Deed)) (setup : Setup) → order document ≡ Ok callers → script limits document ≡ Ok deeds → setup_of limits specs operations ≡ Ok setup → allowed setup deeds ≡ Ok tt
        → workload_in limits document ≡ Ok (record { setup = setup; order = callers; script = deeds })
    unfolding workload_in
    whole callers deeds setup has_callers has_deeds has_setup all =
        found _ _ specs _ has_specs
        (found _ _ operations _ has_operations
        (found _ _ callers _ has_callers
        (found _ _ deeds _ has_deeds (found _ _ setup _ has_setup (found _ _ tt _ all refl)))))
