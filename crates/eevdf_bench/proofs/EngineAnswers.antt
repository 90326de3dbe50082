-- From the meaning of a workload to what the engine answers.
use Rattle.std.proofs.Common.{◌≡◌, ℕ, Bool, ◌+◌, true, false, ◌&&◌, List, [], ◌∷◌, take, refl, sym, ap, subst, ◌∙◌, inl, inr}
use Rattle.std.specs.Prelude.{Option, Some, None, IfSome, IfOk, IfErr, Result, Ok, Err, OnErr, Vec, if◌then◌else◌}
use Rattle.std.proofs.lemmas.{Option.IfSome_then, Result.IfOk-weaker}
use Rattle.std.specs.{declared.alloc.Global.Global, List.list_all, Io.KnownBytes.Appends}
use Rattle.eevdf_ops.specs.{Setup.Setup, Setup.allows, declared.deeds.Deed.Deed}
use Rattle.eevdf_workload.specs.{declared.load_fault.LoadFault.LoadFault, MeaningSteps.Reads}
use Rattle.eevdf_workload.specs.declared.load_fault.LoadFault.TheVariants as fault
use Rattle.eevdf_workload.specs.declared.load_fault.Key.TheVariants as key
use Rattle.eevdf_bench.specs.{declared.workbench_fault.BenchFault.BenchFault, declared.command.Command.Command}
use Rattle.eevdf_bench.specs.{Streams.HasBegun}
use Rattle.eevdf_bench.specs.declared.workbench_fault.BenchFault.TheVariants as bench
use Rattle.eevdf_workload.specs.Meaning.{Workload, meaning, read_limit, allowed, allowed_from}
use Rattle.eevdf_steps.specs.declared.play_fault.PlayFault.{PlayFault}
use Rattle.eevdf_bench.specs.Runs.{TextOrFault, Answers, Begins, IsAnswer, IsAnswerOf, IsAnswerTo, IsInside, Makes, Refuses, Writes}
use Rattle.eevdf_bench.specs.RefusedDeeds.{refused_of, refused_of_read, refused_of_text}
use Rattle.eevdf_bench.specs.declared.refused_deeds.RefusedDeed.{RefusedDeed}
use Rattle.eevdf_bench.specs.Reports.{IsReport, IsReportOf, WritesReport}
use Rattle.eevdf_workload.proofs.InputLimit.{meaning_cut}

err_is_no_ok : (r : Result (Unit {0}) LoadFault) (f : LoadFault) → r ≡ Err f → r ≡ Ok tt → ⊥
err_is_no_ok r f e h = cc

-- every deed of a script that the setup allows is allowed
all_allowed : (s : Setup) (place : ℕ) (ds : List Deed) → allowed_from s place ds ≡ Ok tt → list_all (allows s) ds ≡ true
all_allowed s place [] e = refl
all_allowed s place (d ∷ ds) e =
    elim (allows s d) as (λ b. (if b then allowed_from s (place + 1) ds else Err (fault.BadValue (key.Script place))) ≡ Ok tt → (b && list_all (allows s) ds) ≡ true) [
      | true ↦ λ h. all_allowed s (place + 1) ds h
      | false ↦ λ h. absurd (err_is_no_ok _ _ refl h)
    ] e

pub script_allowed : (s : Setup) (script : Option (List Deed)) (ds : List Deed) → Some ds ≡ script → allowed s script ≡ Ok tt → list_all (allows s) ds ≡ true
script_allowed s script ds is e = all_allowed s 0 ds (subst (λ (o : Option (List Deed)). allowed s o ≡ Ok tt) (sym is) e)

-- a fault of the workload, of its order or of its run is none of an end
load_inside : (l : LoadFault) → IsInside (bench.Load l)
load_inside l = ((λ e. cc), (λ e. cc))

play_inside : (p : PlayFault) → IsInside (bench.Play p)
play_inside p = ((λ e. cc), (λ e. cc))

memory_inside : IsInside bench.Memory
memory_inside = ((λ e. cc), (λ e. cc))

-- a workload that isn't read isn't answered
pub refused : (c : Command) (bytes : List ℕ) (f : LoadFault) → Reads (λ (w : Workload). w) (meaning bytes) (Err f) → Answers (IsAnswerOf c bytes) (Err (bench.Load f))
refused c bytes f (inl e) = (inl e, load_inside f)
refused c bytes f (inr e) = (inr (subst (λ (m : Result Workload LoadFault). IsAnswerTo m c (Err (bench.Load f))) (sym e) refl), load_inside f)

as_fault : (Allows : TextOrFault → Type 0) (f g : BenchFault) → f ≡ g → Answers Allows (Err g) → Answers Allows (Err f)
as_fault Allows f g e h = subst (λ (b : BenchFault). Answers Allows (Err b)) (sym e) h

-- what is made of the only answer
pub made : (answer : TextOrFault) (r : Result (Vec ℕ Global) BenchFault) → Makes answer r → Answers (λ a. answer ≡ a) r
made answer (Ok text) h = h
made (Ok text) (Err f) h = as_fault (λ a. Ok text ≡ a) f bench.Memory h (tt, memory_inside)
made (Err (bench.Load l)) (Err f) h = as_fault (λ a. Err (bench.Load l) ≡ a) f (bench.Load l) h (inr refl, load_inside l)
made (Err (bench.Play p)) (Err f) (inl h) = as_fault (λ a. Err (bench.Play p) ≡ a) f (bench.Play p) h (refl, play_inside p)
made (Err (bench.Play p)) (Err f) (inr h) = as_fault (λ a. Err (bench.Play p) ≡ a) f bench.Memory h.1 (tt, memory_inside)
made (Err _) (Err f) h = elim h [ ]

-- a workload that is read is answered as the command asks
pub answered : (c : Command) (bytes : List ℕ) (w : Workload) (r : Result (Vec ℕ Global) BenchFault) → meaning bytes ≡ Ok w → Answers (IsAnswer c.kind w c.form) r → Answers (IsAnswerOf c bytes) r
answered c bytes w r e h = subst (λ (m : Result Workload LoadFault). Answers (IsAnswerTo m c) r) (sym e) h

pub reported : (c : Command) (bytes : List ℕ) (w : Workload) (r : Result (Vec ℕ Global) BenchFault) → meaning bytes ≡ Ok w → IfOk r (λ t. IsReport c.kind w c.form t.items)
    → IfOk r (λ t. IsReportOf c bytes t.items)
reported c bytes w r e h = IfOk-weaker r _ _ (λ text is. record { workload = w; means = e; report = is }) h

-- a workload that is cut at its limit is answered as the whole
of_the_whole : (c : Command) (all input : List ℕ) (P : (TextOrFault → Type 0) → Type 0) → input ≡ take read_limit all → P (IsAnswerOf c input) → P (IsAnswerOf c all)
of_the_whole c all input P cut h = subst (λ (m : Result Workload LoadFault). P (IsAnswerTo m c)) (ap meaning cut ∙ meaning_cut all) h

-- the same answer, of bytes and of a text under other names
pub answered_as : (c : Command) (bytes input made text : List ℕ) → bytes ≡ input → text ≡ made → IsAnswerOf c bytes (Ok made) → IsAnswerOf c input (Ok text)
answered_as c bytes input made text b t h =
    subst (λ (bs : List ℕ). IsAnswerOf c bs (Ok text)) b (subst (λ (bs : List ℕ). IsAnswerOf c bytes (Ok bs)) (sym t) h)

-- what was written for a workload that was read up to its limit
pub written : (c : Command) (left : Option (List ℕ)) (input text : List ℕ) (held held' : Option (List ℕ)) → IfSome left (λ all. input ≡ take read_limit all) → IsAnswerOf c input (Ok text)
    → Appends held held' text → IfSome left (λ all. Writes (IsAnswerOf c all) held held')
written c left input text held held' cut a w =
    IfSome_then left cut (λ all cut. record { text = text; answered = of_the_whole c all input (λ Allows. Allows (Ok text)) cut a; written = w })

-- what the text says that was written
pub report_written : (c : Command) (left : Option (List ℕ)) (input bytes text made : List ℕ) (held held' : Option (List ℕ)) → IfSome left (λ all. input ≡ take read_limit all)
    → bytes ≡ input → text ≡ made → IsReportOf c bytes made → Appends held held' text → IfSome left (λ all. WritesReport c all held held')
report_written c left input bytes text made held held' cut b t r w =
    IfSome_then left cut (λ all cut. record {
      text = text;
      report = record {
        workload = r.workload;
        means = sym (meaning_cut all) ∙ ap meaning (sym cut) ∙ ap meaning (sym b) ∙ r.means;
        report = subst (λ (bs : List ℕ). IsReport c.kind r.workload c.form bs) (sym t) r.report;
      };
      written = w;
    })

-- the same where a beginning was written
pub begun : (c : Command) (left : Option (List ℕ)) (input text : List ℕ) (flush_failed : Bool) (held held' : Option (List ℕ)) → IfSome left (λ all. input ≡ take read_limit all)
    → IsAnswerOf c input (Ok text) → HasBegun flush_failed held held' text → IfSome left (λ all. Begins (IsAnswerOf c all) flush_failed held held')
begun c left input text flush_failed held held' cut a w =
    IfSome_then left cut (λ all cut. record { text = text; answered = of_the_whole c all input (λ Allows. Allows (Ok text)) cut a; begun = w })

-- why nothing was written for it
pub of_input : (c : Command) (left : Option (List ℕ)) (bytes input : List ℕ) (f : BenchFault) → bytes ≡ input → IfSome left (λ all. input ≡ take read_limit all) → Refuses (IsAnswerOf c bytes) f
    → IfSome left (λ all. Refuses (IsAnswerOf c all) f)
of_input c left bytes input f b cut h = IfSome_then left cut (λ all cut. of_the_whole c all bytes (λ Allows. Refuses Allows f) (b ∙ cut) h)

pub on_err : {E : Type 0} (r : Result (Unit {0}) E) (e : E) (P : Type 0) → OnErr r P → r ≡ Err e → P
on_err r e P h is = subst (λ s. OnErr s P) is h

-- what failed to write blames the writer alone
pub only_write : (r : Result (Unit {0}) BenchFault) (P : BenchFault → Type 0) → IfErr r (λ f. f ≡ bench.Write) → P bench.Write → IfErr r P
only_write (Ok _) P kind h = tt
only_write (Err f) P kind h = subst P (sym kind) h

pub no_other : (r : Result (Unit {0}) BenchFault) (f : BenchFault) → IfErr r (λ f. f ≡ bench.Write) → r ≡ Err f → f ≡ bench.Write
no_other r f kind is = subst (λ s. IfErr s (λ f. f ≡ bench.Write)) is kind

abbrev failed : BenchFault → Result (Unit {0}) BenchFault
failed f = Err f

-- faults that differ are no equal results
pub results_differ : (f g : BenchFault) → (f ≡ g → ⊥) → failed f ≡ failed g → ⊥
results_differ f g differs is = differs cc

pub any_input : (left : Option (List ℕ)) → IfSome left (λ _. Unit {0})
any_input None = tt
any_input (Some _) = tt

-- the first deed that was refused of a workload that is read is that of its bytes
pub noted : (bytes : List ℕ) (w : Workload) (first : Option RefusedDeed) → meaning bytes ≡ Ok w → first ≡ refused_of w → first ≡ refused_of_text bytes
noted bytes w first e f = f ∙ sym (ap refused_of_read e)

-- and of the whole from which the bytes are cut, where it is told
pub noted_of_input : {Told : Type 0} (left : Option (List ℕ)) (input bytes : List ℕ) (first : Option RefusedDeed) → IfSome left (λ all. input ≡ take read_limit all) → bytes ≡ input
    → (Told → first ≡ refused_of_text bytes) → Told → IfSome left (λ all. first ≡ refused_of_text all)
noted_of_input left input bytes first cut b f told =
    IfSome_then left cut (λ all cut. f told ∙ ap refused_of_text (b ∙ cut) ∙ ap refused_of_read (meaning_cut all))
