-- From what a script comes to, to what is answered.
use Rattle.std.proofs.Common.{◌≡◌, ℕ, Bool, true, List, [], ◌∷◌, refl, sym, ap, subst, ◌∙◌}
use Rattle.std.specs.{Prelude.Option, Prelude.Some, List.list_all}
use Rattle.eevdf_ops.specs.{declared.deeds.Deed.Deed, declared.deeds.Line.Line, Histories.IsOneThread, Machine.Machine, Machine.start, Outcome.Outcome}
use Rattle.eevdf_ops.specs.{Outcome.machine_of, Places.IsPlaced, Programs.deeds_of}
use Rattle.eevdf_ops.specs.Setup.{Setup, allows, homes_of}
use Rattle.eevdf_ops.specs.Whole.{lines_of, machine_after, whole}
use Rattle.eevdf_bench.specs.{declared.command.Kind.TheVariants.Solo, Reports.IsReport}
use Rattle.eevdf_workload.specs.Meaning.{Workload}
use Rattle.eevdf_report.specs.{TextReport.report_text, declared.form.Form.Form}
use Rattle.eevdf_bench.specs.RefusedDeeds.{first_refused, refused_in, refused_of}
use Rattle.eevdf_bench.specs.declared.refused_deeds.RefusedDeed.{RefusedDeed}
use Rattle.eevdf_bench.proofs.OwnDeeds.{own_deeds}

-- the lines of a list of deeds have these deeds
deeds-lines_of : (homes : List ℕ) (m : Machine) (ds : List Deed) → deeds_of (lines_of homes m ds) ≡ ds
deeds-lines_of homes m [] = refl
deeds-lines_of homes m (d ∷ ds) = ap (λ (es : List Deed). d ∷ es) (deeds-lines_of homes (whole homes d m).1 ds)

pub done : (homes : List ℕ) (m : Machine) (ds : List Deed) (o : Outcome) → o.lines ≡ lines_of homes m ds → machine_of o.queues ≡ machine_after homes m ds → IsOneThread homes m ds o
done homes m ds o lines machine = record {
  deeds_are = ap deeds_of lines ∙ deeds-lines_of homes m ds;
  lines = lines;
  machine = machine;
}

pub script_report : (w : Workload) (form : Form) (s : Setup) (ds : List Deed) (text : List ℕ) (o : Outcome) → Some ds ≡ w.script → s ≡ w.setup → list_all (allows w.setup) ds ≡ true
    → o.lines ≡ lines_of (homes_of s) (start s) ds → machine_of o.queues ≡ machine_after (homes_of s) (start s) ds → IsPlaced (homes_of s) (machine_of o.queues)
    → text ≡ report_text o.lines (machine_of o.queues) o.left form → IsReport Solo w form text
script_report w form s ds text o there same allowed lines machine placed t =
    let one : IsOneThread (homes_of s) (start s) ds o = done (homes_of s) (start s) ds o lines machine in record {
      outcome = o;
      one_thread = subst (λ (u : Setup). IsOneThread (homes_of u) (start u) (deeds_of o.lines) o) same (own_deeds (homes_of s) (start s) ds o one);
      allowed = subst (λ (es : List Deed). list_all (allows w.setup) es ≡ true) (sym one.deeds_are) allowed;
      places = subst (λ (u : Setup). IsPlaced (homes_of u) (machine_of o.queues)) same placed;
      does = sym there ∙ ap (λ (es : List Deed). Some es) (sym one.deeds_are);
      says = t;
    }

-- the first deed that is refused of the lines of a script is that of the workload
pub script_refused : (w : Workload) (s : Setup) (ds : List Deed) (lines : List Line) (first : Option RefusedDeed) → Some ds ≡ w.script → s ≡ w.setup
    → lines ≡ lines_of (homes_of s) (start s) ds → first ≡ first_refused 0 lines → first ≡ refused_of w
script_refused w s ds lines first there same l f =
    f ∙ ap (λ (ls : List Line). first_refused 0 ls) l ∙ ap (λ (u : Setup). refused_in u (Some ds)) same ∙ ap (refused_in w.setup) there
