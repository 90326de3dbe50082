-- The operations of a program, one after the other, and what each does to its seat.
use Rattle.std.proofs.Common.{append-nil, append_assoc, ◌≡◌, ◌≢◌, ℕ, ◌<◌, Bool, true, false, cond, List, [], ◌∷◌, ◌++◌, length, get_or, set, sym, ap, subst, ◌∙◌, arith, refl}
use Rattle.std.proofs.{lemmas.Bool.ltb-true, lemmas.Bool.Decides.nat_tests}
use Rattle.std.proofs.lemmas.List.{flat_map_more, get_or-set_other, get_or-set_same, map-append}
use Rattle.std.specs.Prelude.{◌==◌, nat_lt, None}
use Rattle.eevdf_ops.specs.{declared.deeds.Deed.Deed, declared.deeds.Line.Line, declared.deeds.Op.Op, Faults.operation_fault}
use Rattle.eevdf_ops.specs.declared.deeds.Op.TheVariants as op
use Rattle.eevdf_ops.specs.OwnRequests.{AllFitWaiting, own_after, own_taken, own_waiting}
use Rattle.eevdf_ops.specs.Programs.{FitsOperation, FitsOperations, deeds_of, post_of, wakes_from}
use Rattle.eevdf_ops.specs.Setup.{Setup, cpus_of, home_of, homes_of, is_task}
use Rattle.eevdf_ops.proofs.SetupFaults.{passes}
use Rattle.eevdf_fleet.specs.Fleets.{Seat, posted_to, with_post}
use Rattle.eevdf_fleet.specs.ProgramRuns.{HasOperated, HasRun}
use Rattle.eevdf_fleet.proofs.ProgramDrains.{fits-waiting-more, takes-own, waiting-more, waits-after}

-- a task that is posted is one of the setup
pub posts-known : (homes : List ℕ) (cpus cpu n task : ℕ) (o : Op) → operation_fault homes cpus cpu n o ≡ None → o ≡ op.Post task → nat_lt task (length homes) ≡ true
posts-known homes cpus cpu n task o e is = passes (is_task homes task) _ (subst (λ (x : Op). operation_fault homes cpus cpu n x ≡ None) is e)

pub posts-a-task : (homes : List ℕ) (cpus cpu n task : ℕ) (o : Op) → operation_fault homes cpus cpu n o ≡ None → o ≡ op.Post task → task < length homes
posts-a-task homes cpus cpu n task o e is = ltb-true task (length homes) (posts-known homes cpus cpu n task o e is)

posted-next : (posted : List (List ℕ)) (at home task : ℕ) (b : Bool) → (at == home) ≡ b → at < length posted
    → get_or (set posted at (get_or posted at [] ++ task ∷ [])) home [] ≡ get_or posted home [] ++ cond b (task ∷ []) []
posted-next posted at home task true e h =
    let same : at ≡ home = grind (arith, nat_tests) in
    subst (λ (k : ℕ). get_or (set posted at (get_or posted at [] ++ task ∷ [])) k [] ≡ get_or posted k [] ++ task ∷ []) same
    (get_or-set_same posted at (get_or posted at [] ++ task ∷ []) [] h)
posted-next posted at home task false e h =
    let apart : home ≢ at = grind (arith, nat_tests) in
    get_or-set_other posted at home (get_or posted at [] ++ task ∷ []) [] apart ∙ sym (append-nil (get_or posted home []))

-- a post, on a seat that posts to all CPUs
pub post-done : (s : Setup) (before after : Seat) (task : ℕ) → length before.posted ≡ cpus_of s → home_of (homes_of s) task < cpus_of s
    → after ≡ with_post before (home_of (homes_of s) task) task → HasOperated s (op.Post task) before after
post-done s before after task all within e = record {
  lines = [];
  cpu = ap (λ (x : Seat). x.cpu) e;
  log = ap (λ (x : Seat). x.log) e ∙ sym (append-nil before.log);
  fits = refl;
  takes = tt;
  posts = λ home h. ap (λ (x : Seat). posted_to x home) e
      ∙ posted-next before.posted (home_of (homes_of s) task) home task (home_of (homes_of s) task == home) refl (omega arith);
  room = omega (arith, ap (λ (x : Seat). x.room) e);
}

-- one operation after others
fits-more : (cpu : ℕ) (ops : List Op) (o : Op) (deeds front : List Deed) → FitsOperations cpu deeds ops → FitsOperation cpu front o → FitsOperations cpu (deeds ++ front) (ops ++ o ∷ [])
fits-more cpu [] o deeds front h last = record {
  front = front;
  back = [];
  joined = ap (λ (ds : List Deed). ds ++ front) h ∙ sym (append-nil front);
  fits_front = last;
  fits_back = refl;
}
fits-more cpu (p ∷ ops) o deeds front h last = record {
  front = h.front;
  back = h.back ++ front;
  joined = ap (λ (ds : List Deed). ds ++ front) h.joined ∙ append_assoc h.front h.back front;
  fits_front = h.fits_front;
  fits_back = fits-more cpu ops o h.back front h.fits_back last;
}

pub run-more : (s : Setup) (cpu : ℕ) (ops : List Op) (o : Op) (before after : Seat) → cpu < cpus_of s → HasRun s cpu ops before → HasOperated s o before after
    → HasRun s cpu (ops ++ o ∷ []) after
run-more s cpu ops o before after below run done =
    let homes : List ℕ = homes_of s in
    let waiting : List ℕ = own_waiting homes cpu [] ops in
    let deeds : deeds_of before.log ++ deeds_of done.lines ≡ deeds_of after.log
    = sym (ap (λ (lines : List Line). deeds_of lines) done.log ∙ map-append (λ (l : Line). l.deed) before.log done.lines) in
    let fits : FitsOperation cpu (deeds_of done.lines) o = subst (λ (c : ℕ). FitsOperation c (deeds_of done.lines) o) run.own done.fits in
    let taken : wakes_from cpu done.lines ≡ own_taken waiting o = takes-own cpu before waiting run.waits done.lines o run.own fits done.takes in
    record {
      own = done.cpu ∙ run.own;
      operations = subst (λ (ds : List Deed). FitsOperations cpu ds (ops ++ o ∷ [])) deeds
          (fits-more cpu ops o (deeds_of before.log) (deeds_of done.lines) run.operations fits);
      takes = subst (λ (ds : List Deed). AllFitWaiting homes cpu [] ds (ops ++ o ∷ [])) deeds
          (fits-waiting-more homes cpu [] ops o (deeds_of before.log) (deeds_of done.lines) run.takes (record { fits = fits; takes = taken }));
      posts = λ home h. done.posts home h ∙ ap (λ (tasks : List ℕ). tasks ++ post_of homes home o) (run.posts home h)
          ∙ flat_map_more (post_of homes home) [] ops o;
      waits = done.posts cpu below
          ∙ waits-after cpu before waiting run.waits done.lines homes o taken
          ∙ ap (λ (lines : List Line). wakes_from cpu lines ++ own_after homes cpu waiting o) (sym done.log)
          ∙ ap (λ (tasks : List ℕ). wakes_from cpu after.log ++ tasks) (sym (waiting-more homes cpu [] ops o));
    }
