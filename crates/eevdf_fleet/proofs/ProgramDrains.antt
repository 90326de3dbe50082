-- What the operations of a program take of the requests that it posts to its own CPU, one operation after the other.
use Rattle.std.proofs.Common.{append-nil, append_assoc, ◌≡◌, ℕ, List, [], ◌∷◌, ◌++◌, length, take, sym, ap, subst, ◌∙◌, refl}
use Rattle.std.specs.{Prelude.slice_get, Option.option_to_list}
use Rattle.eevdf_ops.specs.{declared.deeds.Deed.Deed, declared.deeds.Line.Line, declared.deeds.Op.Op}
use Rattle.eevdf_ops.specs.declared.deeds.Op.TheVariants as op
use Rattle.eevdf_ops.specs.OwnRequests.{AllFitWaiting, FitsWaiting, own_after, own_taken, own_waiting}
use Rattle.eevdf_ops.specs.Programs.{FitsOperation, deeds_of, post_of, wakes_from, wakes_in}
use Rattle.eevdf_fleet.specs.{Fleets.Seat, Fleets.posted_to, ProgramRuns.TakesOldest}
use Rattle.eevdf_fleet.proofs.Takes.{wakes-append}

-- one operation after others
pub fits-waiting-more : (homes : List ℕ) (cpu : ℕ) (waiting : List ℕ) (ops : List Op) (o : Op) (deeds front : List Deed) → AllFitWaiting homes cpu waiting deeds ops
    → FitsWaiting cpu (own_waiting homes cpu waiting ops) front o → AllFitWaiting homes cpu waiting (deeds ++ front) (ops ++ o ∷ [])
fits-waiting-more homes cpu waiting [] o deeds front h last = record {
  front = front;
  back = [];
  joined = ap (λ (ds : List Deed). ds ++ front) h ∙ sym (append-nil front);
  fits_front = last;
  fits_back = refl;
}
fits-waiting-more homes cpu waiting (p ∷ ops) o deeds front h last = record {
  front = h.front;
  back = h.back ++ front;
  joined = ap (λ (ds : List Deed). ds ++ front) h.joined ∙ append_assoc h.front h.back front;
  fits_front = h.fits_front;
  fits_back = fits-waiting-more homes cpu (own_after homes cpu waiting p) ops o h.back front h.fits_back last;
}

pub waiting-more : (homes : List ℕ) (cpu : ℕ) (waiting : List ℕ) (ops : List Op) (o : Op)
    → own_waiting homes cpu waiting (ops ++ o ∷ []) ≡ own_after homes cpu (own_waiting homes cpu waiting ops) o
waiting-more homes cpu waiting [] o = refl
waiting-more homes cpu waiting (p ∷ ops) o = waiting-more homes cpu (own_after homes cpu waiting p) ops o

-- the oldest request that wasn't taken yet is the first that waits
oldest-waits : (taken waiting : List ℕ) → option_to_list (slice_get (taken ++ waiting) (length taken)) ≡ take 1 waiting
oldest-waits [] [] = refl
oldest-waits [] (task ∷ waiting) = refl
oldest-waits (task ∷ taken) waiting = oldest-waits taken waiting

-- what an operation takes and then what waits after it are what waited and what it posts
taken-and-waiting : (homes : List ℕ) (cpu : ℕ) (waiting : List ℕ) (o : Op) → own_taken waiting o ++ own_after homes cpu waiting o ≡ waiting ++ post_of homes cpu o
taken-and-waiting homes cpu [] op.Drain = refl
taken-and-waiting homes cpu (task ∷ waiting) op.Drain = sym (append-nil (task ∷ waiting))
taken-and-waiting homes cpu waiting other = refl

-- an operation on the seat of a CPU that has posted to itself what its drains have taken and then what waits
module _ (cpu : ℕ) (seat : Seat) (waiting : List ℕ) (stands : posted_to seat cpu ≡ wakes_from cpu seat.log ++ waiting) (lines : List Line) where
  pub takes-own : (o : Op) → seat.cpu ≡ cpu → FitsOperation cpu (deeds_of lines) o → TakesOldest seat lines o → wakes_from cpu lines ≡ own_taken waiting o
  takes-own op.Drain own fits takes =
      subst (λ (c : ℕ). wakes_from c lines ≡ option_to_list (slice_get (posted_to seat c) (length (wakes_from c seat.log)))) own takes
      ∙ ap (λ (posted : List ℕ). option_to_list (slice_get posted (length (wakes_from cpu seat.log)))) stands
      ∙ oldest-waits (wakes_from cpu seat.log) waiting
  takes-own other own fits takes = ap (wakes_in cpu) fits

  pub waits-after : (homes : List ℕ) (o : Op) → wakes_from cpu lines ≡ own_taken waiting o
      → posted_to seat cpu ++ post_of homes cpu o ≡ wakes_from cpu (seat.log ++ lines) ++ own_after homes cpu waiting o
  waits-after homes o taken =
      let before = wakes_from cpu seat.log in
      ap (λ (posted : List ℕ). posted ++ post_of homes cpu o) stands
      ∙ append_assoc before waiting (post_of homes cpu o)
      ∙ ap (λ (tasks : List ℕ). before ++ tasks) (sym (taken-and-waiting homes cpu waiting o))
      ∙ sym (append_assoc before (own_taken waiting o) (own_after homes cpu waiting o))
      ∙ ap (λ (tasks : List ℕ). tasks ++ own_after homes cpu waiting o) (sym (wakes-append cpu seat.log lines ∙ ap (λ (tasks : List ℕ). before ++ tasks) taken))
