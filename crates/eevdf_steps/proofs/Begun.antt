-- What a caller has under way stands in queues that it holds, and depends on them alone.
use Rattle.std.proofs.Common.{◌≡◌, ℕ, Bool, true, cond, List, [], length, ap, ◌∙◌, refl, arith}
use Rattle.std.specs.Prelude.{MatchOption, Option, Some}
use Rattle.eevdf_queue.specs.State.{State, Contents}
use Rattle.eevdf_ops.specs.{declared.deeds.Op.Op, declared.deeds.Deed.Deed, Machine.Machine, Machine.queue_at, Whole.whole}
use Rattle.eevdf_ops.specs.Programs.{deed_of}
use Rattle.eevdf_ops.specs.Parts.{after_leaving, giver, only_at, touches}
use Rattle.eevdf_ops.specs.PartsLaws as laws
use Rattle.eevdf_ops.proofs.PartsProofs.{touched_decide}
use Rattle.eevdf_steps.specs.{declared.plan.Step.Step, Serial.begun_by, Plan.Plan, Plan.callers}
use Rattle.eevdf_steps.specs.Counters.{Counters, counted, holds, step_next}
use Rattle.eevdf_steps.specs.UnderWay.{UnderWay, hand_seen, leaves, queue_seen, under_way}
use Rattle.eevdf_steps.proofs.Walks.{Covers, FitsWalk, Walk, touched}
use Rattle.std.proofs.lemmas.Bool.Decides.{nat_tests}

-- the queues that an operation touches are those that its deed touches
pub touched_is : (plan : Plan) (p : ℕ) (o : Op) (d : Deed) (c : ℕ) → deed_of p o ≡ Some d → touched plan p o c ≡ touches plan.homes d c
touched_is plan p o d c e = grind arith

-- a caller that holds the locks of the queues that a deed touches, and of no others
abbrev pub HoldsTouched : Plan → Counters → ℕ → Deed → Type 0
HoldsTouched plan counters p d = (c : ℕ) → holds plan counters c p ≡ touches plan.homes d c

-- a deed names CPUs of any machine of so many queues
abbrev pub FitsAll : Plan → Deed → Type 0
FitsAll plan d = (m : Machine) → length m ≡ callers plan → laws.Fits plan.homes d m

pub holds_touched : (plan : Plan) (counters : Counters) (p : ℕ) (o : Op) (d : Deed) (w : Walk plan counters p) → Covers plan p o w.held → deed_of p o ≡ Some d
    → HoldsTouched plan counters p d
holds_touched plan counters p o d w covers e = λ c. w.holds_them c ∙ covers c ∙ touched_is plan p o d c e

-- what stands before a step of which something is under way
pub record Standing (plan : Plan) (counters : Counters) (p : ℕ) (u : UnderWay) : Type 0 where
  pub next : Step
  pub is_next : step_next plan counters p ≡ Some next
  pub deed_is : deed_of p next.op ≡ Some u.deed
  pub holds_all : HoldsTouched plan counters p u.deed

standing_at : (plan : Plan) (counters : Counters) (p : ℕ) (u : UnderWay) (w : Walk plan counters p) (o : Option Step)
    → MatchOption o (w.held ≡ []) (λ s. FitsWalk plan p w.held s (step_next plan (counted counters p) p)) → step_next plan counters p ≡ o → under_way p o ≡ Some u
    → Standing plan counters p u
standing_at plan counters p u w o f n e = grind arith

pub standing : (plan : Plan) (counters : Counters) (p : ℕ) (u : UnderWay) → Walk plan counters p → begun_by plan counters p ≡ Some u → Standing plan counters p u
standing plan counters p u w e = standing_at plan counters p u w (step_next plan counters p) w.fits refl e

-- on machines that agree where the deed touches them, all that is seen is the same
pub record SeenAlike (homes : List ℕ) (u : UnderWay) (m n : Machine) : Type 0 where
  pub queues : (c : ℕ) → touches homes u.deed c ≡ true → queue_seen homes m (Some u) c ≡ queue_seen homes n (Some u) c
  pub hand : hand_seen homes m (Some u) ≡ hand_seen homes n (Some u)
  pub answer : (whole homes u.deed m).0 ≡ (whole homes u.deed n).0

leaves_alike : (homes : List ℕ) (d : Deed) (m n : Machine) → laws.IsAlike homes d m n → laws.AgreeWhereTouched homes d m n → leaves homes m d ≡ leaves homes n d
leaves_alike homes d m n alike agree = grind (arith, nat_tests)

either : {A : Type 0} (b : Bool) (x y z w : A) → x ≡ z → y ≡ w → cond b x y ≡ cond b z w
either b x y z w e f = grind arith

pub seen_alike : (homes : List ℕ) (u : UnderWay) (m n : Machine) → laws.Fits homes u.deed m → laws.Fits homes u.deed n → laws.AgreeWhereTouched homes u.deed m n
    → SeenAlike homes u m n
seen_alike homes u m n fm fn agree =
    let alike : laws.IsAlike homes u.deed m n = touched_decide homes u.deed m n fm fn agree in
    let same_leaves : leaves homes m u.deed ≡ leaves homes n u.deed = leaves_alike homes u.deed m n alike agree in
    record {
      queues = λ c t. either u.done _ _ _ _ (alike.leaves c t)
          (ap (λ (x : Option Contents). only_at (giver u.deed) c (after_leaving x) (queue_at m c)) same_leaves
          ∙ ap (λ (q : State). only_at (giver u.deed) c (after_leaving (leaves homes n u.deed)) q) (agree c t));
      hand = either u.done _ _ _ _ refl same_leaves;
      answer = alike.answers;
    }
