-- What is beside a seat stays so while the seat's CPU goes on.
use Rattle.std.proofs.Common.{◌≡◌, ℕ, ◌++◌, Bool, true, false, cond, List, [], ◌∷◌, Option, Some, None, refl, sym, ap, ◌∙◌, subst, append_assoc, arith}
use Rattle.std.specs.Prelude.{◌==◌, ℤ, IfSome}
use Rattle.std.proofs.lemmas.Bool.Decides.{nat_tests}
use Rattle.std.proofs.lemmas.List.{append_cancel_left, append_cancel_right}
use Rattle.std.proofs.lemmas.List.Elements.{filter-append}
use Rattle.eevdf_queue.specs.declared.entry.Entry.{Entry}
use Rattle.eevdf_ops.specs.{declared.deeds.Answer.Answer, declared.deeds.Deed.Deed, declared.deeds.Deed.TheVariants.Pick, declared.deeds.Line.Line}
use Rattle.eevdf_ops.specs.{Machine.queue_at, Parts.decider, Programs.lines_by, Setup.Setup}
use Rattle.eevdf_dozes.specs.{Punctual.IsPunctual, OneCpuHistories.machine_by}
use Rattle.eevdf_fair_seat.specs.{declared.seat_bound.SeatBound.SeatBound, Turns.BeginsAnew, Turns.GoesOn, Turns.WasHanded, Turns.picked, Lateness.NoneIsLater}
use Rattle.eevdf_fleet.specs.Endless.{Seat, HasDone, HasSeen}
use Rattle.measures.specs.BesideSeats.{IsBeside, NoneIsLaterHere}

own_line : (cpu : ℕ) (l : Line) (x : Bool) → (decider l.deed == cpu) ≡ x → decider l.deed ≡ cpu → lines_by cpu (l ∷ []) ≡ l ∷ []
own_line cpu l true e is = ap (λ (x : Bool). cond x (l ∷ []) []) e
own_line cpu l false e is = grind (arith, nat_tests)

-- the lines that came before this one of the CPU are those of others
all_others : (cpu : ℕ) (seen log others : List Line) (l : Line) → lines_by cpu seen ≡ log → lines_by cpu (seen ++ (others ++ l ∷ [])) ≡ log ++ l ∷ []
    → decider l.deed ≡ cpu → lines_by cpu others ≡ []
all_others cpu seen log others l before after own =
    let is_own : Line → Bool = λ x. decider x.deed == cpu in
    let parts : lines_by cpu (seen ++ (others ++ l ∷ [])) ≡ lines_by cpu seen ++ (lines_by cpu others ++ l ∷ []) =
    filter-append is_own seen (others ++ l ∷ [])
    ∙ ap (λ (xs : List Line). lines_by cpu seen ++ xs)
    (filter-append is_own others (l ∷ []) ∙ ap (λ (xs : List Line). lines_by cpu others ++ xs) (own_line cpu l (decider l.deed == cpu) refl own)) in
    append_cancel_right (lines_by cpu others) [] (l ∷ [])
    (append_cancel_left log (lines_by cpu others ++ l ∷ []) (l ∷ [])
    (ap (λ (xs : List Line). xs ++ (lines_by cpu others ++ l ∷ [])) (sym before) ∙ sym parts ∙ after))

pub goes_on : (s : Setup) (deed : Deed) (answer : Answer) (old new : Seat) (b c : SeatBound) → IsBeside s old b → HasDone s deed answer old new
    → decider deed ≡ old.cpu → GoesOn b deed c → IsBeside s new c
goes_on s deed answer old new b c h done own handed =
    let l : Line = record { deed = deed; answer = answer } in
    let none : lines_by old.cpu done.others ≡ [] =
    all_others old.cpu old.seen old.log done.others l h.has_seen.own
    (ap (lines_by old.cpu) (sym done.seen) ∙ ap (λ (k : ℕ). lines_by k new.seen) (sym done.cpu) ∙ done.has_seen.own ∙ done.log) own in
    record {
      before = h.before;
      answer = h.answer;
      lines = h.lines ++ (done.others ++ l ∷ []);
      seen = done.seen ∙ ap (λ (xs : List Line). xs ++ (done.others ++ l ∷ [])) h.seen
          ∙ append_assoc h.before (picked old.cpu h.answer ∷ h.lines) (done.others ++ l ∷ [])
          ∙ ap (λ (k : ℕ). h.before ++ picked k h.answer ∷ (h.lines ++ (done.others ++ l ∷ []))) (sym done.cpu);
      has_seen = done.has_seen;
      handed = subst (λ (k : ℕ). WasHanded c k h.answer (h.lines ++ (done.others ++ l ∷ []))) (sym done.cpu)
          (handed old.cpu h.answer answer h.lines done.others h.handed none own);
    }

pub begins : (s : Setup) (answer : Answer) (old new : Seat) (b : SeatBound) → HasDone s (Pick old.cpu) answer old new → BeginsAnew (Pick old.cpu) b
    → IsBeside s new b
begins s answer old new b done anew =
    let l : Line = picked old.cpu answer in
    record {
      before = old.seen ++ done.others;
      answer = answer;
      lines = [];
      seen = done.seen ∙ sym (append_assoc old.seen done.others (l ∷ []))
          ∙ ap (λ (k : ℕ). (old.seen ++ done.others) ++ picked k answer ∷ []) (sym done.cpu);
      has_seen = done.has_seen;
      handed = subst (λ (k : ℕ). WasHanded b k answer []) (sym done.cpu) (anew old.cpu answer refl);
    }

pub none_later_here : (s : Setup) (seat : Seat) (b : SeatBound) (lightest : ℤ) (most : ℕ) → IsBeside s seat b → NoneIsLater b lightest most
    → NoneIsLaterHere s seat lightest most
none_later_here s seat b lightest most h none = record {
  before = h.before;
  answer = h.answer;
  lines = h.lines;
  seen = h.seen;
  late = λ w e f begun stays all none_lighter at_first.
      subst (λ (xs : List Line). IsPunctual w (queue_at (machine_by s xs) seat.cpu) f most) (sym h.seen)
      (none w s seat.cpu h.before h.answer h.lines e f h.handed begun stays all none_lighter at_first);
}

pub if_some : (o : Option ℕ) (P Q : ℕ → Type 0) → ((n : ℕ) → P n → Q n) → IfSome o P → IfSome o Q
if_some None P Q then h = h
if_some (Some n) P Q then h = then n h
