-- The deeds of days on one queue: none is out of range.
use Rattle.std.proofs.Common.{◌≡◌, ℕ, suc, ◌+◌, ◌^◌, ◌≤◌, List, [], ◌∷◌, ◌++◌, length, append_assoc, Option, Some, None, refl, sym, ap, ◌∙◌, subst, arith}
use Rattle.std.specs.Prelude.{ℤ}
use Rattle.std.specs.List.{AllByRecursion}
use Rattle.std.proofs.lemmas.List.{append-nil}
use Rattle.eevdf_queue.specs.{State.State, Pick.pick_of, Pick.after_pick, Tick.tick, Rebase.rebase, declared.answers.TickAnswer.TickAnswer}
use Rattle.eevdf_queue.specs.declared.answers.TickAnswer.TheVariants as ticks
use Rattle.eevdf_ops.specs.{declared.deeds.Deed.Deed, declared.deeds.Answer.TheVariants.Range}
use Rattle.eevdf_ops.specs.declared.deeds.Deed.TheVariants.{Rebase}
use Rattle.eevdf_ops.specs.OneQueue.{answer_of_tick, answer_of_pick, one_rebase}
use Rattle.eevdf_fairness.specs.Turns.{Turn, turn_length, AreNoLonger, after_ticks, after_turns}
use Rattle.eevdf_fairness.specs.{OneCpu.ticks_on, OneCpu.turns_on, MachineDays.days_on}
use Rattle.eevdf_fairness.proofs.OwnDeeds.{own_after, AreFine, turns_done, turns_alone}
use Rattle.eevdf_fairness.specs.Days.{total_length, IsDay, AreDays, after_days, IsNearStart, IsFarFromRange, DaysStayInRange}

-- ---- what they leave
pub days_done : (cpu : ℕ) (days : List (List Turn)) (today : List Turn) (q : State)
    → own_after (days_on cpu days ++ turns_on cpu today) q ≡ after_turns (after_days q days) today
days_done cpu [] today q = turns_alone cpu today q
days_done cpu (day ∷ days) today q =
    ap (λ (ds : List Deed). own_after ds q) (append_assoc (turns_on cpu day) (Rebase cpu ∷ days_on cpu days) (turns_on cpu today))
    ∙ turns_done cpu day (Rebase cpu ∷ (days_on cpu days ++ turns_on cpu today)) q
    ∙ days_done cpu days today ((rebase (after_turns q day)).1)

-- one tick, one turn and one day more
tick_more : (q : State) (turn : Turn) (ns : ℕ) → after_ticks q (turn ++ ns ∷ []) ≡ (tick (after_ticks q turn) ns).1
tick_more q [] ns = refl
tick_more q (n ∷ turn) ns = tick_more ((tick q n).1) turn ns

turn_more : (q : State) (turns : List Turn) (turn : Turn) → after_turns q (turns ++ turn ∷ []) ≡ after_ticks (after_pick (after_turns q turns)) turn
turn_more q [] turn = refl
turn_more q (t ∷ turns) turn = turn_more (after_ticks (after_pick q) t) turns turn

day_more : (q : State) (days : List (List Turn)) (day : List Turn) → after_days q (days ++ day ∷ []) ≡ (rebase (after_turns (after_days q days) day)).1
day_more q [] day = refl
day_more q (d ∷ days) day = day_more ((rebase (after_turns q d)).1) days day

are_days_more : (days : List (List Turn)) (day : List Turn) → AllByRecursion IsDay days → IsDay day → AllByRecursion IsDay (days ++ day ∷ [])
are_days_more [] day h d = (d, tt)
are_days_more (first ∷ days) day h d = (h.0, are_days_more days day h.1 d)

one_longer : (days : List (List Turn)) (day : List Turn) → length (days ++ day ∷ []) ≡ suc (length days)
one_longer [] day = refl
one_longer (first ∷ days) day = ap suc (one_longer days day)

no_more : (a b n : ℕ) → a + b ≤ n → a ≤ n
no_more a b n h = omega (arith, h)

none_before : (a n : ℕ) → a ≤ n → 0 + a ≤ n
none_before a n h = omega (arith, h)

moved_over : (a b c n : ℕ) → c ≡ suc a → a + suc b ≤ n → c + b ≤ n
moved_over a b c n is h = omega (arith, is, h)

-- ---- a part of a day is one
length_more : (now rest : Turn) → turn_length (now ++ rest) ≡ turn_length now + turn_length rest
length_more [] rest = omega arith
length_more (ns ∷ now) rest = omega (arith, length_more now rest)

total_more : (done rest : List Turn) → total_length (done ++ rest) ≡ total_length done + total_length rest
total_more [] rest = omega arith
total_more (turn ∷ done) rest = omega (arith, total_more done rest)

shorter_last : (n : ℕ) (done : List Turn) (now rest : Turn) → AreNoLonger n (done ++ (now ++ rest) ∷ []) → AreNoLonger n (done ++ now ∷ [])
shorter_last n [] now rest h = let k = h.0 in (omega (arith, k, length_more now rest), tt)
shorter_last n (turn ∷ done) now rest h = (h.0, shorter_last n done now rest h.1)

first_ones : (n : ℕ) (done : List Turn) (turn : Turn) (rest : List Turn) → AreNoLonger n (done ++ turn ∷ rest) → AreNoLonger n (done ++ turn ∷ [])
first_ones n [] turn rest h = (h.0, tt)
first_ones n (t ∷ done) turn rest h = (h.0, first_ones n done turn rest h.1)

last_one : (n : ℕ) (done : List Turn) (turn : Turn) → AreNoLonger n (done ++ turn ∷ []) → turn_length turn ≤ n
last_one n [] turn h = h.0
last_one n (t ∷ done) turn h = last_one n done turn h.1

less : (a b c n : ℕ) → a ≤ n → a ≡ b + c → b ≤ n
less a b c n h e = omega (arith, h, e)

day_less : (done : List Turn) (now rest : Turn) → IsDay (done ++ (now ++ rest) ∷ []) → IsDay (done ++ now ∷ [])
day_less done now rest d = record {
  brief = shorter_last _ done now rest d.brief;
  whole = less (total_length (done ++ (now ++ rest) ∷ [])) (total_length (done ++ now ∷ [])) (turn_length rest) _ d.whole
      (omega (arith, total_more done ((now ++ rest) ∷ []), total_more done (now ∷ []), length_more now rest));
}

day_first : (done : List Turn) (turn : Turn) (rest : List Turn) → IsDay (done ++ turn ∷ rest) → IsDay (done ++ turn ∷ [])
day_first done turn rest d = record {
  brief = first_ones _ done turn rest d.brief;
  whole = less (total_length (done ++ turn ∷ rest)) (total_length (done ++ turn ∷ [])) (total_length rest) _ d.whole
      (omega (arith, total_more done (turn ∷ rest), total_more done (turn ∷ [])));
}

short_tick : (now rest : Turn) (ns n : ℕ) → turn_length (now ++ ns ∷ rest) ≤ n → ns ≤ n
short_tick now rest ns n h = omega (arith, h, length_more now (ns ∷ rest))

-- ---- none is out of range
tick_told : (a : TickAnswer) → (a ≡ ticks.Range → ⊥) → answer_of_tick a ≡ Range → ⊥
tick_told (ticks.Charged task resched) f e = cc
tick_told ticks.Idle f e = cc
tick_told ticks.Range f e = f refl

pick_told : (o : Option ℕ) → answer_of_pick o ≡ Range → ⊥
pick_told None e = cc
pick_told (Some task) e = cc

rebase_told : (q : State) → (one_rebase q).0 ≡ Range → ⊥
rebase_told q e = cc

module _ (law : DaysStayInRange) (cpu : ℕ) (start : State) (time : ℤ) (near : IsNearStart time start) where
  -- the ticks of a turn, of which some are done
  ticks_fine : (before : List (List Turn)) (done : List Turn) (now rest : Turn) (more : List Deed) → AreDays before → IsDay (done ++ (now ++ rest) ∷ [])
      → AreFine more (after_ticks (after_pick (after_turns (after_days start before) done)) (now ++ rest))
      → AreFine (ticks_on cpu rest ++ more) (after_ticks (after_pick (after_turns (after_days start before) done)) now)
  ticks_fine before done now [] more days day fine =
      subst (λ (turn : Turn). AreFine more (after_ticks (after_pick (after_turns (after_days start before) done)) turn)) (append-nil now) fine
  ticks_fine before done now (ns ∷ rest) more days day fine =
      let q : State = after_turns (after_days start before) done in
      let far : IsFarFromRange (after_turns (after_days start before) (done ++ now ∷ [])) = law start time before (done ++ now ∷ []) near days (day_less done now (ns ∷ rest) day) in
      let here : IsFarFromRange (after_ticks (after_pick q) now) = subst IsFarFromRange (turn_more (after_days start before) done now) far in
      let longer : (now ++ ns ∷ []) ++ rest ≡ now ++ ns ∷ rest = append_assoc now (ns ∷ []) rest in (
        tick_told ((tick (after_ticks (after_pick q) now) ns).0) (here.ticks ns (short_tick now rest ns _ (last_one _ done (now ++ ns ∷ rest) day.brief))),
        subst (AreFine (ticks_on cpu rest ++ more)) (tick_more (after_pick q) now ns)
            (ticks_fine before done (now ++ ns ∷ []) rest more days (subst (λ (turn : Turn). IsDay (done ++ turn ∷ [])) (sym longer) day)
            (subst (λ (turn : Turn). AreFine more (after_ticks (after_pick q) turn)) (sym longer) fine)),
      )

  -- the turns of a day, of which some are done
  turns_fine : (before : List (List Turn)) (done rest : List Turn) (more : List Deed) → AreDays before → IsDay (done ++ rest)
      → AreFine more (after_turns (after_days start before) (done ++ rest)) → AreFine (turns_on cpu rest ++ more) (after_turns (after_days start before) done)
  turns_fine before done [] more days day fine =
      subst (λ (turns : List Turn). AreFine more (after_turns (after_days start before) turns)) (append-nil done) fine
  turns_fine before done (turn ∷ rest) more days day fine =
      let q : State = after_turns (after_days start before) done in
      let longer : (done ++ turn ∷ []) ++ rest ≡ done ++ turn ∷ rest = append_assoc done (turn ∷ []) rest in (
        pick_told (pick_of q.runnable),
        subst (λ (ds : List Deed). AreFine ds (after_pick q)) (sym (append_assoc (ticks_on cpu turn) (turns_on cpu rest) more))
            (ticks_fine before done [] turn (turns_on cpu rest ++ more) days (day_first done turn rest day)
            (subst (AreFine (turns_on cpu rest ++ more)) (turn_more (after_days start before) done turn)
            (turns_fine before (done ++ turn ∷ []) rest more days (subst IsDay (sym longer) day)
            (subst (λ (turns : List Turn). AreFine more (after_turns (after_days start before) turns)) (sym longer) fine)))),
      )

  -- days, of which some are done, and then a part of one
  days_fine : (before days : List (List Turn)) (today : List Turn) → AllByRecursion IsDay before → AllByRecursion IsDay days → length before + length days ≤ 2 ^ 58
      → IsDay today → AreFine (days_on cpu days ++ turns_on cpu today) (after_days start before)
  days_fine before [] today these more few day =
      subst (λ (ds : List Deed). AreFine ds (after_days start before)) (append-nil (turns_on cpu today))
      (turns_fine before [] today [] (record { each = these; few = no_more (length before) 0 (2 ^ 58) few }) day tt)
  days_fine before (first ∷ days) today these more few day =
      let q : State = after_turns (after_days start before) first in
      subst (λ (ds : List Deed). AreFine ds (after_days start before)) (sym (append_assoc (turns_on cpu first) (Rebase cpu ∷ days_on cpu days) (turns_on cpu today)))
      (turns_fine before [] first (Rebase cpu ∷ (days_on cpu days ++ turns_on cpu today))
      (record { each = these; few = no_more (length before) (suc (length days)) (2 ^ 58) few }) more.0 (
        rebase_told q,
        subst (AreFine (days_on cpu days ++ turns_on cpu today)) (day_more start before first)
            (days_fine (before ++ first ∷ []) days today (are_days_more before first these more.0) more.1
            (moved_over (length before) (length days) (length (before ++ first ∷ [])) (2 ^ 58) (one_longer before first) few) day),
      ))

  pub all_fine : (days : List (List Turn)) (today : List Turn) → AreDays days → IsDay today → AreFine (days_on cpu days ++ turns_on cpu today) start
  all_fine days today these day = days_fine [] days today tt these.each (none_before (length days) (2 ^ 58) these.few) day
