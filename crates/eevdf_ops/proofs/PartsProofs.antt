-- The laws of the deeds by parts.
use Rattle.std.proofs.Common.{◌≡◌, ℕ, zero, suc, Bool, true, false, ◌||◌, List, [], ◌∷◌, length, refl, sym, ap, subst, ◌∙◌, arith}
use Rattle.std.specs.Prelude.{◌==◌, ◌&&◌}
use Rattle.std.proofs.{lemmas.List.get_or-set_same}
use Rattle.eevdf_queue.specs.State.{State, empty_state}
use Rattle.eevdf_ops.specs.{declared.deeds.Deed.Deed, declared.deeds.Answer.Answer, Setup.is_allowed, Machine.Machine}
use Rattle.eevdf_ops.specs.{Machine.queue_at, OneQueue.one_wake, Places.AreCpus, Whole.whole}
use Rattle.eevdf_ops.specs.Parts.{decider, giver, taker, touches, Moved, given, Agrees, local_answer, local_after}
use Rattle.eevdf_ops.specs.PartsLaws as laws
use Rattle.eevdf_ops.proofs.{MapCounts.itself, MachinePlaces.other_queue, WholePlaces.length-whole}
use Rattle.eevdf_ops.proofs.LocalParts.{moved_by, whole-answer, whole-after, others_stay}

any_first : (a b c : Bool) → a ≡ true → (a || (b || c)) ≡ true
any_first a b c e = ap (λ (x : Bool). x || (b || c)) e

any_second : (a b c : Bool) → b ≡ true → (a || (b || c)) ≡ true
any_second true b c e = refl
any_second false b c e = ap (λ (x : Bool). x || c) e

pub parts_make_the_whole : laws.PartsMakeTheWhole
parts_make_the_whole homes deed m answer moved fits agrees =
    let at_giver : Agrees deed (giver deed) (queue_at m (giver deed)) answer moved =
    agrees (giver deed) (any_second (giver deed == decider deed) (giver deed == giver deed) (giver deed == taker homes deed) (itself (giver deed))) in
    let at_decider : Agrees deed (decider deed) (queue_at m (decider deed)) answer moved =
    agrees (decider deed) (any_first (decider deed == decider deed) (decider deed == giver deed) (decider deed == taker homes deed) (itself (decider deed))) in
    let moves : moved ≡ moved_by m deed = at_giver.gives refl in
    let answers : (whole homes deed m).0 ≡ answer =
    whole-answer homes deed m ∙ ap (λ (v : Moved). local_answer deed (queue_at m (decider deed)) v) (sym moves) ∙ sym (at_decider.answers refl) in
    record {
      answers = answers;
      leaves = λ c. whole-after homes deed m c fits ∙ ap (λ (a : Answer). local_after homes deed c (queue_at m c) a (moved_by m deed)) answers
          ∙ ap (λ (v : Moved). local_after homes deed c (queue_at m c) answer v) (sym moves);
    }

pub the_whole_has_parts : laws.TheWholeHasParts
the_whole_has_parts homes deed m c = record {
  gives = λ e. ap (λ (i : ℕ). given deed (queue_at m i)) (sym e);
  answers = λ e. whole-answer homes deed m ∙ ap (λ (i : ℕ). local_answer deed (queue_at m i) (moved_by m deed)) (sym e);
}

-- on machines that agree where a deed touches them, it comes to the same
comes_alike : (homes : List ℕ) (deed : Deed) (m n : Machine) → laws.Fits homes deed n → laws.AgreeWhereTouched homes deed m n
    → laws.ComesTo homes deed n (whole homes deed m).0 (moved_by m deed)
comes_alike homes deed m n fits alike =
    parts_make_the_whole homes deed n (whole homes deed m).0 (moved_by m deed) fits
    (λ c t. subst (λ (q : State). Agrees deed c q (whole homes deed m).0 (moved_by m deed)) (alike c t) (the_whole_has_parts homes deed m c))

pub touched_decide : laws.TouchedDecide
touched_decide homes deed m n fm fn alike =
    let comes : laws.ComesTo homes deed n (whole homes deed m).0 (moved_by m deed) = comes_alike homes deed m n fn alike in
    record {
      answers = sym comes.answers;
      leaves = λ c t. whole-after homes deed m c fm
          ∙ ap (λ (q : State). local_after homes deed c q (whole homes deed m).0 (moved_by m deed)) (alike c t) ∙ sym (comes.leaves c);
    }

fits_after : (homes : List ℕ) (a b : Deed) (m : Machine) → laws.Fits homes a m → laws.Fits homes a (whole homes b m).1
fits_after homes a b m fits = record {
  allowed = ap (λ (n : ℕ). is_allowed n homes a) (length-whole homes b m) ∙ fits.allowed;
  cpus = subst (λ (n : ℕ). AreCpus n homes) (sym (length-whole homes b m)) fits.cpus;
}

second_untouched : (x y : Bool) → (x && y) ≡ false → x ≡ true → y ≡ false
second_untouched true y e h = e
second_untouched false y e h = cc

first_untouched : (x y : Bool) → (x && y) ≡ false → y ≡ true → x ≡ false
first_untouched true y e h = cc
first_untouched false y e h = refl

-- a deed after one that is apart from it
comes_after : (homes : List ℕ) (a b : Deed) (m : Machine) → laws.Fits homes a m → ((c : ℕ) → touches homes a c ≡ true → touches homes b c ≡ false)
    → laws.ComesTo homes a (whole homes b m).1 (whole homes a m).0 (moved_by m a)
comes_after homes a b m fits apart = comes_alike homes a m (whole homes b m).1 (fits_after homes a b m fits) (λ c t. sym (others_stay homes b m c (apart c t)))

pub same_machine : (m n : Machine) → length m ≡ length n → ((c : ℕ) → queue_at m c ≡ queue_at n c) → m ≡ n
same_machine [] [] e all = refl
same_machine [] (y ∷ n) e all = absurd (omega arith)
same_machine (x ∷ m) [] e all = absurd (omega arith)
same_machine (x ∷ m) (y ∷ n) e all =
    ap (λ (q : State). q ∷ m) (all zero) ∙ ap (λ (l : Machine). y ∷ l) (same_machine m n (omega arith) (λ c. all (suc c)))

either_order : (homes : List ℕ) (a b : Deed) (m : Machine) (c : ℕ) (t : Bool) → touches homes a c ≡ t → laws.Fits homes a m → laws.Fits homes b m → laws.TouchNothingCommon homes a b
    → queue_at (whole homes b (whole homes a m).1).1 c ≡ queue_at (whole homes a (whole homes b m).1).1 c
either_order homes a b m c true t fa fb apart =
    let quiet : touches homes b c ≡ false = second_untouched (touches homes a c) (touches homes b c) (apart c) t in
    others_stay homes b (whole homes a m).1 c quiet ∙ whole-after homes a m c fa
    ∙ ap (λ (q : State). local_after homes a c q (whole homes a m).0 (moved_by m a)) (sym (others_stay homes b m c quiet))
    ∙ sym ((comes_after homes a b m fa (λ k u. second_untouched (touches homes a k) (touches homes b k) (apart k) u)).leaves c)
either_order homes a b m c false t fa fb apart =
    (comes_after homes b a m fb (λ k u. first_untouched (touches homes a k) (touches homes b k) (apart k) u)).leaves c
    ∙ ap (λ (q : State). local_after homes b c q (whole homes b m).0 (moved_by m b)) (others_stay homes a m c t)
    ∙ sym (whole-after homes b m c fb) ∙ sym (others_stay homes a (whole homes b m).1 c t)

pub apart_deeds_commute : laws.ApartDeedsCommute
apart_deeds_commute homes a b m fa fb apart = record {
  first = sym (comes_after homes a b m fa (λ c t. second_untouched (touches homes a c) (touches homes b c) (apart c) t)).answers;
  second = (comes_after homes b a m fb (λ c t. first_untouched (touches homes a c) (touches homes b c) (apart c) t)).answers;
  machine = same_machine (whole homes b (whole homes a m).1).1 (whole homes a (whole homes b m).1).1
      (length-whole homes b (whole homes a m).1 ∙ length-whole homes a m ∙ sym (length-whole homes b m) ∙ sym (length-whole homes a (whole homes b m).1))
      (λ c. either_order homes a b m c (touches homes a c) refl fa fb apart);
}

pub wake_is_local : laws.WakeIsLocal
wake_is_local homes cpu task sender m n h g alike = record {
  answer = ap (λ (q : State). (one_wake q task).0) alike;
  there = get_or-set_same m cpu (one_wake (queue_at m cpu) task).1 empty_state h ∙ ap (λ (q : State). (one_wake q task).1) alike
      ∙ sym (get_or-set_same n cpu (one_wake (queue_at n cpu) task).1 empty_state g);
  others = λ c apart. other_queue m cpu c (one_wake (queue_at m cpu) task).1 apart;
}
