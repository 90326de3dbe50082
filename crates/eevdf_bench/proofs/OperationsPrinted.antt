-- Printed operations are read back, and nothing else is read as them.
use Rattle.std.proofs.Common.{◌≡◌, ◌↔◌, ℕ, codes, ◌<◌, ◌^◌, true, false, ltb, List, [], ◌∷◌, ◌++◌, append_assoc, Option, Some, None, option_map, option_and_then, if◌then◌else◌, refl, ap, ap₂, sym, subst, ◌∙◌, Bool, inl, inr, arith}
use Rattle.std.specs.{Prelude.ℤ, Fmt.decimal, Fmt.signed_decimal, List.join_with_byte, Str.bytes_eq}
use Rattle.std.proofs.{lemmas.Bool.cases_Bool, lemmas.Bool.Decides.nat_tests, lemmas.Slice.Eq.bytes_eq-Decides}
use Rattle.std.proofs.lemmas.Option.{same_Some, none-some, cond_some, option_and_then_some}
use Rattle.eevdf_weight.specs.Limits.{checked_slice, checked_tick, is_slice, is_tick}
use Rattle.eevdf_queue.specs.Numbers.{checked_number}
use Rattle.eevdf_ops.specs.{Numbers.cpu_limit, declared.deeds.Op.Op, Signatures.arguments_of}
use Rattle.eevdf_ops.specs.declared.deeds.Op.TheVariants.{Tick, Pick, Yield, Sleep, Doze, Post, Drain, Pull, Renice, Begin, End, Set, Rebase}
use Rattle.eevdf_workload.specs.{declared.version.Version.Version, Versions.cpu_within, Versions.limits_of}
use Rattle.eevdf_workload.specs.Words.{words, number, only_word, only_number, only_level, only_slice, level_in, task_in, alone, level_and_slice, task_level_slice, renice_of, operation, operation_by, operation_of}
use Rattle.eevdf_bench.specs.WordsPrinted.{AreInRange, IsStateInRange, knows_operation, operation_text}
use Rattle.eevdf_bench.proofs.ReadingPrinted.{number-decimal, decimal-number, words-decimal, words-after_decimal, joined_words}
use Rattle.eevdf_bench.proofs.LevelsPrinted.{level-printed, printed-level, words-after_level, words-printed}

-- ---- the limits of numbers

-- what passes a check is what was checked, and has at most 64 bits
abbrev pub IsCheck : (ℕ → Option ℕ) → Type 0
IsCheck check = (n m : ℕ) → check n ≡ Some m → (n ≡ m) × (n < 2 ^ 64)

pub small_tick : (n : ℕ) → is_tick n ≡ true → n < 2 ^ 64
small_tick n h = grind (arith, nat_tests)

pub tick_check : IsCheck checked_tick
tick_check n m h = let (passes, same) = cond_some (is_tick n) n m h in (same, small_tick n passes)

small_slice : (n : ℕ) → is_slice n ≡ true → n < 2 ^ 64
small_slice n h = grind (arith, nat_tests)

slice_check : IsCheck checked_slice
slice_check n m h = let (passes, same) = cond_some (is_slice n) n m h in (same, small_slice n passes)

pub task_check : IsCheck checked_number
task_check n m h = let (passes, same) = cond_some (ltb n 1024) n m h in (same, grind (arith, nat_tests))

pub task_passes : (n : ℕ) → n < 1024 → checked_number n ≡ Some n
task_passes n h = grind (arith, nat_tests)

-- a CPU that is within the limits of a version
pub cpu_parts : (version : Version) (n m : ℕ) → cpu_within (limits_of version) n ≡ Some m → (n ≡ m) × (n < cpu_limit) × (ltb n (limits_of version).cpus ≡ true)
cpu_parts version n m h =
    elim (cases_Bool (ltb n (limits_of version).cpus)) [
      | inl below ↦
          let (passes, same) = cond_some (ltb n cpu_limit) n m (rw below at h) in
          (same, grind (arith, nat_tests), below)
      | inr above ↦ absurd (none-some m (rw above at h))
    ]

pub cpu_check : (version : Version) → IsCheck (cpu_within (limits_of version))
cpu_check version n m h = let (same, below, known) = cpu_parts version n m h in (same, omega arith)

pub cpu_known : (version : Version) (n : ℕ) → cpu_within (limits_of version) n ≡ Some n → ltb n (limits_of version).cpus ≡ true
cpu_known version n h = let (same, below, known) = cpu_parts version n n h in known

pub cpu_passes : (version : Version) (n : ℕ) → n < cpu_limit → ltb n (limits_of version).cpus ≡ true → cpu_within (limits_of version) n ≡ Some n
cpu_passes version n h known = rw known (grind (arith, nat_tests))

-- ---- arguments that are read

-- a number that is read and passes a check is printed as its word
pub checked_word : (check : ℕ → Option ℕ) (word : List ℕ) (m : ℕ) → IsCheck check → option_and_then check (number word) ≡ Some m → (word ≡ decimal m) × (check m ≡ Some m)
checked_word check word m is h =
    option_and_then_some check (number word) m h
    (λ n read checked.
    let (same, small) = is n m checked in
    (decimal-number word n read small ∙ ap decimal same, ap check (sym same) ∙ checked))

-- what is read of the only word is read of a word alone
pub single : {A : Type 0} (read : Option (List ℕ) → Option A) (ws : List (List ℕ)) (a : A) → read None ≡ None → read (only_word ws) ≡ Some a
    → (word : List ℕ) × (ws ≡ word ∷ []) × (read (Some word) ≡ Some a)
single read [] a nothing h = absurd (none-some a (sym nothing ∙ h))
single read (word ∷ []) a nothing h = (word, refl, h)
single read (word ∷ next ∷ ws) a nothing h = absurd (none-some a (sym nothing ∙ h))

pub one_number : (check : ℕ → Option ℕ) (ws : List (List ℕ)) (m : ℕ) → IsCheck check → option_and_then check (only_number ws) ≡ Some m → (ws ≡ decimal m ∷ []) × (check m ≡ Some m)
one_number check ws m is h =
    let (word, alone, read) = single (λ o. option_and_then check (option_and_then number o)) ws m refl h in
    let (same, passes) = checked_word check word m is read in
    (alone ∙ ap (λ w. w ∷ []) same, passes)

pub mapped_parts : {A B : Type 0} (f : A → B) (o : Option A) (b : B) → option_map f o ≡ Some b → (a : A) × (o ≡ Some a) × (f a ≡ b)
mapped_parts f None b h = absurd (none-some b h)
mapped_parts f (Some a) b h = (a, refl, same_Some _ _ h)

-- the words are those of an operation that a version knows
abbrev pub IsPrinted : Version → Op → List (List ℕ) → Type 0
IsPrinted version op ws = (join_with_byte 32 ws ≡ operation_text op) × (knows_operation version op ≡ true)

text-numbered : (version : Version) (verb : List ℕ) (make : ℕ → Op) (check : ℕ → Option ℕ) (ws : List (List ℕ)) (op : Op) → IsCheck check
    → ((n : ℕ) → operation_text (make n) ≡ join_with_byte 32 (verb ∷ decimal n ∷ [])) → ((n : ℕ) → check n ≡ Some n → knows_operation version (make n) ≡ true)
    → option_map make (option_and_then check (only_number ws)) ≡ Some op → IsPrinted version op (verb ∷ ws)
text-numbered version verb make check ws op is printed known h =
    let (n, read, made) = mapped_parts make (option_and_then check (only_number ws)) op h in
    let (words_are, passes) = one_number check ws n is read in
    (ap (λ rest. join_with_byte 32 (verb ∷ rest)) words_are ∙ sym (printed n) ∙ ap operation_text made, ap (knows_operation version) (sym made) ∙ known n passes)

text-alone : (version : Version) (verb : List ℕ) (o : Op) (ws : List (List ℕ)) (op : Op) → operation_text o ≡ verb → knows_operation version o ≡ true → alone o ws ≡ Some op → IsPrinted version op (verb ∷ ws)
text-alone version verb o [] op printed known h =
    let same : o ≡ op = same_Some _ _ h in
    (sym printed ∙ ap operation_text same, ap (knows_operation version) (sym same) ∙ known)
text-alone version verb o (w ∷ ws) op printed known h = absurd (none-some op h)

-- a printed change of a level, as its words follow each other
pub renice_text : (task : ℕ) (nice : ℤ) → operation_text (Renice task nice) ≡ codes "renice " ++ (decimal task ++ (32 ∷ signed_decimal nice))
renice_text task nice = ap (λ (t : List ℕ). codes "renice " ++ t) (append_assoc (decimal task) (codes " ") (signed_decimal nice))

text-renice : (version : Version) (ws : List (List ℕ)) (op : Op) → (limits_of version).renice ≡ true → renice_of ws ≡ Some op → IsPrinted version op (codes "renice" ∷ ws)
text-renice version [] op known h = absurd (none-some op h)
text-renice version (word ∷ ws) op known h =
    option_and_then_some (λ task. option_map (Renice task) (only_level ws)) (task_in word) op h
    (λ task read made.
    let (nice, found, same) = mapped_parts (Renice task) (only_level ws) op made in
    let (last, alone, level) = single (option_and_then level_in) ws nice refl found in
    let printed : word ≡ decimal task = (checked_word checked_number word task task_check read).0 in
    let behind : ws ≡ signed_decimal nice ∷ [] = alone ∙ ap (λ w. w ∷ []) (printed-level last nice level) in
    (ap₂ (λ w rest. join_with_byte 32 (codes "renice" ∷ w ∷ rest)) printed behind ∙ sym (renice_text task nice) ∙ ap operation_text same, ap (knows_operation version) (sym same) ∙ known))

-- a printed task with its level and its slice, as their words follow each other
three_texts : (task : ℕ) (nice : ℤ) (slice : ℕ) → decimal task ++ codes " " ++ signed_decimal nice ++ codes " " ++ decimal slice ≡ decimal task ++ (32 ∷ (signed_decimal nice ++ (32 ∷ decimal slice)))
three_texts task nice slice =
    append_assoc (decimal task ++ codes " " ++ signed_decimal nice) (codes " ") (decimal slice)
    ∙ append_assoc (decimal task ++ codes " ") (signed_decimal nice) (32 ∷ decimal slice)
    ∙ append_assoc (decimal task) (codes " ") (signed_decimal nice ++ (32 ∷ decimal slice))

begin_text : (task : ℕ) (nice : ℤ) (slice : ℕ) → operation_text (Begin task nice slice) ≡ codes "begin " ++ (decimal task ++ (32 ∷ (signed_decimal nice ++ (32 ∷ decimal slice))))
begin_text task nice slice = ap (λ (t : List ℕ). codes "begin " ++ t) (three_texts task nice slice)

set_text : (task : ℕ) (nice : ℤ) (slice : ℕ) → operation_text (Set task nice slice) ≡ codes "set " ++ (decimal task ++ (32 ∷ (signed_decimal nice ++ (32 ∷ decimal slice))))
set_text task nice slice = ap (λ (t : List ℕ). codes "set " ++ t) (three_texts task nice slice)

text-level_and_slice : (ws : List (List ℕ)) (both : ℤ × ℕ) → level_and_slice ws ≡ Some both → ws ≡ signed_decimal both.0 ∷ decimal both.1 ∷ []
text-level_and_slice [] both h = absurd (none-some both h)
text-level_and_slice (word ∷ ws) both h =
    option_and_then_some (λ nice. option_map (λ slice. (nice, slice)) (only_slice ws)) (level_in word) both h
    (λ nice read made.
    let (slice, found, same) = mapped_parts (λ (slice : ℕ). (nice, slice)) (only_slice ws) both made in
    ap₂ (λ w rest. w ∷ rest) (printed-level word nice read) (one_number checked_slice ws slice slice_check found).0
    ∙ ap (λ (b : ℤ × ℕ). signed_decimal b.0 ∷ decimal b.1 ∷ []) same)

text-task_level_slice : (ws : List (List ℕ)) (all : ℕ × ℤ × ℕ) → task_level_slice ws ≡ Some all → ws ≡ decimal all.0 ∷ signed_decimal all.1 ∷ decimal all.2 ∷ []
text-task_level_slice [] all h = absurd (none-some all h)
text-task_level_slice (word ∷ ws) all h =
    option_and_then_some (λ task. option_map (λ others. (task, others.0, others.1)) (level_and_slice ws)) (task_in word) all h
    (λ task read made.
    let (others, found, same) = mapped_parts (λ (others : ℤ × ℕ). (task, others.0, others.1)) (level_and_slice ws) all made in
    ap₂ (λ w rest. w ∷ rest) (checked_word checked_number word task task_check read).0 (text-level_and_slice ws others found)
    ∙ ap (λ (a : ℕ × ℤ × ℕ). decimal a.0 ∷ signed_decimal a.1 ∷ decimal a.2 ∷ []) same)

text-three : (version : Version) (verb : List ℕ) (make : ℕ × ℤ × ℕ → Op) (ws : List (List ℕ)) (op : Op)
    → ((all : ℕ × ℤ × ℕ) → operation_text (make all) ≡ join_with_byte 32 (verb ∷ decimal all.0 ∷ signed_decimal all.1 ∷ decimal all.2 ∷ [])) → ((all : ℕ × ℤ × ℕ) → knows_operation version (make all) ≡ true)
    → option_map make (task_level_slice ws) ≡ Some op → IsPrinted version op (verb ∷ ws)
text-three version verb make ws op printed known h =
    let (all, found, made) = mapped_parts make (task_level_slice ws) op h in
    (ap (λ rest. join_with_byte 32 (verb ∷ rest)) (text-task_level_slice ws all found) ∙ sym (printed all) ∙ ap operation_text made, ap (knows_operation version) (sym made) ∙ known all)

-- ---- operations that are read

-- what is read after a word, which is that of the first case or of the others
pub named : {A : Type 0} (word verb : List ℕ) (ws : List (List ℕ)) (x y : Option A) (a : A) (P : List (List ℕ) → Type 0) → (if bytes_eq verb word then x else y) ≡ Some a
    → (x ≡ Some a → P (word ∷ ws)) → (y ≡ Some a → P (verb ∷ ws)) → P (verb ∷ ws)
named word verb ws x y a P h first others =
    elim (cases_Bool (bytes_eq verb word)) [
      | inl same ↦ subst (λ w. P (w ∷ ws)) (sym ((bytes_eq-Decides verb word).0 same)) (first (rw same at h))
      | inr other ↦ others (rw other at h)
    ]

-- the same where a verb is read of the word, of which something is made
named_verb : {V : Type 0} (word verb : List ℕ) (ws : List (List ℕ)) (make : V → Option Op) (v : V) (others : Option V) (op : Op) (P : List (List ℕ) → Type 0)
    → option_and_then make (if bytes_eq verb word then Some v else others) ≡ Some op → (make v ≡ Some op → P (word ∷ ws)) → (option_and_then make others ≡ Some op → P (verb ∷ ws)) → P (verb ∷ ws)
named_verb word verb ws make v others op P h first later =
    elim (cases_Bool (bytes_eq verb word)) [
      | inl same ↦ subst (λ w. P (w ∷ ws)) (sym ((bytes_eq-Decides verb word).0 same)) (first (rw same at h))
      | inr other ↦ later (rw other at h)
    ]

-- an operation that only some versions know
of_version : (version : Version) (word : List ℕ) (ws : List (List ℕ)) (known : Bool) (o : Option Op) (op : Op) → (if known then o else None) ≡ Some op
    → (known ≡ true → o ≡ Some op → IsPrinted version op (word ∷ ws)) → IsPrinted version op (word ∷ ws)
of_version version word ws true o op h printed = printed refl h
of_version version word ws false o op h printed = absurd (none-some op h)

pub text-operation_of : (version : Version) (verb : List ℕ) (ws : List (List ℕ)) (op : Op) → operation_of (limits_of version) verb ws ≡ Some op → IsPrinted version op (verb ∷ ws)
text-operation_of version verb ws op h =
    named_verb (codes "tick") verb ws (operation_by (limits_of version) ws) _ _ op (IsPrinted version op) h (text-numbered version (codes "tick") Tick checked_tick ws op tick_check (λ n. refl) (λ n passes. refl)) (λ h.
    named_verb (codes "pick") verb ws (operation_by (limits_of version) ws) _ _ op (IsPrinted version op) h (text-alone version (codes "pick") Pick ws op refl refl) (λ h.
    named_verb (codes "yield") verb ws (operation_by (limits_of version) ws) _ _ op (IsPrinted version op) h (text-alone version (codes "yield") Yield ws op refl refl) (λ h.
    named_verb (codes "sleep") verb ws (operation_by (limits_of version) ws) _ _ op (IsPrinted version op) h (text-numbered version (codes "sleep") Sleep checked_number ws op task_check (λ n. refl) (λ n passes. refl)) (λ h.
    named_verb (codes "post") verb ws (operation_by (limits_of version) ws) _ _ op (IsPrinted version op) h (text-numbered version (codes "post") Post checked_number ws op task_check (λ n. refl) (λ n passes. refl)) (λ h.
    named_verb (codes "drain") verb ws (operation_by (limits_of version) ws) _ _ op (IsPrinted version op) h (text-alone version (codes "drain") Drain ws op refl refl) (λ h.
    named_verb (codes "pull") verb ws (operation_by (limits_of version) ws) _ _ op (IsPrinted version op) h (text-numbered version (codes "pull") Pull (cpu_within (limits_of version)) ws op (cpu_check version) (λ n. refl) (cpu_known version)) (λ h.
    named_verb (codes "renice") verb ws (operation_by (limits_of version) ws) _ _ op (IsPrinted version op) h (λ h. of_version version (codes "renice") ws _ _ op h (text-renice version ws op)) (λ h.
    named_verb (codes "begin") verb ws (operation_by (limits_of version) ws) _ _ op (IsPrinted version op) h (λ h. of_version version (codes "begin") ws _ _ op h (λ known. text-three version (codes "begin") (λ all. Begin all.0 all.1 all.2) ws op (λ all. begin_text all.0 all.1 all.2) (λ all. known))) (λ h.
    named_verb (codes "end") verb ws (operation_by (limits_of version) ws) _ _ op (IsPrinted version op) h (λ h. of_version version (codes "end") ws _ _ op h (λ known. text-numbered version (codes "end") End checked_number ws op task_check (λ n. refl) (λ n passes. known))) (λ h.
    named_verb (codes "set") verb ws (operation_by (limits_of version) ws) _ _ op (IsPrinted version op) h (λ h. of_version version (codes "set") ws _ _ op h (λ known. text-three version (codes "set") (λ all. Set all.0 all.1 all.2) ws op (λ all. set_text all.0 all.1 all.2) (λ all. known))) (λ h.
    named_verb (codes "rebase") verb ws (operation_by (limits_of version) ws) _ _ op (IsPrinted version op) h (λ h. of_version version (codes "rebase") ws _ _ op h (λ known. text-alone version (codes "rebase") Rebase ws op refl known)) (λ h.
    named_verb (codes "doze") verb ws (operation_by (limits_of version) ws) _ None op (IsPrinted version op) h (λ h. of_version version (codes "doze") ws _ _ op h (λ known. text-numbered version (codes "doze") Doze checked_number ws op task_check (λ n. refl) (λ n passes. known))) (λ h.
    absurd (none-some op h))))))))))))))

text-words : (version : Version) (ws : List (List ℕ)) (op : Op) → operation (limits_of version) ws ≡ Some op → IsPrinted version op ws
unfolding operation
text-words version [] op h = absurd (none-some op h)
text-words version (verb ∷ ws) op h = text-operation_of version verb ws op h

-- ---- operations that are printed

three-read : (task : ℕ) (nice : ℤ) (slice : ℕ) → IsStateInRange task nice slice
    → task_level_slice (words (decimal task ++ (32 ∷ (signed_decimal nice ++ (32 ∷ decimal slice))))) ≡ Some (task, nice, slice)
three-read task nice slice (few, level, fits) =
    ap task_level_slice (words-after_decimal task (signed_decimal nice ++ (32 ∷ decimal slice)) (omega (arith, few)))
    ∙ rw (words-after_level nice (decimal slice) level, words-decimal slice (small_slice slice fits), number-decimal task (omega (arith, few)), task_passes task few, level-printed nice level, number-decimal slice (small_slice slice fits), fits)

-- an operation within the limits of a version is read back where it is printed
pub operation-read : (version : Version) (op : Op) → AreInRange (arguments_of op) → knows_operation version op ≡ true → operation (limits_of version) (words (operation_text op)) ≡ Some op
unfolding operation
operation-read version (Tick n) h known = rw (words-decimal n (small_tick n h), number-decimal n (small_tick n h), h)
operation-read version (Sleep n) h known = rw (words-decimal n (omega arith), number-decimal n (omega arith), task_passes n h)
operation-read version (Post n) h known = rw (words-decimal n (omega arith), number-decimal n (omega arith), task_passes n h)
operation-read version (Pull n) h known = rw (words-decimal n (omega arith), number-decimal n (omega arith), cpu_passes version n h known)
operation-read version (Renice n nice) h known =
    ap (λ t. operation (limits_of version) (words t)) (renice_text n nice)
    ∙ ap (operation_of (limits_of version) (codes "renice")) (words-after_decimal n (signed_decimal nice) (omega (arith, h.0)))
    ∙ rw (known, words-printed nice h.1, number-decimal n (omega (arith, h.0)), task_passes n h.0, level-printed nice h.1)
operation-read version (Begin n nice slice) h known =
    ap (λ t. operation (limits_of version) (words t)) (begin_text n nice slice) ∙ rw known (ap (option_map (λ all. Begin all.0 all.1 all.2)) (three-read n nice slice h))
operation-read version (End n) h known = rw (known, words-decimal n (omega arith), number-decimal n (omega arith), task_passes n h)
operation-read version (Set n nice slice) h known =
    ap (λ t. operation (limits_of version) (words t)) (set_text n nice slice) ∙ rw known (ap (option_map (λ all. Set all.0 all.1 all.2)) (three-read n nice slice h))
operation-read version Rebase h known = rw known
operation-read version (Doze n) h known = rw (known, words-decimal n (omega arith), number-decimal n (omega arith), task_passes n h)
operation-read version _ h known = refl

-- a text is read as an operation whose numbers are in range exactly where it is that operation as it is printed
pub operation_is_text : (version : Version) (text : List ℕ) (op : Op) → AreInRange (arguments_of op)
    → (operation (limits_of version) (words text) ≡ Some op) ↔ ((text ≡ operation_text op) × (knows_operation version op ≡ true))
operation_is_text version text op small = (
  λ h. let (printed, known) = text-words version (words text) op h in (sym (joined_words text) ∙ printed, known),
  λ e. ap (λ t. operation (limits_of version) (words t)) e.0 ∙ operation-read version op small e.1,
)
