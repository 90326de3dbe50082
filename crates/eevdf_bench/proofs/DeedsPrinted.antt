-- Printed deeds are read back, and nothing else is read as them.
use Rattle.std.proofs.Common.{◌≡◌, ◌↔◌, ℕ, codes, ◌<◌, true, ltb, List, [], ◌∷◌, ◌++◌, Some, option_map, option_and_then, refl, ap, ap₂, sym, subst, append_assoc, ◌∙◌, arith}
use Rattle.std.specs.{Prelude.IfSome, Fmt.decimal, List.join_with_byte}
use Rattle.std.proofs.{lemmas.Bool.and_parts, lemmas.Option.none-some, lemmas.Option.option_and_then_some}
use Rattle.eevdf_queue.specs.Numbers.{checked_number}
use Rattle.eevdf_ops.specs.{Numbers.cpu_limit, Origins.decider, Origins.origin_of, Programs.deed_of, Texts.deed_text}
use Rattle.eevdf_ops.specs.{declared.deeds.Op.Op, declared.deeds.Deed.Deed}
use Rattle.eevdf_ops.specs.declared.deeds.Op.TheVariants as op
use Rattle.eevdf_ops.specs.declared.deeds.Deed.TheVariants.{Wake}
use Rattle.eevdf_ops.proofs.Origins.{operation_in}
use Rattle.eevdf_workload.specs.{declared.version.Version.Version, Versions.cpu_within, Versions.limits_of}
use Rattle.eevdf_workload.specs.Words.{words, operation, operation_of, sender_of, wake_of, task_in, cpu_in, deed_on, deed_in}
use Rattle.eevdf_bench.specs.WordsPrinted.{IsOriginInRange, knows_deed, knows_origin, knows_operation, numbered_deed_text, operation_text}
use Rattle.eevdf_bench.proofs.ReadingPrinted.{number-decimal, words-decimal, words-after_decimal, joined_words}
use Rattle.eevdf_bench.proofs.OperationsPrinted.{cpu_check, cpu_known, cpu_passes, task_check, task_passes, checked_word, one_number, mapped_parts, named, operation-read, text-operation_of}

-- a printed wake, as its words follow each other
wake_text : (cpu task sender : ℕ) → deed_text (Wake cpu task sender) ≡ codes "wake " ++ (decimal task ++ (32 ∷ (codes "from " ++ decimal sender)))
wake_text cpu task sender = ap (λ (t : List ℕ). codes "wake " ++ t) (append_assoc (decimal task) (codes " from ") (decimal sender))

-- ---- deeds that are read

-- the words are those of a deed on a CPU that a version knows
abbrev pub IsPrintedOn : Version → ℕ → Deed → List (List ℕ) → Type 0
IsPrintedOn version cpu d ws = (decider d ≡ cpu) × (join_with_byte 32 ws ≡ deed_text d) × (knows_origin version (origin_of d) ≡ true)

-- a deed is printed as its operation, and known where that is
abbrev IsDeedOf : Version → ℕ → Op → Deed → Type 0
IsDeedOf version cpu o d = (decider d ≡ cpu) × (deed_text d ≡ operation_text o) × (knows_origin version (origin_of d) ≡ knows_operation version o)

deed_is_of : (version : Version) (cpu : ℕ) (o : Op) → IfSome (deed_of cpu o) (IsDeedOf version cpu o)
deed_is_of version cpu (op.Post task) = tt
deed_is_of version cpu op.Drain = tt
deed_is_of version cpu _ = (refl, refl, refl)

-- the words of the sender of a wake
abbrev IsSender : Version → ℕ → List (List ℕ) → Type 0
IsSender version sender ws = (ws ≡ codes "from" ∷ decimal sender ∷ []) × (cpu_within (limits_of version) sender ≡ Some sender)

text-sender : (version : Version) (ws : List (List ℕ)) (sender : ℕ) → sender_of (limits_of version) ws ≡ Some sender → IsSender version sender ws
text-sender version [] sender h = absurd (none-some sender h)
text-sender version (verb ∷ ws) sender h =
    named (codes "from") verb ws _ _ sender (IsSender version sender) h
    (λ h.
    let (alone, passes) = one_number (cpu_within (limits_of version)) ws sender (cpu_check version) h in
    (ap (λ rest. codes "from" ∷ rest) alone, passes))
    (λ h. absurd (none-some sender h))

text-wake : (version : Version) (cpu : ℕ) (ws : List (List ℕ)) (d : Deed) → wake_of (limits_of version) cpu ws ≡ Some d → IsPrintedOn version cpu d (codes "wake" ∷ ws)
text-wake version cpu [] d h = absurd (none-some d h)
text-wake version cpu (word ∷ ws) d h =
    option_and_then_some (λ task. option_map (Wake cpu task) (sender_of (limits_of version) ws)) (task_in word) d h
    (λ task read made.
    let (sender, sent, same) = mapped_parts (Wake cpu task) (sender_of (limits_of version) ws) d made in
    let printed : word ≡ decimal task = (checked_word checked_number word task task_check read).0 in
    let (behind, passes) = text-sender version ws sender sent in (
      sym (ap decider same),
      ap₂ (λ w rest. join_with_byte 32 (codes "wake" ∷ w ∷ rest)) printed behind ∙ sym (wake_text cpu task sender) ∙ ap deed_text same,
      ap (λ (e : Deed). knows_origin version (origin_of e)) (sym same) ∙ cpu_known version sender passes,
    ))

text-operation_deed : (version : Version) (cpu : ℕ) (verb : List ℕ) (ws : List (List ℕ)) (d : Deed) → option_and_then (deed_of cpu) (operation_of (limits_of version) verb ws) ≡ Some d → IsPrintedOn version cpu d (verb ∷ ws)
text-operation_deed version cpu verb ws d h =
    option_and_then_some (deed_of cpu) (operation_of (limits_of version) verb ws) d h
    (λ o read made.
    let (on, text, knows) = subst (λ e. IfSome e (IsDeedOf version cpu o)) made (deed_is_of version cpu o) in
    let (printed, known) = text-operation_of version verb ws o read in
    (on, printed ∙ sym text, knows ∙ known))

text-deed_on : (version : Version) (cpu : ℕ) (verb : List ℕ) (ws : List (List ℕ)) (d : Deed) → deed_on (limits_of version) cpu (verb ∷ ws) ≡ Some d → IsPrintedOn version cpu d (verb ∷ ws)
text-deed_on version cpu verb ws d h =
    named (codes "wake") verb ws _ _ d (IsPrintedOn version cpu d) h (text-wake version cpu ws d) (text-operation_deed version cpu verb ws d)

-- a text is that of a deed that a version knows
abbrev IsDeedText : Version → Deed → List ℕ → Type 0
IsDeedText version d text = (text ≡ numbered_deed_text d) × (knows_deed version d ≡ true)

text-deed_in : (version : Version) (ws : List (List ℕ)) (d : Deed) → deed_in (limits_of version) ws ≡ Some d → IsDeedText version d (join_with_byte 32 ws)
unfolding deed_in
text-deed_in version [] d h = absurd (none-some d h)
text-deed_in version (word ∷ []) d h = option_and_then_some (λ cpu. deed_on (limits_of version) cpu []) (cpu_in (limits_of version) word) d h (λ cpu read on. absurd (none-some d on))
text-deed_in version (word ∷ verb ∷ ws) d h =
    option_and_then_some (λ cpu. deed_on (limits_of version) cpu (verb ∷ ws)) (cpu_in (limits_of version) word) d h
    (λ cpu read on.
    let (of_cpu, printed, known) = text-deed_on version cpu verb ws d on in
    let (number_is, passes) = checked_word (cpu_within (limits_of version)) word cpu (cpu_check version) read in
    let below : ltb (decider d) (limits_of version).cpus ≡ true = ap (λ (n : ℕ). ltb n (limits_of version).cpus) of_cpu ∙ cpu_known version cpu passes in (
      ap₂ (λ (w text : List ℕ). w ++ (32 ∷ text)) (number_is ∙ ap decimal (sym of_cpu)) printed ∙ sym (append_assoc (decimal (decider d)) (codes " ") (deed_text d)),
      rw below known,
    ))

-- ---- deeds that are printed

-- a deed whose act a version knows is read back where it is printed behind its CPU
act-read : (version : Version) (d : Deed) → IsOriginInRange (origin_of d) → knows_origin version (origin_of d) ≡ true → deed_on (limits_of version) (decider d) (words (deed_text d)) ≡ Some d
unfolding operation
act-read version (Wake cpu task sender) h known =
    ap (λ t. deed_on (limits_of version) cpu (words t)) (wake_text cpu task sender)
    ∙ ap (wake_of (limits_of version) cpu) (words-after_decimal task (codes "from " ++ decimal sender) (omega (arith, h.0)))
    ∙ rw (words-decimal sender (omega (arith, h.1)), number-decimal task (omega (arith, h.0)), task_passes task h.0, number-decimal sender (omega (arith, h.1)), cpu_passes version sender h.1 known)
act-read version d h known = ap (option_and_then (deed_of (decider d))) (operation-read version (operation_in (origin_of d)) h known)

deed-read : (version : Version) (d : Deed) → decider d < cpu_limit → IsOriginInRange (origin_of d) → knows_deed version d ≡ true → deed_in (limits_of version) (words (numbered_deed_text d)) ≡ Some d
unfolding deed_in
deed-read version d below small known =
    let (on, act) = and_parts (ltb (decider d) (limits_of version).cpus) (knows_origin version (origin_of d)) known in
    ap (λ t. deed_in (limits_of version) (words t)) (append_assoc (decimal (decider d)) (codes " ") (deed_text d)) ∙ ap (deed_in (limits_of version)) (words-after_decimal (decider d) (deed_text d) (omega arith))
    ∙ rw (number-decimal (decider d) (omega arith), cpu_passes version (decider d) below on, act-read version d small act)

-- a text is read as a deed whose numbers are in range exactly where it is that deed as it is printed
pub deed_is_text : (version : Version) (text : List ℕ) (d : Deed) → decider d < cpu_limit → IsOriginInRange (origin_of d)
    → (deed_in (limits_of version) (words text) ≡ Some d) ↔ ((text ≡ numbered_deed_text d) × (knows_deed version d ≡ true))
deed_is_text version text d below small = (
  λ h. let (printed, known) = text-deed_in version (words text) d h in (sym (joined_words text) ∙ printed, known),
  λ e. ap (λ t. deed_in (limits_of version) (words t)) e.0 ∙ deed-read version d below small e.1,
)
