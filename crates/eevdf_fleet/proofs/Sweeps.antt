-- A seat pulls from one CPU after the other.
use Rattle.std.proofs.Common.{◌≡◌, ◌≢◌, ℕ, ◌+◌, ◌-◌, ◌<◌, ◌≤◌, List, [], ◌∷◌, ◌++◌, length, ⊎_elim, inl, inr, refl, sym, ap, subst, ◌∙◌, arith}
use Rattle.std.specs.Prelude.{◌⊎◌, All, Some, None, Result, Ok}
use Rattle.std.proofs.lemmas.{Bool.cases_lt, Option.none-some, List.append-nil, List.append_assoc, List.length-append, List.Elements.All-append, List.Elements.All-cons, List.Elements.All-nil}
use Rattle.eevdf_ops.specs.{declared.deeds.Answer.Answer, declared.deeds.Deed.Deed, declared.deeds.Line.Line, declared.deeds.Answer.TheVariants.Pulled}
use Rattle.eevdf_fleet.specs.Fleets.{IsLogged, Seat, logged}
use Rattle.eevdf_fleet.specs.Sweeps.{ArePullsInTurn, ComesAfter, HasSwept, HasTried, IsFailedPull, TookNothing, pull_line}

-- lines are tries of the CPUs that come fewer numbers after this one, and took no task
pub record AreTries (cpus steps cpu : ℕ) (lines : List Line) : Type 0 where
  pub count : length lines + 1 ≡ steps
  pub in_turn : ArePullsInTurn cpus cpu 1 lines
  pub failed : All (IsFailedPull cpu) lines

pub tries-begin : (cpus cpu : ℕ) → AreTries cpus 1 cpu []
tries-begin cpus cpu = record { count = refl; in_turn = tt; failed = All-nil (IsFailedPull cpu) }

in-turn-more : (cpus cpu steps source : ℕ) (answer : Answer) (lines : List Line) → ArePullsInTurn cpus cpu steps lines → ComesAfter cpus cpu (steps + length lines) source
    → ArePullsInTurn cpus cpu steps (lines ++ pull_line cpu source answer ∷ [])
in-turn-more cpus cpu steps source answer [] h after = ((source, refl, subst (λ (n : ℕ). ComesAfter cpus cpu n source) (omega arith) after), tt)
in-turn-more cpus cpu steps source answer (line ∷ lines) h after =
    (h.0, in-turn-more cpus cpu (steps + 1) source answer lines h.1 (subst (λ (n : ℕ). ComesAfter cpus cpu n source) (omega arith) after))

-- a pull in its turn is one more
pub turn-more : (cpus steps cpu source : ℕ) (answer : Answer) (lines : List Line) → AreTries cpus steps cpu lines → ComesAfter cpus cpu steps source
    → ArePullsInTurn cpus cpu 1 (lines ++ pull_line cpu source answer ∷ [])
turn-more cpus steps cpu source answer lines h after =
    in-turn-more cpus cpu 1 source answer lines h.in_turn (subst (λ (n : ℕ). ComesAfter cpus cpu n source) (omega (arith, h.count)) after)

pub tries-more : (cpus steps cpu source : ℕ) (answer : Answer) (lines : List Line) → AreTries cpus steps cpu lines → ComesAfter cpus cpu steps source → TookNothing answer
    → AreTries cpus (steps + 1) cpu (lines ++ pull_line cpu source answer ∷ [])
tries-more cpus steps cpu source answer lines h after nothing = record {
  count = omega (arith, h.count, length-append lines (pull_line cpu source answer ∷ []));
  in_turn = turn-more cpus steps cpu source answer lines h after;
  failed = All-append (IsFailedPull cpu) lines (pull_line cpu source answer ∷ []) h.failed
      (All-cons (IsFailedPull cpu) (pull_line cpu source answer) [] (source, refl, nothing) (All-nil (IsFailedPull cpu)));
}

-- who has tried so many has tried this one, or it is the next
pub tried-or-next : (cpus cpu steps k source other : ℕ) → k < steps + 1 → ComesAfter cpus cpu k other → ComesAfter cpus cpu steps source → (k < steps) ⊎ (source ≡ other)
tried-or-next cpus cpu steps k source other less at after =
    ⊎_elim (λ (earlier : k < steps). inl earlier) (λ (late : steps ≤ k). inr (same at.1 after.1 late)) (cases_lt k steps)
  where
    same : (other ≡ cpu + k) ⊎ (other + cpus ≡ cpu + k) → (source ≡ cpu + steps) ⊎ (source + cpus ≡ cpu + steps) → steps ≤ k → source ≡ other
    same (inl a) (inl b) late = omega (arith, a, b, late, less)
    same (inl a) (inr b) late = absurd (let no : ⊥ = omega (arith, a, b, late, less, at.0, after.0) in no)
    same (inr a) (inl b) late = absurd (let no : ⊥ = omega (arith, a, b, late, less, at.0, after.0) in no)
    same (inr a) (inr b) late = omega (arith, a, b, late, less)

-- where a CPU has come round, each other one was tried
pub comes-round : (cpus cpu steps : ℕ) (Tried : ℕ → Type 0) → ((k source : ℕ) → 0 < k → k < steps → ComesAfter cpus cpu k source → Tried source) → cpu < cpus → cpus ≤ steps
    → (source : ℕ) → source < cpus → source ≢ cpu → Tried source
comes-round cpus cpu steps Tried tried inside round source below other =
    ⊎_elim
    (λ (after : cpu < source). tried (source - cpu) source (omega arith) (omega arith) (below, inl (omega arith)))
    (λ (not_after : source ≤ cpu). tried (source + cpus - cpu) source (omega arith) (omega arith) (below, inr (omega arith)))
    (cases_lt cpu source)

-- a seat has got lines
abbrev pub with_lines : Seat → List Line → Seat
with_lines s lines = record s { log = s.log ++ lines; room = s.room - length lines }

-- so many numbers on, a seat has tried the CPUs before that one, and got no task
pub record IsTrying (cpus steps : ℕ) (before now : Seat) : Type 0 where
  pub lines : List Line
  pub is : now ≡ with_lines before lines
  pub tries : AreTries cpus steps before.cpu lines
  pub tried : (k source : ℕ) → 0 < k → k < steps → ComesAfter cpus before.cpu k source → HasTried before.cpu lines source

pub trying-begins : (cpus : ℕ) (before : Seat) → IsTrying cpus 1 before before
trying-begins cpus before =
    let room : before.room ≡ before.room - 0 = omega arith in
    record {
      lines = [];
      is = ap (λ (log : List Line). record before { log = log }) (sym (append-nil before.log)) ∙ ap (λ (left : ℕ). record before { log = before.log ++ []; room = left }) room;
      tries = tries-begin cpus before.cpu;
      tried = λ k source some below at. absurd (let no : ⊥ = omega (arith, some, below) in no);
    }

-- a deed that was answered has its line in the seat
pub logged-as : {E : Type 0} (deed : Deed) (answer : Answer) (before after : Seat) (r : Result Answer E) → r ≡ Ok answer → IsLogged deed before after r
    → after ≡ logged before (record { deed = deed; answer = answer })
logged-as {E} deed answer before after r is cases = subst (λ (x : Result Answer E). IsLogged deed before after x) is cases

-- a pull by a seat that is trying adds its line
pulled-more : (before now next : Seat) (lines : List Line) (source : ℕ) (answer : Answer) → now ≡ with_lines before lines → next ≡ logged now (pull_line now.cpu source answer)
    → next ≡ with_lines before (lines ++ pull_line before.cpu source answer ∷ [])
pulled-more before now next lines source answer is done =
    let line : Line = pull_line before.cpu source answer in
    let room : before.room - length lines - 1 ≡ before.room - length (lines ++ line ∷ []) = omega (arith, length-append lines (line ∷ [])) in
    done ∙ ap (λ (s : Seat). logged s (pull_line s.cpu source answer)) is
    ∙ ap (λ (log : List Line). record before { log = log; room = before.room - length lines - 1 }) (append_assoc before.log lines (line ∷ []))
    ∙ ap (λ (left : ℕ). record before { log = before.log ++ (lines ++ line ∷ []); room = left }) room

-- what was tried is so still with more lines
tried-still : (cpu source : ℕ) (lines more : List Line) → HasTried cpu lines source → HasTried cpu (lines ++ more) source
tried-still cpu source lines more h = record {
  earlier = h.earlier;
  answer = h.answer;
  later = h.later ++ more;
  told = ap (λ (all : List Line). all ++ more) h.told ∙ append_assoc h.earlier (pull_line cpu source h.answer ∷ h.later) more;
  nothing = h.nothing;
}

pub trying-goes-on : (cpus steps source : ℕ) (answer : Answer) (before now next : Seat) → IsTrying cpus steps before now → next ≡ logged now (pull_line now.cpu source answer)
    → TookNothing answer → ComesAfter cpus before.cpu steps source → IsTrying cpus (steps + 1) before next
trying-goes-on cpus steps source answer before now next h done nothing after =
    let more : List Line = pull_line before.cpu source answer ∷ [] in
    record {
      lines = h.lines ++ more;
      is = pulled-more before now next h.lines source answer h.is done;
      tries = tries-more cpus steps before.cpu source answer h.lines h.tries after nothing;
      tried = λ k other some less at. ⊎_elim
          (λ (earlier : k < steps). tried-still before.cpu other h.lines more (h.tried k other some earlier at))
          (λ (same : source ≡ other). subst (λ (c : ℕ). HasTried before.cpu (h.lines ++ more) c) same
          (record { earlier = h.lines; answer = answer; later = []; told = refl; nothing = nothing }))
          (tried-or-next cpus before.cpu steps k source other less at after);
    }

pub trying-ends : (cpus steps : ℕ) (before now : Seat) → IsTrying cpus steps before now → before.cpu < cpus → cpus ≤ steps → HasSwept cpus None before now
trying-ends cpus steps before now h inside round = record {
  lines = h.lines;
  is = h.is;
  pulls = record { in_turn = h.tries.in_turn; took = h.tries.failed };
  tried = λ _. comes-round cpus before.cpu steps (HasTried before.cpu h.lines) h.tried inside round;
}

pub trying-finds : (cpus steps source task : ℕ) (before now next : Seat) → IsTrying cpus steps before now → next ≡ logged now (pull_line now.cpu source (Pulled task))
    → ComesAfter cpus before.cpu steps source → source ≢ before.cpu → HasSwept cpus (Some task) before next
trying-finds cpus steps source task before now next h done after other = record {
  lines = h.lines ++ pull_line before.cpu source (Pulled task) ∷ [];
  is = pulled-more before now next h.lines source (Pulled task) h.is done;
  pulls = record {
    in_turn = turn-more cpus steps before.cpu source (Pulled task) h.lines h.tries after;
    took = record { failed = h.lines; source = source; are = refl; each_failed = h.tries.failed; other = other };
  };
  tried = λ found. absurd (none-some task (sym found));
}
