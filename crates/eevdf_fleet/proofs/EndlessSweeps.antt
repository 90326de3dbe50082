-- A seat of the fleet that keeps no history pulls from one CPU after the other.
use Rattle.std.proofs.Common.{◌≡◌, ◌≢◌, ◌==◌, ℕ, ◌+◌, ◌<◌, ◌≤◌, Bool, List, [], ◌∷◌, ◌++◌, ⊎_elim, refl, sym, ap, subst, ◌∙◌, arith, eq-eqb}
use Rattle.std.specs.Prelude.{All, Some, None, if◌then◌else◌}
use Rattle.std.proofs.lemmas.{Option.none-some, List.append-nil, List.append_assoc, List.append_cancel_left, List.append_cancel_right, List.Elements.filter-append}
use Rattle.eevdf_ops.specs.{declared.deeds.Answer.Answer, declared.deeds.Deed.Deed, declared.deeds.Line.Line, Parts.decider, Programs.lines_by, Setup.Setup, Setup.cpus_of}
use Rattle.eevdf_ops.specs.{declared.deeds.Answer.TheVariants.Pulled, declared.deeds.Deed.TheVariants.Pull}
use Rattle.eevdf_fleet.specs.Endless.{HasDone, HasSeen, Seat}
use Rattle.eevdf_fleet.specs.{EndlessSweeps.HasSwept, EndlessSweeps.HasTried, Sweeps.ComesAfter, Sweeps.IsFailedPull, Sweeps.TookNothing, Sweeps.pull_line}
use Rattle.eevdf_fleet.proofs.Sweeps.{AreTries, comes-round, tried-or-next, tries-begin, tries-more, turn-more}

-- so many numbers on, a seat has tried the CPUs before that one, and got no task
pub record IsTrying (s : Setup) (steps : ℕ) (before now : Seat) : Type 0 where
  pub more : List Line
  pub cpu : now.cpu ≡ before.cpu
  pub log : now.log ≡ before.log ++ lines_by before.cpu more
  pub tries : AreTries (cpus_of s) steps before.cpu (lines_by before.cpu more)
  pub tried : (k source : ℕ) → 0 < k → k < steps → ComesAfter (cpus_of s) before.cpu k source → HasTried before now source
  pub seen : now.seen ≡ before.seen ++ more
  pub posted : now.posted ≡ before.posted
  pub free : now.free ≡ before.free
  pub has_seen : HasSeen s now

pub trying-begins : (s : Setup) (before : Seat) → HasSeen s before → IsTrying s 1 before before
trying-begins s before known = record {
  more = [];
  cpu = refl;
  log = sym (append-nil before.log);
  tries = tries-begin (cpus_of s) before.cpu;
  tried = λ k source some below at. absurd (let no : ⊥ = omega (arith, some, below) in no);
  seen = sym (append-nil before.seen);
  posted = refl;
  free = refl;
  has_seen = known;
}

lines-append : (cpu : ℕ) (xs ys : List Line) → lines_by cpu (xs ++ ys) ≡ lines_by cpu xs ++ lines_by cpu ys
lines-append cpu xs ys = filter-append (λ (l : Line). decider l.deed == cpu) xs ys

own-line : (cpu : ℕ) (line : Line) → decider line.deed ≡ cpu → lines_by cpu (line ∷ []) ≡ line ∷ []
own-line cpu line own = ap (λ (b : Bool). if b then line ∷ [] else []) (eq-eqb (decider line.deed) cpu own)

-- what a seat comes to see by a deed of its own has no other line of its CPU
others-are : (s : Setup) (deed : Deed) (answer : Answer) (now next : Seat) → HasSeen s now → (done : HasDone s deed answer now next) → decider deed ≡ now.cpu → lines_by now.cpu done.others ≡ []
others-are s deed answer now next known done own =
    let line : Line = record { deed = deed; answer = answer } in
    let all : lines_by now.cpu next.seen ≡ now.log ++ line ∷ [] = ap (λ (cpu : ℕ). lines_by cpu next.seen) (sym done.cpu) ∙ done.has_seen.own ∙ done.log in
    let parts : lines_by now.cpu next.seen ≡ now.log ++ (lines_by now.cpu done.others ++ line ∷ [])
    = ap (lines_by now.cpu) done.seen ∙ lines-append now.cpu now.seen (done.others ++ line ∷ [])
    ∙ ap (λ (xs : List Line). xs ++ lines_by now.cpu (done.others ++ line ∷ [])) known.own
    ∙ ap (λ (xs : List Line). now.log ++ xs) (lines-append now.cpu done.others (line ∷ []) ∙ ap (λ (xs : List Line). lines_by now.cpu done.others ++ xs) (own-line now.cpu line own)) in
    append_cancel_right (lines_by now.cpu done.others) [] (line ∷ []) (append_cancel_left now.log _ _ (sym parts ∙ all))

-- what a seat has tried it has tried still when it has seen more
tried-still : (before now next : Seat) (source : ℕ) (more : List Line) → next.seen ≡ now.seen ++ more → HasTried before now source → HasTried before next source
tried-still before now next source more seen h = record {
  since = h.since;
  answer = h.answer;
  later = h.later ++ more;
  told = seen ∙ ap (λ (lines : List Line). lines ++ more) h.told ∙ append_assoc (before.seen ++ h.since) (pull_line before.cpu source h.answer ∷ h.later) more;
  nothing = h.nothing;
  own = h.own;
}

-- a pull by a seat that is trying: of what it has seen since it began its CPU's lines are those before and this one
record HasPulled (source : ℕ) (answer : Answer) (before now next : Seat) (more others : List Line) : Type 0 where
  quiet : lines_by before.cpu (more ++ others) ≡ lines_by before.cpu more
  own : lines_by before.cpu (more ++ others ++ pull_line before.cpu source answer ∷ []) ≡ lines_by before.cpu more ++ pull_line before.cpu source answer ∷ []
  told : next.seen ≡ before.seen ++ (more ++ others) ++ pull_line before.cpu source answer ∷ []
  seen : next.seen ≡ before.seen ++ (more ++ others ++ pull_line before.cpu source answer ∷ [])
  log : next.log ≡ before.log ++ (lines_by before.cpu more ++ pull_line before.cpu source answer ∷ [])

has-pulled : (s : Setup) (steps source : ℕ) (answer : Answer) (before now next : Seat) (h : IsTrying s steps before now) (done : HasDone s (Pull now.cpu source) answer now next)
    → HasPulled source answer before now next h.more done.others
has-pulled s steps source answer before now next h done =
    let line : Line = pull_line before.cpu source answer in
    let same : pull_line now.cpu source answer ≡ line = ap (λ (cpu : ℕ). pull_line cpu source answer) h.cpu in
    let none : lines_by before.cpu done.others ≡ [] = ap (λ (cpu : ℕ). lines_by cpu done.others) (sym h.cpu) ∙ others-are s (Pull now.cpu source) answer now next h.has_seen done refl in
    let quiet : lines_by before.cpu (h.more ++ done.others) ≡ lines_by before.cpu h.more
    = lines-append before.cpu h.more done.others ∙ ap (λ (xs : List Line). lines_by before.cpu h.more ++ xs) none ∙ append-nil (lines_by before.cpu h.more) in
    let told : next.seen ≡ before.seen ++ (h.more ++ done.others) ++ line ∷ []
    = done.seen ∙ ap (λ (l : Line). now.seen ++ (done.others ++ l ∷ [])) same
    ∙ ap (λ (xs : List Line). xs ++ (done.others ++ line ∷ [])) h.seen
    ∙ sym (append_assoc (before.seen ++ h.more) done.others (line ∷ []))
    ∙ ap (λ (xs : List Line). xs ++ line ∷ []) (append_assoc before.seen h.more done.others) in
    record {
      quiet = quiet;
      own = lines-append before.cpu (h.more ++ done.others) (line ∷ []) ∙ ap (λ (xs : List Line). xs ++ lines_by before.cpu (line ∷ [])) quiet
          ∙ ap (λ (xs : List Line). lines_by before.cpu h.more ++ xs) (own-line before.cpu line refl);
      told = told;
      seen = told ∙ append_assoc before.seen (h.more ++ done.others) (line ∷ []);
      log = done.log ∙ ap (λ (l : Line). now.log ++ l ∷ []) same ∙ ap (λ (xs : List Line). xs ++ line ∷ []) h.log ∙ append_assoc before.log (lines_by before.cpu h.more) (line ∷ []);
    }

pub trying-goes-on : (s : Setup) (steps source : ℕ) (answer : Answer) (before now next : Seat) → IsTrying s steps before now → HasDone s (Pull now.cpu source) answer now next
    → TookNothing answer → ComesAfter (cpus_of s) before.cpu steps source → IsTrying s (steps + 1) before next
trying-goes-on s steps source answer before now next h done nothing after =
    let pulled = has-pulled s steps source answer before now next h done in
    record {
      more = h.more ++ done.others ++ pull_line before.cpu source answer ∷ [];
      cpu = done.cpu ∙ h.cpu;
      log = pulled.log ∙ ap (λ (xs : List Line). before.log ++ xs) (sym pulled.own);
      tries = subst (λ (xs : List Line). AreTries (cpus_of s) (steps + 1) before.cpu xs) (sym pulled.own)
          (tries-more (cpus_of s) steps before.cpu source answer (lines_by before.cpu h.more) h.tries after nothing);
      tried = λ k other some less at. ⊎_elim
          (λ (earlier : k < steps). tried-still before now next other _ done.seen (h.tried k other some earlier at))
          (λ (same : source ≡ other). subst (λ (c : ℕ). HasTried before next c) same (record {
            since = h.more ++ done.others;
            answer = answer;
            later = [];
            told = pulled.told;
            nothing = nothing;
            own = subst (λ (xs : List Line). All (IsFailedPull before.cpu) xs) (sym pulled.quiet) h.tries.failed;
          }))
          (tried-or-next (cpus_of s) before.cpu steps k source other less at after);
      seen = pulled.seen;
      posted = done.posted ∙ h.posted;
      free = done.free ∙ h.free;
      has_seen = done.has_seen;
    }

pub trying-ends : (s : Setup) (steps : ℕ) (before now : Seat) → IsTrying s steps before now → before.cpu < cpus_of s → cpus_of s ≤ steps → HasSwept s None before now
trying-ends s steps before now h inside round = record {
  lines = lines_by before.cpu h.more;
  cpu = h.cpu;
  log = h.log;
  pulls = record { in_turn = h.tries.in_turn; took = h.tries.failed };
  tried = λ _. comes-round (cpus_of s) before.cpu steps (HasTried before now) h.tried inside round;
  seen = (h.more, sym h.seen);
  posted = h.posted;
  free = h.free;
  has_seen = h.has_seen;
}

pub trying-finds : (s : Setup) (steps source task : ℕ) (before now next : Seat) → IsTrying s steps before now → HasDone s (Pull now.cpu source) (Pulled task) now next
    → ComesAfter (cpus_of s) before.cpu steps source → source ≢ before.cpu → HasSwept s (Some task) before next
trying-finds s steps source task before now next h done after other =
    let pulled = has-pulled s steps source (Pulled task) before now next h done in
    record {
      lines = lines_by before.cpu h.more ++ pull_line before.cpu source (Pulled task) ∷ [];
      cpu = done.cpu ∙ h.cpu;
      log = pulled.log;
      pulls = record {
        in_turn = turn-more (cpus_of s) steps before.cpu source (Pulled task) (lines_by before.cpu h.more) h.tries after;
        took = record { failed = lines_by before.cpu h.more; source = source; are = refl; each_failed = h.tries.failed; other = other };
      };
      tried = λ found. absurd (none-some task (sym found));
      seen = (h.more ++ done.others ++ pull_line before.cpu source (Pulled task) ∷ [], sym pulled.seen);
      posted = done.posted ∙ h.posted;
      free = done.free ∙ h.free;
      has_seen = done.has_seen;
    }
