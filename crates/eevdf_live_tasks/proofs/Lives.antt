-- What a seat's deeds come to, one after the other.
use Rattle.std.proofs.Common.{◌≡◌, ◌≢◌, ℕ, ℤ, Bool, true, false, Option, Some, None, List, [], ◌∷◌, ◌++◌, refl, sym, ap, subst, ◌∙◌}
use Rattle.std.proofs.lemmas.List.{append-nil, append_assoc, map-append}
use Rattle.std.proofs.lemmas.List.Elements.{All-nil, All-push}
use base.Growing.{prefix_refl, prefix_trans}
use Rattle.eevdf_ops.specs.{Machine.Machine, Machine.start, Setup.Setup, Setup.homes_of}
use Rattle.eevdf_ops.specs.{declared.deeds.Answer.Answer, declared.deeds.Deed.Deed, declared.deeds.Line.Line, Programs.deeds_of}
use Rattle.eevdf_ops.specs.{OneQueue.answer_of_pick, OneQueue.answer_of_begin, Whole.whole, Whole.lines_of}
use Rattle.eevdf_ops.specs.declared.deeds.Answer.TheVariants.{Awake, Begun, Idle, Picked}
use Rattle.eevdf_ops.specs.declared.deeds.Deed.TheVariants as deed
use Rattle.eevdf_fleet.specs.Endless.{Seat, HasDone}
use Rattle.eevdf_fleet.specs.declared.wake_list.DrainedWake.{DrainedWake}
use Rattle.eevdf_live_tasks.specs.Lives.{Ending, HasEndedWoken, HasLines, HasPicked, HasWoken, ending_line, is_some_ended, stray_lines}

-- a seat that has done nothing
pub lines-none : (s : Setup) (seat : Seat) → HasLines s [] seat seat
lines-none s seat = record { cpu = refl; log = sym (append-nil seat.log); seen = prefix_refl seat.seen; posted = refl; free = refl; has_seen = λ h. h }

-- and one deed more
pub lines-more : {s : Setup} {lines : List Line} {before between after : Seat} (d : Deed) (answer : Answer) → HasLines s lines before between → HasDone s d answer between after
    → HasLines s (lines ++ record { deed = d; answer = answer } ∷ []) before after
lines-more {lines = lines} {before = before} {between = between} {after = after} d answer h done = record {
  cpu = done.cpu ∙ h.cpu;
  log = done.log ∙ ap (λ (l : List Line). l ++ record { deed = d; answer = answer } ∷ []) h.log ∙ append_assoc before.log lines (record { deed = d; answer = answer } ∷ []);
  seen = prefix_trans before.seen between.seen after.seen h.seen (done.others ++ record { deed = d; answer = answer } ∷ [], sym done.seen);
  posted = done.posted ∙ h.posted;
  free = done.free ∙ h.free;
  has_seen = λ _. done.has_seen;
}

strays-more : (cpu : ℕ) (es : List Ending) (e : Ending)
    → stray_lines cpu es ++ record { deed = deed.Pick cpu; answer = Picked e.task } ∷ ending_line cpu e ∷ [] ≡ stray_lines cpu (es ++ e ∷ [])
strays-more cpu [] e = refl
strays-more cpu (x ∷ es) e =
    ap (λ (l : List Line). record { deed = deed.Pick cpu; answer = Picked x.task } ∷ ending_line cpu x ∷ l) (strays-more cpu es e)

-- seats that have picked strays and ended each
pub record HavePickedStrays (s : Setup) (before after : Seat) : Type 0 where
  pub strays : List Ending
  pub lines : HasLines s (stray_lines before.cpu strays) before after

pub strays-none : (s : Setup) (seat : Seat) → HavePickedStrays s seat seat
strays-none s seat = record { strays = []; lines = lines-none s seat }

-- a pick by the seat's CPU, whose number was that of the seat at first
own-pick : {s : Setup} {answer : Answer} {between after : Seat} (before : Seat) → between.cpu ≡ before.cpu → HasDone s (deed.Pick between.cpu) answer between after
    → HasDone s (deed.Pick before.cpu) answer between after
own-pick {s = s} {answer = answer} {between = between} {after = after} before cpu done = subst (λ (c : ℕ). HasDone s (deed.Pick c) answer between after) cpu done

pub stray-ended : {s : Setup} {before between picked after : Seat} {task : ℕ} {answer ended : Answer} → HavePickedStrays s before between → HasDone s (deed.Pick between.cpu) answer between picked
    → answer ≡ Picked task → HasDone s (deed.End picked.cpu task) ended picked after → HavePickedStrays s before after
stray-ended {s = s} {before = before} {between = between} {picked = picked} {after = after} {task = task} {ended = ended} h pick is end =
    let e : Ending = record { task = task; answer = ended } in
    let own : HasDone s (deed.Pick before.cpu) (Picked task) between picked = subst (λ (a : Answer). HasDone s (deed.Pick before.cpu) a between picked) is (own-pick before h.lines.cpu pick) in
    let once = lines-more (deed.Pick before.cpu) (Picked task) h.lines own in
    let twice = lines-more (deed.End before.cpu task) ended once (subst (λ (c : ℕ). HasDone s (deed.End c task) ended picked after) once.cpu end) in
    let all : List Line = stray_lines before.cpu h.strays in record {
      strays = h.strays ++ e ∷ [];
      lines = subst (λ (l : List Line). HasLines s l before after)
          (append_assoc all (record { deed = deed.Pick before.cpu; answer = Picked task } ∷ []) (ending_line before.cpu e ∷ []) ∙ strays-more before.cpu h.strays e) twice;
    }

pub picked : {s : Setup} {answer wanted : Answer} {before between after last : Seat} → HavePickedStrays s before between → HasDone s (deed.Pick between.cpu) answer between after
    → answer ≡ wanted → last ≡ after → HasPicked s wanted before last
picked {s = s} {wanted = wanted} {before = before} {between = between} {after = after} h done is same = record {
  strays = h.strays;
  between = between;
  lines = h.lines;
  pick = subst (λ (l : Seat). HasDone s (deed.Pick before.cpu) wanted between l) (sym same)
      (subst (λ (a : Answer). HasDone s (deed.Pick before.cpu) a between after) is (own-pick before h.lines.cpu done));
}

-- the answer of the last line of a history is that of its deed on some machine
pub record IsAnswered (homes : List ℕ) (l : Line) : Type 0 where
  pub machine : Machine
  pub answer : l.answer ≡ (whole homes l.deed machine).0

first-of : (l : Line) (d : Deed) (a : Answer) (rest rest_after : List Line) → l ∷ rest ≡ record { deed = d; answer = a } ∷ rest_after → (l.answer ≡ a) × (rest ≡ rest_after)
first-of l d a rest rest_after e =
    let same : l ≡ record { deed = d; answer = a } = cc in
    let others : rest ≡ rest_after = cc in
    (ap (λ (k : Line). k.answer) same, others)

last-answered : (homes : List ℕ) (m : Machine) (lines : List Line) (l : Line) → lines ++ l ∷ [] ≡ lines_of homes m (deeds_of (lines ++ l ∷ [])) → IsAnswered homes l
last-answered homes m [] l is = record { machine = m; answer = (first-of l _ _ _ _ is).0 }
last-answered homes m (x ∷ lines) l is = last-answered homes (whole homes x.deed m).1 lines l (first-of x _ _ _ _ is).1

done-answered : {s : Setup} (d : Deed) (a : Answer) (before after : Seat) → HasDone s d a before after → IsAnswered (homes_of s) (record { deed = d; answer = a })
done-answered {s = s} d a before after done =
    let l : Line = record { deed = d; answer = a } in
    let seen : after.seen ≡ (before.seen ++ done.others) ++ l ∷ [] = done.seen ∙ sym (append_assoc before.seen done.others (l ∷ [])) in
    last-answered (homes_of s) (start s) (before.seen ++ done.others) l
    (subst (λ (lines : List Line). lines ≡ lines_of (homes_of s) (start s) (deeds_of lines)) seen done.has_seen.one_thread.history)

pick-answers : (o : Option ℕ) → ((task : ℕ) → answer_of_pick o ≢ Picked task) → answer_of_pick o ≡ Idle
pick-answers (Some task) other = absurd (other task refl)
pick-answers None other = refl

-- what isn't a pick of a task is one of nobody
pub idle : {s : Setup} {answer : Answer} {before after : Seat} (cpu : ℕ) → HasDone s (deed.Pick cpu) answer before after → ((task : ℕ) → answer ≢ Picked task) → answer ≡ Idle
idle {before = before} {after = after} cpu done other =
    let last = done-answered (deed.Pick cpu) _ before after done in
    last.answer ∙ pick-answers _ (λ task is. other task (last.answer ∙ is))

awake-else : (b : Bool) → answer_of_begin b ≢ Begun → answer_of_begin b ≡ Awake
awake-else true other = absurd (other refl)
awake-else false other = refl

-- a begin that isn't done finds the number awake
pub awake : {s : Setup} {answer : Answer} {before after : Seat} (cpu task : ℕ) (nice : ℤ) (slice : ℕ) → HasDone s (deed.Begin cpu task nice slice) answer before after → answer ≢ Begun
    → HasDone s (deed.Begin cpu task nice slice) Awake before after
awake {s = s} {answer = answer} {before = before} {after = after} cpu task nice slice done other =
    let last = done-answered (deed.Begin cpu task nice slice) answer before after done in
    let is : answer ≡ Awake = last.answer ∙ awake-else _ (λ begun. other (last.answer ∙ begun)) in
    subst (λ (a : Answer). HasDone s (deed.Begin cpu task nice slice) a before after) is done

-- none of the numbers that woke was ended
pub ended-none : (s : Setup) (first : ℕ) (wakes : List DrainedWake) (seat : Seat) → HasEndedWoken s first wakes false seat seat
ended-none s first wakes seat = record { endings = []; lines = lines-none s seat; woken = All-nil (λ (e : Ending). HasWoken first wakes e.task); ended_is = refl }

some-ended : (es : List Ending) (e : Ending) → true ≡ is_some_ended (es ++ e ∷ [])
some-ended [] e = refl
some-ended (x ∷ es) e = refl

-- and one more
pub ended-more : {s : Setup} {first : ℕ} {wakes : List DrainedWake} {ended : Bool} {before between after : Seat} {task : ℕ} {answer : Answer}
    → HasEndedWoken s first wakes ended before between → HasDone s (deed.End between.cpu task) answer between after → HasWoken first wakes task
    → HasEndedWoken s first wakes true before after
ended-more {s = s} {first = first} {wakes = wakes} {before = before} {between = between} {after = after} {task = task} {answer = answer} h end woken =
    let e : Ending = record { task = task; answer = answer } in
    let own = subst (λ (c : ℕ). HasDone s (deed.End c task) answer between after) h.lines.cpu end in record {
      endings = h.endings ++ e ∷ [];
      lines = subst (λ (l : List Line). HasLines s l before after) (sym (map-append (ending_line before.cpu) h.endings (e ∷ [])))
          (lines-more (deed.End before.cpu task) answer h.lines own);
      woken = All-push (λ (e : Ending). HasWoken first wakes e.task) h.endings e h.woken woken;
      ended_is = some-ended h.endings e;
    }

-- one number more was ended, or none
pub ended-now : {s : Setup} {first : ℕ} {wakes : List DrainedWake} {ended now : Bool} {before between after last : Seat} {task : ℕ} {answer : Answer}
    → HasEndedWoken s first wakes ended before between → HasDone s (deed.End between.cpu task) answer between after → HasWoken first wakes task → last ≡ after → now ≡ true
    → HasEndedWoken s first wakes now before last
ended-now {s = s} {first = first} {wakes = wakes} {now = now} {before = before} {after = after} h end woken same is =
    subst (λ (l : Seat). HasEndedWoken s first wakes now before l) (sym same) (subst (λ (b : Bool). HasEndedWoken s first wakes b before after) (sym is) (ended-more h end woken))

pub ended-still : {s : Setup} {first : ℕ} {wakes : List DrainedWake} {ended now : Bool} {before between last : Seat}
    → HasEndedWoken s first wakes ended before between → last ≡ between → now ≡ ended → HasEndedWoken s first wakes now before last
ended-still {s = s} {first = first} {wakes = wakes} {ended = ended} {now = now} {before = before} {between = between} {last = last} h same is =
    subst (λ (l : Seat). HasEndedWoken s first wakes now before l) (sym same) (subst (λ (b : Bool). HasEndedWoken s first wakes b before between) (sym is) h)
