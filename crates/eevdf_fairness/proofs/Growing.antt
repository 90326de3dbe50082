-- What ticks of the task that runs do to its entry, and to the queue.
use Rattle.std.proofs.Common.{◌≡◌, ℕ, ◌+◌, ◌*◌, ◌≤◌, Bool, true, false, cond, [], ◌∷◌, Option, Some, refl, sym, ap, ◌∙◌, subst, arith}
use Rattle.std.specs.Prelude.{ℤ, pos, ◌+ℤ◌, ◌≤ℤ◌}
use Rattle.std.specs.{Ordering.nat_cmp, Ordering.eq_by_cmp, Cmp.nat_cmp_total}
use Rattle.std.specs.FinMap.{get, insert, get-insert, same_map, nat_cmp-IsAntisymmetric}
use Rattle.std.proofs.{lemmas.Int.ints}
use Rattle.eevdf_weight.specs.{Weight.weight_of, Charge.charge_of}
use Rattle.eevdf_queue.specs.{declared.entry.Entry.Entry, declared.answers.TickAnswer.TickAnswer, State.State, Sums.Tasks}
use Rattle.eevdf_queue.specs.declared.answers.TickAnswer.TheVariants.{Charged, Range}
use Rattle.eevdf_queue.specs.{Moves.fresh_entry, Moves.request_of, Moves.is_entry_in_range}
use Rattle.eevdf_queue.specs.Tick.{aged, is_used_up, charged, tick, tick_to, tick_entry, tick_running}
use Rattle.eevdf_queue.proofs.Foremost.{equal_number, itself}
use Rattle.eevdf_fairness.specs.Turns.{Turn, turn_length, after_ticks}
use Rattle.eevdf_fairness.proofs.Inequalities.{le_then}

-- the entry after ticks of so many nanoseconds in all
pub record Grown (e : Entry) (ns : ℕ) (f : Entry) : Type 0 where
  pub same_nice : f.nice ≡ e.nice
  pub same_slice : f.slice ≡ e.slice
  pub by : ℕ
  pub grown : f.v ≡ e.v +ℤ pos by
  -- each charge is rounded down
  pub little : by * weight_of e.nice ≤ 1024 * ns
  pub later : e.d ≤ℤ f.d
  -- where it is due by a time it hasn't passed that, if that was so before
  pub within : (time : ℤ) → (e.d ≤ℤ time → e.v ≤ℤ time) → f.d ≤ℤ time → f.v ≤ℤ time
  pub short : e.d ≤ℤ (e.v +ℤ pos (request_of e.nice e.slice)) → f.d ≤ℤ (f.v +ℤ pos (request_of f.nice f.slice))

pub unchanged : (e : Entry) (ns : ℕ) → Grown e ns e
unchanged e ns = record {
  same_nice = refl;
  same_slice = refl;
  by = 0;
  grown = omega (arith, ints);
  little = omega arith;
  later = omega (arith, ints);
  within = λ time h due. h due;
  short = λ h. h;
}

pub rounded_down : (ns w : ℕ) → charge_of ns w * w ≤ 1024 * ns
unfolding charge_of
rounded_down ns w = omega arith

-- the entry whose runtime has grown by the charge of this time, with another deadline
charged_to : (e : Entry) (ns : ℕ) (d : ℤ) → e.d ≤ℤ d → ((time : ℤ) → (e.d ≤ℤ time → e.v ≤ℤ time) → d ≤ℤ time → aged e ns ≤ℤ time)
    → (e.d ≤ℤ (e.v +ℤ pos (request_of e.nice e.slice)) → d ≤ℤ (aged e ns +ℤ pos (request_of e.nice e.slice))) → Grown e ns (record e { v = aged e ns; d = d })
charged_to e ns d later within short = record {
  same_nice = refl;
  same_slice = refl;
  by = charge_of ns (weight_of e.nice);
  grown = refl;
  little = rounded_down ns (weight_of e.nice);
  later = later;
  within = within;
  short = short;
}

charged_by : (e : Entry) (ns : ℕ) (b : Bool) → is_used_up e ns ≡ b → Grown e ns (cond b (fresh_entry (aged e ns) e.nice e.slice) (record e { v = aged e ns }))
charged_by e ns true is =
    charged_to e ns (aged e ns +ℤ pos (request_of e.nice e.slice)) (omega (arith, ints, is)) (λ time h due. omega (arith, ints, due)) (λ h. omega (arith, ints))
charged_by e ns false is = charged_to e ns e.d (omega (arith, ints)) (λ time h due. omega (arith, ints, is, due)) (λ h. omega (arith, ints, h))

pub charged_grown : (e : Entry) (ns : ℕ) → Grown e ns (charged e ns)
charged_grown e ns = charged_by e ns (is_used_up e ns) refl

pub further : (a b c : ℤ) (i j : ℕ) → b ≡ a +ℤ pos i → c ≡ b +ℤ pos j → c ≡ a +ℤ pos (i + j)
further a b c i j h k = omega (arith, ints, h, k)

pub little_more : (i j w m n : ℕ) → i * w ≤ 1024 * m → j * w ≤ 1024 * n → (i + j) * w ≤ 1024 * (m + n)
little_more i j w m n h k = omega (arith, h, k)

pub one_then : (e f g : Entry) (m n : ℕ) → Grown e m f → Grown f n g → Grown e (m + n) g
one_then e f g m n a b = record {
  same_nice = b.same_nice ∙ a.same_nice;
  same_slice = b.same_slice ∙ a.same_slice;
  by = a.by + b.by;
  grown = further e.v f.v g.v a.by b.by a.grown b.grown;
  little = little_more a.by b.by (weight_of e.nice) m n a.little (subst (λ (z : ℤ). b.by * weight_of z ≤ 1024 * n) a.same_nice b.little);
  later = le_then e.d f.d g.d a.later b.later;
  within = λ time h. b.within time (a.within time h);
  short = λ h. b.short (a.short h);
}

-- ---- entries in maps
pub not_itself : (t task : ℕ) (b : Bool) → (t ≡ task → ⊥) → eq_by_cmp nat_cmp t task ≡ b → b ≡ false
not_itself t task true other is = absurd (other (equal_number t task is))
not_itself t task false other is = refl

-- the entry that is there, put there again
pub insert_same : (tasks : Tasks) (t : ℕ) (e : Entry) → get tasks t ≡ Some e → insert tasks t e ≡ tasks
insert_same tasks t e here =
    same_map nat_cmp_total nat_cmp-IsAntisymmetric _ _ (λ x. get-insert nat_cmp_total tasks t e x ∙ by x (eq_by_cmp nat_cmp x t) refl)
  where
    by : (x : ℕ) (b : Bool) → eq_by_cmp nat_cmp x t ≡ b → cond b (Some e) (get tasks x) ≡ get tasks x
    by x true k = sym here ∙ ap (get tasks) (sym (equal_number x t k))
    by x false k = refl

pub hidden : {X : Type 0} (b : Bool) (x y z : X) → cond b x (cond b y z) ≡ cond b x z
hidden true x y z = refl
hidden false x y z = refl

pub insert_twice : (tasks : Tasks) (t : ℕ) (e f : Entry) → insert (insert tasks t e) t f ≡ insert tasks t f
insert_twice tasks t e f =
    same_map nat_cmp_total nat_cmp-IsAntisymmetric _ _ (λ x.
    get-insert nat_cmp_total (insert tasks t e) t f x
    ∙ ap (cond (eq_by_cmp nat_cmp x t) (Some f)) (get-insert nat_cmp_total tasks t e x)
    ∙ hidden (eq_by_cmp nat_cmp x t) (Some f) (Some e) (get tasks x)
    ∙ sym (get-insert nat_cmp_total tasks t f x))

pub get_here : (tasks : Tasks) (t : ℕ) (e : Entry) → get (insert tasks t e) t ≡ Some e
get_here tasks t e = get-insert nat_cmp_total tasks t e t ∙ ap (λ b. cond b (Some e) (get tasks t)) (itself t)

found_by : (P : ℕ → Entry → Type 0) (u t : ℕ) (b : Bool) (e f : Entry) (o : Option Entry) → eq_by_cmp nat_cmp u t ≡ b → P t e → (o ≡ Some f → P u f)
    → cond b (Some e) o ≡ Some f → P u f
found_by P u t true e f o is new old found =
    let entry : e ≡ f = cc in
    subst (λ (x : Entry). P u x) entry (subst (λ (n : ℕ). P n e) (sym (equal_number u t is)) new)
found_by P u t false e f o is new old found = old found

-- what holds of the new entry and of each task before holds of each task
pub found_at_after : (P : ℕ → Entry → Type 0) (tasks : Tasks) (t : ℕ) (e : Entry) → P t e → ((u : ℕ) (f : Entry) → get tasks u ≡ Some f → P u f)
    → (u : ℕ) (f : Entry) → get (insert tasks t e) u ≡ Some f → P u f
found_at_after P tasks t e new old u f found =
    found_by P u t (eq_by_cmp nat_cmp u t) e f (get tasks u) refl new (old u f) (sym (get-insert nat_cmp_total tasks t e u) ∙ found)

pub found_after : (P : Entry → Type 0) (tasks : Tasks) (t : ℕ) (e : Entry) → P e → ((u : ℕ) (f : Entry) → get tasks u ≡ Some f → P f)
    → (u : ℕ) (f : Entry) → get (insert tasks t e) u ≡ Some f → P f
found_after P = found_at_after (λ u f. P f)

-- ---- the queue after ticks: the task still runs, and its entry has grown
pub record HasRun (q : State) (t : ℕ) (e : Entry) (ns : ℕ) (r : State) : Type 0 where
  pub entry : Entry
  pub grown : Grown e ns entry
  pub runs : r.running ≡ Some t
  pub runnable : r.runnable ≡ insert q.runnable t entry

still : (q : State) (t : ℕ) (e : Entry) (ns : ℕ) → q.running ≡ Some t → get q.runnable t ≡ Some e → HasRun q t e ns q
still q t e ns runs here = record { entry = e; grown = unchanged e ns; runs = runs; runnable = sym (insert_same q.runnable t e here) }

ticked_by : (q : State) (t : ℕ) (e f : Entry) (ns : ℕ) (resched b : Bool) → q.running ≡ Some t → get q.runnable t ≡ Some e → Grown e ns f
    → HasRun q t e ns ((cond {A = TickAnswer × State} b (Charged t resched, record q { runnable = insert q.runnable t f }) (Range, q)).1)
ticked_by q t e f ns resched true runs here g = record { entry = f; grown = g; runs = runs; runnable = refl }
ticked_by q t e f ns resched false runs here g = still q t e ns runs here

one_tick : (q : State) (t : ℕ) (e : Entry) (ns : ℕ) → q.running ≡ Some t → get q.runnable t ≡ Some e → HasRun q t e ns ((tick q ns).1)
one_tick q t e ns runs here =
    let is : tick q ns ≡ tick_to q t (is_used_up e ns) (charged e ns) =
    ap (λ (o : Option ℕ). tick_running q o ns) runs ∙ ap (λ (o : Option Entry). tick_entry q t o ns) here in
    subst (λ (z : TickAnswer × State). HasRun q t e ns (z.1)) (sym is)
    (ticked_by q t e (charged e ns) ns (is_used_up e ns) (is_entry_in_range (charged e ns)) runs here (charged_grown e ns))

pub has_run : (q : State) (t : ℕ) (e : Entry) (turn : Turn) → q.running ≡ Some t → get q.runnable t ≡ Some e → HasRun q t e (turn_length turn) (after_ticks q turn)
has_run q t e [] runs here = still q t e 0 runs here
has_run q t e (ns ∷ turn) runs here =
    let once : HasRun q t e ns ((tick q ns).1) = one_tick q t e ns runs here in
    let found : get ((tick q ns).1).runnable t ≡ Some once.entry = ap (λ (m : Tasks). get m t) once.runnable ∙ get_here q.runnable t once.entry in
    let rest : HasRun ((tick q ns).1) t once.entry (turn_length turn) (after_ticks ((tick q ns).1) turn) = has_run ((tick q ns).1) t once.entry turn once.runs found in
    record {
      entry = rest.entry;
      grown = one_then e once.entry rest.entry ns (turn_length turn) once.grown rest.grown;
      runs = rest.runs;
      runnable = rest.runnable ∙ ap (λ (m : Tasks). insert m t rest.entry) once.runnable ∙ insert_twice q.runnable t once.entry rest.entry;
    }
