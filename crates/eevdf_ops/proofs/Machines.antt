-- A list of queues and the machine that it is.
use Rattle.std.proofs.Common.{Bool, true, ◌++◌, drop, drop-cons, add-one, append_assoc, ◌≡◌, ℕ, zero, suc, ◌+◌, ◌<◌, ◌≤◌, List, [], ◌∷◌, length, get_or, set, replicate, refl, sym, ap, ◌∙◌, arith}
use Rattle.std.proofs.lemmas.List.{append-nil, drop_all}
use Rattle.std.proofs.{Math.ListN.length-set, Math.ListN.length-replicate, lemmas.Bool.and_parts}
use Rattle.std.specs.List.{list_all}
use Rattle.eevdf_ops.specs.{declared.deeds.Deed.Deed, declared.deeds.Answer.Answer, declared.deeds.Line.Line}
use Rattle.eevdf_ops.specs.{declared.task_spec.TaskSpec.TaskSpec, Outcome.machine_of}
use Rattle.eevdf_ops.specs.Whole.{whole, lines_of, machine_after}
use Rattle.eevdf_queue.specs.State.{State, View, Contents, empty_state}
use Rattle.eevdf_ops.specs.Machine.{Machine, queue_at, begin, beginner, joined, begin_at_homes}

get_machine : (queues : List View) (k : ℕ) (d : View) → k < length queues → get_or (machine_of queues) k empty_state ≡ (get_or queues k d).state
get_machine [] k d h = absurd (omega arith)
get_machine (x ∷ queues) zero d h = refl
get_machine (x ∷ queues) (suc k) d h = get_machine queues k d (omega arith)

-- the queue that is read stands in the machine
pub queue_read : (queues : List View) (cpu k : ℕ) (d : View) → k ≡ cpu → k < length queues → queue_at (machine_of queues) cpu ≡ (get_or queues k d).state
queue_read queues cpu k d at h = ap (λ (i : ℕ). get_or (machine_of queues) i empty_state) (sym at) ∙ get_machine queues k d h

-- and what was read is what stands there
pub queue_state : (queues : List View) (cpu k : ℕ) (d : View) → d ≡ get_or queues k d → k ≡ cpu → k < length queues → d.state ≡ queue_at (machine_of queues) cpu
queue_state queues cpu k d is at h = ap (λ (v : View). v.state) is ∙ sym (queue_read queues cpu k d at h)

set_machine : (queues : List View) (k : ℕ) (q : View) → machine_of (set queues k q) ≡ set (machine_of queues) k q.state
set_machine [] k q = refl
set_machine (x ∷ queues) zero q = refl
set_machine (x ∷ queues) (suc k) q = ap (λ (m : Machine). x.state ∷ m) (set_machine queues k q)

-- the machine with a queue written
pub machine_with : (queues : List View) (cpu k : ℕ) (q : View) (s : State) → k ≡ cpu → q.state ≡ s → machine_of (set queues k q) ≡ set (machine_of queues) cpu s
machine_with queues cpu k q s at e = set_machine queues k q ∙ ap (λ (i : ℕ). set (machine_of queues) i q.state) at ∙ ap (λ (t : State). set (machine_of queues) cpu t) e

-- what comes of a queue that is read comes of the one that stands in the machine
pub of_queue : {X : Type 0} (queues : List View) (cpu k : ℕ) (read : View) (f : State → X) (x : X) → k ≡ cpu → cpu < length queues
    → x ≡ f (get_or queues k read).state → x ≡ f (queue_at (machine_of queues) cpu)
of_queue queues cpu k read f x at within e = e ∙ ap f (sym (queue_read queues cpu k read at (omega (arith, at, within))))

-- a queue is read, and what comes of it is written back
pub queue_written : (queues : List View) (cpu k : ℕ) (read written : View) (f : State → State) → k ≡ cpu → cpu < length queues
    → written.state ≡ f (get_or queues k read).state → machine_of (set queues k written) ≡ set (machine_of queues) cpu (f (queue_at (machine_of queues) cpu))
queue_written queues cpu k read written f at within e =
    machine_with queues cpu k written (f (queue_at (machine_of queues) cpu)) at (of_queue queues cpu k read f written.state at within e)

pub length-machine_of : (queues : List View) → length (machine_of queues) ≡ length queues
length-machine_of [] = refl
length-machine_of (x ∷ queues) = ap suc (length-machine_of queues)

pub length-begin_at_homes : (task : ℕ) (ts : List TaskSpec) (m : Machine) → length (begin_at_homes task ts m) ≡ length m
length-begin_at_homes task [] m = refl
length-begin_at_homes task (t ∷ ts) m = length-set (begin_at_homes (task + 1) ts m) t.home _ ∙ length-begin_at_homes (task + 1) ts m

pub length-begun : (cpus task : ℕ) (ts : List TaskSpec) → length (begin_at_homes task ts (replicate cpus empty_state)) ≡ cpus
length-begun cpus task ts = length-begin_at_homes task ts (replicate cpus empty_state) ∙ length-replicate cpus empty_state

-- a task that joins by its parcel begins
pub joins_as_it_begins : (task : ℕ) (t : TaskSpec) (p : Contents) (q : State) → p ≡ beginner task t → joined t.asleep p q ≡ begin task t q
joins_as_it_begins task t p q e = ap (λ (r : Contents). joined t.asleep r q) e

-- a machine that has this start has so many queues
pub start_has : (queues : List View) (task n : ℕ) (ts : List TaskSpec) → machine_of queues ≡ begin_at_homes task ts (replicate n empty_state) → length queues ≡ n
start_has queues task n ts e =
    sym (length-machine_of queues) ∙ ap (λ (m : Machine). length m) e ∙ length-begun n task ts

drop_step : (ds : List Deed) (i : ℕ) (d : Deed) → i < length ds → d ≡ get_or ds i d → drop i ds ≡ d ∷ drop (i + 1) ds
drop_step ds i d h e =
    let apart : drop i ds ≡ get_or ds i d ∷ drop (i + 1) ds = rw (add-one, drop-cons ds i d) in
    apart ∙ ap (λ (x : Deed). x ∷ drop (i + 1) ds) (sym e)

-- one deed more of a list
pub lines_step : (homes homes' : List ℕ) (m m' : Machine) (ds : List Deed) (i : ℕ) (d : Deed) (answer : Answer) (lines lines' all : List Line) → i < length ds → d ≡ get_or ds i d → homes' ≡ homes → m' ≡ (whole homes d m).1
    → answer ≡ (whole homes d m).0 → lines' ≡ lines ++ record { deed = d; answer = answer } ∷ []
    → lines ++ lines_of homes m (drop i ds) ≡ all → lines' ++ lines_of homes' m' (drop (i + 1) ds) ≡ all
lines_step homes homes' m m' ds i d answer lines lines' all h at eh em ea el inv =
    let line : Answer → Line = λ a. record { deed = d; answer = a } in
    ap (λ (ls : List Line). ls ++ lines_of homes' m' (drop (i + 1) ds)) el
    ∙ ap (λ (hs : List ℕ). (lines ++ line answer ∷ []) ++ lines_of hs m' (drop (i + 1) ds)) eh
    ∙ ap (λ (n : Machine). (lines ++ line answer ∷ []) ++ lines_of homes n (drop (i + 1) ds)) em
    ∙ append_assoc lines (line answer ∷ []) (lines_of homes (whole homes d m).1 (drop (i + 1) ds))
    ∙ ap (λ (a : Answer). lines ++ (line a ∷ lines_of homes (whole homes d m).1 (drop (i + 1) ds))) ea
    ∙ ap (λ (es : List Deed). lines ++ lines_of homes m es) (sym (drop_step ds i d h at)) ∙ inv

-- no deed more
pub lines_end : (homes : List ℕ) (m : Machine) (ds : List Deed) (i : ℕ) (lines all : List Line) → length ds ≤ i → lines ++ lines_of homes m (drop i ds) ≡ all → lines ≡ all
lines_end homes m ds i lines all h e = sym (append-nil lines) ∙ ap (λ (es : List Deed). lines ++ lines_of homes m es) (sym (drop_all i ds h)) ∙ e

pub machine_end : (homes : List ℕ) (m last : Machine) (ds : List Deed) (i : ℕ) → length ds ≤ i → machine_after homes m (drop i ds) ≡ last → m ≡ last
machine_end homes m last ds i h e = ap (λ (es : List Deed). machine_after homes m es) (sym (drop_all i ds h)) ∙ e

pub machine_step : (homes homes' : List ℕ) (m m' last : Machine) (ds : List Deed) (i : ℕ) (d : Deed) → i < length ds → d ≡ get_or ds i d → homes' ≡ homes → m' ≡ (whole homes d m).1
    → machine_after homes m (drop i ds) ≡ last → machine_after homes' m' (drop (i + 1) ds) ≡ last
machine_step homes homes' m m' last ds i d h at eh em inv =
    ap (λ (hs : List ℕ). machine_after hs m' (drop (i + 1) ds)) eh
    ∙ ap (λ (n : Machine). machine_after homes n (drop (i + 1) ds)) em
    ∙ ap (λ (es : List Deed). machine_after homes m es) (sym (drop_step ds i d h at)) ∙ inv

-- the deed that comes next is allowed, and so are those after it
pub allowed_step : (p : Deed → Bool) (ds : List Deed) (i : ℕ) (d : Deed) → i < length ds → d ≡ get_or ds i d → list_all p (drop i ds) ≡ true → (p d ≡ true) × (list_all p (drop (i + 1) ds) ≡ true)
allowed_step p ds i d h at e = and_parts (p d) (list_all p (drop (i + 1) ds)) (ap (list_all p) (sym (drop_step ds i d h at)) ∙ e)
