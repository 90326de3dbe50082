-- What is known of the items of a ring by its mark.
use Rattle.std.proofs.Common.{◌≡◌, ℕ, ◌+◌, List, [], ◌∷◌, ◌++◌, length, append_assoc, refl, sym, ap, subst, ◌∙◌, arith}
use Rattle.std.proofs.lemmas.List.{append-nil, length-map, map-append}
use Rattle.std.specs.Prelude.{slice_get, IfNone, IfSome, OnErr, OnOk, Option, Some, None, Result, Ok, Err}
use Rattle.eevdf_fleet.specs.declared.rings.request.{Lead.Lead, Request.Request}
use Rattle.eevdf_fleet.specs.Requests.{Allows, Follows, Grows, IsMark, IsMarked, Source, source_in, tasks_after, tasks_of}

-- the items of a ring after requests more
pub grows-marked : {source : Source} {home : ℕ} {before after : List Request} {tasks : List ℕ} → IsMarked source home before → Grows before after tasks → IsMarked source home after
grows-marked m g = record {
  mark = m.mark;
  rest = m.rest ++ g.more;
  are = g.grown ∙ ap (λ (l : List Request). l ++ g.more) m.are;
  leads = m.leads;
}

pub same-marked : {source : Source} {home : ℕ} {before after : List Request} → IsMarked source home before → after ≡ before → IsMarked source home after
same-marked {source} {home} m same = subst (λ (l : List Request). IsMarked source home l) (sym same) m

pub grows-tasks : {source : Source} {home : ℕ} {before after : List Request} {tasks : List ℕ} → IsMarked source home before → Grows before after tasks
    → tasks_after after ≡ tasks_after before ++ tasks
grows-tasks {tasks = tasks} m g =
    ap tasks_after (g.grown ∙ ap (λ (l : List Request). l ++ g.more) m.are)
    ∙ map-append (λ (r : Request). r.task) m.rest g.more
    ∙ ap (λ (l : List ℕ). tasks_of m.rest ++ l) g.are_for
    ∙ ap (λ (l : List ℕ). l ++ tasks) (ap tasks_after (sym m.are))

-- the same, where the items may be as they were
pub popped-marked : {source : Source} {home : ℕ} {before after : List Request} (r : Option Request) → IfSome r (λ x. Grows before after (x.task ∷ [])) → IfNone r (after ≡ before)
    → IsMarked source home before → IsMarked source home after
popped-marked None some none m = same-marked m none
popped-marked (Some x) some none m = grows-marked m some

pub pushed-marked : {source : Source} {home : ℕ} {before after : List Request} {T E : Type 0} (task : ℕ) (r : Result T E) → OnOk r (Grows before after (task ∷ []))
    → OnErr r (after ≡ before) → IsMarked source home before → IsMarked source home after
pushed-marked task (Ok x) accepted refused m = grows-marked m accepted
pushed-marked task (Err e) accepted refused m = same-marked m refused

-- a ring of which only the mark is known
pub only-mark : {source : Source} {home : ℕ} (mark : Request) (items : List Request) → items ≡ mark ∷ [] → IsMark source home mark → IsMarked source home items
only-mark mark items are leads = record { mark = mark; rest = []; are = are; leads = leads }

pub marked-length : {source : Source} {home : ℕ} {items : List Request} → IsMarked source home items → length items ≡ length (tasks_after items) + 1
marked-length {items = items} m =
    omega (arith, ap length m.are, ap (λ (l : List Request). length (tasks_after l)) m.are, length-map m.rest (λ (r : Request). r.task))

-- a request may follow exactly if it follows from the ring's source to its home
pub may-follow : {source : Source} {home : ℕ} {items : List Request} (request : Request) → IsMarked source home items → Follows source home (tasks_after items) request → Allows items request
may-follow {source} {home} request m h =
    subst (λ (l : List Request). Allows l request) (sym m.are)
    (subst (λ (o : Option Lead). IfSome o (λ (lead : Lead). Follows (source_in lead) lead.home (tasks_of m.rest) request)) (sym m.leads.says)
    (subst (λ (s : Source). Follows s m.leads.lead.home (tasks_of m.rest) request) (sym m.leads.source_is)
    (subst (λ (k : ℕ). Follows source k (tasks_of m.rest) request) (sym m.leads.home_is)
    (subst (λ (l : List Request). Follows source home (tasks_after l) request) m.are h))))

pub followed : {source : Source} {home : ℕ} {items : List Request} (request : Request) → IsMarked source home items → Allows items request → Follows source home (tasks_after items) request
followed {source} {home} request m h =
    subst (λ (l : List Request). Follows source home (tasks_after l) request) (sym m.are)
    (subst (λ (k : ℕ). Follows source k (tasks_of m.rest) request) m.leads.home_is
    (subst (λ (s : Source). Follows s m.leads.lead.home (tasks_of m.rest) request) m.leads.source_is
    (subst (λ (o : Option Lead). IfSome o (λ (lead : Lead). Follows (source_in lead) lead.home (tasks_of m.rest) request)) m.leads.says
    (subst (λ (l : List Request). Allows l request) m.are h))))

-- the request after those that were popped, among the tasks without the mark
pub next-task : {source : Source} {home : ℕ} {pushed popped : List Request} → IsMarked source home pushed → IsMarked source home popped
    → slice_get (tasks_of pushed) (length popped) ≡ slice_get (tasks_after pushed) (length (tasks_after popped))
next-task {pushed = pushed} m n =
    ap (λ (l : List Request). slice_get (tasks_of pushed) (length l)) n.are
    ∙ ap (λ (l : List Request). slice_get (tasks_of l) (length (n.mark ∷ n.rest))) m.are
    ∙ ap (λ (k : ℕ). slice_get (tasks_of m.rest) k) (sym (length-map n.rest (λ (r : Request). r.task)))
    ∙ ap (λ (l : List Request). slice_get (tasks_after l) (length (tasks_of n.rest))) (sym m.are)
    ∙ ap (λ (l : List Request). slice_get (tasks_after pushed) (length (tasks_after l))) (sym n.are)

-- how requests are popped
pub first-popped : (got got' known known' : List Request) (x mark : Request) → got ≡ [] → got ++ known ≡ mark ∷ [] → known ≡ x ∷ known' → got' ≡ got ++ x ∷ [] → got' ≡ mark ∷ []
first-popped got got' known known' x mark none all_is next popped =
    let first : x ∷ known' ≡ mark ∷ [] = sym next ∙ ap (λ (l : List Request). l ++ known) (sym none) ∙ all_is in
    let same : x ≡ mark = cc in
    popped ∙ ap (λ (l : List Request). l ++ x ∷ []) none ∙ ap (λ (r : Request). r ∷ []) same

at_end : (before rest : List Request) (x : Request) → slice_get (tasks_of (before ++ (x ∷ rest))) (length before) ≡ Some x.task
at_end [] rest x = refl
at_end (b ∷ before) rest x = at_end before rest x

pub popped-oldest : (before rest all : List Request) (x : Request) → all ≡ before ++ (x ∷ rest) → Some x.task ≡ slice_get (tasks_of all) (length before)
popped-oldest before rest all x is = sym (ap (λ (l : List Request). slice_get (tasks_of l) (length before)) is ∙ at_end before rest x)

pub moved-on : (got got' known known' : List Request) (x : Request) → got' ≡ got ++ x ∷ [] → known ≡ x ∷ known' → got' ++ known' ≡ got ++ known
moved-on got got' known known' x more less =
    ap (λ (l : List Request). l ++ known') more ∙ append_assoc got (x ∷ []) known' ∙ ap (λ (l : List Request). got ++ l) (sym less)

pub all-known : (got known : List Request) → length known ≡ 0 → got ≡ got ++ known
all-known got [] none = sym (append-nil got)
all-known got (x ∷ known) none = absurd (omega arith)

pub grows-none : (items : List Request) (tasks : List ℕ) → tasks ≡ [] → Grows items items tasks
grows-none items tasks none = record { more = []; are_for = sym none; grown = sym (append-nil items) }

pub grows-more : {before after after' : List Request} {tasks tasks' : List ℕ} (x : Request) → Grows before after tasks → after' ≡ after ++ x ∷ [] → tasks' ≡ tasks ++ x.task ∷ []
    → Grows before after' tasks'
grows-more {before} x g popped pushed = record {
  more = g.more ++ x ∷ [];
  are_for = map-append (λ (r : Request). r.task) g.more (x ∷ []) ∙ ap (λ (l : List ℕ). l ++ x.task ∷ []) g.are_for ∙ sym pushed;
  grown = popped ∙ ap (λ (l : List Request). l ++ x ∷ []) g.grown ∙ append_assoc before g.more (x ∷ []);
}
