-- The parts of a seat with a line more.
use Rattle.std.proofs.Common.{◌≡◌, ℕ, ◌+◌, ◌<◌, List, [], ◌∷◌, ◌++◌, length, ◌≤◌, ⊎_elim, refl, sym, ap, subst, ◌∙◌, arith}
use Rattle.std.specs.Prelude.{IfNone, slice_get, Option, Some, None, Result, Ok, Err, OnOk, OnErr}
use Rattle.std.proofs.{lemmas.Bool.cases_eq, lemmas.List.get_or-set_other, lemmas.List.length-set}
use Rattle.std.proofs.lemmas.List.FromFn.{length-map-range_with_len}
use Rattle.eevdf_ops.specs.{declared.deeds.Answer.Answer, declared.deeds.Line.Line}
use Rattle.eevdf_ops.specs.declared.deeds.Deed.TheVariants.{Wake}
use Rattle.eevdf_fleet.specs.Rings.{HasLooked, Posts, Takes, free_to, oldest, posted_to, taken_from, taken_more}
use Rattle.eevdf_ops.specs.{Programs.wakes_from, Setup.cpus_of}
use Rattle.eevdf_fleet.specs.Fleets as fleets
use Rattle.eevdf_fleet.specs.Rings as rings
use Rattle.eevdf_fleet.specs.{declared.wake_list.DrainedWake.DrainedWake, Drains.PartsTaken, Drains.line_of, Drains.oldest_own, TouchedQueues.IsNoWake}
use Rattle.eevdf_fleet.specs.Fleets.{AreParts, ArePartsOf, HasCommitted, HasLookedAt, HasPosted, HasWritten, IsNoLess, Kit, Parts, PartsLooked, Seat, SeatLog, free_at, logged, parts_of, seat_of, setup_of, takes_by, written}
use Rattle.eevdf_fleet.proofs.Takes.{same-takes, more-takes, taken-of}

-- a line that is no wake
pub parts-written : (cpus : ℕ) (log log' : SeatLog) (p : Posts) (t : Takes) (l : Line) → AreParts cpus log p t → IsNoWake l.deed → HasWritten log log' l → AreParts cpus log' p t
parts-written cpus log log' p t l h none is =
    subst (λ (x : SeatLog). AreParts cpus x p t) (sym is.is)
    (record { posts = h.posts; takes = h.takes ∙ sym (same-takes cpus log.cpu log.lines l none); within = h.within })

-- posts of which more is known
pub parts-looked : (cpus : ℕ) (log : SeatLog) (home : ℕ) (p p' : Posts) (t : Takes) → HasLooked home p p' → AreParts cpus log p t → AreParts cpus log p' t
parts-looked cpus log home p p' t looked h = record {
  posts = record {
    sender_is = ap (λ (x : Posts). x.sender) looked.posts ∙ h.posts.sender_is;
    to_all = ap (λ (x : Posts). length x.posted) looked.posts ∙ h.posts.to_all;
  };
  takes = h.takes;
  within = h.within;
}

-- they go on to belong to their kit
pub parts-of : (k : Kit) (log log' : SeatLog) (p p' : Posts) (t t' : Takes) (homes : List ℕ) → AreParts (cpus_of (setup_of k)) log' p' t' → ArePartsOf k log p t homes → ArePartsOf k log' p' t' homes
parts-of k log log' p p' t t' homes parts h = (parts, h.1, h.2, h.3, h.4, h.5)

-- nothing was taken
pub parts-untaken : (cpus : ℕ) (log : SeatLog) (home : ℕ) (p p' : Posts) (t t' : Takes) → HasLooked home p p' → t' ≡ t → AreParts cpus log p t → AreParts cpus log p' t'
parts-untaken cpus log home p p' t t' looked same h = subst (λ (x : Takes). AreParts cpus log p' x) (sym same) (parts-looked cpus log home p p' t looked h)

-- no less is known to be free
no-less : (home : ℕ) (p p' : Posts) → HasLooked home p p' → IsNoLess p.free p'.free
no-less home p p' looked k =
    ⊎_elim
    (λ same. subst (λ (n : ℕ). free_at p.free n ≤ free_at p'.free n) (sym same) looked.free)
    (λ away. let e : free_at p'.free k ≡ free_at p.free k = ap (λ (x : Posts). free_at x.free k) looked.posts ∙ get_or-set_other p.free home k (free_to p' home) 0 away in omega arith)
    (cases_eq k home)

-- what is seen of a seat is the same where more is known of its posts
pub seat-looked : (log : SeatLog) (home : ℕ) (p p' : Posts) (s : Parts) → HasLooked home p p' → parts_of log p ≡ s → PartsLooked s (parts_of log p')
seat-looked log home p p' s looked view = subst (λ (x : Parts). PartsLooked x (parts_of log p')) view (record {
  seat = ap (seat_of log) looked.posts;
  seen = refl;
  free = no-less home p p' looked;
})

-- and nothing but what is known of the ring to that home
pub seat-looked-at : (log : SeatLog) (at home : ℕ) (p p' : Posts) (s : Parts) → HasLooked at p p' → at ≡ home → parts_of log p ≡ s → HasLookedAt home s (parts_of log p')
seat-looked-at log at home p p' s looked at_is view =
    subst (λ (k : ℕ). HasLookedAt k s (parts_of log p')) at_is (subst (λ (x : Parts). HasLookedAt at x (parts_of log p')) view (record {
      seat = ap (seat_of log) looked.posts;
      seen = refl;
      others = ap (λ (x : Posts). x.free) looked.posts;
      free = looked.free;
    }))

-- a wake, whose request was taken
pub parts-taken : (cpus : ℕ) (log log' : SeatLog) (home : ℕ) (p p' : Posts) (t t' : Takes) (on task at sender : ℕ) (answer : Answer) → AreParts cpus log p t → at ≡ sender → sender < cpus
    → HasLooked home p p' → t' ≡ taken_more t at (task ∷ []) → HasWritten log log' (record { deed = Wake on task sender; answer = answer }) → AreParts cpus log' p' t'
parts-taken cpus log log' home p p' t t' on task at sender answer h at_is within looked taken is =
    subst (λ (x : SeatLog). AreParts cpus x p' t') (sym is.is)
    (record {
      posts = (parts-looked cpus log home p p' t looked h).posts;
      takes = taken ∙ ap (λ (q : ℕ). taken_more t q (task ∷ [])) at_is ∙ ap (λ (x : Takes). taken_more x sender (task ∷ [])) h.takes ∙ more-takes cpus log.cpu log.lines on task sender answer within;
      within = h.within;
    })

pub parts-width : (cpus : ℕ) (log : SeatLog) (p : Posts) (t : Takes) → AreParts cpus log p t → length t.taken ≡ cpus
parts-width cpus log p t h = ap (λ (x : Takes). length x.taken) h.takes ∙ length-map-range_with_len _ 0 cpus

-- the oldest request in the ring is the one that the lines don't tell of
parts-oldest : (cpus : ℕ) (log : SeatLog) (p : Posts) (t : Takes) → AreParts cpus log p t → oldest p t ≡ oldest_own (seat_of log p)
parts-oldest cpus log p t h =
    ap (λ (x : Takes). slice_get (posted_to p x.home) (length (taken_from x p.sender))) h.takes
    ∙ ap (λ (q : ℕ). slice_get (posted_to p log.cpu) (length (taken_from (takes_by cpus log.cpu log.lines) q))) h.posts.sender_is
    ∙ ap (λ (xs : List ℕ). slice_get (posted_to p log.cpu) (length xs)) (taken-of cpus log.cpu log.lines log.cpu h.within)

pub own-oldest : (cpus : ℕ) (log : SeatLog) (p : Posts) (t : Takes) (s : Seat) (o : Option ℕ) (at sender : ℕ) → AreParts cpus log p t → seat_of log p ≡ s → at ≡ sender
    → (at ≡ t.home → o ≡ oldest p t) → sender ≡ s.cpu → oldest_own s ≡ o
own-oldest cpus log p t s o at sender h is at_is own here =
    sym (own (at_is ∙ here ∙ ap (λ (x : Seat). x.cpu) (sym is) ∙ ap (λ (x : Takes). x.home) (sym h.takes)) ∙ parts-oldest cpus log p t h ∙ ap oldest_own is)

pub if_none : {X : Type 0} {P : Type 0} (r : Option X) → P → IfNone r P
if_none None holds = holds
if_none (Some x) holds = tt

-- a seat whose request was taken and decided
pub seat-taken : (log log' : SeatLog) (home : ℕ) (p p' : Posts) (s : Parts) (on sender : ℕ) (wake : DrainedWake) → HasWritten log log' (line_of on wake)
    → HasLooked home p p' → parts_of log p ≡ s → on ≡ s.seat.cpu → wake.sender ≡ sender → (sender ≡ s.seat.cpu → oldest_own s.seat ≡ Some wake.task) → PartsTaken s (parts_of log' p') sender wake
seat-taken log log' home p p' s on sender wake is looked view on_is from own =
    record {
      taken = record {
        sender_is = from;
        seat = ap (λ (x : SeatLog). seat_of x p') is.is ∙ ap (seat_of (written log is.others (line_of on wake))) looked.posts ∙ ap (λ (x : Parts). logged x.seat (line_of on wake)) view ∙ ap (λ (n : ℕ). logged s.seat (line_of n wake)) on_is;
        own = own;
      };
      seen = (is.others ++ line_of on wake ∷ [], ap (λ (x : Parts). x.seen ++ (is.others ++ line_of on wake ∷ [])) (sym view) ∙ ap (λ (x : SeatLog). x.seen) (sym is.is));
      free = subst (λ (x : Parts). IsNoLess x.free p'.free) view (no-less home p p' looked);
    }

-- how many requests more a seat can post to its own CPU, by what its lines tell of those that it has posted
pub own-free : (cpus : ℕ) (log : SeatLog) (p : Posts) (t : Takes) (s : Parts) (home capacity n : ℕ) → AreParts cpus log p t → parts_of log p ≡ s → home ≡ s.seat.cpu
    → n + length (posted_to p t.home) ≡ capacity + length (taken_from t t.home) → n + length (fleets.posted_to s.seat home) ≡ capacity + length (wakes_from home s.seat.log)
own-free cpus log p t s home capacity n h view here all =
    let at : t.home ≡ home = ap (λ (x : Takes). x.home) h.takes ∙ ap (λ (x : Parts). x.seat.cpu) view ∙ sym here in
    let posted : length (posted_to p t.home) ≡ length (fleets.posted_to s.seat home) = ap (λ (k : ℕ). length (posted_to p k)) at ∙ ap (λ (x : Parts). length (fleets.posted_to x.seat home)) view in
    let taken : length (taken_from t t.home) ≡ length (wakes_from home s.seat.log) =
    ap (λ (x : Takes). length (taken_from x x.home)) h.takes ∙ ap length (taken-of cpus log.cpu log.lines log.cpu h.within)
    ∙ ap (λ (x : Parts). length (wakes_from x.seat.cpu x.seat.log)) view ∙ ap (λ (k : ℕ). length (wakes_from k s.seat.log)) (sym here) in
    omega (arith, all, posted, taken)

-- a seat with a line more
pub parts-committed : (log log' : SeatLog) (p : Posts) (s : Parts) (l : Line) → HasWritten log log' l → parts_of log p ≡ s → HasCommitted s (parts_of log' p) l
parts-committed log log' p s l is view = record {
  others = is.others;
  seat = ap (λ (x : SeatLog). seat_of x p) is.is ∙ ap (λ (x : Parts). logged x.seat l) view;
  seen = ap (λ (x : SeatLog). x.seen) is.is ∙ ap (λ (x : Parts). x.seen ++ (is.others ++ l ∷ [])) view;
  free = ap (λ (x : Parts). x.free) view;
}

by_answer : {T E : Type 0} (r : Result T E) (P Q R : Type 0) → OnOk r P → OnErr r Q → (P → R) → (Q → R) → R
by_answer (Ok x) P Q R h k f g = f h
by_answer (Err e) P Q R h k f g = g k

-- the parts of a seat after a post, whether it was accepted or not
pub parts-posted : {T E : Type 0} (r : Result T E) (cpus : ℕ) (log : SeatLog) (t : Takes) (p p' : Posts) (at task : ℕ)
    → OnOk r (rings.HasPosted at task p p') → OnErr r (p' ≡ p) → AreParts cpus log p t → AreParts cpus log p' t
parts-posted r cpus log t p p' at task accepted refused parts =
    by_answer r (rings.HasPosted at task p p') (p' ≡ p) (AreParts cpus log p' t) accepted refused
    (λ more. record {
      posts = record {
        sender_is = ap (λ (x : Posts). x.sender) more.posts ∙ parts.posts.sender_is;
        to_all = ap (λ (x : Posts). length x.posted) more.posts ∙ length-set p.posted at (posted_to p at ++ task ∷ []) ∙ parts.posts.to_all;
      };
      takes = parts.takes;
      within = parts.within;
    })
    (λ same. subst (λ (x : Posts). AreParts cpus log x t) (sym same) parts)

-- and what is seen of a seat that has posted
pub seat-posted : (log : SeatLog) (p p' : Posts) (s : Parts) (at home task : ℕ) → rings.HasPosted at task p p' → at ≡ home → parts_of log p ≡ s → HasPosted s (parts_of log p') home task
seat-posted log p p' s at home task more at_is view =
    subst (λ (k : ℕ). HasPosted s (parts_of log p') k task) at_is (subst (λ (x : Parts). HasPosted x (parts_of log p') at task) view (record {
      seat = ap (seat_of log) more.posts;
      seen = refl;
      others = ap (λ (x : Posts). x.free) more.posts;
      free = more.free;
    }))
