-- What a closed fleet tells of the requests.
use Rattle.std.proofs.Common.{◌≡◌, ℕ, ◌<◌, List, [], ◌∷◌, ◌++◌, length, sym, ap, subst, ◌∙◌, arith}
use Rattle.std.specs.Prelude.{All, slice_get, Some}
use Rattle.std.proofs.{lemmas.List.map-append, lemmas.List.Elements.All-map, lemmas.List.FromFn.length-map-range_with_len, lemmas.Option.slice_get_within}
use Rattle.std.proofs.lemmas.Option.{get_or_from_slice_get}
use Rattle.eevdf_ops.specs.{declared.deeds.Line.Line, Programs.lines_by, Programs.wakes_from}
use Rattle.eevdf_fleet.specs.Rings.{Posted, Takes, Returned, AllReturned, AreLeft, given_to, left_of, taken_from}
use Rattle.eevdf_fleet.specs.Fleets.{AllPostsTold, AreSeats, Parts, Seat, given_back, posts_by, returned, seats_in, taken_by}
use Rattle.eevdf_fleet.specs.Closings.{IsOfLines}
use Rattle.eevdf_fleet.proofs.{RingPlaces.got_some, Takes.taken-of}
use Rattle.eevdf_fleet.proofs.RingWords.{all-returned, posts-returned, takes-returned}

pub all-at : {X : Type 0} (P : X → Type 0) (xs : List X) (k : ℕ) (x : X) → All P xs → slice_get xs k ≡ Some x → P x
all-at P xs k x h got = subst P (get_or_from_slice_get xs k x x got) (h k x (slice_get_within xs k x got))

-- each seat has its CPU's lines of the history
pub each-of : (lines : List Line) (parts : List Parts) → All (IsOfLines lines) parts → All (λ (s : Seat). lines_by s.cpu lines ≡ s.log) (seats_in parts)
each-of lines parts h = All-map (λ (s : Seat). lines_by s.cpu lines ≡ s.log) (λ (p : Parts). p.seat) parts (λ k x within. (h k x within).log)

-- the ends of one seat more
pub returned-more : (cpus : ℕ) (seats : List Seat) (s : Seat) (r r' : Returned) → r ≡ returned cpus seats → r' ≡ given_back cpus r s → r' ≡ returned cpus (seats ++ s ∷ [])
returned-more cpus seats s r r' is more =
    more ∙ ap (λ (x : Returned). given_back cpus x s) is
    ∙ ap (λ (ps : List Posted). record { cpus = cpus; posts = ps; takes = (given_back cpus (returned cpus seats) s).takes }) (sym (map-append posts_by seats (s ∷ [])))
    ∙ ap (λ (ts : List Takes). record { cpus = cpus; posts = (returned cpus (seats ++ s ∷ [])).posts; takes = ts }) (sym (map-append (taken_by cpus) seats (s ∷ [])))

pub seats-returned : (cpus : ℕ) (seats : List Seat) (r : Returned) → AreSeats cpus seats → All (λ s. length s.posted ≡ cpus) seats → r ≡ returned cpus seats → AllReturned r
seats-returned cpus seats r h posted is =
    subst AllReturned (sym is)
    (all-returned posts_by (taken_by cpus) cpus seats h.all
    (λ cpu s got. record {
      within = omega (arith, slice_get_within seats cpu s got, h.all);
      sender_is = h.in_order cpu s got;
      home_is = h.in_order cpu s got;
      to_all = all-at (λ (x : Seat). length x.posted ≡ cpus) seats cpu s posted got;
      from_all = length-map-range_with_len _ 0 cpus;
    }))

module _ (cpus : ℕ) (seats : List Seat) (lines : List Line) (left : List (List ℕ)) (h : AreSeats cpus seats) (logs : All (λ s. lines_by s.cpu lines ≡ s.log) seats) (rest : AreLeft (returned cpus seats) left) where
  told : (sender home : ℕ) (s c : Seat) → slice_get seats sender ≡ Some s → slice_get seats home ≡ Some c
      → given_to (posts_by s) home ≡ wakes_from sender (lines_by home lines) ++ left_of cpus left sender home
  told sender home s c from to =
      let here : sender < cpus = omega (arith, slice_get_within seats sender s from, h.all) in
      let there : home < cpus = omega (arith, slice_get_within seats home c to, h.all) in
      let log : c.log ≡ lines_by home lines = sym (all-at (λ (x : Seat). lines_by x.cpu lines ≡ x.log) seats home c logs to) ∙ ap (λ (n : ℕ). lines_by n lines) (h.in_order home c to) in
      ap (λ (p : Posted). given_to p home) (sym (posts-returned posts_by (taken_by cpus) cpus seats sender s from))
      ∙ rest.pairs sender home here there
      ∙ ap (λ (xs : List ℕ). xs ++ left_of cpus left sender home)
      (ap (λ (t : Takes). taken_from t sender) (takes-returned posts_by (taken_by cpus) cpus seats home c to)
      ∙ taken-of cpus c.cpu c.log sender here ∙ ap (wakes_from sender) log)

  pub all-told : AllPostsTold cpus seats lines left
  all-told sender home s from below = let c = got_some seats home (omega (arith, h.all)) in told sender home s c.0 from c.1
