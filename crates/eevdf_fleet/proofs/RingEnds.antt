-- The ends of the rings, where one of them moves on.
use Rattle.std.proofs.Common.{◌≡◌, ℕ, zero, suc, ◌+◌, ◌<◌, ◌≤◌, true, min, List, [], ◌∷◌, ◌++◌, length, map, get_or, set, refl, sym, ap, subst, ◌∙◌, arith, get_or-set_same}
use Rattle.std.proofs.{Math.Seq.map-set_same, lemmas.Option.slice_get_read}
use Rattle.std.proofs.lemmas.List.{length-map, map-set, get_or-map}
use Rattle.std.specs.Prelude.{Option, Some, None, OnErr, OnOk, Result, Ok, Err, slice_get}
use Rattle.std.specs.Option.{IsSomeAnd}
use Rattle.rtrb.specs.Ring.{sent, known_free, producer_capacity, received, consumer_capacity, IsPair, SameConsumer, SameProducer, ProducerLooked}
use Rattle.eevdf_fleet.specs.Requests.{Allows, Follows, Grows, IsMarked, Source, tasks_after, tasks_of}
use Rattle.eevdf_fleet.specs.{Fleets.Kit, declared.board.claims.Claim.Claim, declared.board.claims.PostClaim.PostClaim, declared.board.claims.Terms.Terms, declared.board.claims.View.View}
use Rattle.eevdf_fleet.specs.declared.board.claims.PostClaim.TheVariants as claim
use Rattle.eevdf_fleet.specs.declared.rings.request.Request.{Request}
use Rattle.eevdf_fleet.specs.Board as tokens
use Rattle.eevdf_fleet.specs.PostClaims.{sent_in, with_post, with_task}
use Rattle.eevdf_ops.specs.Setup.{is_at_home}
use Rattle.atomic_table.specs.{Seated.TableId, declared.badge.Badge.Badge}
use Rattle.eevdf_fleet.specs.Rings.{HasLooked, HasPosted, Ring, Rings, Posts, Takes, free_to, posted_to, ring_at, source_of, taken_from, taken_more}
use Rattle.eevdf_fleet.specs.RingEnds.{Pushing, Popping, PushesInto, PopsFrom, AreProducers, AreConsumers, ArePosting, free_in, posted_into, posts, slots_for, taken_out, takes}
use Rattle.eevdf_fleet.proofs.{MarkedItems.followed, MarkedItems.grows-tasks, MarkedItems.marked-length, MarkedItems.may-follow, MarkedItems.next-task, MarkedItems.same-marked}
use Rattle.eevdf_fleet.proofs.RingPlaces.{each-set, got-read}

abbrev pub takes_of : ℕ → List (List ℕ) → Takes
takes_of home l = record { home = home; taken = l }

abbrev pub posts_of : ℕ → List (List ℕ) → List ℕ → Posts
posts_of sender l free = record { sender = sender; posted = l; free = free }

of_more : {E : Type 0} (P : Ring → E → Type 0) (o : Option Ring) (e e' : E) → ((r : Ring) → P r e → P r e') → IsSomeAnd o (λ r. P r e) → IsSomeAnd o (λ r. P r e')
of_more P None e e' step h = h
of_more P (Some r) e e' step h = step r h

pub consumers-set : {r : Rings} {home : ℕ} {es : List Popping} (k : ℕ) (e e' : Popping) → AreConsumers r home es
    → e ≡ get_or es k e → SameConsumer e e' → (IsMarked (source_of r k) home (received e) → IsMarked (source_of r k) home (received e')) → AreConsumers r home (set es k e')
consumers-set {r} {home} {es} k e e' h at same marked = record {
  each = each-set _ es k e' (λ x got. of_more (PopsFrom r.capacity (source_of r k) home) (ring_at r k home) e e' (λ ring pops. record {
    pair = (same.0.0 ∙ pops.pair.0, same.0.1 ∙ pops.pair.1, same.0.2 ∙ pops.pair.2, same.0.3 ∙ pops.pair.3);
    capacity_is = same.1 ∙ pops.capacity_is;
    marked = marked pops.marked;
  }) (h.each k e (got-read es k e x at got))) h.each;
}

pub producers-set : {r : Rings} {sender : ℕ} {es : List Pushing} (k : ℕ) (e e' : Pushing) → AreProducers r sender es
    → e ≡ get_or es k e → SameProducer e e'
    → (r.capacity < known_free e + length (sent e) → r.capacity < known_free e' + length (sent e'))
    → (IsMarked (source_of r sender) k (sent e) → IsMarked (source_of r sender) k (sent e')) → AreProducers r sender (set es k e')
producers-set {r} {sender} {es} k e e' h at same room marked = record {
  each = each-set _ es k e' (λ x got. of_more (PushesInto r.capacity (source_of r sender) k) (ring_at r sender k) e e' (λ ring pushes. record {
    same = ((same.0.0 ∙ pushes.same.0.0, same.0.1 ∙ pushes.same.0.1, same.0.2 ∙ pushes.same.0.2, same.0.3 ∙ pushes.same.0.3), same.1 ∙ pushes.same.1);
    capacity_is = same.1 ∙ pushes.capacity_is;
    room = room pushes.room;
    marked = marked pushes.marked;
  }) (h.each k e (got-read es k e x at got))) h.each;
}

-- an end that has looked at its ring
pub producers-looked : {r : Rings} {sender : ℕ} {es : List Pushing} (k : ℕ) (e e' : Pushing) → AreProducers r sender es
    → e ≡ get_or es k e → ProducerLooked e e' → AreProducers r sender (set es k e')
producers-looked k e e' h at looked =
    producers-set k e e' h at looked.0 (λ room. omega (arith, looked.2, ap length looked.1)) (λ marked. same-marked marked looked.1)

-- what is known of the end at a place
within_shown : {E X : Type 0} (shown : E → X) (es : List E) (k : ℕ) → k < length (map shown es) → k < length es
within_shown shown es k within = omega (arith, length-map es shown)

some_pushes : (r : Rings) (sender home : ℕ) (o : Option Ring) (p : Pushing) → IsSomeAnd o (λ ring. PushesInto r.capacity (source_of r sender) home ring p)
    → (r.capacity < known_free p + length (sent p)) × IsMarked (source_of r sender) home (sent p) × (producer_capacity p ≡ slots_for r.capacity)
some_pushes r sender home None p h = absurd h
some_pushes r sender home (Some ring) p h = (h.room, h.marked, h.capacity_is)

some_pops : (r : Rings) (sender home : ℕ) (o : Option Ring) (e : Popping) → IsSomeAnd o (λ ring. PopsFrom r.capacity (source_of r sender) home ring e)
    → (consumer_capacity e ≡ slots_for r.capacity) × IsMarked (source_of r sender) home (received e)
some_pops r sender home None e h = absurd h
some_pops r sender home (Some ring) e h = (h.capacity_is, h.marked)

module _ {r : Rings} {sender : ℕ} {ps : List Pushing} (home : ℕ) (p : Pushing) (h : AreProducers r sender ps) (within : home < length (map posted_into ps)) (at : p ≡ get_or ps home p) where
  pub pushes-at : IsSomeAnd (ring_at r sender home) (λ ring. PushesInto r.capacity (source_of r sender) home ring p)
  pushes-at = h.each home p (slice_get_read ps (length (map posted_into ps)) home p (length-map ps posted_into) within at)

  pub room-at : r.capacity < known_free p + length (sent p)
  room-at = (some_pushes r sender home (ring_at r sender home) p pushes-at).0

  pub pushed-mark : IsMarked (source_of r sender) home (sent p)
  pushed-mark = (some_pushes r sender home (ring_at r sender home) p pushes-at).1

  pub slots-at : producer_capacity p ≡ slots_for r.capacity
  slots-at = (some_pushes r sender home (ring_at r sender home) p pushes-at).2

module _ {r : Rings} {home : ℕ} {es : List Popping} (sender : ℕ) (e : Popping) (h : AreConsumers r home es) (within : sender < length (map taken_out es)) (at : e ≡ get_or es sender e) where
  pub pops-at : IsSomeAnd (ring_at r sender home) (λ ring. PopsFrom r.capacity (source_of r sender) home ring e)
  pops-at = h.each sender e (slice_get_read es (length (map taken_out es)) sender e (length-map es taken_out) within at)

  pub capacity-at : consumer_capacity e ≡ slots_for r.capacity
  capacity-at = (some_pops r sender home (ring_at r sender home) e pops-at).0

  pub popped-mark : IsMarked (source_of r sender) home (received e)
  popped-mark = (some_pops r sender home (ring_at r sender home) e pops-at).1

pair_of : (r : Rings) (sender home : ℕ) (o : Option Ring) (p : Pushing) (e : Popping) → IsSomeAnd o (λ ring. PushesInto r.capacity (source_of r sender) home ring p)
    → IsSomeAnd o (λ ring. PopsFrom r.capacity (source_of r sender) home ring e) → IsPair p e
pair_of r sender home None p e pushes pops = absurd pushes
pair_of r sender home (Some ring) p e pushes pops =
    (pops.pair.0 ∙ sym pushes.same.0.0, pops.pair.1 ∙ sym pushes.same.0.1, pops.pair.2 ∙ sym pushes.same.0.2, pops.pair.3 ∙ sym pushes.same.0.3)

-- the end of a sender's ring to a home and that of the home's ring from the sender are a pair
pub pair-at : {r : Rings} {sender home : ℕ} {ps : List Pushing} {es : List Popping} (p : Pushing) (e : Popping)
    → AreProducers r sender ps → AreConsumers r home es
    → home < length (map posted_into ps) → p ≡ get_or ps home p → sender < length (map taken_out es) → e ≡ get_or es sender e → IsPair p e
pair-at {r} {sender} {home} p e producers consumers in_posts at_p in_takes at_e =
    pair_of r sender home (ring_at r sender home) p e (pushes-at home p producers in_posts at_p) (pops-at sender e consumers in_takes at_e)

-- an end that has posted fewer requests than its ring has room for knows a free slot
pub free-at : {r : Rings} {sender : ℕ} {ps : List Pushing} (home : ℕ) (p : Pushing) → AreProducers r sender ps → home < length (map posted_into ps) → p ≡ get_or ps home p
    → length (posted_into p) < r.capacity → 0 < known_free p
free-at home p h within at few = omega (arith, room-at home p h within at, marked-length (pushed-mark home p h within at))

-- what is seen of the ends
shown_same : {E X : Type 0} (shown : E → X) (es : List E) (k : ℕ) (e e' : E) → e ≡ get_or es k e → shown e' ≡ shown e → map shown (set es k e') ≡ map shown es
shown_same shown es k e e' at same = map-set_same shown es k e' e (same ∙ ap shown at)

shown_at : {E X : Type 0} (shown : E → X) (es : List E) (k : ℕ) (e : E) (d : X) → k < length es → e ≡ get_or es k e → get_or (map shown es) k d ≡ shown e
shown_at shown es k e d within at = get_or-map shown es k e d within ∙ ap shown (sym at)

shown_set : {E X : Type 0} (shown : E → X) (es : List E) (k : ℕ) (e' : E) (d : X) → k < length es → get_or (map shown (set es k e')) k d ≡ shown e'
shown_set shown es k e' d within =
    ap (λ (l : List _). get_or l k d) (map-set shown es k e') ∙ get_or-set_same (map shown es) k (shown e') d (omega (arith, length-map es shown))

shown_more : {E : Type 0} (shown : E → List ℕ) (es : List E) (k : ℕ) (e e' : E) (tasks : List ℕ) → k < length es → e ≡ get_or es k e → shown e' ≡ shown e ++ tasks
    → map shown (set es k e') ≡ set (map shown es) k (get_or (map shown es) k [] ++ tasks)
shown_more shown es k e e' tasks within at more =
    map-set shown es k e' ∙ ap (λ (l : List ℕ). set (map shown es) k l) (more ∙ ap (λ (l : List ℕ). l ++ tasks) (sym (shown_at shown es k e [] within at)))

-- into a ring without room nothing fits
pub none-fits : (capacity sender : ℕ) (es : List Pushing) (home : ℕ) → capacity ≡ 0 → free_to (posts capacity sender es) home ≡ 0
none-fits capacity sender [] home none = refl
none-fits capacity sender (e ∷ es) zero none = omega (arith, none)
none-fits capacity sender (e ∷ es) (suc home) none = none-fits capacity sender es home none

-- the posts of a sender, one of whose ends has changed
module _ (capacity sender : ℕ) (es : List Pushing) (k : ℕ) (e e' : Pushing) (within : k < length (map posted_into es)) (at : e ≡ get_or es k e) where
  abbrev before : Posts
  before = posts capacity sender es

  abbrev after : Posts
  after = posts capacity sender (set es k e')

  in_es : k < length es
  in_es = within_shown posted_into es k within

  pub posted-at : posted_to before k ≡ posted_into e
  posted-at = shown_at posted_into es k e [] in_es at

  pub free-before : free_to before k ≡ min capacity (known_free e)
  free-before = shown_at (free_in capacity) es k e 0 in_es at

  pub free-after : free_to after k ≡ min capacity (known_free e')
  free-after = shown_set (free_in capacity) es k e' 0 in_es

  free_set : after.free ≡ set before.free k (free_to after k)
  free_set = map-set (free_in capacity) es k e' ∙ ap (λ (n : ℕ). set before.free k n) (sym free-after)

  pub posts-looked : sent e' ≡ sent e → known_free e ≤ known_free e' → HasLooked k before after
  posts-looked same more = record {
    posts = ap (λ (l : List (List ℕ)). posts_of sender l after.free) (shown_same posted_into es k e e' at (ap tasks_after same))
        ∙ ap (λ (l : List ℕ). posts_of sender before.posted l) free_set;
    free = omega (arith, free-before, free-after);
  }

  pub posts-more : (task : ℕ) → posted_into e' ≡ posted_into e ++ task ∷ [] → known_free e ≤ known_free e' + 1 → HasPosted k task before after
  posts-more task more fewer = record {
    posts = ap (λ (l : List (List ℕ)). posts_of sender l after.free) (shown_more posted_into es k e e' (task ∷ []) in_es at more)
        ∙ ap (λ (l : List ℕ). posts_of sender (set before.posted k (posted_to before k ++ task ∷ [])) l) free_set;
    free = omega (arith, free-before, free-after);
  }

  pub posts-same : sent e' ≡ sent e → known_free e ≡ known_free e' → after ≡ before
  posts-same same free =
      ap (λ (l : List (List ℕ)). posts_of sender l after.free) (shown_same posted_into es k e e' at (ap tasks_after same))
      ∙ ap (λ (l : List ℕ). posts_of sender before.posted l) (shown_same (free_in capacity) es k e e' at (ap (λ (n : ℕ). min capacity n) (sym free)))

-- the requests that a home has taken
pub takes-same : (home : ℕ) (es : List Popping) (k : ℕ) (e e' : Popping) → e ≡ get_or es k e → received e' ≡ received e → takes home (set es k e') ≡ takes home es
takes-same home es k e e' at same = ap (λ (l : List (List ℕ)). takes_of home l) (shown_same taken_out es k e e' at (ap tasks_after same))

pub takes-more : {r : Rings} (home : ℕ) (es : List Popping) (k : ℕ) (e e' : Popping) (tasks : List ℕ) → AreConsumers r home es → k < length (map taken_out es) → e ≡ get_or es k e
    → Grows (received e) (received e') tasks → takes home (set es k e') ≡ taken_more (takes home es) k tasks
takes-more home es k e e' tasks h within at grows =
    ap (λ (l : List (List ℕ)). takes_of home l)
    (shown_more taken_out es k e e' tasks (within_shown taken_out es k within) at (grows-tasks (popped-mark k e h within at) grows))

taken-at : (home : ℕ) (es : List Popping) (k : ℕ) (e : Popping) → k < length (map taken_out es) → e ≡ get_or es k e → taken_from (takes home es) k ≡ taken_out e
taken-at home es k e within at = shown_at taken_out es k e [] (within_shown taken_out es k within) at

-- a request that was popped follows those that the home had taken
pub followed-taken : {r : Rings} (home : ℕ) (es : List Popping) (k : ℕ) (e : Popping) (x : Request) → AreConsumers r home es → k < length (map taken_out es) → e ≡ get_or es k e
    → Allows (received e) x → Follows (source_of r k) home (taken_from (takes home es) k) x
followed-taken {r} home es k e x h within at allowed =
    subst (λ (l : List ℕ). Follows (source_of r k) home l x) (sym (taken-at home es k e within at)) (followed x (popped-mark k e h within at) allowed)

-- a request may be pushed with a token of what its sender has posted with it
pub post-follows : {r : Rings} {sender : ℕ} {ps : List Pushing} (home task : ℕ) (p : Pushing) → AreProducers r sender ps → home < length (map posted_into ps) → p ≡ get_or ps home p
    → (board : TableId) (t : Terms) → r.board ≡ board → r.terms ≡ Some t → is_at_home r.homes task home ≡ true → (posts : List PostClaim) → posts ≡ claim.Posts sender (map posted_into ps) ∷ []
    → (x : Request) → x.task ≡ task → tokens.IsToken board t x.token → tokens.claims_of x.token ≡ [] → tokens.posts_of x.token ≡ sent_in (with_post posts home task) → Allows (sent p) x
post-follows {r} {sender} {ps} home task p h within at board t board_is terms_are at_home posts were x task_is token none sent_is =
    let lists : List (List ℕ) = with_task (map posted_into ps) home task in
    may-follow x (pushed-mark home p h within at) (record {
      at_home = ap (λ (k : ℕ). is_at_home r.homes k home) task_is ∙ at_home;
      sent = record {
        lists = lists;
        of = token.of ∙ sym board_is;
        knows = token.knows ∙ ap (λ (cs : List Claim). record { terms = Some t; claims = cs; posts = tokens.posts_of x.token } ∷ []) none
            ∙ ap (λ (cs : List PostClaim). record { terms = Some t; claims = []; posts = cs } ∷ []) (sent_is ∙ ap (λ (cs : List PostClaim). sent_in (with_post cs home task)) were)
            ∙ ap (λ (o : Option Terms). record { terms = o; claims = []; posts = claim.Sent sender lists ∷ [] } ∷ []) (sym terms_are);
        are = get_or-set_same (map posted_into ps) home (get_or (map posted_into ps) home [] ++ task ∷ []) [] within
            ∙ ap (λ (l : List ℕ). l ++ task ∷ []) (shown_at posted_into ps home p [] (within_shown posted_into ps home within) at)
            ∙ ap (λ (k : ℕ). posted_into p ++ k ∷ []) (sym task_is);
      };
    })

-- what a sender claims to have posted is what went into its rings
pub claimed-still : (sender : ℕ) (es : List Pushing) (k : ℕ) (e e' : Pushing) (claims : List PostClaim) → e ≡ get_or es k e → sent e' ≡ sent e → claims ≡ claim.Posts sender (map posted_into es) ∷ []
    → claims ≡ claim.Posts sender (map posted_into (set es k e')) ∷ []
claimed-still sender es k e e' claims at same were =
    were ∙ ap (λ (l : List (List ℕ)). claim.Posts sender l ∷ []) (sym (shown_same posted_into es k e e' at (ap tasks_after same)))

-- the ends at which a CPU posts, one of which has looked at its ring
pub posting-looked : (kit : Kit) (capacity sender : ℕ) (es : List Pushing) (token : Badge View) (k : ℕ) (e e' : Pushing) → ArePosting kit capacity sender es token
    → e ≡ get_or es k e → ProducerLooked e e' → ArePosting kit capacity sender (set es k e') token
posting-looked kit capacity sender es token k e e' h at looked =
    (producers-looked k e e' h.0 at looked, h.1, h.2, claimed-still sender es k e e' (tokens.posts_of token) at looked.1 h.3, h.4, h.5)

-- the sender of the posts that a home takes of its own is the home
pub own-sender : (capacity sender : ℕ) (ps : List Pushing) (home : ℕ) (es : List Popping) (p : Posts) (t : Takes) → posts capacity sender ps ≡ p → takes home es ≡ t → p.sender ≡ t.home → sender ≡ home
own-sender capacity sender ps home es p t posts_are takes_are own = ap (λ (x : Posts). x.sender) posts_are ∙ own ∙ ap (λ (x : Takes). x.home) (sym takes_are)

pub claimed-more : {source : Source} {T E : Type 0} (sender : ℕ) (es : List Pushing) (k task : ℕ) (e e' : Pushing) (res : Result T E) (was is : List PostClaim) → k < length (map posted_into es)
    → e ≡ get_or es k e → IsMarked source k (sent e) → OnOk res (Grows (sent e) (sent e') (task ∷ [])) → OnErr res (sent e' ≡ sent e) → was ≡ claim.Posts sender (map posted_into es) ∷ []
    → OnOk res (is ≡ with_post was k task) → OnErr res (is ≡ was) → is ≡ claim.Posts sender (map posted_into (set es k e')) ∷ []
claimed-more sender es k task e e' (Ok x) was is within at marked grown same were more still =
    more ∙ ap (λ (cs : List PostClaim). with_post cs k task) were
    ∙ ap (λ (l : List (List ℕ)). claim.Posts sender l ∷ []) (sym (shown_more posted_into es k e e' (task ∷ []) (within_shown posted_into es k within) at (grows-tasks marked grown)))
claimed-more sender es k task e e' (Err x) was is within at marked grown same were more still = claimed-still sender es k e e' is at same (still ∙ were)

-- what a sender has posted and a home has taken, where both ends of their ring are here
module _ {r : Rings} {sender home : ℕ} {ps : List Pushing} {es : List Popping} (capacity : ℕ) (p : Pushing) (e : Popping) (producers : AreProducers r sender ps) (consumers : AreConsumers r home es)
    (in_posts : home < length (map posted_into ps)) (at_p : p ≡ get_or ps home p) (in_takes : sender < length (map taken_out es)) (at_e : e ≡ get_or es sender e) where
  pub oldest-at : slice_get (tasks_of (sent p)) (length (received e)) ≡ slice_get (posted_to (posts capacity sender ps) home) (length (taken_from (takes home es) sender))
  oldest-at =
      next-task (pushed-mark home p producers in_posts at_p) (popped-mark sender e consumers in_takes at_e)
      ∙ ap (λ (l : List ℕ). slice_get l (length (taken_out e))) (sym (posted-at capacity sender ps home p p in_posts at_p))
      ∙ ap (λ (l : List ℕ). slice_get (posted_to (posts capacity sender ps) home) (length l)) (sym (taken-at home es sender e in_takes at_e))

  pub free-beside : (p' : Pushing) (n : ℕ) → n ≡ min r.capacity (known_free p') → known_free p' + length (sent p) ≡ producer_capacity p + length (received e)
      → length (received e) ≤ length (sent p) → 0 < r.capacity
      → n + length (posted_to (posts capacity sender ps) home) ≡ r.capacity + length (taken_from (takes home es) sender)
  free-beside p' n is all fewer some =
      omega (
        arith,
        is,
        all,
        fewer,
        some,
        slots-at home p producers in_posts at_p,
        marked-length (pushed-mark home p producers in_posts at_p),
        marked-length (popped-mark sender e consumers in_takes at_e),
        ap length (posted-at capacity sender ps home p p in_posts at_p),
        ap length (taken-at home es sender e in_takes at_e),
      )

  pub left-at : (left : List ℕ) → Grows (received e) (sent p) left → posted_to (posts capacity sender ps) home ≡ taken_from (takes home es) sender ++ left
  left-at left grows =
      posted-at capacity sender ps home p p in_posts at_p ∙ grows-tasks (popped-mark sender e consumers in_takes at_e) grows
      ∙ ap (λ (l : List ℕ). l ++ left) (sym (taken-at home es sender e in_takes at_e))
