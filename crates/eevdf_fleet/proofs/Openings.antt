-- The claims that a fleet is opened with, CPU by CPU.
use Rattle.std.proofs.Common.{◌≡◌, ℕ, zero, suc, ◌+◌, ◌<◌, ◌≤◌, Bool, true, false, List, [], ◌∷◌, ◌++◌, length, map, get_or, take, drop, set, reverse, refl, sym, ap, subst, ◌∙◌, arith}
use Rattle.std.specs.Prelude.{◌==◌, Option, Some, None, vec_capacity}
use Rattle.std.specs.{declared.alloc.Global.Global, declared.vec.Vec.Vec}
use Rattle.eevdf_ops.specs.declared.deeds.Line.{Line}
use Rattle.eevdf_queue.specs.State.{View}
use Rattle.eevdf_ops.specs.Outcome.{machine_of}
use Rattle.eevdf_fleet.specs.{declared.board.claims.Terms.Terms, declared.board.claims.Claim.Claim}
use Rattle.eevdf_fleet.specs.declared.board.claims.Claim.TheVariants.{Seat, Queue, Journal, Past}
use Rattle.eevdf_fleet.specs.Claims.{Subject, seat, queue, journal, once, times, IsOnTerms, claims_from}
use Rattle.eevdf_fleet.specs.SeatLogs.{IsRecord, KnowsOwn, own_in, seen_in}
use Rattle.eevdf_fleet.specs.Fleets.{AreParts, SeatLog, fresh_log, fresh_logs, fresh_parts, parts_of, quota_in, takes_by}
use Rattle.eevdf_fleet.specs.Rings.{Posts, Takes, no_posts, no_takes}
use Rattle.eevdf_fleet.proofs.Takes.{no-takes}
use Rattle.std.specs.List.{range_with_len}
use Rattle.std.proofs.lemmas.List.{length-replicate, length_push, reverse-append, same_from_push}
use Rattle.std.proofs.lemmas.List.FromFn.{length-map-range_with_len, map-range_with_len_more}

drop-machine : (qs : List View) (n : ℕ) (q : View) → n < length qs → q ≡ get_or qs n q → drop n (machine_of qs) ≡ q.state ∷ drop (suc n) (machine_of qs)
drop-machine [] n q h e = absurd (omega arith)
drop-machine (x ∷ qs) zero q h e = ap (λ (v : View). v.state ∷ machine_of qs) (sym e)
drop-machine (x ∷ qs) (suc n) q h e = drop-machine qs n q (omega arith) e

drop-machine-set : (qs : List View) (n : ℕ) (q : View) → drop (suc n) (machine_of (set qs n q)) ≡ drop (suc n) (machine_of qs)
drop-machine-set [] n q = refl
drop-machine-set (x ∷ qs) zero q = refl
drop-machine-set (x ∷ qs) (suc n) q = drop-machine-set qs n q

-- the first three claims are of one CPU
pub next-claims : (qs : List View) (n : ℕ) (q : View) (claims : List Claim) → n < length qs → q ≡ get_or qs n q → claims ≡ claims_from n (drop n (machine_of qs))
    → claims ≡ Past [] ∷ Seat n [] ∷ Queue n q.state ∷ claims_from (n + 1) (drop (n + 1) (machine_of qs))
next-claims qs n q claims h e is =
    is ∙ ap (claims_from n) (drop-machine qs n q h e) ∙ ap (λ (k : ℕ). Past [] ∷ Seat n [] ∷ Queue n q.state ∷ claims_from (n + 1) (drop k (machine_of qs))) (let s : suc n ≡ n + 1 = omega arith in s)

first-of : (qs : List View) (k n : ℕ) → n < length qs → take 2 (claims_from k (drop n (machine_of qs))) ≡ Past [] ∷ Seat k [] ∷ []
first-of [] k n h = absurd (omega arith)
first-of (x ∷ qs) k zero h = refl
first-of (x ∷ qs) k (suc n) h = first-of qs k n (omega arith)

pub first-claims : (qs : List View) (n : ℕ) (claims : List Claim) → n < length qs → claims ≡ claims_from n (drop n (machine_of qs)) → take 2 claims ≡ Past [] ∷ Seat n [] ∷ []
first-claims qs n claims h is = ap (λ (l : List Claim). take 2 l) is ∙ first-of qs n n h

-- and the others are as they were, whatever stands in its place
pub other-claims : (qs : List View) (n : ℕ) (q y : View) (claims others : List Claim) → n < length qs → q ≡ get_or qs n q → claims ≡ claims_from n (drop n (machine_of qs))
    → others ≡ drop 1 (drop 2 claims) → others ≡ claims_from (n + 1) (drop (n + 1) (machine_of (set qs n y)))
other-claims qs n q y claims others h e is rest =
    rest ∙ ap (λ (l : List Claim). drop 1 (drop 2 l)) (next-claims qs n q claims h e is)
    ∙ ap (λ (k : ℕ). claims_from (n + 1) (drop k (machine_of qs))) (let s : n + 1 ≡ suc n = omega arith in s)
    ∙ ap (claims_from (n + 1)) (sym (drop-machine-set qs n y))
    ∙ ap (λ (k : ℕ). claims_from (n + 1) (drop k (machine_of (set qs n y)))) (let s : suc n ≡ n + 1 = omega arith in s)

-- what the seat of a CPU knows at the start
pub knows-first : (t : Terms) (cpu : ℕ) (claims : List Claim) → IsOnTerms t [] → claims ≡ Past [] ∷ Seat cpu [] ∷ [] → KnowsOwn t cpu claims
knows-first t cpu claims begun is = subst (KnowsOwn t cpu) (sym is) (record {
  claims_are = refl;
  known = record { kept = begun; tell = (([], refl), (refl, tt)); once = few };
})
  where
    at-most : (b : Bool) → once b ≤ 1
    at-most true = omega arith
    at-most false = omega arith

    few : (k : Subject) → times k (Past [] ∷ Seat cpu [] ∷ []) ≤ 1
    few (seat c) = omega (arith, at-most (cpu == c))
    few (queue c) = omega arith
    few journal = omega arith

pub first-record : (quota : Option ℕ) (lines : Vec Line Global) (room : ℕ) → lines.items ≡ [] → room ≡ quota_in quota → room ≤ vec_capacity lines → IsRecord quota [] lines room
first-record None lines room none is enough = (none, is)
first-record (Some most) lines room none is enough = (none, omega (arith, is), omega (arith, is, enough))

pub fresh-log-of : (quota cpu room : ℕ) (claims : List Claim) → claims ≡ Past [] ∷ Seat cpu [] ∷ [] → room ≡ quota
    → ◌≡◌ {A = SeatLog} (record { cpu = cpu; lines = own_in claims; room = room; seen = seen_in claims }) (fresh_log quota cpu)
fresh-log-of quota cpu room claims is e =
    ap (λ (cs : List Claim). record { cpu = cpu; lines = own_in cs; room = room; seen = seen_in cs }) is ∙ ap (λ (n : ℕ). fresh_log n cpu) e

-- no queue is left
drop-none : (qs : List View) (n : ℕ) → length qs ≤ n → drop n (machine_of qs) ≡ []
drop-none [] zero h = refl
drop-none [] (suc n) h = refl
drop-none (q ∷ qs) zero h = absurd (omega arith)
drop-none (q ∷ qs) (suc n) h = drop-none qs n (omega arith)

pub last-claims : (qs : List View) (n : ℕ) (claims : List Claim) → length qs ≤ n → claims ≡ claims_from n (drop n (machine_of qs)) → claims ≡ Journal [] ∷ []
last-claims qs n claims h is = is ∙ ap (claims_from n) (drop-none qs n h)

pub fresh-more : (quota n : ℕ) (logs more : List SeatLog) (s : SeatLog) → logs ≡ fresh_logs quota n → s ≡ fresh_log quota n → more ≡ logs ++ s ∷ [] → more ≡ fresh_logs quota (n + 1)
fresh-more quota n logs more s es e em =
    em ∙ ap (λ (l : List SeatLog). l ++ s ∷ []) es ∙ ap (λ (x : SeatLog). fresh_logs quota n ++ x ∷ []) e
    ∙ sym (map-range_with_len_more (fresh_log quota) 0 n n (omega arith))

-- the last of a list by places, and the others
pub popped : {X : Type 0} (f : ℕ → X) (n : ℕ) (xs ys : List X) (x : X) → xs ≡ map f (range_with_len 0 n) → xs ≡ ys ++ x ∷ []
    → (n ≡ length ys + 1) × (ys ≡ map f (range_with_len 0 (length ys))) × (x ≡ f (length ys))
popped f n xs ys x is parted =
    let count : n ≡ length ys + 1 = omega (arith, ap length parted, ap length is, length-map-range_with_len f 0 n, length_push ys x) in
    let both = same_from_push ys (map f (range_with_len 0 (length ys))) x (f (length ys))
    (sym parted ∙ is ∙ ap (λ (k : ℕ). map f (range_with_len 0 k)) count ∙ map-range_with_len_more f 0 (length ys) (length ys) (omega arith)) in
    (count, both.0, both.1)

-- a list by places, last first, with the one before
pub front-more : {X : Type 0} (f : ℕ → X) (k m n : ℕ) (xs xs' : List X) (x : X) → m ≡ k + 1 → reverse xs ≡ map f (range_with_len m n) → x ≡ f k → xs' ≡ xs ++ x ∷ []
    → reverse xs' ≡ map f (range_with_len k (n + 1))
front-more f k m n xs xs' x next is here more =
    ap reverse more ∙ reverse-append xs (x ∷ []) ∙ ap (λ (l : List _). x ∷ l) (is ∙ ap (λ (j : ℕ). map f (range_with_len j n)) next) ∙ ap (λ (y : _). y ∷ map f (range_with_len (k + 1) n)) here
    ∙ ap (λ (j : ℕ). map f (range_with_len k j)) (let s : suc n ≡ n + 1 = omega arith in s)

-- the parts of a seat before anything is done
pub fresh-parts : (quota capacity cpus k : ℕ) (log : SeatLog) (p : Posts) (t : Takes) → log ≡ fresh_log quota k → p ≡ no_posts capacity cpus k → t ≡ no_takes cpus k → k < cpus → AreParts cpus log p t
fresh-parts quota capacity cpus k log p t is_log is_posts is_takes within = record {
  posts = record {
    sender_is = ap (λ (x : Posts). x.sender) is_posts ∙ sym (ap (λ (x : SeatLog). x.cpu) is_log);
    to_all = ap (λ (x : Posts). length x.posted) is_posts ∙ length-replicate cpus [];
  };
  takes = is_takes ∙ sym (no-takes cpus k) ∙ ap (λ (x : SeatLog). takes_by cpus x.cpu x.lines) (sym is_log);
  within = subst (λ (n : ℕ). n < cpus) (ap (λ (x : SeatLog). x.cpu) (sym is_log)) within;
}

pub fresh-seat : (quota capacity cpus k : ℕ) (log : SeatLog) (p : Posts) → log ≡ fresh_log quota k → p ≡ no_posts capacity cpus k → parts_of log p ≡ fresh_parts quota capacity cpus k
fresh-seat quota capacity cpus k log p is_log is_posts = ap (λ (x : SeatLog). parts_of x p) is_log ∙ ap (λ (x : Posts). parts_of (fresh_log quota k) x) is_posts
