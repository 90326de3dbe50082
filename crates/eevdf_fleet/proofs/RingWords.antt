-- What was posted to each home and taken from each sender, after more was.
use Rattle.std.proofs.Common.{◌≡◌, ℕ, List, [], length, map, sym, ap, subst, ◌∙◌, arith}
use Rattle.std.proofs.lemmas.List.{length-map, get_or-map}
use Rattle.std.proofs.lemmas.Option.{slice_get_within, get_or_from_slice_get}
use Rattle.std.specs.Prelude.{slice_get, Some}
use Rattle.eevdf_fleet.specs.Rings.{Posted, Takes, Returned, AllReturned, AreOf, posts_at, takes_at, no_takes}
use Rattle.eevdf_fleet.proofs.RingPlaces.{got_some}

-- what seats give back, one after the other
module _ {S : Type 0} (posts_of : S → Posted) (takes_of : S → Takes) (cpus : ℕ) (seats : List S) where
  abbrev pub returned_by : Returned
  returned_by = record { cpus = cpus; posts = map posts_of seats; takes = map takes_of seats }

  pub posts-returned : (cpu : ℕ) (s : S) → slice_get seats cpu ≡ Some s → posts_at returned_by cpu ≡ posts_of s
  posts-returned cpu s got =
      get_or-map posts_of seats cpu s (record { sender = cpu; posted = [] }) (slice_get_within seats cpu s got) ∙ ap posts_of (get_or_from_slice_get seats cpu s s got)

  pub takes-returned : (cpu : ℕ) (s : S) → slice_get seats cpu ≡ Some s → takes_at returned_by cpu ≡ takes_of s
  takes-returned cpu s got =
      get_or-map takes_of seats cpu s (no_takes 0 cpu) (slice_get_within seats cpu s got) ∙ ap takes_of (get_or_from_slice_get seats cpu s s got)

  pub all-returned : length seats ≡ cpus → ((cpu : ℕ) (s : S) → slice_get seats cpu ≡ Some s → AreOf cpus cpu (posts_of s) (takes_of s)) → AllReturned returned_by
  all-returned all each = record {
    senders = length-map seats posts_of ∙ all;
    homes = length-map seats takes_of ∙ all;
    each = λ cpu within. let s = got_some seats cpu (omega arith) in
        subst (λ (p : Posted). AreOf cpus cpu p (takes_at returned_by cpu)) (sym (posts-returned cpu s.0 s.1))
        (subst (λ (t : Takes). AreOf cpus cpu (posts_of s.0) t) (sym (takes-returned cpu s.0 s.1)) (each cpu s.0 s.1));
  }
