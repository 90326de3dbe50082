use Rattle.std.proofs.Common.{length, map, ap, sym, ◌∙◌, arith}
use Rattle.eevdf_fleet.specs.RingEnds.{posted_into}
use Rattle.std.proofs.lemmas.Result.{on_err_weaker}
use Rattle.eevdf_fleet.proofs.{MarkedItems.grows-tasks, MarkedItems.pushed-marked}
use Rattle.eevdf_fleet.proofs.RingEnds.{claimed-more, free-after, free-at, none-fits, post-follows, posted-at, posts-more, posts-same, producers-set, pushed-mark}
use Rattle.eevdf_fleet.proofs.RingPlaces.{err_both, ok_both}
use Rattle.eevdf_fleet.proofs.rings.producer_ends.Producers.post.Goals as goal

pub returns-then-self-eq0-clause-full : goal.returns-then-self-eq0-clause-full
returns-then-self-eq0-clause-full g c = rw (← c.self.view_is) (none-fits _ c.self.inside.sender c.self.inside.ends.items c.args.home (omega arith))

pub returns-then-self-eq0-clause-free : goal.returns-then-self-eq0-clause-free
returns-then-self-eq0-clause-free g c =
    rw (← c.self.view_is) (λ some. absurd (omega (arith, some, none-fits c.self.inside.capacity c.self.inside.sender c.self.inside.ends.items c.args.home (omega arith))))

pub push-requires-clause-posts : goal.push-requires-clause-posts
push-requires-clause-posts g c = record { sender = c.self.inside.sender; lists = map posted_into c.self.inside.ends.items; are = c.self.invariant.3 }

pub push-requires-clause-follows : goal.push-requires-clause-follows
push-requires-clause-follows g c = λ r task token none sent.
    post-follows c.args.home c.args.task _ c.self.invariant.0 (rw (← c.self.view_is) at c.requires.home) c.index_mut.ensures.value
    g.N.Names.kit.board g.N.Names.kit.terms c.self.invariant.4 c.self.invariant.5 c.requires.at_home _ c.self.invariant.3 r task token none sent

pub invariant_of-self : goal.invariant_of-self
invariant_of-self g c = (
  producers-set _ _ _ c.self.invariant.0 c.index_mut.ensures.value c.push.ensures.ring (λ before. omega (arith, c.push.ensures.room))
      (λ marked. pushed-marked _ c.push.result c.push.ensures.accepted c.push.ensures.refused marked),
  c.self.invariant.1,
  c.push.ensures.token,
  claimed-more _ _ _ _ _ _ c.push.result _ _ (rw (← c.self.view_is) at c.requires.home) c.index_mut.ensures.value
      (pushed-mark _ _ c.self.invariant.0 (rw (← c.self.view_is) at c.requires.home) c.index_mut.ensures.value)
      c.push.ensures.accepted c.push.ensures.refused c.self.invariant.3 c.push.ensures.posted c.push.ensures.not_posted,
  c.self.invariant.4,
  c.self.invariant.5,
)

pub returns-clause-accepted : goal.returns-clause-accepted
returns-clause-accepted g c =
    let within = rw (← c.self.view_is) at c.requires.home in
    let marked = pushed-mark _ _ c.self.invariant.0 within c.index_mut.ensures.value in
    rw (← c.self.view_is) (ok_both c.push.result c.push.ensures.accepted c.push.ensures.fewer
    (λ grows fewer. posts-more _ _ _ _ _ _ within c.index_mut.ensures.value _ (grows-tasks marked grows) fewer))

pub returns-clause-refused : goal.returns-clause-refused
returns-clause-refused g c =
    rw (← c.self.view_is) (err_both c.push.result c.push.ensures.refused (err_both c.push.result c.push.ensures.none_free c.push.ensures.full (λ none full. none ∙ sym full))
    (λ same free. posts-same _ _ _ _ _ _ (rw (← c.self.view_is) at c.requires.home) c.index_mut.ensures.value same free))

pub returns-clause-full : goal.returns-clause-full
returns-clause-full g c =
    on_err_weaker c.push.result
    (λ full. omega (arith, full, free-after c.self.inside.capacity c.self.inside.sender c.self.inside.ends.items c.args.home _ c.push.new.producer (rw (← c.self.view_is) at c.requires.home) c.index_mut.ensures.value))
    c.push.ensures.full

pub returns-clause-room : goal.returns-clause-room
returns-clause-room g c =
    let within = rw (← c.self.view_is) at c.requires.home in
    rw (← c.self.view_is) (λ few. c.push.ensures.free (free-at _ _ c.self.invariant.0 within c.index_mut.ensures.value
    (omega (arith, few, ap length (posted-at c.self.inside.capacity c.self.inside.sender c.self.inside.ends.items c.args.home _ c.push.new.producer within c.index_mut.ensures.value)))))
