use Rattle.std.proofs.Common.{rules}
use Rattle.eevdf_workload.specs.Fronts.{member_key, HasTaken}
use Rattle.eevdf_workload.proofs.ReadingFronts.{front_found, holds_nothing, holds_taken, next_member, nothing, taken_alone, unread, with}
use Rattle.eevdf_workload.proofs.reading.front.front_of.Goals as goal

pub members-init : goal.members-init
members-init c = (search rules, nothing, holds_nothing, unread c.args.text.now)

pub members-preserved : goal.members-preserved
members-preserved c =
    let l = c.members in
    let before = l.front in
    let values = l.invariant.1 in
    let holds = l.invariant.2 in
    let start = c.skip_blank-start.ensures.rest in
    let member = c.in-Some.member in
    let (d, line_is, member_is) = rw (c.in-Some.is, start) at c.in_ok-member.ensures.value in
    let shorter = rw (c.in-Some.is, start) at c.in_ok-member.ensures.shorter in
    let taken : HasTaken member before c.takes.new.self = search rules in (
      search rules,
      with (member_key member) d values,
      holds_taken values d before _ member taken holds member_is,
      next_member values c.args.text.now before.left.now c.in-Some.after.now (member_key member) d l.invariant.3 (taken_alone values d before _ member taken holds) line_is shorter (rw start at c.skip_blank-start.ensures.within),
    )

pub returns-in_default-clause-value : goal.returns-in_default-clause-value
returns-in_default-clause-value c =
    let l = c.members in
    front_found l.invariant.1 c.args.text.now l.front _ l.invariant.2 l.invariant.3 c.unmarked.ensures.same c.unmarked.ensures.text c.unmarked.ensures.left
