use Rattle.std.proofs.Common.{rules, ◌∙◌, sym}
use Rattle.rls_session.proofs.Counts.{ends, ends_bad, goes_on, is_bad}
use Rattle.rls_session.proofs.orders.counts.Goals as goal

pub returns-in_default-member : goal.returns-in_default-member
returns-in_default-member c = record { counts = is_bad c.loop-first.counts.items c.loop-first.rest.now c.args.digits.now _ c.loop-first.invariant.0 (sym c.in-Some.ensures.parts) (sym c.member.ensures.member ∙ c.in_default-member.is) }

pub loop-first-preserved : goal.loop-first-preserved
loop-first-preserved c = (
  rw c.in_ok-push.ensures.items (goes_on c.loop-first.counts.items c.loop-first.rest.now c.args.digits.now _ c.in-Some-member.count c.loop-first.invariant.0 (sym c.in-Some.ensures.parts) (sym c.member.ensures.member ∙ c.in-Some-member.is)),
  search rules,
)

pub returns-in_default-member-2 : goal.returns-in_default-member-2
returns-in_default-member-2 c = record { counts = ends_bad c.loop-first.counts.items c.loop-first.rest.now c.args.digits.now c.loop-first.invariant.0 (sym c.in_default.ensures.parts) (sym c.member-2.ensures.member ∙ c.in_default-member-2.is) }

pub returns : goal.returns
returns c = record { counts = rw (c.from_vec.ensures.counts, c.in_ok-push-2.ensures.items) (ends c.loop-first.counts.items c.loop-first.rest.now c.args.digits.now c.in-Some-member-2.last c.loop-first.invariant.0 (sym c.in_default.ensures.parts) (sym c.member-2.ensures.member ∙ c.in-Some-member-2.is)) }
