use Rattle.std.proofs.Common.{◌∙◌, drop, sym, subst}
use Rattle.rls_log.proofs.Contexts.{AtMostSoFar, none_compared, count_there, most_next, most_ends, most_all}
use Rattle.rls_log.proofs.Entries.{context_read, long_enough}
use Rattle.rls_log.proofs.context.is_context_at_most.Goals as goal

pub split_at-requires : goal.split_at-requires
split_at-requires c = long_enough c.args.members c.args.bytes.now c.requires.spelled

pub loop-member-init : goal.loop-member-init
loop-member-init c = subst (AtMostSoFar (drop 8 c.args.bytes.now) c.args.counts.now c.args.members 0) (sym c.split_at.ensures.back) (none_compared (drop 8 c.args.bytes.now) c.args.counts.now c.args.members)

pub first_count-count-requires : goal.first_count-count-requires
first_count-count-requires c =
    let r = context_read c.args.members c.args.bytes.now c.requires.spelled in
    record { room = count_there (drop 8 c.args.bytes.now) c.args.counts.now c.args.members c.loop-member.member c.loop-member.rest.now _ r.0 c.loop-member-test.true c.loop-member.invariant r.1 }

pub returns-then-not-is_at_most : goal.returns-then-not-is_at_most
returns-then-not-is_at_most c =
    let r = context_read c.args.members c.args.bytes.now c.requires.spelled in
    record { test = sym (most_ends (drop 8 c.args.bytes.now) c.args.counts.now c.args.members c.loop-member.member _ c.loop-member.rest.now _ _ r.0 c.loop-member-test.true c.first_count-count.ensures.read (sym c.is_at_most.ensures.test ∙ c.if-not-is_at_most.true) c.loop-member.invariant r.1) }

pub loop-member-preserved : goal.loop-member-preserved
loop-member-preserved c = most_next (drop 8 c.args.bytes.now) c.args.counts.now c.args.members c.loop-member.member _ c.loop-member.rest.now _ c.loop-member-test.true c.first_count-count.ensures.read (sym c.is_at_most.ensures.test ∙ c.if-not-is_at_most.false) c.loop-member.invariant

pub returns : goal.returns
returns c =
    let r = context_read c.args.members c.args.bytes.now c.requires.spelled in
    record { test = sym (most_all (drop 8 c.args.bytes.now) c.args.counts.now c.args.members c.loop-member.member c.loop-member.rest.now _ r.0 c.loop-member-test.false c.loop-member.invariant r.1) }
