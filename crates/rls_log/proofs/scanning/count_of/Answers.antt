use Rattle.std.proofs.lemmas.Result.{err_from_is_err_and}
use Rattle.rls_log.proofs.FoundOut.{count_found, count_passed, count_read, count_fails}
use Rattle.rls_log.proofs.scanning.count_of.Goals.{then-member-author, else-member-author}
use Rattle.rls_log.proofs.scanning.count_of.Goals as goal

pub returns-in_err-count : goal.returns-in_err-count
returns-in_err-count c =
    let p = err_from_is_err_and c.from_residual.result c.from_residual.ensures.1 in
    rw (p.1, p.2) record { read = count_fails c.args.bytes.now c.args.members c.args.author c.loop-member.member c.loop-member.found c.loop-member.rest.now c.in_err-count.field-0.0 c.loop-member-test.true c.in_err-count.ensures.read c.loop-member.invariant }

pub loop-member-preserved : goal.loop-member-preserved
loop-member-preserved c =
    elim c.if-member-author.branch [
      | then-member-author w ↦ rw w.found-is (count_found c.args.bytes.now c.args.members c.args.author c.loop-member.member c.loop-member.found c.in_ok-count.count c.loop-member.rest.now c.in_ok-count.after.now c.loop-member-test.true c.in_ok-count.ensures.read c.loop-member.invariant w.if-member-author.true)
      | else-member-author w ↦ rw w.found-is (count_passed c.args.bytes.now c.args.members c.args.author c.loop-member.member c.loop-member.found c.in_ok-count.count c.loop-member.rest.now c.in_ok-count.after.now c.loop-member-test.true c.in_ok-count.ensures.read c.loop-member.invariant w.if-member-author.false)
    ]

pub returns : goal.returns
returns c = record { read = count_read c.args.bytes.now c.args.members c.args.author c.loop-member.member c.loop-member.found c.loop-member.rest.now c.loop-member-test.false c.loop-member.invariant }
