use Rattle.std.proofs.Common.{ap, length, arith}
use Rattle.rls_fields.proofs.Puts.{author_total, author_none, stems_are}
use Rattle.rls_fields.proofs.write_stems.stems_len.Goals as goal

pub loop-author-preserved : goal.loop-author-preserved
loop-author-preserved c =
    let more = author_total c.args.members c.loop-author.author c.args.stems.now.stems c.loop-author-test.true in
    record { size = omega (arith, more, c.count_of.ensures.count, c.loop-author.invariant.size); fits = omega arith }

pub returns : goal.returns
returns c =
    let ss = c.args.stems.now.stems in
    record { size = omega (arith, ap length (stems_are c.args.members ss), author_none c.args.members c.loop-author.author ss c.loop-author-test.false, c.loop-author.invariant.size, c.loop-author.invariant.fits) }
