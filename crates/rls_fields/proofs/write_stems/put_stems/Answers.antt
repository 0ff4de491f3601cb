use Rattle.std.proofs.Common.{◌∙◌, ◌++◌, sym, ap}
use Rattle.rls_fields.proofs.Puts.{few_own, author_next, authors_end, stems_are}
use Rattle.rls_fields.proofs.write_stems.put_stems.Goals as goal

pub put_own-requires-clause-few : goal.put_own-requires-clause-few
put_own-requires-clause-few c = few_own c.loop-author.author c.args.stems.now.stems c.requires.few

pub loop-author-preserved : goal.loop-author-preserved
loop-author-preserved c =
    author_next c.args.members c.loop-author.author c.args.stems.now.stems c.loop-author.out.items c.put_own.new.out.items _ c.loop-author-test.true c.in_ok-put_own.ensures.ok c.loop-author.invariant

pub returns : goal.returns
returns c =
    let ss = c.args.stems.now.stems in
    record { ok = authors_end c.args.members c.loop-author.author ss c.loop-author.out.items _ c.loop-author-test.false c.loop-author.invariant ∙ ap (λ w. c.args.out.now.items ++ w) (sym (stems_are c.args.members ss)) }
