use Rattle.std.proofs.lemmas.Result.{err_from_is_err_and}
use Rattle.rls_fields.proofs.ReadOn.{stems_on, stems_end, stems_done}
use Rattle.rls_fields.proofs.read_stems.stems.Goals as goal

pub returns-in_err-after : goal.returns-in_err-after
returns-in_err-after c =
    let p = err_from_is_err_and c.from_residual.result c.from_residual.ensures.1 in
    rw (p.1, p.2) record { read = stems_end c.args.form c.args.members c.loop-author.author c.loop-author.stems c.loop-author.rest.now _ c.in_err-after.field-0.0 c.loop-author-test.true c.in_err-after.ensures.read c.loop-author.invariant }

pub loop-author-preserved : goal.loop-author-preserved
loop-author-preserved c =
    stems_on c.args.form c.args.members c.loop-author.author c.loop-author.stems c.loop-author.rest.now _ c.own_stems.new.stems c.in_ok-after.after.now c.loop-author-test.true c.in_ok-after.ensures.read c.loop-author.invariant

pub returns : goal.returns
returns c = record { read = stems_done c.args.form c.args.members c.loop-author.author c.loop-author.stems c.loop-author.rest.now _ c.loop-author-test.false c.loop-author.invariant }
