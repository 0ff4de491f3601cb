use Rattle.rls_io.specs.Device.{Rose}
use Rattle.rls_stages.specs.Endings.{Writes}
use Rattle.rls_session.specs.Due.{due, line_at}
use Rattle.rls_session.specs.Endings.{line_of}
use Rattle.rls_session.proofs.Histories.{history_serves}
use Rattle.rls_session.proofs.Served.{line_written}
use Rattle.rls_session.proofs.serving.serve.Goals as goal

pub returns-clause-ends : goal.returns-clause-ends
returns-clause-ends g c = c.perform-ending.ensures.ends c.tell.result c.tell.ensures.status

pub returns-clause-session : goal.returns-clause-session
returns-clause-session g c = λ t bytes given file stands left fit.
    history_serves c.tell.result (g.K.Keeper.file c.args.keeper.now) (g.K.Keeper.file c.perform-ending.new.keeper) (g.S.Source.left c.args.input.now) (g.W.Sink.told c.args.output.now) (g.W.Sink.told c.perform-ending.new.output)
    t bytes given ((returns-clause-ends g c).ends) file stands left fit

pub returns-clause-line : goal.returns-clause-line
returns-clause-line g c =
    line_written (line_at (due (g.K.Keeper.file c.args.keeper.now) (g.S.Source.left c.args.input.now)) c.tell.result) (line_of c.perform-ending.result c.tell.result)
    (Writes (Rose (g.E.Sink.faults c.args.errors.now) (g.E.Sink.faults c.tell.new.errors)) (g.E.Sink.told c.args.errors.now) (g.E.Sink.told c.tell.new.errors))
    (c.perform-ending.ensures.line c.tell.result c.tell.ensures.status) c.tell.ensures.line

pub returns-clause-performs : goal.returns-clause-performs
returns-clause-performs g c = c.perform-ending.ensures.performs c.tell.result c.tell.ensures.status
