use Rattle.std.proofs.Common.{map, string_bytes}
use Rattle.rls_io.specs.Device.{Rose}
use Rattle.rls_stages.specs.Endings.{Writes}
use Rattle.rls_top.specs.Due.{due}
use Rattle.rls_top.proofs.Closing.{command_ends}
use Rattle.rls_top.proofs.Headlines.{means_so}
use Rattle.rls_top.proofs.Statuses.{line_so}
use Rattle.rls_top.proofs.command.run.Goals as goal

pub returns-clause-ends : goal.returns-clause-ends
returns-clause-ends g c = command_ends (map string_bytes c.args.words.now) c.perform-ending.result c.tell.result c.args.keeper.now c.perform-ending.new.keeper c.args.input.now c.perform-ending.new.input c.args.output.now c.perform-ending.new.output c.tell.ensures.status c.perform-ending.ensures.ends

pub returns-clause-line : goal.returns-clause-line
returns-clause-line g c =
    line_so (Writes (Rose (g.E.Sink.faults c.args.errors.now) (g.E.Sink.faults c.tell.new.errors)) (g.E.Sink.told c.args.errors.now) (g.E.Sink.told c.tell.new.errors))
    (due (map string_bytes c.args.words.now) (g.K.Keeper.file c.args.keeper.now) (g.S.Source.left c.args.input.now)) c.perform-ending.result c.tell.result c.tell.ensures.status c.perform-ending.ensures.ends.due c.tell.ensures.line

pub returns-clause-means : goal.returns-clause-means
returns-clause-means g c = means_so (map string_bytes c.args.words.now) c.tell.result c.args.keeper.now c.perform-ending.new.keeper c.args.input.now c.perform-ending.new.input c.args.output.now c.perform-ending.new.output (returns-clause-ends g c) (returns-clause-line g c)

pub returns-clause-performs : goal.returns-clause-performs
returns-clause-performs g c = c.perform-ending.ensures.performs c.tell.result c.tell.ensures.status
