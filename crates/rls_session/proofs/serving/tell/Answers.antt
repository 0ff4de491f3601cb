use Rattle.rls_session.proofs.Served.{told_none}
use Rattle.rls_session.proofs.serving.tell.Goals as goal

pub returns-in-Ok-clause-line : goal.returns-in-Ok-clause-line
returns-in-Ok-clause-line g c = told_none c.args.ending _ _ _ c.in-Ok.is
