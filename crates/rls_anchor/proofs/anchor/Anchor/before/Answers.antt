use Rattle.rls_anchor.proofs.Places.{before_at, before_stands}
use Rattle.rls_anchor.proofs.anchor.Anchor.before.Goals as goal

pub returns-in-Ok-clause-there : goal.returns-in-Ok-clause-there
returns-in-Ok-clause-there c = rw c.greatest.ensures.greatest (before_at c.args.replica.now c.args.at c.in-Ok.id c.sane.ensures.sane c.in-Ok.ensures.ident)

pub returns-in-Ok-clause-stands : goal.returns-in-Ok-clause-stands
returns-in-Ok-clause-stands c = λ t h. rw c.greatest.ensures.greatest (before_stands c.args.replica.now t c.args.at c.in-Ok.id c.sane.ensures.sane c.in-Ok.ensures.ident h)
