use Rattle.std.proofs.Common.{sym}
use Rattle.std.specs.Prelude.{reverse}
use Rattle.rls_steps.specs.NameRuns.{named}
use Rattle.rls_steps.proofs.RunLookups.{first_label}
use Rattle.rls_steps.proofs.lookup.label_at.Goals as goal

pub returns-in-None : goal.returns-in-None
returns-in-None c = record { label = sym c.in-None.ensures.labels }

pub returns-in-Some : goal.returns-in-Some
returns-in-Some c = record { label = sym (first_label (reverse (named c.args.runs.now)) c.args.key.now.ident c.in-Some.label c.in-Some.field-0-1 c.in-Some.ensures.some c.in-Some.ensures.labels) }
