use Rattle.std.proofs.Common.{false}
use Rattle.rls_steps.proofs.Stretches.{one_name}
use Rattle.rls_steps.proofs.name_run.NameRun.of.Goals as goal

pub returns-clause-names : goal.returns-clause-names
returns-clause-names c = one_name false c.args.first c.args.label
