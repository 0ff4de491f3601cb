use Rattle.std.proofs.Common.{sym}
use Rattle.rls_parts.proofs.Faults.{names_differ}
use Rattle.rls_parts.proofs.retained.names_eq.Goals as goal

pub returns-then-list-names : goal.returns-then-list-names
returns-then-list-names c = record { equal = sym (names_differ c.args.list.now c.args.names.now c.if-list-names.true) }
