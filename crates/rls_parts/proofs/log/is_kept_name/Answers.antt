use Rattle.std.proofs.Common.{◌∙◌}
use Rattle.rls_parts.proofs.Faults.{kept_names}
use Rattle.rls_parts.proofs.log.is_kept_name.Goals as goal

pub returns-in_default : goal.returns-in_default
returns-in_default c = record { kept = c.kept.ensures.kept ∙ kept_names c.args.parts.now c.args.epochs.now.epochs c.args.name c.requires.given c.requires.rule c.requires.epochs_are }
