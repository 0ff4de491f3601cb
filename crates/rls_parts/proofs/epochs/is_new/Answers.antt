use Rattle.std.proofs.Common.{ap, ◌∙◌}
use Rattle.std.specs.Prelude.{not}
use Rattle.rls_parts.proofs.Building.{kept_is}
use Rattle.rls_parts.proofs.epochs.is_new.Goals as goal

pub returns : goal.returns
returns c = record { new = ap not c.kept.ensures.kept ∙ kept_is c.args.parts.now c.args.i c.args.tree.now.epochs c.requires.tree_is c.args.name }
