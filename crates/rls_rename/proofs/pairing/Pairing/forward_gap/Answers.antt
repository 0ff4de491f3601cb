use Rattle.std.proofs.Common.{Err, ap, ◌∙◌}
use Rattle.rls_rename.proofs.pairing.Pairing.forward_gap.Goals as goal

pub forward_below-requires : goal.forward_below-requires
forward_below-requires c = record { gap = c.requires.gap ∙ ap Err c.if-gap-eq0.true }
