use Rattle.std.proofs.Common.{Err, ap, ◌∙◌}
use Rattle.rls_rename.proofs.pairing.Pairing.back_gap.Goals as goal

pub back_below-requires : goal.back_below-requires
back_below-requires c = record { gap = c.requires.gap ∙ ap Err c.if-gap-eq0.true }
