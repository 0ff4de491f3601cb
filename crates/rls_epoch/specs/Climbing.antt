-- The order of two epochs, by the children of the epoch at which their ways up meet.
use Rattle.std.specs.Prelude.{Option, Some, None}
use Rattle.std.specs.declared.cmp.Ordering.{Ordering}
use Rattle.std.specs.declared.cmp.Ordering.TheVariants.{Less, Equal, Greater}
use Rattle.std.specs.Ordering.{nat_cmp, ordering_then}
use Rattle.rls_ident.specs.declared.epoch_name.EpochName.{EpochName}
use Rattle.rls_ident.specs.declared.epoch_name.EpochName.TheVariants.{Origin, Of}

-- by replica, then by number
abbrev pub name_cmp : EpochName → EpochName → Ordering
name_cmp Origin Origin = Equal
name_cmp Origin (Of r s) = Less
name_cmp (Of r s) Origin = Greater
name_cmp (Of r s) (Of q t) = ordering_then (nat_cmp r q) (nat_cmp s t)

-- by the children of one epoch below which two others lie, if they aren't that epoch itself
abbrev pub side_cmp : Option EpochName → Option EpochName → Ordering
side_cmp None None = Equal
side_cmp None (Some f) = Less
side_cmp (Some e) None = Greater
side_cmp (Some e) (Some f) = name_cmp e f
