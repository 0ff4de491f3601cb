use Rattle.rls_seen.proofs.Keeping.{dropped_stands}
use Rattle.rls_seen.proofs.Dropped.{dropped_sane}
use Rattle.rls_seen.proofs.Numbers.{kept_operations_dropped, kept_epochs_dropped, kept_former_dropped}
use Rattle.rls_seen.proofs.laws.dropped.Goals as goal

pub returns : goal.returns
returns c = record { stands = dropped_stands; sane = λ s h. (dropped_sane s h, kept_operations_dropped s, kept_epochs_dropped s h, kept_former_dropped s) }
