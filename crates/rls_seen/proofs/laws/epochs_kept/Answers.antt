use Rattle.rls_seen.proofs.Fitting.{facts, name_new}
use Rattle.rls_seen.proofs.laws.epochs_kept.Goals as goal

pub returns : goal.returns
returns c = record { kept = λ s o h m. let f = facts s o m in (f.kept, name_new s o h f) }
