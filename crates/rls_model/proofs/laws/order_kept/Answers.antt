use Rattle.rls_rename.proofs.Laws as laws
use Rattle.rls_model.proofs.laws.order_kept.Goals as goal

pub returns : goal.returns
returns c = record { order_kept = laws.order_kept }
