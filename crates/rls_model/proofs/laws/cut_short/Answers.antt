use Rattle.rls_model.proofs.CutShort as laws
use Rattle.rls_model.proofs.laws.cut_short.Goals as goal

pub returns : goal.returns
returns c = record { cut_short = laws.cut_short }
