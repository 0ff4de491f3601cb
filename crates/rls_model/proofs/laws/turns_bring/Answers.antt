use Rattle.rls_model.proofs.Exchanges.{law}
use Rattle.rls_model.proofs.laws.turns_bring.Goals as goal

pub returns : goal.returns
returns c = record { turns_bring = law }
