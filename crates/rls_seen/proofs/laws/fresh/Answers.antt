use Rattle.rls_seen.proofs.Starting.{fresh_stands}
use Rattle.rls_seen.proofs.Staying.{fresh_sane}
use Rattle.rls_seen.proofs.laws.fresh.Goals as goal

pub returns : goal.returns
returns c = record { stands = fresh_stands; sane = fresh_sane }
