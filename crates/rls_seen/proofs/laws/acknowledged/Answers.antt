use Rattle.rls_seen.proofs.Noting.{acknowledged_alike, acknowledged_stands}
use Rattle.rls_seen.proofs.Staying.{acknowledged_sane}
use Rattle.rls_seen.proofs.laws.acknowledged.Goals as goal

pub returns : goal.returns
returns c = record { stands = λ s t a v m w h. (acknowledged_alike s t a v m h, acknowledged_stands s t a v m w h); sane = acknowledged_sane }
