use Rattle.rls_seen.proofs.Receiving.{received_stands, replayed_stands}
use Rattle.rls_seen.proofs.Staying.{received_sane, replayed_sane}
use Rattle.rls_seen.proofs.laws.received.Goals as goal

pub returns : goal.returns
returns c = record { stands = received_stands; replayed = replayed_stands; sane = λ s o h w r. (received_sane s o h w r, replayed_sane s o h w r) }
