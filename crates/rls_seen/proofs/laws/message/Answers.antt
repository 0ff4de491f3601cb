use Rattle.rls_seen.proofs.Sending.{message_alike, told_alike}
use Rattle.rls_seen.proofs.laws.message.Goals as goal

pub returns : goal.returns
returns c = record { alike = message_alike; told = told_alike }
