use Rattle.rls_seen.proofs.Releasing.{released_stands, released_all_stands}
use Rattle.rls_seen.proofs.Staying.{released_sane, released_all_sane}
use Rattle.rls_seen.proofs.laws.released.Goals as goal

pub returns : goal.returns
returns c = record { stands = released_stands; all = released_all_stands; sane = λ s h. (released_sane s h, released_all_sane s h) }
