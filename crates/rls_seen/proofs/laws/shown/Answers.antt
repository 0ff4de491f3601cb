use Rattle.rls_seen.proofs.Alike.{greatest_alike}
use Rattle.rls_seen.proofs.Editing.{idents_alike}
use Rattle.rls_seen.proofs.Keeping.{text_alike}
use Rattle.rls_seen.proofs.laws.shown.Goals as goal

pub returns : goal.returns
returns c = record { alike = λ s t h. (text_alike s t h, idents_alike s t h, greatest_alike s t h, h.vector) }
