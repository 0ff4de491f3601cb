use Rattle.rls_seen.proofs.Keeping.{retained_alike, counts_alike, parts_alike}
use Rattle.rls_seen.proofs.laws.numbers.Goals as goal

pub returns : goal.returns
returns c = record { alike = λ s t h. (retained_alike s t h, counts_alike s t h, parts_alike s t h) }
