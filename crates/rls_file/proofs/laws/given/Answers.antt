use Rattle.rls_file.proofs.GivenParts as laws
use Rattle.rls_file.proofs.laws.given.Goals as goal

pub returns : goal.returns
returns c = record { given = laws.parts_are_given }
