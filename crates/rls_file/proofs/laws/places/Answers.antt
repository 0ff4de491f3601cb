use Rattle.rls_file.proofs.Places as laws
use Rattle.rls_file.proofs.laws.places.Goals as goal

pub returns : goal.returns
returns c = record { places = laws.places_of_broken }
