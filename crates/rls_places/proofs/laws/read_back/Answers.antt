use Rattle.rls_places.proofs.OneWord.{are_one_word}
use Rattle.rls_places.proofs.ReadBack as places
use Rattle.rls_places.proofs.laws.read_back.Goals as goal

pub returns : goal.returns
returns c = record { word = are_one_word; back = places.read_back; located = places.located_back }
