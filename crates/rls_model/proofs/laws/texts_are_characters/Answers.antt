use Rattle.rls_model.proofs.Characters as laws
use Rattle.rls_model.proofs.laws.texts_are_characters.Goals as goal

pub returns : goal.returns
returns c = record { texts_are_characters = laws.text_chars }
