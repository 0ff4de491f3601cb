use Rattle.rls_codec.proofs.MessageFormats as laws
use Rattle.rls_codec.proofs.laws.places.Goals as goal

pub returns : goal.returns
returns c = record { begins = laws.op_from_again; read = laws.op_from_takes }
