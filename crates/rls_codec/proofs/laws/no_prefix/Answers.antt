use Rattle.rls_codec.proofs.MessageFormats as laws
use Rattle.rls_codec.proofs.laws.no_prefix.Goals as goal

pub returns : goal.returns
returns c = record { no_prefix = laws.op_alone }
