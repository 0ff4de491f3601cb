use Rattle.rls_codec.proofs.MessageFormats as laws
use Rattle.rls_codec.proofs.laws.operations.Goals as goal

pub returns : goal.returns
returns c = record { spelled = laws.op_again; read = laws.op_takes }
