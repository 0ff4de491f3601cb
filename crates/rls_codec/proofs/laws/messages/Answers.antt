use Rattle.rls_codec.proofs.MessageFormats as laws
use Rattle.rls_codec.proofs.laws.messages.Goals as goal

pub returns : goal.returns
returns c = record { spelled = laws.message_again; read = laws.message_takes }
