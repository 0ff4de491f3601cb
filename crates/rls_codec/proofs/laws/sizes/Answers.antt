use Rattle.rls_codec.proofs.SizeLaws as laws
use Rattle.rls_codec.proofs.laws.sizes.Goals as goal

pub returns : goal.returns
returns c = record { operations = laws.op_length; messages = laws.message_length }
