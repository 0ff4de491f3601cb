use Rattle.std.proofs.Common.{arith}
use Rattle.rls_codec.proofs.Decoded.{message_is, message_found}
use Rattle.rls_codec.proofs.messages.decode_message.Goals as goal

pub returns-clause-message : goal.returns-clause-message
returns-clause-message c = message_is c.args.bytes.now c.whole_message.result (λ i. omega (arith, c.type_inv.bytes i)) c.whole_message.ensures.decoded

pub returns-clause-found : goal.returns-clause-found
returns-clause-found c = message_found c.args.bytes.now c.whole_message.result c.whole_message.ensures.decoded
