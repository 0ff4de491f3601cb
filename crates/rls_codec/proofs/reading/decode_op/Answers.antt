use Rattle.std.proofs.Common.{arith}
use Rattle.rls_codec.proofs.Decoded.{op_is, op_found}
use Rattle.rls_codec.proofs.reading.decode_op.Goals as goal

pub returns-clause-op : goal.returns-clause-op
returns-clause-op c = op_is c.args.members c.args.bytes.now c.args.from c.placed_op.result c.requires.place (λ i. omega (arith, c.type_inv.bytes i)) c.placed_op.ensures.decoded

pub returns-clause-found : goal.returns-clause-found
returns-clause-found c = op_found c.args.members c.args.bytes.now c.args.from c.placed_op.result c.requires.place c.placed_op.ensures.decoded
