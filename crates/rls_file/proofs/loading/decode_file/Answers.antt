use Rattle.std.proofs.Common.{arith}
use Rattle.rls_file.proofs.Loaded.{loads_bytes}
use Rattle.rls_file.proofs.loading.decode_file.Goals as goal

pub returns : goal.returns
returns c = record { loads = loads_bytes _ _ (λ i. omega (arith, c.type_inv.bytes i)) c.load.ensures.loads }
