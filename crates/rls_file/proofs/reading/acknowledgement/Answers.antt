use Rattle.std.proofs.Common.{None}
use Rattle.std.specs.Int.{w32}
use Rattle.rls_codec.specs.Reading.{number_at}
use Rattle.rls_file.proofs.Events.{length-chain}
use Rattle.rls_file.proofs.reading.acknowledgement.Goals as goal

pub returns-clause-counts : goal.returns-clause-counts
returns-clause-counts c = length-chain (λ before. number_at w32) None c.args.members c.in_ok-from.rest.now c.in_ok-vector.vector c.in_ok-vector.rest.now c.in_ok-vector.ensures.read
