use Rattle.std.proofs.Common.{◌≡◌, ◌-◌, None}
use Rattle.rls_codec.specs.Reading.{op_at, chain_at}
use Rattle.rls_codec.proofs.Loop.{with_front}
use Rattle.rls_codec.proofs.reading.op_list.Given as goal

abbrev pub invariant-loop : goal.invariant-loop
invariant-loop l = with_front l.ops (chain_at (λ before. op_at l.members) None (l.count - l.counter) l.rest) ≡ chain_at (λ before. op_at l.members) None l.count l.bytes
