use Rattle.std.proofs.Common.{⊎_elim, ap, arith}
use Rattle.std.specs.Prelude.{Err}
use Rattle.rls_world.proofs.trials.three_members.Goals as goal

pub unreachable-requires : goal.unreachable-requires
unreachable-requires c =
    let not = (c.in-Err-Members.ensures.members c.in-Err-Members.field-0-0).0 (ap Err c.in-Err-Members.field-0-is) in
    ⊎_elim (λ h. omega arith) (λ h. omega arith) not.1
