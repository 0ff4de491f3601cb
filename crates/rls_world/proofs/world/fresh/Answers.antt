use Rattle.std.proofs.Common.{⊎_elim, ap, arith}
use Rattle.std.specs.Prelude.{Err}
use Rattle.rls_world.proofs.world.fresh.Goals as goal

pub unreachable-requires : goal.unreachable-requires
unreachable-requires c =
    let not = (c.in-Err-Members.ensures.members c.in-Err-Members.field-0-0).0 (ap Err c.in-Err-Members.field-0-is) in
    let some = c.requires.some in
    let most = c.requires.most in
    ⊎_elim (λ h. omega arith) (λ h. omega arith) not.1

pub unreachable-requires-in-Err-Me : goal.unreachable-requires-in-Err-Me
unreachable-requires-in-Err-Me c =
    let not = (c.in-Err-Me.ensures.me c.in-Err-Me.field-0-0).0 (ap Err c.in-Err-Me.field-0-is) in
    let me = c.requires.me in
    let most = not.1.2 in
    omega arith
