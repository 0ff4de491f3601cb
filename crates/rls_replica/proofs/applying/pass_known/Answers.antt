use Rattle.std.proofs.Common.{◌≡◌, Option, Some, subst}
use Rattle.std.specs.Prelude.{IfSome}
use Rattle.rls_replica.specs.declared.known.Known.{Known}
use Rattle.rls_replica.specs.Known.{KeepsKnown}
use Rattle.rls_replica.proofs.applying.pass_known.Goals as goal

pub returns : goal.returns
returns c =
    let o = c.args.op.now in
    record { kept = subst (λ (was : Option Known). IfSome c.kept_known.result (λ k. (w : Known) × (was ≡ Some w) × KeepsKnown c.args.epochs.now.epochs c.args.stable.now o o.body w k)) c.take-was.ensures.value c.kept_known.ensures.kept }
