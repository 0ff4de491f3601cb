use Rattle.std.proofs.Common.{length, sym, ap, ◌∙◌, refl, subst}
use Rattle.rls_ops.specs.Rows.{AcksSeen}
use Rattle.rls_seen.specs.Kept.{parts_over}
use Rattle.rls_seen.specs.Sane.{IsSane}
use Rattle.rls_seen.specs.Stands.{StandsFor}
use Rattle.rls_blocks.specs.Trees.{entries_of}
use Rattle.rls_parts.specs.Given.{AreRanged}
use Rattle.rls_parts.specs.Restored.{seen_of}
use Rattle.rls_parts.specs.Rules.{broken}
use Rattle.rls_parts.proofs.Passing.{passes}
use Rattle.rls_parts.proofs.RestoredLog.{held_restored}
use Rattle.rls_parts.proofs.RestoredParts.{back}
use Rattle.rls_parts.proofs.RestoredSane.{sane}
use Rattle.rls_parts.proofs.StandsAgain.{stand}
use Rattle.rls_replica.proofs.GivenPieces.{seen_so}
use Rattle.rls_replica.proofs.Answered.{held_in_order}
use Rattle.rls_replica.proofs.replica.Replica.from_tested.Goals as goal

pub text_and_waiting-requires-clause-order : goal.text_and_waiting-requires-clause-order
text_and_waiting-requires-clause-order c =
    let p = c.args.parts in
    let made = c.requires.made in
    (held_in_order (length p.vector) p.vector p.held (held_restored p c.requires.given c.fit.ensures.ranged.held (passes p made.unbroken).held))

pub invariant_of-result : goal.invariant_of-result
invariant_of-result c =
    let p = c.args.parts in
    let a = c.args.tested in
    let made = c.requires.made in
    let same = seen_so p a.acks (a.stems).stems (a.epochs).epochs (entries_of c.in_ok-document.document.blocks) c.in_ok-document.held c.args.parts.log made.acks made.stems made.epochs c.in_ok-document.ensures.text c.in_ok-document.ensures.held refl in
    record {
      sane = subst IsSane (sym same) (sane p c.requires.given c.fit.ensures.ranged made.unbroken);
      authors_are = made.members ∙ (sym c.requires.given.vector ∙ sym (ap (λ (x : AcksSeen). length x.mine) made.acks));
      gone_are = tt;
      known_are = tt;
    }

pub returns-clause-replica : goal.returns-clause-replica
returns-clause-replica c =
    let a = c.args.tested in
    let made = c.requires.made in
    seen_so c.args.parts a.acks (a.stems).stems (a.epochs).epochs (entries_of c.in_ok-document.document.blocks) c.in_ok-document.held c.args.parts.log made.acks made.stems made.epochs c.in_ok-document.ensures.text c.in_ok-document.ensures.held refl

pub returns-clause-back : goal.returns-clause-back
returns-clause-back c =
    ap parts_over (returns-clause-replica c) ∙ back c.args.parts c.requires.given c.requires.made.unbroken

pub returns-clause-stands : goal.returns-clause-stands
returns-clause-stands c t l e =
    let ranged = subst AreRanged (sym e) c.fit.ensures.ranged in
    subst (λ s. StandsFor s t) (sym (returns-clause-replica c)) (subst (λ q. StandsFor (seen_of q) t) e (stand t l ranged (ap broken e ∙ c.requires.made.unbroken)))
