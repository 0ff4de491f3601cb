use Rattle.std.proofs.Common.{◌∙◌, sym, subst}
use Rattle.rls_model.specs.Receiving.{release_after}
use Rattle.rls_seen.specs.Seen.{Seen}
use Rattle.rls_seen.specs.Stands.{StandsFor}
use Rattle.rls_seen.proofs.Releasing.{released_stands}
use Rattle.rls_replica.proofs.KeptNames.{names_unchanged, released_names}
use Rattle.rls_replica.proofs.Told.{no_steps, released_step}
use Rattle.rls_replica.proofs.replica.Replica.release_watched.Goals as goal

pub returns-clause-stands : goal.returns-clause-stands
returns-clause-stands g c = λ t h.
    let e = c.in_ok-release.ensures in
    let law = released_stands c.args.self.now t h in
    (e.answer ∙ law.0, subst (λ (s : Seen). StandsFor s (release_after t)) (sym e.after) law.1)

pub returns-in_err-release-clause-names : goal.returns-in_err-release-clause-names
returns-in_err-release-clause-names g c = names_unchanged c.args.self.now _ c.in_err-release.ensures.err

pub returns-clause-names : goal.returns-clause-names
returns-clause-names g c = rw c.in_ok-release.ensures.after (released_names c.args.self.now)

pub returns-in_err-release-clause-steps : goal.returns-in_err-release-clause-steps
returns-in_err-release-clause-steps g c = no_steps g.W.Watcher.tells _ _ _ _ c.in_err-release.ensures.err c.in_err-release.ensures.untold

pub returns-clause-steps : goal.returns-clause-steps
returns-clause-steps g c = released_step g.W.Watcher.tells _ _ _ _ c.sane.ensures.sane c.in_ok-release.ensures.after c.in_ok-release.ensures.told
