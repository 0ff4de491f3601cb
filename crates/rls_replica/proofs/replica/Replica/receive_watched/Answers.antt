use Rattle.std.proofs.Common.{◌∙◌, false, sym, subst, refl}
use Rattle.rls_model.specs.Receiving.{receive_after}
use Rattle.rls_seen.specs.Seen.{Seen}
use Rattle.rls_seen.specs.Over.{answer_over}
use Rattle.rls_seen.specs.Stands.{StandsFor}
use Rattle.rls_seen.proofs.Receiving.{received_is, received_stands}
use Rattle.rls_replica.proofs.KeptNames.{names_unchanged, received_names}
use Rattle.rls_replica.proofs.Told.{no_steps, received_step}
use Rattle.rls_replica.proofs.replica.Replica.receive_watched.Goals as goal

pub returns-clause-after : goal.returns-clause-after
returns-clause-after g c = c.in_ok-receipt.ensures.after ∙ received_is c.args.self.now c.args.op (answer_over false c.args.self.now c.args.op) refl

pub returns-clause-stands : goal.returns-clause-stands
returns-clause-stands g c = λ t h.
    let law = received_stands c.args.self.now t c.args.op c.in_ok-receipt.ensures.whole h in
    (c.in_ok-receipt.ensures.answer ∙ law.0, subst (λ (s : Seen). StandsFor s (receive_after t c.args.op)) (sym (returns-clause-after g c)) law.1)

pub returns-in_err-receipt-clause-names : goal.returns-in_err-receipt-clause-names
returns-in_err-receipt-clause-names g c = names_unchanged c.args.self.now _ c.in_err-receipt.ensures.err

pub returns-clause-names : goal.returns-clause-names
returns-clause-names g c = rw (returns-clause-after g c) (received_names c.args.self.now c.args.op)

pub returns-in_err-receipt-clause-steps : goal.returns-in_err-receipt-clause-steps
returns-in_err-receipt-clause-steps g c = no_steps g.W.Watcher.tells _ _ _ _ c.in_err-receipt.ensures.err c.in_err-receipt.ensures.untold

pub returns-clause-steps : goal.returns-clause-steps
returns-clause-steps g c = received_step g.W.Watcher.tells _ _ c.args.op _ _ c.sane.ensures.sane c.in_ok-receipt.ensures.whole (returns-clause-after g c) c.in_ok-receipt.ensures.told
