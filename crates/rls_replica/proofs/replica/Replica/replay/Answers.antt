use Rattle.std.proofs.Common.{◌∙◌, true, sym, subst, refl}
use Rattle.rls_model.specs.Receiving.{replay_after}
use Rattle.rls_seen.specs.Seen.{Seen}
use Rattle.rls_seen.specs.Over.{answer_over}
use Rattle.rls_seen.specs.Stands.{StandsFor}
use Rattle.rls_seen.proofs.Receiving.{replayed_is, replayed_stands}
use Rattle.rls_replica.proofs.KeptNames.{names_unchanged, replayed_names}
use Rattle.rls_replica.proofs.replica.Replica.replay.Goals as goal

pub returns-clause-after : goal.returns-clause-after
returns-clause-after c = c.in_ok-receipt.ensures.after ∙ replayed_is c.args.self.now c.args.op (answer_over true c.args.self.now c.args.op) refl

pub returns-clause-stands : goal.returns-clause-stands
returns-clause-stands c = λ t h.
    let law = replayed_stands c.args.self.now t c.args.op c.in_ok-receipt.ensures.whole h in
    (c.in_ok-receipt.ensures.answer ∙ law.0, subst (λ (s : Seen). StandsFor s (replay_after t c.args.op)) (sym (returns-clause-after c)) law.1)

pub returns-in_err-receipt-clause-names : goal.returns-in_err-receipt-clause-names
returns-in_err-receipt-clause-names c = names_unchanged c.args.self.now _ c.in_err-receipt.ensures.err

pub returns-clause-names : goal.returns-clause-names
returns-clause-names c = rw (returns-clause-after c) (replayed_names c.args.self.now c.args.op)
