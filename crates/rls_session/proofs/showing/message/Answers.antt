use Rattle.std.proofs.Common.{◌∙◌, List, ℕ, Err, ap, arith, subst}
use Rattle.rls_codec.specs.CodecLaws.{IsMessage}
use Rattle.rls_replica.specs.declared.taking.SendError.TheVariants as SendError
use Rattle.rls_seen.specs.Messages.{message_over}
use Rattle.rls_session.proofs.Answered.{ok_is_not_err, on_any, on_ok, sent_bytes, sent_none}
use Rattle.rls_session.proofs.showing.message.Goals as goal

pub returns-in-Ok : goal.returns-in-Ok
returns-in-Ok c =
    let s = c.args.replica.now in
    record {
      reply = on_ok c.counted.result _ _ (λ reply e. e ∙ sent_bytes s c.args.to c.deref.result.now (c.deref.ensures.value ∙ c.in-Ok.ensures.bytes) (λ h. ok_is_not_err c.in-Ok.bytes SendError.NotMember (c.in-Ok.ensures.not_member.1 h))) c.counted.ensures.text;
      message = λ w. on_any c.counted.result _ (λ below. subst (λ (bytes : List ℕ). IsMessage bytes (message_over s c.args.to)) c.in-Ok.ensures.bytes (c.in-Ok.ensures.message w.log));
    }

pub returns-in-Err-NotMember : goal.returns-in-Err-NotMember
returns-in-Err-NotMember c =
    let s = c.args.replica.now in
    let yes = c.message_bytes.ensures.not_member.0 (c.in-Err-NotMember.is ∙ ap Err c.in-Err-NotMember.field-0-is) in
    record {
      reply = on_ok c.failed.result _ _ (λ reply e. e ∙ sent_none s c.args.to yes) c.failed.ensures.text;
      message = λ w. on_any c.failed.result _ (λ below. absurd (omega (arith, below, yes)));
    }
