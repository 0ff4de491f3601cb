use Rattle.std.proofs.Common.{◌<◌, ◌≤◌, ◌∙◌, List, ℕ, Err, ap, arith, subst}
use Rattle.rls_codec.specs.CodecLaws.{IsMessage}
use Rattle.rls_seen.specs.Messages.{message_over}
use Rattle.rls_seen.specs.Seen.{members}
use Rattle.rls_replica.specs.declared.taking.SendError.TheVariants.{NotMember}
use Rattle.rls_top.proofs.Pieces.{is_sent, is_not_sent, ok_is_not_err}
use Rattle.rls_top.proofs.showing.show_message.Goals as goal

pub returns-in-Ok-clause-due : goal.returns-in-Ok-clause-due
returns-in-Ok-clause-due c =
    let no : members c.args.replica.now ≤ c.args.to → ⊥ = λ h. ok_is_not_err c.in-Ok.bytes NotMember (c.in-Ok.ensures.not_member.1 h) in
    let some : c.args.to < members c.args.replica.now = omega (arith, no) in
    is_sent c.showing.result c.in-Ok.bytes.items c.args.replica.now c.args.to c.showing.ensures.made c.in-Ok.ensures.bytes some

pub returns-in-Ok-clause-sent : goal.returns-in-Ok-clause-sent
returns-in-Ok-clause-sent c = subst (λ (b : List ℕ). IsMessage b (message_over c.args.replica.now c.args.to)) c.in-Ok.ensures.bytes (c.in-Ok.ensures.message c.requires.writable.log)

pub returns-in-Err-NotMember-clause-due : goal.returns-in-Err-NotMember-clause-due
returns-in-Err-NotMember-clause-due c =
    let yes : members c.args.replica.now ≤ c.args.to = c.message_bytes.ensures.not_member.0 (c.in-Err-NotMember.is ∙ ap Err c.in-Err-NotMember.field-0-is) in
    is_not_sent c.args.replica.now c.args.to yes
