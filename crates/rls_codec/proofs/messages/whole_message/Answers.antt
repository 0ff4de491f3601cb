use Rattle.rls_codec.proofs.Within.{message}
use Rattle.rls_codec.proofs.messages.whole_message.Goals as goal

pub overflow_sub-result : goal.overflow_sub-result
overflow_sub-result c = message.rest c.args.bytes.now c.in-Ok.message c.in-Ok.rest.now c.in-Ok.ensures.read

pub overflow_sub-result-in-Err-Fault : goal.overflow_sub-result-in-Err-Fault
overflow_sub-result-in-Err-Fault c =
    let e = rw c.in-Err-Fault.field-0-is at c.in-Err-Fault.ensures.read in
    message.left c.args.bytes.now c.in-Err-Fault.left e
