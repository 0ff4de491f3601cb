use Rattle.std.proofs.Common.{[], arith}
use Rattle.rls_members.proofs.Fresh.{led_from}
use Rattle.rls_members.proofs.members.Members.new.Goals as goal

pub invariant_of-result : goal.invariant_of-result
invariant_of-result c = ([], led_from c.args.group c.args.members c.in_ok-files.files.items c.new.result.items c.in_ok-files.ensures.all c.new.ensures.items (omega arith) c.requires.some c.requires.most)

pub returns-clause-begins : goal.returns-clause-begins
returns-clause-begins c = led_from c.args.group c.args.members c.in_ok-files.files.items c.new.result.items c.in_ok-files.ensures.all c.new.ensures.items (omega arith) c.requires.some c.requires.most
