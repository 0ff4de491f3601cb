use Rattle.std.proofs.Common.{◌∙◌, Global, List, String, ap, map, string_bytes}
use Rattle.rls_io.specs.Memory.{SourceState}
use Rattle.rls_top.specs.Words.{command_of}
use Rattle.rls_members.proofs.Numerals.{take_is}
use Rattle.rls_members.proofs.Taken.{may_take}
use Rattle.rls_members.proofs.members.Members.take.Goals as goal

pub command-requires-clause-given : goal.command-requires-clause-given
command-requires-clause-given g c = may_take c.args.self.now c.args.number (map string_bytes c.deref.result.now) c.in_ok-input.input.left c.message.result.now (ap (λ (s : SourceState). s.left) c.in_ok-input.ensures.fresh) c.message.ensures.message

pub returns-clause-takes : goal.returns-clause-takes
returns-clause-takes g c = c.command.ensures.clean.takes (ap (λ (ws : List (String Global)). command_of (map string_bytes ws)) c.deref.ensures.value ∙ (ap command_of c.in_ok-words.ensures.words ∙ take_is))
