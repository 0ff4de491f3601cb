use Rattle.std.proofs.Common.{◌∙◌, Global, List, String, ap, arith, inl, map, string_bytes}
use Rattle.rls_members.proofs.Fresh.{new_file}
use Rattle.rls_members.proofs.member.made.Goals as goal

pub returns : goal.returns
returns c =
    record { stored = λ zero. new_file c.groups_converge.ensures.groups_converge c.args.group c.args.me c.args.members c.in-Ok-new.input.left (map string_bytes c.deref.result.now) c.args.keeper.now.file c.run.new.keeper.file (omega arith) c.requires.me c.requires.most (ap (λ (ws : List (String Global)). map string_bytes ws) c.deref.ensures.value ∙ c.in-Ok.ensures.words) c.requires.empty (c.run.ensures.ends.file (inl zero)) }
