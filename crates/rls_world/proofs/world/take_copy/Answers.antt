use Rattle.std.proofs.Common.{◌∙◌, ⊎_elim, ap}
use Rattle.std.specs.Prelude.{Err}
use Rattle.rls_ops.specs.declared.message.Message.{Message}
use Rattle.rls_world.proofs.world.take_copy.Goals as goal

pub unreachable-requires : goal.unreachable-requires
unreachable-requires c =
    let foreign = (c.in-Err-OtherGroup.ensures.other_group c.in-Err-OtherGroup.field-0-0 c.in-Err-OtherGroup.field-0-1).0 (ap Err c.in-Err-OtherGroup.field-0-is) in
    let same = c.in-Ok.ensures.copy in
    ⊎_elim (λ h. h (ap (λ (m : Message). m.group) same ∙ c.requires.group)) (λ h. h (ap (λ (m : Message). m.members) same ∙ c.requires.members)) foreign.2
