use Rattle.std.proofs.Common.{refl, ap, sym, ◌∙◌, ◌++◌}
use Rattle.rls_ops.specs.declared.message.Message.{Message}
use Rattle.rls_replica.specs.Watching.{taken_told}
use Rattle.rls_replica.specs.declared.taking.TakeError.TheVariants.{OtherGroup}
use Rattle.rls_sync.proofs.Groups.{refused, same_group, same_members, same_message, not_taken}
use Rattle.rls_sync.proofs.sync.take_bytes_watched.Goals as goal

pub returns-in-Ok-take_watched-clause-taken : goal.returns-in-Ok-take_watched-clause-taken
returns-in-Ok-take_watched-clause-taken g c =
    let m = c.in-Ok.message in
    let e = c.in-Ok-take_watched.ensures in
    (m, c.in-Ok.ensures.decoded, λ f. not_taken c.in-Ok-take_watched.taken (OtherGroup m.group m.members) ((e.other_group m.group m.members).1 (refl, refl, f)), e.taken, e.after)

pub returns-in-Ok-take_watched-clause-told : goal.returns-in-Ok-take_watched-clause-told
returns-in-Ok-take_watched-clause-told g c = λ m h.
    let e = c.in-Ok-take_watched.ensures in
    e.told ∙ ap (λ (x : Message). g.W.Watcher.told c.args.watcher.now ++ taken_told g.W.Watcher.tells c.args.replica.now x) (same_message c.in-Ok.message m (sym c.in-Ok.ensures.decoded ∙ h))

pub returns-in-Err-OtherGroup-clause-other_group : goal.returns-in-Err-OtherGroup-clause-other_group
returns-in-Err-OtherGroup-clause-other_group g c = λ a n h.
    let e = c.in-Err-OtherGroup.ensures in
    let is = ap refused c.in-Err-OtherGroup.field-0-is in
    let numbers = (e.other_group _ _).0 is in
    (c.in-Ok.message, c.in-Ok.ensures.decoded, numbers.2, same_group _ _ a n h ∙ numbers.0, same_members _ _ a n h ∙ numbers.1, e.foreign _ _ is)

pub returns-in-Err-OtherGroup-clause-untold_foreign : goal.returns-in-Err-OtherGroup-clause-untold_foreign
returns-in-Err-OtherGroup-clause-untold_foreign g c = λ _ _ _. c.in-Err-OtherGroup.ensures.untold _ _ (ap refused c.in-Err-OtherGroup.field-0-is)
