use Rattle.std.proofs.Common.{◌∙◌, ap, length}
use Rattle.rls_undo.proofs.Keeping.{base_others, base_put}
use Rattle.rls_undo.proofs.base.put_base.Goals as goal

pub returns-clause-base : goal.returns-clause-base
returns-clause-base c =
    base_put c.args.bases.now.items c.push.new.self.items c.args.epoch c.in_ok-id.id c.args.id.now c.in_ok-place.place c.in_ok-push.ensures.items (c.in_ok-place.ensures.place ∙ ap length c.deref-2.ensures.value) c.in_ok-id.ensures.copy

pub returns-clause-others : goal.returns-clause-others
returns-clause-others c = base_others c.args.bases.now.items c.push.new.self.items _ c.in_ok-push.ensures.items
