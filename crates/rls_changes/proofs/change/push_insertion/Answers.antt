use Rattle.std.proofs.Common.{refl}
use Rattle.rls_changes.specs.declared.change.Change.TheVariants.{Insert, Delete}
use Rattle.rls_changes.proofs.Joining.{pushed_joined, pushed_apart}
use Rattle.rls_changes.proofs.change.push_insertion.Goals as goal

pub returns-in_ok-push_both-in-Insert : goal.returns-in_ok-push_both-in-Insert
returns-in_ok-push_both-in-Insert c =
    record { ok = pushed_joined c.pop.new.self.items c.args.changes.now.items c.push_both.new.changes.items c.in-Some.last (Insert c.in-Insert.first c.in-Insert.before) (Insert c.args.at c.args.text) c.in-Some.ensures.items c.in-Insert.is c.in_ok-push_both-in-Insert.ensures.ok }

pub returns-in_ok-push-in-Delete-2 : goal.returns-in_ok-push-in-Delete-2
returns-in_ok-push-in-Delete-2 c =
    record { ok = pushed_apart c.pop.new.self.items c.args.changes.now.items c.push-in-Delete.new.self.items c.push-in-Delete-2.new.self.items c.in-Some.last (Delete c.in-Delete.first c.in-Delete.count) (Insert c.args.at c.args.text) c.in-Some.ensures.items c.in-Delete.is c.in_ok-push-in-Delete.ensures.items c.in_ok-push-in-Delete-2.ensures.items refl }
