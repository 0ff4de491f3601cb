use Rattle.std.proofs.Common.{◌∙◌, List, ◌++◌, ap, sym, refl, arith}
use Rattle.rls_changes.specs.declared.change.Change.{Change}
use Rattle.rls_changes.specs.declared.change.Change.TheVariants.{Insert, Delete}
use Rattle.rls_changes.proofs.Joining.{pushed_joined, pushed_apart, joined_deletes, apart_deletes, deleted_old}
use Rattle.rls_changes.proofs.change.push_deletion.Goals as goal

pub overflow_add-before : goal.overflow_add-before
overflow_add-before c =
    let w = deleted_old c.pop.new.self.items c.args.changes.now.items c.in-Some.last c.in-Delete.first c.in-Delete.before c.in-Some.ensures.items c.in-Delete.is in
    omega (arith, w, c.requires.room)

pub returns-then-first-at : goal.returns-then-first-at
returns-then-first-at c =
    record {
      ok = pushed_joined c.pop.new.self.items c.args.changes.now.items c.push-then-first-at.new.self.items c.in-Some.last (Delete c.in-Delete.first c.in-Delete.before) (Delete c.args.at c.args.count) c.in-Some.ensures.items c.in-Delete.is
          (c.in_ok-push-in-Delete.ensures.items ∙ ap (λ (zs : List Change). c.pop.new.self.items ++ zs) (sym (joined_deletes c.in-Delete.first c.args.at c.in-Delete.before c.args.count c.if-first-at.true)));
    }

pub returns-in_ok-push-in-Insert-2 : goal.returns-in_ok-push-in-Insert-2
returns-in_ok-push-in-Insert-2 c =
    record { ok = pushed_apart c.pop.new.self.items c.args.changes.now.items c.push-in-Insert.new.self.items c.push-in-Insert-2.new.self.items c.in-Some.last (Insert c.in-Insert.first c.in-Insert.text) (Delete c.args.at c.args.count) c.in-Some.ensures.items c.in-Insert.is c.in_ok-push-in-Insert.ensures.items c.in_ok-push-in-Insert-2.ensures.items refl }

pub returns-in_ok-push-in-Delete-3 : goal.returns-in_ok-push-in-Delete-3
returns-in_ok-push-in-Delete-3 c =
    record { ok = pushed_apart c.pop.new.self.items c.args.changes.now.items c.push-in-Delete.new.self.items c.push-in-Delete-2.new.self.items c.in-Some.last (Delete c.in-Delete.first c.in-Delete.before) (Delete c.args.at c.args.count) c.in-Some.ensures.items c.in-Delete.is c.in_ok-push-in-Delete-2.ensures.items c.in_ok-push-in-Delete-3.ensures.items (apart_deletes c.in-Delete.first c.args.at c.in-Delete.before c.args.count c.if-first-at.false) }
