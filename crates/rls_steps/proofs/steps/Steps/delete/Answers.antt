use Rattle.std.proofs.Common.{ap, ◌∙◌}
use Rattle.rls_model.specs.declared.edit.Edit.TheVariants as edits
use Rattle.rls_steps.specs.Grounds.{over, recorded_on}
use Rattle.rls_steps.specs.Recorded.{Recorded}
use Rattle.rls_steps.proofs.Grounded.{delete_exact}
use Rattle.rls_steps.proofs.Returned.{delete_step}
use Rattle.rls_steps.proofs.steps.Steps.delete.Goals as goal

pub returns-clause-recorded : goal.returns-clause-recorded
returns-clause-recorded c =
    let w : Recorded = record { epoch = c.self.inside.epoch; next = c.self.inside.next; names = c.self.inside.names; past = c.self.inside.past.items; future = c.self.inside.future.items; group = c.self.inside.group; overfull = c.self.inside.overfull; after_sweep = c.self.inside.after_sweep } in
    delete_step c.args.replica.now c.delete.new.replica c.args.self.now w c.delete.new.next c.delete.new.names c.delete.new.stack.items c.clear.new.self.items c.args.at c.args.count c.self.view_is c.requires.greatest c.delete.ensures.epochs c.clear.ensures.items c.in_ok-seq.ensures.held c.in_ok-seq.ensures.stack

pub returns-clause-exact : goal.returns-clause-exact
returns-clause-exact c =
    let w : Recorded = record { epoch = c.self.inside.epoch; next = c.self.inside.next; names = c.self.inside.names; past = c.self.inside.past.items; future = c.self.inside.future.items; group = c.self.inside.group; overfull = c.self.inside.overfull; after_sweep = c.self.inside.after_sweep } in
    let s = c.args.replica.now in
    delete_exact s c.delete.new.replica w.epoch w.next c.delete.new.next w.names c.delete.new.names w.past c.delete.new.stack.items w.future c.clear.new.self.items w.group w.overfull w.after_sweep c.args.at c.args.count
    (ap (λ (x : Recorded). x.epoch) c.self.view_is ∙ c.requires.greatest) c.in_ok-seq.ensures.held c.in_ok-seq.ensures.stack c.clear.ensures.items ∙ ap (λ (x : Recorded). recorded_on over s (edits.Delete c.args.at c.args.count) x) c.self.view_is
