use Rattle.rls_steps.specs.Recorded.{Recorded}
use Rattle.rls_steps.proofs.Inserted.{insert_step, insert_same}
use Rattle.rls_steps.proofs.steps.Steps.insert.Goals as goal

pub returns-clause-recorded : goal.returns-clause-recorded
returns-clause-recorded c =
    let w : Recorded = record { epoch = c.self.inside.epoch; next = c.self.inside.next; names = c.self.inside.names; past = c.self.inside.past.items; future = c.self.inside.future.items; group = c.self.inside.group; overfull = c.self.inside.overfull; after_sweep = c.self.inside.after_sweep } in
    let e = c.in_ok-seq.ensures in
    (insert_step c.args.edit.now c.args.count c.args.replica.now c.insert.new.replica c.args.self.now w c.insert.new.next c.insert.new.names c.insert.new.stack.items c.clear.new.self.items c.requires.insertion c.self.view_is c.requires.greatest c.clear.ensures.items e.after e.given e.named e.stack).recorded

pub returns-clause-exact : goal.returns-clause-exact
returns-clause-exact c =
    let w : Recorded = record { epoch = c.self.inside.epoch; next = c.self.inside.next; names = c.self.inside.names; past = c.self.inside.past.items; future = c.self.inside.future.items; group = c.self.inside.group; overfull = c.self.inside.overfull; after_sweep = c.self.inside.after_sweep } in
    let e = c.in_ok-seq.ensures in
    (insert_step c.args.edit.now c.args.count c.args.replica.now c.insert.new.replica c.args.self.now w c.insert.new.next c.insert.new.names c.insert.new.stack.items c.clear.new.self.items c.requires.insertion c.self.view_is c.requires.greatest c.clear.ensures.items e.after e.given e.named e.stack).exact

pub returns-clause-epochs : goal.returns-clause-epochs
returns-clause-epochs c = insert_same c.args.edit.now c.args.count c.args.replica.now c.insert.new.replica c.requires.insertion c.in_ok-seq.ensures.after
