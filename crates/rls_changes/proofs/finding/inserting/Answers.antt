use Rattle.rls_changes.proofs.Looking.{insert_found, there_length}
use Rattle.rls_changes.proofs.finding.inserting.Goals as goal

pub pieces-requires-clause-as_many : goal.pieces-requires-clause-as_many
pieces-requires-clause-as_many c =
    there_length c.args.replica.now c.args.epoch c.args.first.now c.args.text.now c.len.result c.in_ok-ids.ids c.in-Ok.there c.len.ensures.len c.in_ok-ids.ensures.runs c.in-Ok.ensures.runs

pub returns : goal.returns
returns c =
    record { changes = insert_found c.args.replica.now c.args.epoch c.args.first.now c.args.text.now c.len.result c.in_ok-ids.ids c.in-Ok.there c.in_ok-changes.changes.items c.len.ensures.len c.in_ok-ids.ensures.runs c.in-Ok.ensures.runs c.in_ok-changes.ensures.changes }
