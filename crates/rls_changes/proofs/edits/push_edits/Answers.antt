use Rattle.rls_changes.proofs.Edited.{next_told}
use Rattle.rls_changes.proofs.edits.push_edits.Goals as goal

pub edits-preserved : goal.edits-preserved
edits-preserved c =
    let i = c.edits.invariant in
    let e = c.in_ok-push_own.ensures in
    let n = next_told c.args.edits.now c.index-edits-i.result c.edits.i c.args.changes.now.items c.edits.changes.items c.push_own.new.changes.items c.edits-test.true c.index-edits-i.is i.whole e.whole i.told e.ok in
    record { told = n.0; whole = n.1 }
