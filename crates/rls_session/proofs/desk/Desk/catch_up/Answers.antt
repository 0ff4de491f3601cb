use Rattle.std.proofs.Common.{◌∙◌, Err, ap}
use Rattle.rls_session.proofs.Resumed.{none_dropped}
use Rattle.rls_session.proofs.Whole.{whole_caught_up}
use Rattle.rls_session.proofs.desk.Desk.catch_up.Goals as goal

pub unreachable-requires : goal.unreachable-requires
unreachable-requires c =
    let s = c.self.inside in
    let e = c.in-Err-Dropped in
    let d = (c.catch_up.ensures.dropped e._epoch).0 (e.is ∙ ap Err e.field-0-is) in
    none_dropped s.replica s.undo e._epoch (c.self.invariant).undoable d.1

pub invariant_of-self : goal.invariant_of-self
invariant_of-self c = let s = c.self.inside in whole_caught_up c.catch_up.result s.replica s.undo c.catch_up.new.self s.cursors c.catch_up.ensures.entries c.catch_up.ensures.stays c.self.invariant
