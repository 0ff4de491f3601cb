use Rattle.std.proofs.Common.{vec_len, ap, ◌∙◌}
use Rattle.rls_epoch.specs.Seen.{marks_of}
use Rattle.rls_epoch.proofs.Whole.{marks_none}
use Rattle.rls_epoch.proofs.epochs.Epochs.clear_marks.Goals as goal

pub returns-clause-marks : goal.returns-clause-marks
returns-clause-marks c =
    let s = c.self.inside in
    ap (marks_of s.tree.nodes.top s.tree.nodes.placed) (rw c.none.ensures.mark at (c.fill.ensures.items (λ y e. e))) ∙ marks_none s.tree.nodes.top s.tree.nodes.placed (vec_len s.marks)
