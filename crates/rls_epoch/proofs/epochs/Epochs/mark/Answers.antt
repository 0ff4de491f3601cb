use Rattle.std.proofs.Common.{ap, ◌∙◌, arith}
use Rattle.std.specs.Prelude.{◌||◌}
use Rattle.rls_ident.specs.EpochNames.{name_eq}
use Rattle.rls_epoch.specs.Seen.{EpochsSeen, is_marked}
use Rattle.rls_epoch.proofs.Whole.{marks_set}
use Rattle.rls_epoch.proofs.epochs.Epochs.mark.Goals as goal

pub returns-clause-marks : goal.returns-clause-marks
returns-clause-marks c =
    let s = c.self.inside in
    let n = c.number_of-number in
    let within = n.ensures.within in
    rw c.plain.ensures.mark λ e. marks_set s.tree.nodes.top s.tree.nodes.placed s.marks.items n.result c.args.name e n.ensures.number (omega (arith, within, c.self.invariant.marks_whole))
    ∙ ap (λ (x : EpochsSeen). name_eq c.args.name e || is_marked x.marks e) c.self.view_is
