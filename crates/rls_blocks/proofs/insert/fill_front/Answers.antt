use Rattle.std.proofs.Common.{ap, ◌∙◌}
use Rattle.rls_ident.specs.Identifiers.{follows}
use Rattle.rls_runs.specs.Runs.{run_last}
use Rattle.rls_runs.proofs.RunOrder.{run_some}
use Rattle.rls_blocks.specs.Trees.{Piece}
use Rattle.rls_blocks.proofs.Cases.{joined_last}
use Rattle.rls_blocks.proofs.insert.fill_front.Goals as goal

pub grow-requires-clause-may : goal.grow-requires-clause-may
grow-requires-clause-may c =
    let b = c.args.last.now in
    let m = c.args.middle in
    let is = ap (λ (p : Piece). p.0) c.in_ok-run.ensures.both in
    ap (λ r. follows c.args.first.now.0.0 (run_last r)) is ∙ ap (follows c.args.first.now.0.0) (joined_last b.0 m.0 (run_some b.0 c.len-last.ensures.piece.sound) (run_some m.0 c.len-middle.ensures.piece.sound) c.requires.ends) ∙ c.requires.begins
