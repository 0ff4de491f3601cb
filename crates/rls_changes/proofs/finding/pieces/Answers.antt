use Rattle.std.proofs.Common.{◌∙◌, arith}
use Rattle.rls_seen.specs.Seen.{idents_over}
use Rattle.rls_changes.proofs.Looking.{pieces_all}
use Rattle.rls_changes.proofs.finding.pieces.Goals as goal

pub returns : goal.returns
returns c = record {
  changes = c.pieces.invariant.so_far ∙ pieces_all (idents_over c.args.replica.now) c.args.ids.now c.args.text.now c.pieces.at c.requires.as_many (omega (arith, c.pieces-test.false, c.total-total.ensures.total));
}
