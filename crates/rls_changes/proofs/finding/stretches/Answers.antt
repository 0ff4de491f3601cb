use Rattle.std.proofs.Common.{◌∙◌, arith}
use Rattle.rls_seen.specs.Seen.{idents_over}
use Rattle.rls_changes.proofs.Looking.{none_yet, none_gone, stretches_all}
use Rattle.rls_changes.proofs.finding.stretches.Goals as goal

pub stretches-init : goal.stretches-init
stretches-init c = record {
  within = omega arith;
  so_far = c.new-changes.ensures.items ∙ none_yet (idents_over c.args.replica.now) c.args.targets.now;
  gone = none_gone (idents_over c.args.replica.now) c.args.targets.now;
}

pub returns : goal.returns
returns c = record {
  changes = c.stretches.invariant.so_far ∙ stretches_all (idents_over c.args.replica.now) c.args.targets.now c.stretches.at (omega (arith, c.stretches-test.false, c.total-total.ensures.total));
}
