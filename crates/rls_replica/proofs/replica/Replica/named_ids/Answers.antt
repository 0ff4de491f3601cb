use Rattle.std.proofs.Common.{◌∙◌, sym}
use Rattle.rls_replica.specs.View.{seen}
use Rattle.rls_replica.proofs.Noting.{names_of}
use Rattle.rls_replica.proofs.Targets.{unstable_seen}
use Rattle.rls_replica.proofs.replica.Replica.named_ids.Goals as goal

pub translate_runs-requires-clause-from : goal.translate_runs-requires-clause-from
translate_runs-requires-clause-from c = c.self.invariant.sane.unstable c.args.op.now (unstable_seen c.args.op.now c.self.view_is c.requires.logged (sym c.is_stable.ensures.covered ∙ c.if-is_stable.false))

pub returns : goal.returns
returns c = record { named = names_of (seen c.self.inside) c.args.self.now c.args.to c.args.op.now c.in-Delete.targets c.in_ok-ids.ids c.self.view_is c.in-Delete.is c.total-total.ensures.idents c.in_ok-ids.ensures.translated }
