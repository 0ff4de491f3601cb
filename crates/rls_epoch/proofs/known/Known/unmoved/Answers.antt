use Rattle.rls_epoch.specs.Seen.{nodes_of}
use Rattle.rls_epoch.proofs.KnownRuns.{run_unmoved}
use Rattle.rls_epoch.proofs.known.Known.unmoved.Goals as goal

pub returns : goal.returns
returns c = rw c.in_ok-image.ensures.copy record { known = run_unmoved (nodes_of c.args.nodes.now) c.requires.nodes c.args.epoch c.args.run c.len-len.ensures.run }
