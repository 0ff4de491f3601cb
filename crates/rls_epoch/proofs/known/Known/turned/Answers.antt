use Rattle.rls_epoch.specs.Seen.{nodes_of}
use Rattle.rls_epoch.proofs.KnownRuns.{run_turned}
use Rattle.rls_epoch.proofs.known.Known.turned.Goals as goal

pub returns : goal.returns
returns c =
    let k = c.args.self.now in
    rw (c.in_ok-copy.ensures.copy, c.in_ok-copy-2.ensures.copy) record { known = run_turned (nodes_of c.args.nodes.now) c.requires.nodes k.from k.to k.run k.image c.len-len.ensures.run c.requires.known }
