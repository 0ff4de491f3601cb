use Rattle.test_replicas.proofs.Taken.{taken_new}
use Rattle.test_replicas.proofs.documents.replace.Goals as goal

pub insert_runs-requires-clause-new : goal.insert_runs-requires-clause-new
insert_runs-requires-clause-new g c =
    rw (c.in_ok-runs.ensures.same, c.in_ok-removed.ensures.ok) (taken_new c.args.idents.now (g.D.Document.entries c.args.document.now))
