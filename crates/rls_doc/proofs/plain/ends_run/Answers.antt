use Rattle.rls_doc.proofs.Places.{run_ends}
use Rattle.rls_doc.proofs.plain.ends_run.Goals as goal

pub returns-in-None : goal.returns-in-None
returns-in-None c = record { ends = run_ends c.args.entries.now c.args.i c.requires.place c.in-None.ensures.lookup.3 }
