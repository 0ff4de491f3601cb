use Rattle.rls_steps.proofs.RunLookups.{IsAbout, labels_found, labels_are, below_short, above_short}
use Rattle.rls_steps.proofs.lookup.labels_at.Goals as goal

pub returns-in-Some-clause-labels : goal.returns-in-Some-clause-labels
returns-in-Some-clause-labels c = labels_found c.args.runs.now c.newest_run.result c.args.key.now.ident c.in-Some.labels c.requires.apart c.in-Some.ensures.labels

pub labels_in-requires-2-clause-within : goal.labels_in-requires-2-clause-within
labels_in-requires-2-clause-within c = below_short c.args.runs.now c.args.firsts.now.entries c.args.key.now c.run_below.result c.requires.firsts c.run_below.ensures.below

pub labels_in-requires-in-None-clause-within : goal.labels_in-requires-in-None-clause-within
labels_in-requires-in-None-clause-within c = above_short c.args.runs.now c.args.firsts.now.entries c.args.key.now c.run_above.result c.requires.firsts c.run_above.ensures.above

pub returns-in-Some-labels_in-clause-labels : goal.returns-in-Some-labels_in-clause-labels
returns-in-Some-labels_in-clause-labels c = labels_found c.args.runs.now c.run_below.result c.args.key.now.ident c.in-Some-labels_in.labels c.requires.apart c.in-Some-labels_in.ensures.labels

pub returns-in-None-clause-labels : goal.returns-in-None-clause-labels
returns-in-None-clause-labels c =
    let about : IsAbout c.args.runs.now c.args.firsts.now.entries = record { apart = c.requires.apart; sound = c.requires.sound; firsts = c.requires.firsts } in
    labels_are c.args.runs.now c.args.firsts.now.entries c.args.key.now c.run_below.result c.run_above.result c.labels_in-in-None.result about c.last-last.ensures.ident c.run_below.ensures.below c.run_above.ensures.above c.in-None.ensures.labels
    c.labels_in-in-None.ensures.labels
