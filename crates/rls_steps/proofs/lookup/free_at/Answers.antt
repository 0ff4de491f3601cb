use Rattle.rls_steps.proofs.RunLookups.{IsAbout, above_short}
use Rattle.rls_steps.proofs.FreeRuns.{free_run, not_there}
use Rattle.rls_steps.proofs.lookup.free_at.Goals as goal

pub outside_in-requires-clause-within : goal.outside_in-requires-clause-within
outside_in-requires-clause-within c = above_short c.args.runs.now c.args.firsts.now.entries c.args.key.now c.run_above.result c.requires.firsts c.run_above.ensures.above

pub returns-clause-some : goal.returns-clause-some
returns-clause-some c = c.in_ok-count.ensures.some (not_there c.args.runs.now c.run_above.result c.args.key.now.ident c.in_ok-count.count c.in_ok-count.ensures.outside c.requires.none)

pub returns-clause-free : goal.returns-clause-free
returns-clause-free c =
    let about : IsAbout c.args.runs.now c.args.firsts.now.entries = record { apart = c.requires.apart; sound = c.requires.sound; firsts = c.requires.firsts } in
    free_run c.args.runs.now c.args.firsts.now.entries c.args.key.now c.run_above.result c.in_ok-count.count about c.last-last.ensures.ident c.run_above.ensures.above c.in_ok-count.ensures.outside c.requires.none
