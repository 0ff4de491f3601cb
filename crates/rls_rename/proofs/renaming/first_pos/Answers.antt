use Rattle.std.proofs.Common.{drop, ◌+◌}
use Rattle.rls_rename.specs.Renaming.{first_pos}
use Rattle.rls_rename.proofs.Made.{read_pos}
use Rattle.rls_rename.proofs.renaming.first_pos.Goals as goal

pub returns-in-Some : goal.returns-in-Some
returns-in-Some c =
    let id = c.args.id.now in
    let t = c.tuple.result in
    record { first_pos = read_pos id c.loop-i.i (first_pos id) _ t c.tuple.ensures.found c.loop-i.invariant (c.in-Some.ensures.some (drop (c.loop-i.i + 1) id)) }

pub loop-i-preserved : goal.loop-i-preserved
loop-i-preserved c =
    let id = c.args.id.now in
    let t = c.tuple.result in
    read_pos id c.loop-i.i (first_pos id) (first_pos (drop (c.loop-i.i + 1) id)) t c.tuple.ensures.found c.loop-i.invariant (c.in_default.ensures.none (drop (c.loop-i.i + 1) id))
