use Rattle.rls_parts.specs.Reaches.{begun}
use Rattle.rls_parts.proofs.Tabled.{member_is, below_read, begins_read}
use Rattle.rls_parts.proofs.table.StemTable.begin.Goals as goal

pub push-requires-clause-newest : goal.push-requires-clause-newest
push-requires-clause-newest c =
    let ls = c.self.inside.lines.items in
    let there = member_is ls c.args.self.now c.args.author c.self.view_is c.requires.author in
    below_read ls c.args.self.now c.args.author c.args.seq c.index_mut.result.now c.self.view_is there c.index_mut.ensures.value c.requires.newest

pub returns-clause-stems : goal.returns-clause-stems
returns-clause-stems c =
    let ls = c.self.inside.lines.items in
    let there = member_is ls c.args.self.now c.args.author c.self.view_is c.requires.author in
    begins_read ls c.args.self.now c.args.author (begun c.args.seq c.args.count) c.index_mut.result.now c.push.new.self c.self.view_is there c.index_mut.ensures.value c.push.ensures.reaches
