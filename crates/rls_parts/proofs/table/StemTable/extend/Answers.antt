use Rattle.rls_parts.proofs.Tabled.{member_is, grows_read}
use Rattle.rls_parts.proofs.table.StemTable.extend.Goals as goal

pub returns-clause-stems : goal.returns-clause-stems
returns-clause-stems c =
    let ls = c.self.inside.lines.items in
    let there = member_is ls c.args.self.now c.args.author c.self.view_is c.requires.author in
    grows_read ls c.args.self.now c.args.author c.args.last.seq c.args.last.offset c.args.count c.index_mut.result.now c.grow.new.self c.self.view_is there c.index_mut.ensures.value c.grow.ensures.reaches
