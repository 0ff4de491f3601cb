use Rattle.rls_parts.proofs.Tabled.{member_is, same_read, spare_read}
use Rattle.rls_parts.proofs.table.StemTable.reserve.Goals as goal

pub returns-clause-stems : goal.returns-clause-stems
returns-clause-stems c =
    let ls = c.self.inside.lines.items in
    let there = member_is ls c.args.self.now c.args.author c.self.view_is c.requires.author in
    same_read ls c.args.self.now c.args.author c.index_mut.result.now c.reserve.new.self c.self.view_is there c.index_mut.ensures.value c.reserve.ensures.same

pub returns-clause-room : goal.returns-clause-room
returns-clause-room c =
    let ls = c.self.inside.lines.items in
    let there = member_is ls c.args.self.now c.args.author c.self.view_is c.requires.author in
    rw (spare_read ls c.args.author c.reserve.new.self there) c.reserve.ensures.ok
