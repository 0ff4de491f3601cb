use Rattle.std.proofs.Common.{◌∙◌, sym, ap, length}
use Rattle.rls_parts.proofs.Owned.{own_read, map_count}
use Rattle.rls_parts.proofs.Tabled.{member_is}
use Rattle.rls_parts.proofs.table.StemTable.count_of.Goals as goal

pub returns : goal.returns
returns c =
    let ls = c.self.inside.lines.items in
    let own = own_read ls c.args.self.now c.args.author c.index.result.now c.self.view_is (member_is ls c.args.self.now c.args.author c.self.view_is c.requires.author) c.index.ensures in
    record { count = c.count.ensures.count ∙ sym (ap length own ∙ map_count c.args.author c.index.result.now.reaches) }
