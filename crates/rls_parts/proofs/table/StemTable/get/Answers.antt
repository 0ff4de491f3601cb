use Rattle.std.proofs.Common.{◌∙◌, sym, arith}
use Rattle.rls_parts.proofs.Tabled.{found_read, none_read}
use Rattle.rls_parts.proofs.table.StemTable.get.Goals as goal

pub returns-then-author-len : goal.returns-then-author-len
returns-then-author-len c = record { stem = sym (none_read c.self.inside.lines.items c.args.self.now c.args.author c.args.s0 c.self.view_is (omega arith)) }

pub returns : goal.returns
returns c =
    record { stem = c.stem.ensures.stem ∙ sym (found_read c.self.inside.lines.items c.args.self.now c.args.author c.args.s0 c.index.result.now c.self.view_is (omega arith) c.index.ensures) }
