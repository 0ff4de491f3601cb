use Rattle.std.proofs.Common.{replicate, arith}
use Rattle.rls_parts.proofs.Faults.{own_so}
use Rattle.rls_parts.proofs.rows.others.Goals as goal

pub returns : goal.returns
returns c =
    let p = c.args.parts.now in
    let n = c.requires.given.rows in
    let m = c.requires.given.me in
    record {
      rows = own_so p.me c.loop-row.row-index c.in_ok-zero.field-0 (replicate p.members 0) c.as_slice-rows.result.now p.rows c.loop-row.others.items c.insert.new.self.items c.as_slice-rows.ensures.items c.loop-row.invariant c.loop-row-test.false (omega arith) c.in_ok-zero.ensures.zero c.in_ok-insert.ensures.items;
    }
