use Rattle.std.proofs.Common.{◌≡◌, replicate, length, rules}
use Rattle.std.specs.Prelude.{false}
use Rattle.rls_ops.proofs.KeptRows.{starting_rows}
use Rattle.rls_stable.proofs.rows.Rows.starting_at.Goals as goal

pub invariant_of-result : goal.invariant_of-result
invariant_of-result c =
    let e : c.in_ok-others.others.items ≡ replicate (length c.args.mine) (replicate (length c.args.mine) 0) = search rules in
    let f : c.in_ok-left.left.items ≡ replicate (length c.args.mine) false = search rules in
    rw (e, f) (starting_rows c.args.me c.args.mine c.requires.member)
