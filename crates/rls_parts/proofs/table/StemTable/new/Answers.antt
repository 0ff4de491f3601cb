use Rattle.std.proofs.Common.{[], ◌∷◌, arith, length-append}
use Rattle.rls_parts.proofs.Tabled.{empty_push, stems_empty}
use Rattle.rls_parts.proofs.table.StemTable.new.Goals as goal

pub lines-init : goal.lines-init
lines-init c = rw c.in_ok-lines.ensures.items record { count = omega arith; empty = tt }

pub lines-preserved : goal.lines-preserved
lines-preserved c =
    rw c.in_ok-push.ensures.items record {
      count = omega (arith, length-append c.lines.lines.items (c.new.result ∷ []), c.lines.invariant.count);
      empty = empty_push c.lines.lines.items c.new.result c.lines.invariant.empty c.new.ensures.empty;
    }

pub invariant_of-result : goal.invariant_of-result
invariant_of-result c = omega (arith, c.lines.invariant.count)

pub returns-clause-stems : goal.returns-clause-stems
returns-clause-stems c = stems_empty 0 c.lines.lines.items c.lines.invariant.empty
