use Rattle.std.proofs.Common.{◌≡◌, ◌+◌, length}
use Rattle.std.specs.Iterator.Adapters.{enumerate_source, enumerate_count}
use Rattle.std.specs.Vec.Iter.{into_iter_items, into_iter_len}
use Rattle.rls_replica.specs.Steps.{CountsReleased, course}
use Rattle.rls_stages.specs.Lines.{read_line}
use Rattle.rls_top.specs.Scripts.{run_script}
use Rattle.rls_model.specs.Machine.{run_on}
use Rattle.rls_seen.specs.Messages.{by_parts}
use Rattle.rls_top.proofs.editing.perform_lines.Given as goal

-- the lines that are left do what is left of the run
abbrev pub invariant-loop-i : goal.invariant-loop-i
invariant-loop-i l = record {
  counted : CountsReleased l.replica l.taken;
  run : run_on by_parts read_line (enumerate_count l.i-iterator + 1) (course l.replica l.taken) (into_iter_items (enumerate_source l.i-iterator)) ≡ run_script l.fn.replica l.fn.lines;
  left : into_iter_len (enumerate_source l.i-iterator) ≡ length (into_iter_items (enumerate_source l.i-iterator));
}
