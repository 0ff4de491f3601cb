use Rattle.std.proofs.Common.{◌≡◌, ◌+◌, ◌∙◌, List, suc, length, rules, sym, ap, subst, arith}
use Rattle.std.specs.Iterator.Adapters.{enumerate_source, enumerate_count}
use Rattle.std.specs.Vec.Iter.{into_iter_items}
use Rattle.rls_model.specs.Machine.{run_on}
use Rattle.rls_replica.specs.Steps.{course}
use Rattle.rls_script.specs.declared.lines.Line.{Line}
use Rattle.rls_seen.specs.Messages.{by_parts}
use Rattle.rls_stages.specs.declared.errors.WorkError.{WorkError}
use Rattle.rls_stages.specs.Errors.{of_work}
use Rattle.rls_stages.specs.Lines.{read_line}
use Rattle.rls_top.specs.Due.{due_of_run}
use Rattle.rls_top.specs.Scripts.{run_script}
use Rattle.rls_top.specs.Stages.{EndsAs}
use Rattle.rls_top.proofs.Runs.{run_begins, run_stops, run_goes_on, run_ends, counted_on}
use Rattle.rls_top.proofs.editing.perform_lines.Goals as goal

pub loop-i-init : goal.loop-i-init
loop-i-init c = record {
  counted = rw c.new-taken.ensures.nothing (omega arith);
  run = rw (c.into_iter-i-iterator.ensures.into_iter_gives, c.enumerate-i-items.ensures.count, c.enumerate-i-items.ensures.source, c.into_iter.ensures.rest, c.into_vec.ensures.lines)
      (run_begins read_line c.args.replica.now c.new-taken.result c.args.lines c.new-taken.ensures.nothing);
  left = rw (c.into_iter-i-iterator.ensures.into_iter_gives, c.enumerate-i-items.ensures.source) (search rules);
}

pub returns-in-Err-clause-refused : goal.returns-in-Err-clause-refused
returns-in-Err-clause-refused c = λ k.
    let run = run_script c.args.replica.now c.args.lines in
    let n = enumerate_count c.loop-i.i-iterator + 1 in
    let at = course c.loop-i.replica c.loop-i.taken in
    let steps = c.in-Some.ensures.steps in
    let number : c.in-Some.i + 1 ≡ n = ap (λ i. i + 1) steps.1 in
    let here = subst (λ (ls : List Line). run_on by_parts read_line n at ls ≡ run) steps.0.0 c.loop-i.invariant.run in
    subst (λ (e : WorkError). EndsAs (of_work e) (due_of_run k run)) (sym c.at_line.ensures.error)
    (rw number (run_stops read_line n at c.in-Some.line (into_iter_items (enumerate_source c.next.new.self)) run c.in-Err.error here c.in-Err.ensures.refused k))

pub release_all-requires : goal.release_all-requires
release_all-requires c = record {
  counted = counted_on c.loop-i.replica c.perform_line.new.replica (read_line c.loop-i.replica c.in-Some.line) c.loop-i.taken.released c.in-Ok.ensures.made c.loop-i.invariant.counted;
}

pub loop-i-preserved : goal.loop-i-preserved
loop-i-preserved c =
    let run = run_script c.args.replica.now c.args.lines in
    let n = enumerate_count c.loop-i.i-iterator + 1 in
    let m = enumerate_count c.next.new.self + 1 in
    let steps = c.in-Some.ensures.steps in
    let one_more : m ≡ suc n = (let k = steps.2 in omega (arith, k)) in
    let here = subst (λ (ls : List Line). run_on by_parts read_line n (course c.loop-i.replica c.loop-i.taken) ls ≡ run) steps.0.0 c.loop-i.invariant.run in
    record {
      counted = c.release_all.ensures.counted;
      run = run_goes_on read_line n m c.loop-i.replica c.perform_line.new.replica c.release_all.new.self c.loop-i.taken c.release_all.new.taken c.in-Some.line (into_iter_items (enumerate_source c.next.new.self)) run
          one_more here c.in-Ok.ensures.made c.in_ok-release_all-in-Ok.ensures.ok;
      left = (let was = c.loop-i.invariant.left in let short = ap length steps.0.0 in let gone = steps.0.1 in omega (arith, was, short, gone));
    }

pub returns-clause-run : goal.returns-clause-run
returns-clause-run c =
    let n = enumerate_count c.loop-i.i-iterator + 1 in
    let rest = into_iter_items (enumerate_source c.loop-i.i-iterator) in
    let none = sym c.loop-i.invariant.left ∙ c.in-None.ensures.steps.0.0 in
    run_ends read_line n (course c.loop-i.replica c.loop-i.taken) rest (run_script c.args.replica.now c.args.lines) none c.loop-i.invariant.run
