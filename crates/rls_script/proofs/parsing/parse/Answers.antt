use Rattle.std.proofs.Common.{sym, ◌∙◌}
use Rattle.std.proofs.lemmas.Bool.{eqb-true}
use Rattle.rls_script.specs.Scripts.{script_of, script_lines, lines_from}
use Rattle.rls_script.proofs.LineEnds.{is_longer, after_shorter, with_no_lines, goes_on, is_bad, is_whole}
use Rattle.rls_script.proofs.parsing.parse.Goals as goal

pub loop-rest-init : goal.loop-rest-init
unfolding script_of
loop-rest-init c = rw c.new-lines.ensures.items (with_no_lines (lines_from 1 (script_lines c.args.script.now)))

pub returns-in_default : goal.returns-in_default
returns-in_default c =
    let more = is_longer c.loop-rest.rest.now (sym c.is_empty.ensures ∙ c.loop-rest-test.true) in
    record {
      parsed = rw (c.len.ensures, c.loop-rest.lines.ok.0)
          (is_bad c.loop-rest.lines.items c.loop-rest.rest.now (script_of c.args.script.now) more c.loop-rest.invariant (rw c.first_line.ensures.front at (sym c.in_ok-line.ensures.line ∙ c.in_default.is)));
    }

pub loop-rest-preserved : goal.loop-rest-preserved
loop-rest-preserved c =
    let more = is_longer c.loop-rest.rest.now (sym c.is_empty.ensures ∙ c.loop-rest-test.true) in
    rw (c.in_ok-push.ensures.items, c.first_line.ensures.back)
    (goes_on c.loop-rest.lines.items c.loop-rest.rest.now (script_of c.args.script.now) more c.loop-rest.invariant c.in-Some.line (rw c.first_line.ensures.front at (sym c.in_ok-line.ensures.line ∙ c.in-Some.is)))

pub loop-rest-smaller : goal.loop-rest-smaller
loop-rest-smaller c = rw c.first_line.ensures.back (after_shorter c.loop-rest.rest.now (is_longer c.loop-rest.rest.now (sym c.is_empty.ensures ∙ c.loop-rest-test.true)))

pub returns : goal.returns
returns c = record {
  parsed = rw c.from_vec.ensures.lines
      (is_whole c.loop-rest.lines.items c.loop-rest.rest.now (script_of c.args.script.now) (eqb-true _ _ (sym c.is_empty.ensures ∙ c.loop-rest-test.false)) c.loop-rest.invariant);
}
