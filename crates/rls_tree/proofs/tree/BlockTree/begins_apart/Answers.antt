use Rattle.std.proofs.Common.{◌≡◌, None, Some, sym, ap, ◌∙◌, arith}
use Rattle.rls_runs.specs.Runs.{run_before}
use Rattle.rls_blocks.specs.Trees.{runs_in}
use Rattle.rls_blocks.specs.Edits.{goes_on}
use Rattle.rls_tree.proofs.Starts.{end_between, end_apart, first_between, first_leads}
use Rattle.rls_tree.proofs.tree.BlockTree.begins_apart.Goals as goal

pub returns-then-at-chars-clause-between : goal.returns-then-at-chars-clause-between
returns-then-at-chars-clause-between c = end_between c.args.self.now.blocks c.args.at c.chars-chars.ensures.pieces (c.if-at-chars.true ∙ c.chars.ensures.chars)

pub returns-then-at-chars-clause-apart : goal.returns-then-at-chars-clause-apart
returns-then-at-chars-clause-apart c = end_apart c.args.self.now.blocks c.args.at (run_before None (runs_in c.args.blocks.now)) c.chars-chars.ensures.pieces (c.if-at-chars.true ∙ c.chars.ensures.chars)

pub returns-clause-between : goal.returns-clause-between
returns-clause-between c =
    let place = c.locate-place in
    first_between c.args.self.now.blocks c.args.at place.result.1 place.result.0.now c.chars-chars.ensures.pieces (omega (arith, c.requires.place, c.if-at-chars.false, c.chars.ensures.chars)) place.ensures.located (omega (arith, c.if-place-gt0.false))

pub returns-clause-apart : goal.returns-clause-apart
returns-clause-apart c =
    let last = run_before None (runs_in c.args.blocks.now) in
    let leads = first_leads c.args.self.now.blocks c.args.at c.locate-place.result.1 c.locate-place.result.0.now c.chars-chars.ensures.pieces (omega (arith, c.requires.place, c.if-at-chars.false, c.chars.ensures.chars)) c.locate-place.ensures.located (omega (arith, c.if-place-gt0.false)) last in
    leads ∙ ap (goes_on last) (sym (c.first.ensures.first ∙ ap (λ r. r.0) c.run.ensures.run)) ∙ sym c.ends_before.ensures.goes_on ∙ c.if-ends_before.false

pub returns-clause-located : goal.returns-clause-located
returns-clause-located c =
    let place : c.locate-place.result.1 ≡ 0 = omega (arith, c.if-place-gt0.false) in
    c.locate-place.ensures.located ∙ ap (λ at. Some (c.locate-place.result.0.now, at)) place
