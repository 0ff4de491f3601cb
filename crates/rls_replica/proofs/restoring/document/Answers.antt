use Rattle.std.proofs.Common.{◌≡◌, ◌++◌, ◌∷◌, [], true, length, map, sym, ap, subst, ◌∙◌, arith, None}
use Rattle.std.specs.List.{list_all}
use Rattle.rls_model.specs.declared.parts.TextRun.{TextRun}
use Rattle.rls_runs.specs.Runs.{are_apart, is_run}
use Rattle.rls_parts.specs.Given.{HaveTexts}
use Rattle.rls_blocks.specs.Trees.{entries_of, runs_in}
use Rattle.rls_parts.proofs.RestoredText.{total_restored}
use Rattle.rls_replica.proofs.GivenPieces.{piece_of, pieces_entries, pieces_runs, pieces_moved, all_moved, texts_first, texts_rest, tree_so}
use Rattle.rls_replica.proofs.restoring.document.Goals as goal

pub new-requires : goal.new-requires
new-requires c = record { as_many = texts_first c.in-Some.entry _ (subst HaveTexts c.in-Some.ensures.steps.0 c.loop-entry.invariant.texts) }

pub loop-entry-preserved : goal.loop-entry-preserved
loop-entry-preserved c =
    let steps = c.in-Some.ensures.steps.0 in
    record {
      blocks = pieces_moved c.loop-entry.blocks.items _ c.in-Some.entry _ c.args.runs.items (subst (λ xs. c.loop-entry.blocks.items ++ map piece_of xs ≡ map piece_of c.args.runs.items) steps c.loop-entry.invariant.blocks) (c.in_ok-push.ensures.items ∙ ap (λ b. c.loop-entry.blocks.items ++ b ∷ []) c.new.ensures.block);
      texts = texts_rest c.in-Some.entry _ (subst HaveTexts steps c.loop-entry.invariant.texts);
      count = (let was = c.loop-entry.invariant.count in let short = ap length steps in let gone = c.in-Some.ensures.steps.1 in omega arith);
    }

pub of_blocks-requires-clause-apart : goal.of_blocks-requires-clause-apart
of_blocks-requires-clause-apart c =
    let rs = c.args.runs.items in
    ap (λ bs. are_apart None (runs_in bs)) (all_moved _ _ rs c.loop-entry.invariant.blocks (sym c.loop-entry.invariant.count ∙ c.in-None.ensures.steps.0)) ∙ (ap (are_apart None) (pieces_runs rs) ∙ c.requires.apart)

pub of_blocks-requires-clause-chars_fit : goal.of_blocks-requires-clause-chars_fit
of_blocks-requires-clause-chars_fit c =
    let rs = c.args.runs.items in
    let all = all_moved _ _ rs c.loop-entry.invariant.blocks (sym c.loop-entry.invariant.count ∙ c.in-None.ensures.steps.0) in
    let e = ap (λ bs. length (entries_of bs)) all ∙ ap length (pieces_entries rs) in
    let most = total_restored rs (subst (λ ts. list_all is_run (map (λ (r : TextRun). r.run) ts) ≡ true) c.deref.ensures.value c.runs_fit.ensures.runs) in
    let few = c.requires.few in
    omega arith

pub returns : goal.returns
returns c =
    let rs = c.args.runs.items in
    record { text = tree_so c.of_blocks.result c.loop-entry.blocks.items rs c.of_blocks.ensures.blocks (all_moved _ _ rs c.loop-entry.invariant.blocks (sym c.loop-entry.invariant.count ∙ c.in-None.ensures.steps.0)) }
