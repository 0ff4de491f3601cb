use Rattle.std.proofs.Common.{drop, ap, ◌∙◌}
use Rattle.std.proofs.lemmas.List.{drop-drop}
use Rattle.rls_runs.proofs.text.drop_first.Goals as goal

pub loop-i-preserved : goal.loop-i-preserved
loop-i-preserved c = c.pop_front-gone.ensures.rest ∙ ap (drop 1) c.loop-i.invariant ∙ drop-drop 1 c.loop-i._i c.args.chars.now.items
