use Rattle.std.proofs.Common.{◌∙◌}
use Rattle.rls_steps.proofs.Swept.{needed_found}
use Rattle.rls_steps.proofs.sweeping.is_needed.Goals as goal

pub returns : goal.returns
returns c = record { needed = c.is_ok.ensures.value ∙ needed_found c.args.labels.now c.args.label c.binary_search.result c.binary_search.ensures.position c.requires.sorted }
