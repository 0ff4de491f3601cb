use Rattle.std.proofs.Common.{◌∙◌, sym}
use Rattle.rls_script.proofs.Begins.{cluster_begins}
use Rattle.rls_seen.specs.Seen.{text_over}
use Rattle.rls_stages.proofs.lines.backward.Goals as goal

pub overflow_sub-result : goal.overflow_sub-result
overflow_sub-result c = cluster_begins (text_over c.args.replica.now) c.args.at c.in-Ok-found.from (sym (c.in-Ok.ensures.found) ∙ c.in-Ok-found.is)
