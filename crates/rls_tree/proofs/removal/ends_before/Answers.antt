use Rattle.std.proofs.Common.{Some, sym, ap, ◌∙◌}
use Rattle.rls_blocks.specs.Edits.{goes_on}
use Rattle.rls_blocks.proofs.Patches.{last_of}
use Rattle.rls_tree.proofs.removal.ends_before.Goals as goal

pub returns-in-Some : goal.returns-in-Some
returns-in-Some c =
    record { goes_on = c.touches.ensures.touches ∙ ap (λ r. goes_on (Some r) c.args.first.now) c.run.ensures.run ∙ ap (λ o. goes_on o c.args.first.now) (sym (last_of c.args.blocks.now c.in-Some.last.now (sym c.in-Some.ensures.value))) }
