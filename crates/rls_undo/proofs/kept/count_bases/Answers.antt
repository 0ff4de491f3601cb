use Rattle.std.proofs.Common.{◌∙◌, sym}
use Rattle.rls_undo.proofs.Keeping.{last_bases_at}
use Rattle.rls_undo.proofs.kept.count_bases.Goals as goal

pub returns-in-Some : goal.returns-in-Some
returns-in-Some c = record { bases = c.bases_for.ensures.bases ∙ sym (last_bases_at 0 c.args.entries.now c.in-Some.kept.now (sym c.in-Some.ensures.value)) }
