use Rattle.std.proofs.Common.{ℕ, List, subst}
use Rattle.rls_seen.specs.Kept.{parts_over}
use Rattle.rls_file.specs.Files.{Snapshot, newest_form}
use Rattle.rls_file.specs.FileLaws.{IsFile}
use Rattle.rls_stages.proofs.saving.file_of.Goals as goal

pub returns-in-Ok-clause-read_back : goal.returns-in-Ok-clause-read_back
returns-in-Ok-clause-read_back c = λ w. subst (λ (b : List ℕ). IsFile b (Snapshot newest_form (parts_over c.args.replica.now))) c.in-Ok.ensures.bytes (c.in-Ok.ensures.file w)
