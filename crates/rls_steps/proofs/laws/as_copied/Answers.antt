use Rattle.rls_steps.proofs.Courses.{as_copied, from_first, undone_and_redone}
use Rattle.rls_steps.proofs.laws.as_copied.Goals as goal

pub returns : goal.returns
returns c = record { course = as_copied; first = from_first; undone = undone_and_redone }
