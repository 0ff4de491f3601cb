use Rattle.std.proofs.lemmas.Bool.{false≢true}
use Rattle.rls_cli.proofs.performing.perform_given.Goals as goal

pub returns-in-Ok-clause-none : goal.returns-in-Ok-clause-none
returns-in-Ok-clause-none g c = rw c.in-Ok.is (λ e. absurd (false≢true e))

pub returns-in-Ok-clause-ends : goal.returns-in-Ok-clause-ends
returns-in-Ok-clause-ends g c = rw c.in-Ok.is (rw c.deref.ensures.value at c.perform_in_folder.ensures.ends)

pub returns-in-Ok-clause-performs : goal.returns-in-Ok-clause-performs
returns-in-Ok-clause-performs g c = rw c.in-Ok.is (rw c.deref.ensures.value at c.perform_in_folder.ensures.performs)

pub returns-in-Ok-clause-serves : goal.returns-in-Ok-clause-serves
returns-in-Ok-clause-serves g c = rw c.in-Ok.is (rw c.deref.ensures.value at c.perform_in_folder.ensures.serves)

pub returns-in-Ok-clause-keeper : goal.returns-in-Ok-clause-keeper
returns-in-Ok-clause-keeper g c = c.perform_in_folder.ensures.keeper
