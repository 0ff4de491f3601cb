use Rattle.rls_cli.proofs.Ending.{counted_ending}
use Rattle.rls_cli.proofs.performing.perform_in_folder.Goals as goal

pub returns-clause-ends : goal.returns-clause-ends
returns-clause-ends g c = c.perform.ensures.ends

pub returns-clause-performs : goal.returns-clause-performs
returns-clause-performs g c = c.perform.ensures.performs

pub returns-clause-serves : goal.returns-clause-serves
returns-clause-serves g c = c.perform.ensures.serves

pub returns-clause-keeper : goal.returns-clause-keeper
returns-clause-keeper g c = counted_ending g.A.Keeper.load_gives g.B.Keeper.load_gives g.A.Keeper.store_gives g.B.Keeper.store_gives g.A.Keeper.faults g.B.Keeper.faults c.perform.ensures.ends
