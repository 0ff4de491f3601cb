use Rattle.std.proofs.Common.{rules}
use borrow.Author.Tests.{tests}
use Rattle.std.proofs.lemmas.Iterator.{YieldsList-from_slice}
use Rattle.std.proofs.lemmas.Iterator.Search.{position_from_yields_List}
use Rattle.rls_script.specs.Scripts.{is_space}
use Rattle.rls_script.proofs.parsing.first_space.Goals as goal

pub returns : goal.returns
returns c =
    record {
      space = position_from_yields_List is_space _ _ c.position.result c.position.ensures.ran (YieldsList-from_slice c.args.bytes.now c.iter.ensures.rest) (λ x b q k. search (rules, tests));
    }
