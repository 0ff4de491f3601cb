use Rattle.std.proofs.Common.{rules, ◌∙◌}
use borrow.Author.Tests.{tests}
use Rattle.std.proofs.lemmas.Iterator.{YieldsList-from_slice}
use Rattle.std.proofs.lemmas.Iterator.Search.{position_from_yields_List}
use Rattle.rls_script.specs.Scripts.{is_line_feed}
use Rattle.rls_script.proofs.LineEnds.{found_or_len}
use Rattle.rls_script.proofs.parsing.near_line_end.Goals as goal

pub returns : goal.returns
returns c =
    record {
      end = c.unwrap_or.ensures ∙ found_or_len is_line_feed c.args.bytes.now c.position.result
          (position_from_yields_List is_line_feed _ _ c.position.result c.position.ensures.ran (YieldsList-from_slice c.args.bytes.now c.iter.ensures.rest) (λ x b q k. search (rules, tests)));
    }
