use Rattle.std.proofs.Common.{◌∙◌, refl, ap}
use Rattle.rls_parts.specs.Seen.{StemsSeen}
use Rattle.rls_parts.specs.Tables.{stems_from}
use Rattle.rls_parts.proofs.Tabled.{one_further, no_further}
use Rattle.rls_parts.proofs.table.StemTable.to_stems.Goals as goal

pub loop-author-init : goal.loop-author-init
loop-author-init c = rw c.new-stems.ensures.empty refl

pub loop-author-preserved : goal.loop-author-preserved
loop-author-preserved c =
    let ls = c.deref-line-items.result.now in
    rw c.in_ok-copy_to.ensures.ok (one_further c.loop-author.stems c.loop-author.author ls c.line-item.result (stems_from 0 ls) c.loop-author-test.true c.line-item.is c.loop-author.invariant)

pub returns : goal.returns
returns c =
    let ls = c.deref-line-items.result.now in
    record { stems = no_further c.loop-author.stems c.loop-author.author ls (stems_from 0 ls) c.loop-author-test.false c.loop-author.invariant ∙ ap (λ ms. stems_from 0 ms) c.deref-line-items.ensures.value ∙ ap (λ (t : StemsSeen). t.stems) c.self.view_is }
