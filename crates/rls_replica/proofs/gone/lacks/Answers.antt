use Rattle.std.proofs.Common.{◌∙◌, ◌+◌, length, drop, refl, sym, ap, subst, ⊎_elim}
use Rattle.std.proofs.lemmas.Option.{slice_get_read}
use Rattle.std.specs.Prelude.{is_ok}
use Rattle.rls_ident.specs.Lists.{IsIn}
use Rattle.rls_ident.proofs.Loops.{drop_reads}
use Rattle.rls_ident.proofs.Members.{in_split}
use Rattle.rls_runs.specs.Runs.{joined}
use Rattle.rls_doc.proofs.Places.{found_known}
use Rattle.rls_replica.proofs.Noting.{not_there}
use Rattle.rls_replica.proofs.gone.lacks.Goals as goal

pub loop-ids-preserved : goal.loop-ids-preserved
loop-ids-preserved c p =
    let ls = c.args.lists.now in
    let i = c.loop-ids.ids-index in
    let x = c.args.id.now in
    ⊎_elim (λ q. absurd (not_there c.ids-item.result x (sym (found_known c.ids-item.result x) ∙ (ap is_ok (sym c.find.ensures.find) ∙ (sym c.is_ok.ensures.value ∙ c.if-is_ok.false))) q)) (λ q. q)
    (in_split x c.ids-item.result (joined (drop (i + 1) ls)) (subst (λ ms. IsIn x (joined ms)) (drop_reads ls i c.ids-item.result (slice_get_read ls (length ls) i c.ids-item.result refl c.loop-ids-test.true c.ids-item.is)) (c.loop-ids.invariant p)))
