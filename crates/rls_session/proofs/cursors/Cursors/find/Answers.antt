use Rattle.std.proofs.Common.{◌+◌, List, arith, subst, sym, take}
use Rattle.std.specs.Prelude.{◌==◌}
use Rattle.rls_ident.proofs.Members.{eq_is, not_true}
use Rattle.rls_session.specs.declared.cursors.Cursor.{Cursor}
use Rattle.rls_session.specs.Cursors.{AreOthers, IsAt}
use Rattle.rls_session.proofs.Numbered.{found_at, got, others_more}
use Rattle.rls_session.proofs.cursors.Cursors.find.Goals as goal

pub returns-then-index-number-clause-some : goal.returns-then-index-number-clause-some
returns-then-index-number-clause-some c =
    let items = c.self.inside.all.items in
    let one = c.index.result.now in
    let i = c.cursors.i in
    let n = c.args.number in
    let others = subst (λ (cs : List Cursor). AreOthers (take i cs) n) (sym c.self.view_is) c.cursors.invariant in
    subst (λ (cs : List Cursor). IsAt cs n i) c.self.view_is (found_at items n i one (omega arith) (got items i one (omega arith) c.index.ensures) others c.if-index-number.true)

pub cursors-preserved : goal.cursors-preserved
cursors-preserved c =
    let items = c.self.inside.all.items in
    let one = c.index.result.now in
    let i = c.cursors.i in
    let n = c.args.number in
    let others = subst (λ (cs : List Cursor). AreOthers (take i cs) n) (sym c.self.view_is) c.cursors.invariant in
    subst (λ (cs : List Cursor). AreOthers (take (i + 1) cs) n) c.self.view_is
    (others_more items n i one (omega arith) (got items i one (omega arith) c.index.ensures) others (not_true (one.number == n) (λ h. c.if-index-number.false (eq_is one.number n h))))
