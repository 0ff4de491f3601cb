use Rattle.std.proofs.Common.{◌≡◌, ◌+◌, ◌∷◌, [], ℕ, Bool, true, false, None, OnOk, arith, subst, sym}
use Rattle.rls_model.specs.declared.edit.Edit.TheVariants.{Insert, Delete}
use Rattle.rls_seen.specs.Edits.{edit_fault_over, edited}
use Rattle.rls_session.specs.Seats.{made_each, replacing}
use Rattle.rls_session.specs.Sessions.{by_parts}
use Rattle.rls_session.proofs.Drafting.{side_fits, side_is}
use Rattle.rls_session.proofs.seat.replace.Goals as goal

pub overflow_add-at : goal.overflow_add-at
overflow_add-at c =
    let fit = side_fits c.args.desk.now c.args.draft c.replica.result.now c.replica-2.result.now c.in-Ok.before true c.replica.ensures.replica c.sane.ensures.sane c.replica-2.ensures.replica c.in-Ok.ensures.before c.if-before.true c.len-size.ensures.scalars c.requires.some c.requires.text c.requires.fits in
    omega (arith, fit.2.0.0, c.len-size.ensures.len)

pub make_two-requires-clause-second : goal.make_two-requires-clause-second
make_two-requires-clause-second c =
    let p = c.args.draft in
    let fit = side_fits c.args.desk.now p c.replica.result.now c.replica-2.result.now c.in-Ok.before true c.replica.ensures.replica c.sane.ensures.sane c.replica-2.ensures.replica c.in-Ok.ensures.before c.if-before.true c.len-size.ensures.scalars c.requires.some c.requires.text c.requires.fits in
    subst (λ (n : ℕ). edit_fault_over (edited c.args.desk.now.state (Insert p.at p.text)) (Delete (p.at + n) p.count) ≡ None) (sym c.len-size.ensures.len) fit.2.1

pub overflow_add-at-2 : goal.overflow_add-at-2
overflow_add-at-2 c =
    let fit = side_fits c.args.desk.now c.args.draft c.replica.result.now c.replica-2.result.now c.in-Ok.before false c.replica.ensures.replica c.sane.ensures.sane c.replica-2.ensures.replica c.in-Ok.ensures.before c.if-before.false c.len-size.ensures.scalars c.requires.some c.requires.text c.requires.fits in
    omega (arith, fit.0.0)

pub make_two-requires-2-clause-second : goal.make_two-requires-2-clause-second
make_two-requires-2-clause-second c =
    let fit = side_fits c.args.desk.now c.args.draft c.replica.result.now c.replica-2.result.now c.in-Ok.before false c.replica.ensures.replica c.sane.ensures.sane c.replica-2.ensures.replica c.in-Ok.ensures.before c.if-before.false c.len-size.ensures.scalars c.requires.some c.requires.text c.requires.fits in
    fit.2.1

pub returns-then-before : goal.returns-then-before
returns-then-before c =
    let d = c.args.desk.now in
    let p = c.args.draft in
    record {
      made = subst (λ (b : Bool). OnOk c.make_two.result (c.make_two.new.desk ≡ made_each by_parts d (replacing b p))) (side_is d p c.replica-2.result.now c.in-Ok.before true c.replica-2.ensures.replica c.in-Ok.ensures.before c.if-before.true)
          (subst (λ (n : ℕ). OnOk c.make_two.result (c.make_two.new.desk ≡ made_each by_parts d (Insert p.at p.text ∷ Delete (p.at + n) p.count ∷ []))) c.len-size.ensures.len c.make_two.ensures.made);
    }

pub returns : goal.returns
returns c =
    let d = c.args.desk.now in
    let p = c.args.draft in
    record {
      made = subst (λ (b : Bool). OnOk c.make_two-2.result (c.make_two-2.new.desk ≡ made_each by_parts d (replacing b p))) (side_is d p c.replica-2.result.now c.in-Ok.before false c.replica-2.ensures.replica c.in-Ok.ensures.before c.if-before.false) c.make_two-2.ensures.made;
    }
