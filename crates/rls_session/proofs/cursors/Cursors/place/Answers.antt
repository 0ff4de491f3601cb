use Rattle.std.proofs.Common.{◌≡◌, ◌∙◌, List, Some, ap, arith, subst, sym}
use Rattle.std.specs.Prelude.{option_map, slice_get}
use Rattle.rls_anchor.specs.Anchors.{place_over}
use Rattle.rls_anchor.proofs.Errors.{err_as}
use Rattle.rls_session.specs.declared.cursors.Cursor.{Cursor}
use Rattle.rls_session.specs.Cursors.{AreAnchored}
use Rattle.rls_session.proofs.Numbered.{anchor_not_dropped, anchored_at, at_in, at_within, got, others_in}
use Rattle.rls_session.proofs.cursors.Cursors.place.Goals as goal

pub index-requires : goal.index-requires
index-requires c = omega (arith, at_within _ _ _ _ c.self.view_is c.in-Some.ensures.some)

pub returns-in-None-clause-place : goal.returns-in-None-clause-place
returns-in-None-clause-place c = c.place_of_unput.ensures.place c.args.replica.now ∙ ap (option_map (place_over c.args.replica.now)) (sym (others_in c.args.self.now c.args.number c.in-None.ensures.none))

pub returns-in-Err-clause-kept : goal.returns-in-Err-clause-kept
returns-in-Err-clause-kept c = λ e is h.
    let there = got _ _ _ (at_within _ _ _ _ c.self.view_is c.in-Some.ensures.some) c.index.ensures in
    let d = (c.in-Err.ensures.dropped e).0 (err_as _ _ is) in
    anchor_not_dropped c.args.replica.now _ e (anchored_at c.args.replica.now _ _ _ there (subst (AreAnchored c.args.replica.now) (sym c.self.view_is) h)) d.0 d.1

pub returns-in-Ok-clause-place : goal.returns-in-Ok-clause-place
returns-in-Ok-clause-place c =
    let one = c.index.result.now in
    let there = subst (λ (cs : List Cursor). slice_get cs c.in-Some.i ≡ Some one) c.self.view_is (got _ _ _ (at_within _ _ _ _ c.self.view_is c.in-Some.ensures.some) c.index.ensures) in
    ap (λ p. Some p) c.in-Ok.ensures.place ∙ ap (option_map (place_over c.args.replica.now)) (sym (at_in _ c.args.number _ one c.in-Some.ensures.some there))
