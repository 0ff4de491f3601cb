use Rattle.std.proofs.Common.{◌+◌, ◌-◌, sym, ap, ◌∙◌, subst, arith}
use Rattle.std.specs.Prelude.{Option, IfSome, slice_index, Some}
use Rattle.rls_runs.proofs.RunOrder.{rising_of}
use Rattle.rls_seen.specs.Seen.{idents_over}
use Rattle.rls_steps.specs.declared.name_row.NameRow.{NameRow}
use Rattle.rls_steps.specs.Rows.{IsRow}
use Rattle.rls_steps.proofs.Found.{place_at}
use Rattle.rls_steps.proofs.Intervals.{place_room}
use Rattle.rls_steps.proofs.Rows.{row_found, row_gone}
use Rattle.rls_steps.proofs.Tabling.{place_is}
use Rattle.rls_steps.proofs.finding.row_places.Goals as goal

pub standing-requires : goal.standing-requires
standing-requires c =
    let xs = idents_over c.args.replica.now in
    record { at = place_is xs c.first.result.now c.in-Ok.at (rising_of xs c.sane.ensures.sane.idents.1) (sym c.in-Ok.ensures.place) ∙ ap Some c.first.ensures.first }

pub returns-clause-room : goal.returns-clause-room
returns-clause-room c =
    let xs = idents_over c.args.replica.now in
    let k = c.rising-in-Ok.result - 1 in
    let some = c.rising-in-Ok.ensures.some in
    let most = c.rising-in-Ok.ensures.most in
    let there = c.in_ok-count-in-Ok.ensures.there k (omega (arith, some, most)) in
    let room = place_room c.args.replica.now _ (c.in-Ok.at + k) c.sane.ensures.sane (place_at xs _ (c.in-Ok.at + k) c.sane.ensures.sane.idents.1 there) in
    omega (arith, room, some)

pub returns-clause-places : goal.returns-clause-places
returns-clause-places c =
    let xs = idents_over c.args.replica.now in
    let row = c.in-Some.row in
    let most = c.rising-in-Ok.ensures.most in
    let few = c.in_ok-count-in-Ok.ensures.most in
    let is = subst (λ (o : Option NameRow). IfSome o (λ r. IsRow c.args.names.now (slice_index c.args.labels.now c.args.i) r)) c.in-Some.is c.in_ok-row.ensures.row in
    row_found xs c.args.names.now c.args.labels.now c.args.i (slice_index c.args.labels.now c.args.i) c.in-Ok.at c.rising-in-Ok.result row c.sane.ensures.sane.idents.1 c.apart.ensures.apart is (c.is_clear.ensures.clear c.if-not-is_clear.false) (omega (arith, most, few))
    (λ k h. c.in_ok-count-in-Ok.ensures.there k (omega (arith, h, most))) c.rising-in-Ok.ensures.rising

pub returns-in-Err-clause-places : goal.returns-in-Err-clause-places
returns-in-Err-clause-places c =
    let xs = idents_over c.args.replica.now in
    let row = c.in-Some.row in
    let most = c.rising.ensures.most in
    let few = c.in_ok-count-in-Err.ensures.most in
    let is = subst (λ (o : Option NameRow). IfSome o (λ r. IsRow c.args.names.now (slice_index c.args.labels.now c.args.i) r)) c.in-Some.is c.in_ok-row.ensures.row in
    row_gone xs c.args.names.now c.args.labels.now c.args.i (slice_index c.args.labels.now c.args.i) c.rising.result row is (c.is_clear.ensures.clear c.if-not-is_clear.false) (omega (arith, most, few))
    (λ k q h t. c.in_ok-count-in-Err.ensures.gone k q (omega (arith, h, most)) t) c.rising.ensures.rising
