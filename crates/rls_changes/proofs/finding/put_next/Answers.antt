use Rattle.std.proofs.Common.{◌∙◌, ◌+◌, take, ap, arith}
use Rattle.std.proofs.lemmas.List.{length-map}
use Rattle.rls_seen.specs.Seen.{idents_over}
use Rattle.rls_seen.proofs.Needed.{total_room}
use Rattle.rls_changes.specs.declared.change.Change.TheVariants.{Insert}
use Rattle.std.specs.Prelude.{zip, []}
use Rattle.rls_changes.specs.Changes.{puts, with_change, with_changes}
use Rattle.rls_changes.proofs.Looking.{pieces_more}
use Rattle.rls_changes.proofs.finding.put_next.Goals as goal

pub overflow_add-place : goal.overflow_add-place
overflow_add-place c =
    let l = length-map c.args.replica.now.text (λ y. y.0) in
    let r = total_room c.args.replica.now c.sane.ensures.sane in
    omega (arith, c.count_below-place.ensures.within)

pub returns-clause-so_far : goal.returns-clause-so_far
returns-clause-so_far c =
    let e = c.in_ok-end in
    c.in_ok-push_insertion.ensures.ok
    ∙ (ap (λ cs. with_change cs (Insert (c.count_below-place.result + c.args.at) c.in_ok-piece.piece)) c.requires.so_far
    ∙ (ap (λ zs. with_change (with_changes [] (puts 0 (idents_over c.args.replica.now) (take c.args.at (zip c.args.ids.now c.args.text.now)))) (Insert (c.count_below-place.result + c.args.at) zs)) c.in_ok-piece.ensures.part
    ∙ pieces_more (idents_over c.args.replica.now) c.args.ids.now c.args.text.now c.args.at e.end c.count_below-place.result c.requires.as_many e.ensures.later e.ensures.within e.ensures.same))
