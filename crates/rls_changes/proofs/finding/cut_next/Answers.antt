use Rattle.std.proofs.Common.{◌∙◌, sym, arith}
use Rattle.std.proofs.lemmas.List.{length-map}
use Rattle.std.proofs.lemmas.Option.{slice_get_within}
use Rattle.rls_seen.specs.Seen.{idents_over}
use Rattle.rls_seen.proofs.Needed.{total_room}
use Rattle.rls_changes.proofs.Looking.{cut_few, cut_more, cut_none, cut_room, found}
use Rattle.rls_changes.proofs.finding.cut_next.Goals as goal

pub stretch-requires : goal.stretch-requires
stretch-requires c =
    let xs = idents_over c.args.replica.now in
    let f = found xs c.in_ok-id.id c.in-Ok.place c.sane.ensures.sane.idents.1 (sym c.in-Ok.ensures.place) in
    record { at = c.requires.place; place = slice_get_within xs c.in-Ok.place c.in_ok-id.id f.0; there = c.in_ok-id.ensures.found ∙ sym f.0 }

pub overflow_sub-place : goal.overflow_sub-place
overflow_sub-place c =
    cut_few (idents_over c.args.replica.now) c.args.targets.now c.args.at c.in-Ok.place c.args.gone c.in_ok-id.id c.sane.ensures.sane.idents.1 c.total-total.ensures.idents.1 c.in_ok-id.ensures.found (sym c.in-Ok.ensures.place) c.requires.gone

pub push_deletion-requires : goal.push_deletion-requires
push_deletion-requires c =
    let s = c.args.replica.now in
    let l = length-map s.text (λ y. y.0) in
    let t = total_room s c.sane.ensures.sane in
    let xs = idents_over s in
    let k = cut_few xs c.args.targets.now c.args.at c.in-Ok.place c.args.gone c.in_ok-id.id c.sane.ensures.sane.idents.1 c.total-total.ensures.idents.1 c.in_ok-id.ensures.found (sym c.in-Ok.ensures.place) c.requires.gone in
    let r = cut_room xs c.args.targets.now c.args.at c.in_ok-count-in-Ok.count c.in-Ok.place c.args.gone c.args.changes.now.items k c.in_ok-count-in-Ok.ensures.room c.requires.gone c.requires.so_far in
    record { room = omega arith }

pub returns-in-Ok : goal.returns-in-Ok
returns-in-Ok c =
    let xs = idents_over c.args.replica.now in
    let e = c.in_ok-count-in-Ok.ensures in
    let k = cut_few xs c.args.targets.now c.args.at c.in-Ok.place c.args.gone c.in_ok-id.id c.sane.ensures.sane.idents.1 c.total-total.ensures.idents.1 c.in_ok-id.ensures.found (sym c.in-Ok.ensures.place) c.requires.gone in
    let m = cut_more xs c.args.targets.now c.args.at c.in_ok-count-in-Ok.count c.in-Ok.place c.args.gone c.args.changes.now.items c.push_deletion.new.changes.items c.sane.ensures.sane.idents.1 c.total-total.ensures.idents.1 e.some e.room e.within e.same k c.requires.gone c.requires.so_far c.in_ok-push_deletion-in-Ok.ensures.ok in
    record { later = omega (arith, e.some); within = e.within; so_far = m.0; gone = m.1 }

pub returns : goal.returns
returns c =
    let e = c.in_ok-end-in-Err.ensures in
    let m = cut_none (idents_over c.args.replica.now) c.args.targets.now c.args.at c.in_ok-end-in-Err.end c.args.gone c.args.changes.now.items (omega (arith, e.later)) e.missing c.requires.gone c.requires.so_far in
    record { later = e.later; within = e.within; so_far = m.0; gone = m.1 }

pub end_of_missing-requires : goal.end_of_missing-requires
end_of_missing-requires c = record { there = c.in_ok-id.ensures.found; missing = sym c.in-Err.ensures.place }

pub overflow_add-result-in-Ok : goal.overflow_add-result-in-Ok
overflow_add-result-in-Ok c =
    let s = c.args.replica.now in
    let l = length-map s.text (λ y. y.0) in
    let t = total_room s c.sane.ensures.sane in
    let k = cut_few (idents_over s) c.args.targets.now c.args.at c.in-Ok.place c.args.gone c.in_ok-id.id c.sane.ensures.sane.idents.1 c.total-total.ensures.idents.1 c.in_ok-id.ensures.found (sym c.in-Ok.ensures.place) c.requires.gone in
    omega (arith, c.in_ok-count-in-Ok.ensures.room)
