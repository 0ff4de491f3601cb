use Rattle.std.proofs.Common.{arith}
use Rattle.std.proofs.lemmas.List.{length-map}
use Rattle.std.proofs.lemmas.Option.{slice_get_within}
use Rattle.rls_runs.proofs.RunEnds.{count_most}
use Rattle.rls_seen.specs.Seen.{idents_over}
use Rattle.rls_changes.proofs.Looking.{missing_at_end, missing_within}
use Rattle.rls_changes.proofs.finding.end_of_missing.Goals as goal

pub returns-then-place-total : goal.returns-then-place-total
returns-then-place-total c =
    let l = length-map c.args.replica.now.text (λ y. y.0) in
    let w = slice_get_within c.args.targets.now c.args.at c.args.id.now c.requires.there in
    record {
      later = omega (arith, w, c.total-total.ensures.total);
      within = omega (arith, c.total-total.ensures.total);
      missing = missing_at_end (idents_over c.args.replica.now) c.args.targets.now c.args.at c.args.place c.total-total.result c.args.id.now c.sane.ensures.sane.idents.1 c.total-total.ensures.idents.1 c.requires.there c.requires.missing (omega (arith, l, c.if-place-total.true, c.total.ensures.total)) c.total-total.ensures.total;
    }

pub returns : goal.returns
returns c =
    let k = count_most c.args.targets.now c.in_ok-limit.limit in
    let m = missing_within (idents_over c.args.replica.now) c.args.targets.now c.args.at c.args.place c.count_below-end.result c.args.id.now c.in_ok-limit.limit c.sane.ensures.sane.idents.1 c.total-total.ensures.idents.1 c.requires.there c.requires.missing c.in_ok-limit.ensures.ident c.count_below-end.ensures.count in
    record {
      later = m.0;
      within = omega (arith, k, c.count_below-end.ensures.count);
      missing = m.1;
    }
