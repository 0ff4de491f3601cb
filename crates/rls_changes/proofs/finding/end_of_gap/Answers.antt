use Rattle.std.proofs.Common.{◌≡◌, ℕ, ◌+◌, ◌<◌, ◌≤◌, sym, ◌∙◌, arith}
use Rattle.std.specs.Prelude.{max}
use Rattle.std.proofs.lemmas.List.{length-map}
use Rattle.std.proofs.lemmas.Option.{slice_get_within}
use Rattle.rls_runs.proofs.RunEnds.{count_most}
use Rattle.rls_seen.specs.Seen.{idents_over}
use Rattle.rls_changes.proofs.Looking.{gap_at_end, gap_within}
use Rattle.rls_changes.proofs.finding.end_of_gap.Goals as goal

below_total : (at n total : ℕ) → at < n → total ≡ n → at < total
below_total at n total w e = omega arith

most_total : (n total : ℕ) → total ≡ n → total ≤ n
most_total n total e = omega arith

above : (at low end : ℕ) → end ≡ max low (at + 1) → at < end
above at low end m = omega arith

most : (at low end below n : ℕ) → end ≡ max low (at + 1) → low ≡ below → below ≤ n → at < n → end ≤ n
most at low end below n m b k w = omega arith

pub ident_at-requires : goal.ident_at-requires
ident_at-requires c = let l = length-map c.args.replica.now.text (λ y. y.0) in omega (arith, c.if-place-total.false, c.total.ensures.total, c.requires.within)

pub returns-then-place-total : goal.returns-then-place-total
returns-then-place-total c =
    let l = length-map c.args.replica.now.text (λ y. y.0) in
    let w = slice_get_within c.args.ids.now c.args.at c.args.id.now c.requires.there in
    record {
      later = below_total _ _ _ w c.total-total.ensures.total;
      within = most_total _ _ c.total-total.ensures.total;
      same = gap_at_end (idents_over c.args.replica.now) c.args.ids.now c.args.at c.args.place c.total-total.result c.args.id.now c.sane.ensures.sane.idents.1 c.total-total.ensures.idents.1 c.requires.there c.requires.place (c.if-place-total.true ∙ (c.total.ensures.total ∙ sym l)) c.total-total.ensures.total;
    }

pub returns : goal.returns
returns c =
    let w = slice_get_within c.args.ids.now c.args.at c.args.id.now c.requires.there in
    let k = count_most c.args.ids.now c.in_ok-limit.limit in
    record {
      later = above _ _ _ c.max.ensures;
      within = most _ _ _ _ _ c.max.ensures c.count_below-behind.ensures.count k w;
      same = gap_within (idents_over c.args.replica.now) c.args.ids.now c.args.at c.args.place c.count_below-behind.result c.max.result c.args.id.now c.in_ok-limit.limit c.sane.ensures.sane.idents.1 c.total-total.ensures.idents.1 c.requires.there c.requires.place c.in_ok-limit.ensures.ident c.count_below-behind.ensures.count c.max.ensures;
    }
