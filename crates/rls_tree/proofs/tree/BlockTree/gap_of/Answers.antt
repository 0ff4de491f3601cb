use Rattle.std.proofs.Common.{◌∙◌, sym, ap, arith}
use Rattle.std.specs.Prelude.{pos}
use Rattle.rls_ident.specs.Identifiers.{shifted}
use Rattle.rls_runs.specs.Runs.{place_of}
use Rattle.rls_runs.specs.Entries.{idents_in}
use Rattle.rls_blocks.specs.Trees.{entries_of}
use Rattle.rls_tree.proofs.Puts.{not_there, whole_place, next_later, next_within}
use Rattle.rls_tree.proofs.tree.BlockTree.gap_of.Goals as goal

pub unreachable-requires : goal.unreachable-requires
unreachable-requires c =
    let is = c.in_ok-first.ensures.shifted ∙ ap (shifted (pos c.args.done)) c.first.ensures.first in
    not_there (entries_of c.args.self.now.blocks) c.args.run.now 0 c.args.done c.blocks-blocks.ensures.rises c.len-len.ensures.run c.requires.place c.in_ok-first.first is c.in_default.field-0 (sym c.in_default.ensures.place) c.requires.new

pub end_of_gap-requires : goal.end_of_gap-requires
end_of_gap-requires c = record { place = whole_place (entries_of c.args.self.now.blocks) c.in-Err.at c.in_ok-first.first c.blocks-blocks.ensures.rises (sym c.in-Err.ensures.place) }

pub returns : goal.returns
returns c =
    let es = entries_of c.args.self.now.blocks in
    let r = c.args.run.now in
    let first = c.in_ok-first.first in
    let is = c.in_ok-first.ensures.shifted ∙ ap (shifted (pos c.args.done)) c.first.ensures.first in
    let gap = sym c.in-Err.ensures.place in
    let end = c.in_ok-end.ensures.end in
    let later = next_later es r c.in-Err.at c.args.done c.blocks-blocks.ensures.rises c.len-len.ensures.run c.requires.place first is gap in
    let within = next_within es r c.in-Err.at c.args.done c.blocks-blocks.ensures.rises c.len-len.ensures.run c.requires.place first is gap in
    record { later = omega (arith, later, end); within = omega (arith, within, end); place = ap (λ x. place_of x (idents_in es)) (sym is) ∙ gap; end = end }
