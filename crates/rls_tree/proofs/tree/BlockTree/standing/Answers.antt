use Rattle.std.proofs.Common.{◌≡◌, ◌∙◌, take, drop, Some, slice_get, sym, ap, arith}
use Rattle.std.specs.Prelude.{pos}
use Rattle.std.proofs.lemmas.List.{length-map}
use Rattle.rls_ident.specs.Identifiers.{shifted}
use Rattle.rls_runs.specs.Runs.{run_idents}
use Rattle.rls_runs.specs.Entries.{has_ident, idents_in}
use Rattle.rls_runs.proofs.RunPlaces.{found_is, found_there}
use Rattle.rls_blocks.specs.Trees.{entries_of}
use Rattle.rls_runs.proofs.RunOrder.{rising_of}
use Rattle.rls_runs.proofs.Gaps.{read_err}
use Rattle.std.proofs.lemmas.Option.{slice_get_within}
use Rattle.rls_tree.proofs.Standing.{stands}
use Rattle.rls_tree.proofs.Without.{run_head}
use Rattle.rls_tree.proofs.tree.BlockTree.standing.Goals as goal

pub returns-in_default-clause-none : goal.returns-in_default-clause-none
returns-in_default-clause-none c z =
    let xs = idents_in (entries_of c.args.self.now.blocks) in
    let first = c.in_ok-first.first in
    let rising = rising_of xs c.blocks-blocks.ensures.rises in
    let none = read_err xs first c.in_default.field-0 (found_is xs first rising ∙ sym c.place.ensures.place ∙ c.in_default.is) in
    ap (has_ident xs) (sym (c.in_ok-first.ensures.shifted ∙ ap (shifted (pos c.args.from)) c.first.ensures.first)) ∙ none.0

pub run_from-requires-clause-place : goal.run_from-requires-clause-place
run_from-requires-clause-place c =
    let es = entries_of c.args.self.now.blocks in
    let xs = idents_in es in
    let first = c.in_ok-first.first in
    let i = c.in-Ok.i in
    let rising = rising_of xs c.blocks-blocks.ensures.rises in
    let there : slice_get xs i ≡ Some first = found_there xs first i rising (found_is xs first rising ∙ sym c.in-Ok.ensures.place) in
    let short = slice_get_within xs i first there in
    let l = length-map es (λ e. e.0) in
    omega (arith, short, l)

pub returns-clause-there : goal.returns-clause-there
returns-clause-there c k l =
    let xs = idents_in (entries_of c.args.self.now.blocks) in
    let x = c.args.run.now.0 in
    let from = c.args.from in
    let first = c.in_ok-first.first in
    let i = c.in-Ok.i in
    let part = c.in_ok-part.part in
    let rising = rising_of xs c.blocks-blocks.ensures.rises in
    let there : slice_get xs i ≡ Some first = found_there xs first i rising (found_is xs first rising ∙ sym c.in-Ok.ensures.place) in
    let head : part.0 ≡ shifted (pos from) x = run_head xs i part.1 part.0 first c.in_ok-part.ensures.some there c.in_ok-part.ensures.idents ∙ c.in_ok-first.ensures.shifted ∙ ap (shifted (pos from)) c.first.ensures.first in
    let own : take part.1 (drop i xs) ≡ run_idents (shifted (pos from) x) part.1 = c.in_ok-part.ensures.idents ∙ ap (λ y. run_idents y part.1) head in
    stands xs i part.1 from k x own (omega (arith, l, c.len.ensures.len))
