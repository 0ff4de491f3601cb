use Rattle.std.proofs.Common.{◌≡◌, ◌+◌, ◌-◌, Some, true, false, slice_get, sym, ap, ◌∙◌, arith}
use Rattle.std.specs.Prelude.{pos}
use Rattle.std.proofs.lemmas.Option.{slice_get_within}
use Rattle.rls_ident.specs.Identifiers.{shifted}
use Rattle.rls_ident.proofs.Shifted.{shifted_none, shifted_shifted}
use Rattle.rls_runs.specs.Entries.{idents_in, has_ident}
use Rattle.rls_runs.proofs.Gaps.{read_err}
use Rattle.rls_blocks.specs.Trees.{entries_of}
use Rattle.rls_tree.proofs.Standing.{has_got}
use Rattle.rls_tree.proofs.Targets.{run_at}
use Rattle.rls_tree.proofs.tree.BlockTree.targets_at.Goals as goal

pub unreachable-requires : goal.unreachable-requires
unreachable-requires c =
    let xs = idents_in (entries_of c.args.self.now.blocks) in
    let ts = c.args.targets.now in
    let run = c.in_ok-run.run' in
    let n : c.args.at + 0 ≡ c.args.at = omega arith in
    let here : slice_get xs c.args.at ≡ Some (shifted (pos 0) run.0) = ap (slice_get xs) (sym n) ∙ run_at xs c.args.at run.1 0 run.0 c.in_ok-run.ensures.idents c.in_ok-run.ensures.some in
    let yes : has_ident ts run.0 ≡ true = ap (has_ident ts) (sym (shifted_none run.0)) ∙ c.requires.there c.args.at (shifted (pos 0) run.0) (omega arith) (omega arith) here in
    let no : has_ident ts run.0 ≡ false = ap (has_ident ts) (sym c.first.ensures.first) ∙ (read_err ts c.first.result.now c.in_default.field-0 (sym c.find.ensures.find ∙ c.in_default.is)).0 in
    let e : true ≡ false = sym yes ∙ no in
    absurd cc

pub locate-from-requires : goal.locate-from-requires
locate-from-requires c = record { place = slice_get_within c.args.targets.now c.in-Ok.place c.first.result.now c.in-Ok.ensures.there }

pub returns-clause-targets : goal.returns-clause-targets
returns-clause-targets c k x o l g =
    let xs = idents_in (entries_of c.args.self.now.blocks) in
    let ts = c.args.targets.now in
    let run = c.in_ok-run.run' in
    let own = c.locate-from.result.0.now in
    let from = c.locate-from.result.1 in
    let place = c.in-Ok.place in
    let d = k - c.args.at in
    let n : c.args.at + d ≡ k = omega (arith, o) in
    let p : place + 0 ≡ place = omega arith in
    let q : from + 0 ≡ from = omega arith in
    let here : slice_get xs k ≡ Some (shifted (pos d) run.0) = ap (slice_get xs) (sym n) ∙ run_at xs c.args.at run.1 d run.0 c.in_ok-run.ensures.idents (omega (arith, o, l, c.min.ensures, c.len.ensures.len, c.len-2.ensures.len)) in
    let first : Some run.0 ≡ Some (shifted (pos from) own.0) = ap Some (sym c.first.ensures.first) ∙ sym c.in-Ok.ensures.there ∙ ap (slice_get ts) (sym p) ∙ c.locate-from.ensures.idents 0 (omega (arith, c.locate-from.ensures.within)) ∙ ap (λ j. Some (shifted (pos j) own.0)) q in
    let head : run.0 ≡ shifted (pos from) own.0 = cc in
    let there : slice_get ts (place + d) ≡ Some (shifted (pos (from + d)) own.0) = c.locate-from.ensures.idents d (omega (arith, o, l, c.min.ensures, c.len.ensures.len, c.len-2.ensures.len)) in
    let same : Some x ≡ Some (shifted (pos (from + d)) own.0) = sym g ∙ here ∙ ap (λ y. Some (shifted (pos d) y)) head ∙ ap Some (shifted_shifted (pos d) (pos from) own.0) in
    let is : x ≡ shifted (pos (from + d)) own.0 = cc in
    ap (has_ident ts) is ∙ has_got ts (place + d) (shifted (pos (from + d)) own.0) there
