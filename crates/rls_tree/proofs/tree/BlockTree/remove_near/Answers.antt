use Rattle.std.proofs.Common.{◌≡◌, ℕ, List, [], ◌∷◌, Option, IfSome, length, sym, ap, ◌∙◌, subst, arith}
use Rattle.rls_ident.specs.declared.tuple.Tuple.{Tuple}
use Rattle.rls_runs.specs.Entries.{Entries, without_all}
use Rattle.rls_blocks.specs.Trees.{entries_of}
use Rattle.rls_blocks.specs.Edits.{removed}
use Rattle.std.specs.Prelude.{not}
use Rattle.rls_runs.specs.Entries.{has_ident}
use Rattle.rls_runs.proofs.Sorted.{Entry}
use Rattle.rls_tree.proofs.Without.{filter_short, without_none}
use Rattle.rls_tree.proofs.tree.BlockTree.remove_near.Goals as goal

none_gone : (ts : List (List Tuple)) (es : Entries) → length ts ≡ 0 → es ≡ without_all ts es
none_gone [] es h = sym (without_none es)
none_gone (t ∷ ts) es h = absurd (omega (arith, h))

pub returns-then-count-eq0-clause-ok : goal.returns-then-count-eq0-clause-ok
returns-then-count-eq0-clause-ok c = none_gone c.args.targets.now (entries_of c.args.self.now.blocks) (sym c.total-count.ensures.total ∙ c.if-count-eq0.true)

pub returns-in-Some-clause-ok : goal.returns-in-Some-clause-ok
returns-in-Some-clause-ok c =
    let es = entries_of c.args.self.now.blocks in
    let ts = c.args.targets.now in
    let Gone : Option ℕ → Type 0 = λ o. IfSome o (λ i. removed i (length ts) es ≡ without_all ts es) in
    c.in_ok-remove_range.ensures.ok ∙ ap (λ n. removed c.in-Some.i n es) c.total-count.ensures.total ∙ subst Gone c.in-Some.is c.range_near.ensures.removed

pub overflow_sub-result : goal.overflow_sub-result
overflow_sub-result c =
    let n = ap length c.in_ok-remove_apart.ensures.ok in
    let short = filter_short (λ (e : Entry). not (has_ident c.args.targets.now e.0)) (entries_of c.args.self.now.blocks) in
    omega (arith, short, n, c.chars.ensures.chars, c.chars-before.ensures.chars)

pub returns-clause-removed : goal.returns-clause-removed
returns-clause-removed c =
    let n = ap length c.in_ok-remove_apart.ensures.ok in
    let short = filter_short (λ (e : Entry). not (has_ident c.args.targets.now e.0)) (entries_of c.args.self.now.blocks) in
    omega (arith, short, n, c.chars.ensures.chars, c.chars-before.ensures.chars)
