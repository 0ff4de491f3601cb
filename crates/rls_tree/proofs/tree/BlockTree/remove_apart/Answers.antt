use Rattle.std.proofs.Common.{◌≡◌, ℕ, List, Option, Some, IfSome, length, ap, ◌∙◌, subst, arith}
use Rattle.std.specs.Prelude.{not}
use Rattle.rls_runs.specs.Entries.{idents_in, has_ident, without_all}
use Rattle.rls_runs.proofs.Sorted.{Entry}
use Rattle.rls_runs.specs.Runs.{is_increasing}
use Rattle.rls_blocks.specs.declared.rest.Rest.{Rest}
use Rattle.rls_blocks.specs.Edits.{Shows}
use Rattle.rls_blocks.specs.Rests.{rested}
use Rattle.rls_blocks.specs.Trees.{Piece, entries_of}
use Rattle.rls_doc.proofs.Rising.{increasing_filter}
use Rattle.rls_tree.proofs.Without.{filter_short}
use Rattle.rls_tree.proofs.tree.BlockTree.remove_apart.Goals as goal

-- what the rest shows
shown : (o : Option (ℕ × Rest)) (i : ℕ) (rest : Rest) (es : List Entry) (bs : List Piece) → o ≡ Some (i, rest) → IfSome o (λ r. Shows es (rested r.1 bs r.0)) → Shows es (rested rest bs i)
shown o i rest es bs e h = subst (λ (q : Option (ℕ × Rest)). IfSome q (λ r. Shows es (rested r.1 bs r.0))) e h

pub put_rest-requires-clause-chars_fit : goal.put_rest-requires-clause-chars_fit
put_rest-requires-clause-chars_fit c =
    let n = ap length (shown _ _ _ (without_all c.args.targets.now (entries_of c.args.self.now.blocks)) c.args.self.now.blocks c.in-Some.is c.in_ok-i.ensures.shows).entries_are in
    let short = filter_short (λ (e : Entry). not (has_ident c.args.targets.now e.0)) (entries_of c.args.self.now.blocks) in
    omega (arith, short, n, c.chars-chars.ensures.chars)

pub put_rest-requires-clause-rises : goal.put_rest-requires-clause-rises
put_rest-requires-clause-rises c =
    let es = entries_of c.args.self.now.blocks in
    ap (λ zs. is_increasing (idents_in zs)) (shown _ _ _ (without_all c.args.targets.now es) c.args.self.now.blocks c.in-Some.is c.in_ok-i.ensures.shows).entries_are
    ∙ increasing_filter (λ (e : Entry). not (has_ident c.args.targets.now e.0)) es c.blocks-blocks.ensures.rises

pub put_patches-requires-clause-chars_fit : goal.put_patches-requires-clause-chars_fit
put_patches-requires-clause-chars_fit c =
    let n = ap length c.in_ok-patches.ensures.shows.entries_are in
    let short = filter_short (λ (e : Entry). not (has_ident c.args.targets.now e.0)) (entries_of c.args.self.now.blocks) in
    omega (arith, short, n, c.chars-chars.ensures.chars)

pub put_patches-requires-clause-rises : goal.put_patches-requires-clause-rises
put_patches-requires-clause-rises c =
    ap (λ es. is_increasing (idents_in es)) c.in_ok-patches.ensures.shows.entries_are ∙ increasing_filter (λ (e : Entry). not (has_ident c.args.targets.now e.0)) (entries_of c.args.self.now.blocks) c.blocks-blocks.ensures.rises

pub put_patches-requires-clause-loose : goal.put_patches-requires-clause-loose
put_patches-requires-clause-loose c = c.in_ok-patches.ensures.shows.loose

pub returns-clause-ok : goal.returns-clause-ok
returns-clause-ok c = ap entries_of c.put_patches.ensures.blocks ∙ c.in_ok-patches.ensures.shows.entries_are
