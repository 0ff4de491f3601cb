use Rattle.std.proofs.Common.{length, ap, ◌∙◌, arith}
use Rattle.std.specs.Prelude.{zip}
use Rattle.std.proofs.lemmas.Slice.Zip.{length-zip}
use Rattle.rls_runs.specs.Runs.{idents_of, is_increasing}
use Rattle.rls_runs.specs.Entries.{idents_in}
use Rattle.rls_runs.proofs.Sorted.{length-put_all}
use Rattle.rls_blocks.specs.Trees.{entries_of}
use Rattle.rls_tree.proofs.Filled.{put_rises}
use Rattle.rls_tree.proofs.tree.BlockTree.insert_apart.Goals as goal

pub patches_with-requires-clause-room : goal.patches_with-requires-clause-room
patches_with-requires-clause-room c =
    let es = entries_of c.args.self.now.blocks in
    let rs = c.args.runs.now in
    let cs = c.args.text.now in
    let n = ap length c.in_ok-gaps.ensures.filled in
    let l = length-put_all (zip (idents_of rs) cs) es in
    let z = length-zip (idents_of rs) cs in
    omega (arith, n, l, z, c.requires.room)

pub put_patches-requires-clause-chars_fit : goal.put_patches-requires-clause-chars_fit
put_patches-requires-clause-chars_fit c =
    let es = entries_of c.args.self.now.blocks in
    let rs = c.args.runs.now in
    let cs = c.args.text.now in
    let n = ap length (c.in_ok-patches.ensures.shows.entries_are ∙ c.in_ok-gaps.ensures.filled) in
    let l = length-put_all (zip (idents_of rs) cs) es in
    let z = length-zip (idents_of rs) cs in
    omega (arith, n, l, z, c.requires.room)

pub put_patches-requires-clause-loose : goal.put_patches-requires-clause-loose
put_patches-requires-clause-loose c = c.in_ok-patches.ensures.shows.loose

pub put_patches-requires-clause-rises : goal.put_patches-requires-clause-rises
put_patches-requires-clause-rises c =
    let es = entries_of c.args.self.now.blocks in
    let rs = c.args.runs.now in
    ap (λ zs. is_increasing (idents_in zs)) (c.in_ok-patches.ensures.shows.entries_are ∙ c.in_ok-gaps.ensures.filled)
    ∙ put_rises (idents_of rs) c.args.text.now es c.requires.as_many c.requires.rises c.requires.new c.blocks-blocks.ensures.rises

pub returns-clause-ok : goal.returns-clause-ok
returns-clause-ok c =
    ap entries_of c.put_patches.ensures.blocks ∙ c.in_ok-patches.ensures.shows.entries_are ∙ c.in_ok-gaps.ensures.filled
