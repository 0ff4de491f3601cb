use Rattle.std.proofs.Common.{◌≡◌, Bool, true, false, cond, List, Some, Ok, Err, slice_get, refl, sym, ap, ◌∙◌, arith}
use Rattle.std.specs.Prelude.{pos}
use Rattle.std.specs.Result.{is_err}
use Rattle.rls_ident.specs.declared.tuple.Tuple.{Tuple}
use Rattle.rls_ident.specs.Identifiers.{shifted}
use Rattle.rls_ident.proofs.Shifted.{shifted_none}
use Rattle.rls_runs.specs.Entries.{idents_in, has_ident}
use Rattle.rls_runs.specs.Places.{below_count, find_ident}
use Rattle.rls_blocks.specs.Trees.{entries_of}
use Rattle.rls_blocks.specs.Edits.{located}
use Rattle.rls_blocks.proofs.Pieces.{piece_some}
use Rattle.rls_tree.proofs.Starts.{ident_located}
use Rattle.rls_tree.proofs.tree.BlockTree.is_done.Goals as goal

missed : (ts : List (List Tuple)) (x : List Tuple) → is_err (find_ident ts x) ≡ true → has_ident ts x ≡ false
missed ts x h = go (has_ident ts x) refl h
  where
    go : (b : Bool) → has_ident ts x ≡ b → is_err (cond b (Ok (below_count ts x)) (Err (below_count ts x))) ≡ true → has_ident ts x ≡ false
    go true e k = absurd (cc)
    go false e k = e

pub returns-in-Some-Some-clause-stays : goal.returns-in-Some-Some-clause-stays
returns-in-Some-Some-clause-stays c u k x o l g =
    let own = c.in-Some-Some.block.now in
    let xs = idents_in (entries_of c.args.self.now.blocks) in
    let there : located c.args.self.now.blocks c.args.at ≡ Some (own, 0) = rw c.in-Some-Some.field-0-is at c.in-Some-Some.ensures.located in
    let here : slice_get xs k ≡ Some (shifted (pos 0) own.0.0) = ap (slice_get xs) (omega (arith, o, l)) ∙ ident_located c.args.self.now.blocks c.args.at 0 own c.chars-chars.ensures.pieces there c.len-len.ensures.piece (piece_some own c.len-len.ensures.piece) in
    let same : Some x ≡ Some own.0.0 = sym g ∙ here ∙ ap Some (shifted_none own.0.0) in
    let is : x ≡ own.0.0 = cc in
    ap (has_ident c.args.targets.now) (is ∙ sym (c.first.ensures.first ∙ ap (λ r. r.0) c.run.ensures.run)) ∙ missed c.args.targets.now c.first.result.now (ap is_err (sym c.find.ensures.find) ∙ sym c.is_err.ensures.value ∙ u)
