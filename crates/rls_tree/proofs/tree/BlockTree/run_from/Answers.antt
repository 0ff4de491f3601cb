use Rattle.std.proofs.Common.{◌≡◌, ℕ, ◌<◌, List, take, drop, length, ap, ◌∙◌, sym, arith}
use Rattle.std.specs.Prelude.{pos}
use Rattle.std.proofs.lemmas.Result.{IfOk-weaker}
use Rattle.rls_ident.specs.declared.tuple.Tuple.{Tuple}
use Rattle.rls_ident.specs.Identifiers.{shifted}
use Rattle.rls_runs.specs.Runs.{run_idents}
use Rattle.rls_runs.specs.Entries.{idents_in}
use Rattle.rls_blocks.specs.Trees.{entries_of}
use Rattle.rls_blocks.proofs.AtPlaces.{part_at}
use Rattle.rls_tree.proofs.Puts.{idents_located}
use Rattle.rls_tree.proofs.tree.BlockTree.run_from.Goals as goal

pub returns : goal.returns
returns c =
    let b = c.locate-at.result.0.now in
    let j = c.locate-at.result.1 in
    let i = c.args.i in
    let bs = c.args.self.now.blocks in
    let n = c.min-len.result in
    let many : length b.1 ≡ b.0.1 = c.len.ensures.piece.as_many in
    let some : 0 < n = omega (arith, c.len.ensures.len, c.locate-at.ensures.within, c.min-len.ensures, c.requires.some) in
    let at = part_at bs i j n b c.chars-chars.ensures.pieces c.locate-at.ensures.located (omega (arith, c.len.ensures.len, c.locate-at.ensures.within, c.min-len.ensures)) some in
    let w = at.1 in
    let all = idents_located bs i j n b c.chars-chars.ensures.pieces c.locate-at.ensures.located many (omega (arith, many, c.len.ensures.len, c.locate-at.ensures.within, c.min-len.ensures)) some in
    let len = IfOk-weaker c.part.result _ (λ (q : List Tuple × ℕ). q.1 ≡ n) (λ r h. ap (λ (q : List Tuple × ℕ). q.1) h) c.part.ensures.part in
    record {
      some = IfOk-weaker c.part.result _ _ (λ r l. omega (arith, l, some)) len;
      most = IfOk-weaker c.part.result _ _ (λ r l. omega (arith, l, c.min-len.ensures)) len;
      within = IfOk-weaker c.part.result _ _ (λ r l. omega (arith, l, w)) len;
      idents = IfOk-weaker c.part.result _ _ (λ r h. let k = h ∙ ap (λ q. (shifted (pos j) q.0, n)) c.run.ensures.run in
          ap (λ (q : List Tuple × ℕ). take q.1 (drop i (idents_in (entries_of bs)))) k ∙ all ∙ ap (λ (q : List Tuple × ℕ). run_idents q.0 q.1) (sym k)) c.part.ensures.part;
    }
