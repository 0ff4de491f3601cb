use Rattle.std.proofs.Common.{◌≡◌, ℕ, List, map, sym, subst, arith}
use Rattle.rls_ident.specs.declared.tuple.Tuple.{Tuple}
use Rattle.rls_runs.specs.Runs.{run_idents}
use Rattle.rls_seen.specs.Over.{placed_over}
use Rattle.rls_undo.proofs.Parts.{as_many, part_there}
use Rattle.rls_undo.proofs.translating.Translation.part.Goals as goal

pub locate-from-requires : goal.locate-from-requires
locate-from-requires c =
    let t = c.args.self.now in
    let l = as_many (placed_over c.args.replica.now t.epoch) t.run t.there c.requires.right in
    record { place = omega (arith, l, c.requires.some, c.requires.within) }

pub returns : goal.returns
returns c = record {
  part = λ x l.
      let t = c.args.self.now in
      let f = placed_over c.args.replica.now t.epoch in
      let g = c.locate-from in
      let n = c.args.len in
      subst (λ (p : List Tuple × ℕ). run_idents p.0 p.1 ≡ map f (run_idents x n)) (sym c.in_ok-part.ensures.part)
      (part_there f t.run t.there x g.result.0.now.0 n g.result.1 c.args.place c.requires.right l (λ k h. g.ensures.idents k (omega (arith, h, g.ensures.within, c.len.ensures.len, c.if-len-from.false))));
}
