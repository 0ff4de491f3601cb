use Rattle.std.proofs.Common.{sym, ap, ◌∙◌, subst}
use Rattle.std.specs.Prelude.{reverse}
use Rattle.rls_ident.specs.declared.tuple.Tuple.{Tuple}
use Rattle.rls_ident.specs.Tuples.{offset_of, seq_of}
use Rattle.rls_steps.specs.Labelled.{Names, label_of}
use Rattle.rls_steps.specs.NameRuns.{named}
use Rattle.rls_steps.specs.declared.height.Height.{Height}
use Rattle.rls_steps.specs.Heights.{GoesOver}
use Rattle.rls_steps.proofs.Heights.{over_free}
use Rattle.rls_steps.proofs.names.Names.is_over.Goals as goal

pub returns : goal.returns
returns c = record {
  none = λ t.
      let h = c.self.inside.height in
      let over = subst (λ (u : Tuple). GoesOver h (seq_of u) (offset_of u)) (sym c.last.ensures.last) (subst (λ (k : Height). GoesOver h k.seq k.offset) c.of.ensures.height (c.is_under.ensures.over t)) in
      ap (λ (ks : Names). label_of (reverse ks) c.args.ident.now) (sym c.self.view_is) ∙ over_free h (named c.self.inside.runs.items) c.args.ident.now c.self.invariant.far over;
}
