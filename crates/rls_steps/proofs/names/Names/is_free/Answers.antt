use Rattle.std.proofs.Common.{List, ap, ◌∙◌, sym, arith}
use Rattle.std.specs.Prelude.{reverse}
use Rattle.rls_steps.specs.Labelled.{Names, label_of}
use Rattle.rls_steps.specs.NameRuns.{Stretch, name_at, named}
use Rattle.rls_steps.proofs.Heights.{over_free}
use Rattle.rls_steps.proofs.names.Names.is_free.Goals as goal

pub returns-then-is_over : goal.returns-then-is_over
returns-then-is_over c = record {
  free = λ t k h.
      let x = (name_at c.args.run.now k).0 in
      ap (λ (ks : Names). label_of (reverse ks) x) (sym c.self.view_is) ∙ over_free c.self.inside.height (named c.self.inside.runs.items) x c.self.invariant.far (c.is_over.ensures.over c.if-is_over.true k h);
}

pub returns : goal.returns
returns c = record {
  free = λ t k h.
      let w = c.in_ok-least.ensures.all k h in
      let rs = c.deref.result.now in
      let x = (name_at c.args.run.now k).0 in
      let short = w.1 in
      let size = c.len.ensures.len in
      ap (λ (ks : Names). label_of (reverse ks) x) (sym c.self.view_is)
      ∙ (ap (λ (qs : List Stretch). label_of (reverse (named qs)) x) (sym c.deref.ensures.value) ∙ (ap (label_of (reverse (named rs))) w.2 ∙ c.in_ok-free.ensures.free t w.0 (omega (arith, short, size))));
}
