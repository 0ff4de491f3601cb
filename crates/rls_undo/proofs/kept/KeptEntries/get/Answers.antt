use Rattle.std.proofs.Common.{◌∙◌, ap, sym, Some, List}
use Rattle.rls_undo.specs.declared.base.Base.{Base}
use Rattle.rls_undo.specs.Keeping.{entry_of}
use Rattle.rls_undo.proofs.Keeping.{got}
use Rattle.rls_undo.proofs.kept.KeptEntries.get.Goals as goal

pub entry_of-requires-clause-range : goal.entry_of-requires-clause-range
entry_of-requires-clause-range c = (got c.self.inside.bases.items c.self.inside.entries.items c.args.self.now c.args.at c.index.result.now c.self.view_is c.self.invariant c.requires.at c.index.ensures).0

pub entry_of-requires-clause-bases : goal.entry_of-requires-clause-bases
entry_of-requires-clause-bases c = rw c.deref.ensures.value (got c.self.inside.bases.items c.self.inside.entries.items c.args.self.now c.args.at c.index.result.now c.self.view_is c.self.invariant c.requires.at c.index.ensures).1

pub returns : goal.returns
returns c = record {
  entry =
      (got c.self.inside.bases.items c.self.inside.entries.items c.args.self.now c.args.at c.index.result.now c.self.view_is c.self.invariant c.requires.at c.index.ensures).2
      ∙ sym (ap (λ x. Some x) (c.in_ok-entry.ensures.entry ∙ ap (λ (bs : List Base). entry_of bs c.index.result.now) c.deref.ensures.value));
}
