use Rattle.std.proofs.Common.{◌∙◌, ap, sym, Some, List}
use Rattle.std.specs.Option.{option_map}
use Rattle.std.proofs.lemmas.Option.{slice_get-map}
use Rattle.rls_undo.specs.declared.base.Base.{Base}
use Rattle.rls_undo.specs.Keeping.{entry_of}
use Rattle.rls_undo.specs.Plans.{epoch_in}
use Rattle.rls_undo.proofs.Keeping.{got}
use Rattle.rls_undo.proofs.kept.KeptEntries.epoch.Goals as goal

pub epoch_of-requires : goal.epoch_of-requires
epoch_of-requires c = record {
  bases = rw c.deref.ensures.value (got c.self.inside.bases.items c.self.inside.entries.items c.args.self.now c.args.at c.index.result.now c.self.view_is c.self.invariant c.requires.at c.index.ensures).1;
}

pub returns : goal.returns
returns c = record {
  epoch =
      slice_get-map epoch_in c.args.self.now c.args.at
      ∙ (ap (option_map epoch_in) (got c.self.inside.bases.items c.self.inside.entries.items c.args.self.now c.args.at c.index.result.now c.self.view_is c.self.invariant c.requires.at c.index.ensures).2
      ∙ sym (ap (λ x. Some x) (c.epoch_of.ensures.epoch ∙ ap (λ (bs : List Base). epoch_in (entry_of bs c.index.result.now)) c.deref.ensures.value)));
}
