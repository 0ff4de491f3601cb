use Rattle.std.proofs.Common.{◌∙◌, ap, List}
use Rattle.rls_undo.specs.declared.kept.Kept.{Kept}
use Rattle.rls_undo.specs.Keeping.{last_bases}
use Rattle.rls_undo.proofs.Keeping.{popped_kept, popped_view}
use Rattle.rls_undo.proofs.kept.KeptEntries.pop.Goals as goal

pub invariant_of-self-2 : goal.invariant_of-self-2
invariant_of-self-2 c =
    popped_kept c.self.inside.bases.items c.truncate.new.self.items c.self.inside.entries.items c.pop.new.self.items c.in-Some.field-0 c.count_bases-bases.result c.in-Some.ensures.items c.self.invariant
    (c.count_bases-bases.ensures.bases ∙ ap (λ (ks : List Kept). last_bases 0 ks) c.deref.ensures.value) c.truncate.ensures.items

pub returns-clause-entries : goal.returns-clause-entries
returns-clause-entries c =
    popped_view c.self.inside.bases.items c.truncate.new.self.items c.self.inside.entries.items c.pop.new.self.items c.in-Some.field-0 c.count_bases-bases.result c.args.self.now c.in-Some.ensures.items c.self.invariant
    (c.count_bases-bases.ensures.bases ∙ ap (λ (ks : List Kept). last_bases 0 ks) c.deref.ensures.value) c.truncate.ensures.items c.self.view_is
