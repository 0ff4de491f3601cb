use Rattle.std.proofs.Common.{length, refl}
use Rattle.std.proofs.lemmas.Option.{slice_get_read}
use Rattle.rls_steps.proofs.Bounded.{none_before}
use Rattle.rls_steps.proofs.bound.Bounds.count_before.Goals as goal

pub returns-clause-none : goal.returns-clause-none
returns-clause-none c = λ rs l o has.
    let os = c.args.self.now.olders.items in
    none_before rs os c.args.run c.index.result.now c.min.result l o.older (slice_get_read os (length os) c.args.run c.index.result.now refl c.requires.run c.index.ensures) has c.min.ensures
