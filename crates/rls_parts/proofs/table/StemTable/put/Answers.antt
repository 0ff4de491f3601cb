use Rattle.std.proofs.Common.{◌<◌, sym, ap, ◌∙◌, subst}
use Rattle.rls_model.specs.declared.parts.Stem.{Stem}
use Rattle.rls_model.specs.Stems.{with_stem}
use Rattle.rls_parts.proofs.Tabled.{member_is, below_read, begins_read}
use Rattle.rls_parts.proofs.table.StemTable.put.Goals as goal

pub push-requires-clause-newest : goal.push-requires-clause-newest
push-requires-clause-newest c =
    let ls = c.self.inside.lines.items in
    let stem = c.args.stem.now in
    let there = member_is ls c.args.self.now stem.author c.self.view_is c.requires.author in
    let number = ap (λ (t : Stem). t.s0) c.of.ensures.reach in
    below_read ls c.args.self.now stem.author c.of.result.s0 c.index_mut.result.now c.self.view_is there c.index_mut.ensures.value (λ t q e. subst (λ s. t.s0 < s) (sym number) (c.requires.newest t q e))

pub returns-clause-stems : goal.returns-clause-stems
returns-clause-stems c =
    let ls = c.self.inside.lines.items in
    let stem = c.args.stem.now in
    let there = member_is ls c.args.self.now stem.author c.self.view_is c.requires.author in
    begins_read ls c.args.self.now stem.author c.of.result c.index_mut.result.now c.push.new.self c.self.view_is there c.index_mut.ensures.value c.push.ensures.reaches ∙ ap (λ t. with_stem t c.args.self.now.stems) c.of.ensures.reach
