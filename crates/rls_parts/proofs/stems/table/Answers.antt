use Rattle.std.proofs.Common.{◌∙◌, sym, None, pos}
use Rattle.rls_model.specs.declared.parts.Stem.{Stem}
use Rattle.rls_parts.proofs.RestoredStems.{stems_restored}
use Rattle.rls_parts.proofs.Faults.{author_there, before_there}
use Rattle.rls_parts.proofs.stems.table.Goals as goal

no_stem : Stem
no_stem = record { author = 0; s0 = 0; low = pos 0; next = 0 }

pub push-requires-clause-author : goal.push-requires-clause-author
unfolding no_stem
push-requires-clause-author c =
    let p = c.args.parts.now in
    let a = stems_restored p c.requires.counts None 0 p.stems c.requires.rule in
    author_there c.loop-i.all.members p.vector c.as_slice-stems.result.now p.stems c.loop-i.i no_stem (c.requires.counts ∙ sym c.loop-i.invariant.members) c.as_slice-stems.ensures.items a c.loop-i-test.true

pub push-requires-clause-last : goal.push-requires-clause-last
unfolding no_stem
push-requires-clause-last c =
    let p = c.args.parts.now in
    let a = stems_restored p c.requires.counts None 0 p.stems c.requires.rule in
    before_there p.vector c.as_slice-stems.result.now p.stems c.loop-i.all.stems c.loop-i.i no_stem c.as_slice-stems.ensures.items c.loop-i.invariant.stems a c.loop-i-test.true
