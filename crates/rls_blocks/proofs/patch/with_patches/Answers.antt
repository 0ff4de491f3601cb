use Rattle.std.proofs.Common.{◌<◌, ◌^◌, ◌++◌, length, ap, ◌∙◌, arith, rules}
use Rattle.std.proofs.lemmas.Grind.{common_steps}
use Rattle.rls_blocks.specs.Trees.{entries_of}
use Rattle.rls_blocks.proofs.Pieces.{chars_append}
use Rattle.rls_blocks.proofs.Patches.{from_between, parts_fit, last_put}
use Rattle.rls_blocks.proofs.patch.with_patches.Goals as goal

pub split_between-kept-requires : goal.split_between-kept-requires
split_between-kept-requires c =
    let l = c.loop-patch in
    record { between = from_between l.patches.items c.pop.new.self.items c.in-Some.patch l.front.blocks l.behind.blocks _ c.in-Some.ensures.items l.invariant.patches l.invariant.blocks c.split_between-near.result.0.blocks c.split_between-near.ensures.front }

pub concat-requires : goal.concat-requires
concat-requires c =
    let l = c.loop-patch in
    let fit = parts_fit l.patches.items c.pop.new.self.items c.in-Some.patch l.front.blocks l.behind.blocks _ c.in-Some.ensures.items l.invariant.patches l.invariant.blocks c.split_between-near.result.1.blocks c.split_between-near.ensures.behind c.requires.chars_fit in
    record { chars_fit = omega (arith, fit) }

pub concat-behind-requires : goal.concat-behind-requires
concat-behind-requires c =
    let l = c.loop-patch in
    let fit = parts_fit l.patches.items c.pop.new.self.items c.in-Some.patch l.front.blocks l.behind.blocks _ c.in-Some.ensures.items l.invariant.patches l.invariant.blocks c.split_between-near.result.1.blocks c.split_between-near.ensures.behind c.requires.chars_fit in
    record { chars_fit = omega (arith, fit, c.concat.ensures.chars) }

pub concat-requires-2 : goal.concat-requires-2
concat-requires-2 c =
    let l = c.loop-patch in
    let fit : length (entries_of (l.front.blocks ++ l.behind.blocks)) < 2 ^ 64 = first_of (search rules, grind (arith, common_steps)) in
    record { chars_fit = omega (arith, fit, chars_append l.front.blocks l.behind.blocks) }

pub loop-patch-preserved-in-Some : goal.loop-patch-preserved-in-Some
loop-patch-preserved-in-Some c =
    let l = c.loop-patch in
    let s = last_put l.patches.items c.pop.new.self.items c.in-Some.patch l.front.blocks l.behind.blocks _ c.in-Some.ensures.items l.invariant.patches l.invariant.blocks c.split_between-near.result.0.blocks c.split_between-near.result.1.blocks c.split_between-kept.result.0.blocks c.concat-behind.result.blocks c.split_between-near.ensures.front c.split_between-near.ensures.behind c.split_between-kept.ensures.front (c.concat-behind.ensures.blocks ∙ ap (λ bs. bs ++ l.behind.blocks) c.concat.ensures.blocks) in
    record { patches = s.0; blocks = s.1 }

pub loop-patch-preserved : goal.loop-patch-preserved
loop-patch-preserved c =
    let l = c.loop-patch in
    let s = last_put l.patches.items c.pop.new.self.items c.in-Some.patch l.front.blocks l.behind.blocks _ c.in-Some.ensures.items l.invariant.patches l.invariant.blocks c.split_between-near.result.0.blocks c.split_between-near.result.1.blocks c.split_between-kept.result.0.blocks c.concat-behind.result.blocks c.split_between-near.ensures.front c.split_between-near.ensures.behind c.split_between-kept.ensures.front (c.concat-behind.ensures.blocks ∙ ap (λ bs. bs ++ l.behind.blocks) c.concat.ensures.blocks) in
    record { patches = s.0; blocks = s.1 }
