use Rattle.std.proofs.Common.{length, sym, ap, ◌∙◌, arith}
use Rattle.rls_blocks.specs.Trees.{entries_of}
use Rattle.rls_blocks.specs.Patches.{before, after}
use Rattle.rls_blocks.proofs.Patches.{before_seam, after_seam, before_within, between_most}
use Rattle.rls_blocks.proofs.patch.split_between.Goals as goal

pub split-requires : goal.split-requires
split-requires c = record { place = between_most c.args.i c.args.link.blocks c.requires.between }

pub returns : goal.returns
returns c =
    let h = c.in-Between.ensures.splits in
    let f = c.in-Between.front.blocks in
    let g = c.in-Between.behind.blocks in
    record {
      front = sym (ap (before c.args.i) h.blocks ∙ before_seam f g c.args.i h.front_are h.behind_are h.place);
      behind = sym (ap (after c.args.i) h.blocks ∙ after_seam f g c.args.i h.front_are h.behind_are h.place);
      both = h.blocks;
    }

pub unreachable-requires : goal.unreachable-requires
unreachable-requires c =
    let h = c.in-Within.ensures.splits in
    let at = ap (λ bs. length (entries_of bs)) (ap (before c.args.i) h.blocks ∙ before_within c.in-Within.field-0.blocks c.in-Within.field-3.blocks c.in-Within.field-1 c.args.i h.front_are (omega (arith, h.place)) (omega (arith, h.place, h.within))) in
    omega (arith, at, h.place, h.some, c.requires.between)
