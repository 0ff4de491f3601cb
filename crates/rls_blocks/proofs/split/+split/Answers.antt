use Rattle.std.proofs.Common.{◌∷◌, ap, arith}
use Rattle.rls_blocks.proofs.Splits.{more_behind, more_front, between_is, within_is}
use Rattle.rls_blocks.proofs.split.+split.Goals as goal

pub returns-in-Between : goal.returns-in-Between
returns-in-Between t c =
    let o = c.in-Some.opened in
    let h = c.in-Between.ensures.splits in
    let all = more_behind c.in-Between.near.blocks c.in-Between.far.blocks (o.own ∷ o.right.blocks) c.in-Some.ensures.blocks h.blocks c.join.ensures.blocks in
    record { splits = between_is c.args.link.blocks c.in-Between.near.blocks c.join.result.blocks c.args.i c.chars-chars.ensures.pieces all h.place }

pub returns-in-Within : goal.returns-in-Within
returns-in-Within t c =
    let o = c.in-Some.opened in
    let s = c.in-Within in
    let h = s.ensures.splits in
    let all = more_behind s.near.blocks (s.own ∷ s.far.blocks) (o.own ∷ o.right.blocks) c.in-Some.ensures.blocks h.blocks (ap (λ bs. s.own ∷ bs) c.join-in-Within.ensures.blocks) in
    record { splits = within_is c.args.link.blocks s.near.blocks c.join-in-Within.result.blocks c.args.i c.chars-chars.ensures.pieces s.own s.at all h.place h.some h.within }

pub returns-in-Between-split : goal.returns-in-Between-split
returns-in-Between-split t c =
    let o = c.in-Some.opened in
    let s = c.in-Between-split in
    let all = more_front o.left.blocks s.near.blocks s.far.blocks o.own c.in-Some.ensures.blocks s.ensures.splits.blocks c.join-in-Between-split.ensures.blocks in
    record { splits = between_is c.args.link.blocks c.join-in-Between-split.result.blocks s.far.blocks c.args.i c.chars-chars.ensures.pieces all (omega (arith, s.ensures.splits.place)) }

pub returns-in-Within-split : goal.returns-in-Within-split
returns-in-Within-split t c =
    let o = c.in-Some.opened in
    let s = c.in-Within-split in
    let h = s.ensures.splits in
    let all = more_front o.left.blocks s.near.blocks (s.own ∷ s.far.blocks) o.own c.in-Some.ensures.blocks h.blocks c.join-in-Within-split.ensures.blocks in
    record { splits = within_is c.args.link.blocks c.join-in-Within-split.result.blocks s.far.blocks c.args.i c.chars-chars.ensures.pieces s.own s.at all (omega (arith, h.place)) h.some h.within }
