use Rattle.std.proofs.Common.{◌≡◌, ◌+◌, ◌∷◌, ◌++◌, length, ap, ◌∙◌, subst, arith}
use Rattle.rls_blocks.specs.Trees.{Piece, IsPiece, entries_of}
use Rattle.rls_blocks.specs.Edits.{part_of}
use Rattle.rls_blocks.specs.Rests.{rested}
use Rattle.rls_blocks.proofs.Rests.{own_rest, rested_is, rested_chars}
use Rattle.rls_blocks.proofs.rest.with_rest.Goals as goal

pub keep-requires-clause-run : goal.keep-requires-clause-run
keep-requires-clause-run c =
    (own_rest _ _ _ _ _ _ _ c.split_between-near.ensures.both c.in-Some.ensures.blocks c.split_between-near.ensures.front c.requires.between c.chars-chars.ensures.pieces c.requires.is_rest).run_is

pub keep-requires-clause-within : goal.keep-requires-clause-within
keep-requires-clause-within c =
    let is = own_rest _ _ _ _ _ _ _ c.split_between-near.ensures.both c.in-Some.ensures.blocks c.split_between-near.ensures.front c.requires.between c.chars-chars.ensures.pieces c.requires.is_rest in
    omega (arith, is.within, c.in-Some.ensures.piece.as_many)

-- how many characters there are
all : (c : goal.After-len-own) → length (entries_of (rested c.args.rest c.args.link.blocks c.args.i))
    ≡ (length (entries_of c.split_between-near.result.0.blocks) + length (entries_of c.args.rest.front.blocks)) + length (part_of c.args.rest.at c.args.rest.run.1 c.in-Some.own).1 + (length (entries_of c.args.rest.behind.blocks) + length (entries_of c.in-Some.far.blocks))
all c =
    let piece = subst (λ (q : Piece). IsPiece q.0 q.1) c.keep.ensures.part c.len-own.ensures.piece in
    rested_chars _ _ _ _ _ _ c.args.rest c.split_between-near.ensures.both c.in-Some.ensures.blocks c.split_between-near.ensures.front c.requires.between c.chars-chars.ensures.pieces piece

pub concat-requires : goal.concat-requires
concat-requires c = record { chars_fit = omega (arith, all c, c.requires.chars_fit) }

pub concat-requires-2 : goal.concat-requires-2
concat-requires-2 c = record { chars_fit = omega (arith, all c.before, c.requires.chars_fit) }

pub join-requires : goal.join-requires
join-requires c =
    record { chars_fit = omega (arith, all c.before.before, ap (λ (q : Piece). length q.1) c.keep.ensures.part, c.concat.ensures.chars, c.concat-2.ensures.chars, c.requires.chars_fit) }

pub returns : goal.returns
returns c =
    let near = c.split_between-near.result.0.blocks ++ c.args.rest.front.blocks in
    let whole = ap (λ xs. xs ++ c.keep.new.self ∷ c.concat-2.result.blocks) c.concat.ensures.blocks ∙ ap (λ xs. near ++ c.keep.new.self ∷ xs) c.concat-2.ensures.blocks in
    record { blocks = c.join.ensures.blocks ∙ whole ∙ ap (λ q. near ++ q ∷ (c.args.rest.behind.blocks ++ c.in-Some.far.blocks)) c.keep.ensures.part ∙ rested_is _ _ _ _ _ _ c.args.rest c.split_between-near.ensures.both c.in-Some.ensures.blocks c.split_between-near.ensures.front c.requires.between c.chars-chars.ensures.pieces }
