-- One block more among blocks, after a character.
use Rattle.std.proofs.Common.{◌≡◌, ℕ, ◌+◌, ◌-◌, ◌<◌, ◌≤◌, Bool, true, false, List, [], ◌∷◌, ◌++◌, length, Result, Ok, Err, refl, sym, ap, ◌∙◌, arith, length-append}
use Rattle.std.specs.Prelude.{OnOk, OnErr, nat_lt, if◌then◌else◌}
use Rattle.rls_ident.proofs.Members.{lt_is, lt_test, not_true}
use Rattle.rls_blocks.specs.declared.node.Node.TheInside.{Inside}
use Rattle.rls_blocks.specs.Trees.{Piece, Seen, IsPiece, ArePieces, IsSound, piece_entries, entries_of}
use Rattle.rls_blocks.specs.Edits.{part_of, put_in, put_among}
use Rattle.rls_blocks.proofs.Pieces.{piece_length, node_length, chars_append}
use Rattle.rls_blocks.proofs.AtPlaces.{part_exact}
use Rattle.rls_blocks.proofs.Cases.{single_chars}
use Rattle.rls_blocks.proofs.Placed.{around, put_around, made_front, made_own, made_behind}

-- ---- how many characters there are

in_chars : (n b : Piece) (at : ℕ) → IsPiece n.0 n.1 → IsPiece b.0 b.1 → length (entries_of (put_in n b at)) ≡ length b.1 + length n.1
in_chars n b at new own = go (nat_lt (at + 1) (length b.1)) refl
  where
    go : (t : Bool) → nat_lt (at + 1) (length b.1) ≡ t → length (entries_of (if t then part_of 0 (at + 1) b ∷ n ∷ part_of (at + 1) (b.0.1 - (at + 1)) b ∷ [] else b ∷ n ∷ [])) ≡ length b.1 + length n.1
    go true e =
        let near = part_of 0 (at + 1) b in
        let far = part_of (at + 1) (b.0.1 - (at + 1)) b in
        let w = lt_is (at + 1) (length b.1) e in
        omega (
          arith,
          w,
          own.as_many,
          length-append (piece_entries near) (entries_of (n ∷ far ∷ [])),
          length-append (piece_entries n) (entries_of (far ∷ [])),
          length-append (piece_entries far) (entries_of []),
          piece_length n new,
          part_exact b 0 (at + 1) own.as_many (omega (arith, w, own.as_many)),
          part_exact b (at + 1) (b.0.1 - (at + 1)) own.as_many (omega (arith, w, own.as_many)),
        )
    go false e = omega (arith, length-append (piece_entries b) (entries_of (n ∷ [])), piece_length b own, single_chars n new)

pub put_chars : (n : Piece) (bs : List Piece) (i : ℕ) → IsPiece n.0 n.1 → ArePieces bs → i < length (entries_of bs) → length (entries_of (put_among n bs i)) ≡ length (entries_of bs) + length n.1
put_chars n bs i new are place =
    let r = around bs i are place in
    let all = ap (λ xs. length (entries_of xs)) r.blocks_are ∙ node_length r.front r.behind r.own r.own_is in
    let put = ap (λ xs. length (entries_of xs)) (put_around n bs i r) ∙ chars_append (r.front ++ put_in n r.own r.at) r.behind in
    omega (arith, all, put, chars_append r.front (put_in n r.own r.at), in_chars n r.own r.at new r.own_is)

-- whether it went in or not
pub put_most : {A E : Type 0} (r : Result A E) (n : Piece) (old new : List Piece) (i : ℕ) → IsPiece n.0 n.1 → ArePieces old → i < length (entries_of old) → OnOk r (new ≡ put_among n old i) → OnErr r (new ≡ old)
    → length (entries_of new) ≤ length (entries_of old) + length n.1
put_most (Ok x) n old new i piece are place ok err = omega (arith, ap (λ bs. length (entries_of bs)) ok, put_chars n old i piece are place)
put_most (Err e) n old new i piece are place ok err = omega (arith, ap (λ bs. length (entries_of bs)) err)

-- ---- in a node

-- what is seen of it
abbrev seen : Inside → Seen
seen s = record { blocks = s.left.blocks ++ s.block ∷ s.right.blocks; height = s.height; left = s.left; block = s.block; right = s.right }

module _ (s : Inside) (v : IsSound s.left s.right s.block s.front s.end s.chars s.blocks s.height) (node : Seen) (view : seen s ≡ node) where
  is : node.blocks ≡ s.left.blocks ++ s.block ∷ s.right.blocks
  is = sym (ap (λ n. n.blocks) view)

  -- how many characters it has
  pub node_chars : length (entries_of node.blocks) ≡ length (entries_of s.left.blocks) + length s.block.1 + length (entries_of s.right.blocks)
  node_chars = ap (λ bs. length (entries_of bs)) is ∙ node_length s.left.blocks s.right.blocks s.block v.own_is

  -- a side has fewer blocks
  pub node_count : length node.blocks ≡ length s.left.blocks + length s.right.blocks + 1
  node_count = omega (arith, ap length is, length-append s.left.blocks (s.block ∷ s.right.blocks))

  -- where its own block begins and ends
  pub node_front : s.front ≡ length (entries_of node.left.blocks)
  node_front = v.front_is ∙ ap (λ n. length (entries_of n.left.blocks)) view

  pub node_end : s.end ≡ length (entries_of node.left.blocks) + length node.block.1
  node_end = omega (arith, v.end_is, node_front, ap (λ n. length n.block.1) view)

  module _ (n : Piece) (i : ℕ) (new : List Piece) where
    -- how many characters there are at most, if a block goes into its left side
    pub left_most : {A E : Type 0} (r : Result A E) → IsPiece n.0 n.1 → i < length (entries_of node.left.blocks) → OnOk r (new ≡ put_among n s.left.blocks i) → OnErr r (new ≡ s.left.blocks)
        → length (entries_of new) + length s.block.1 + length (entries_of s.right.blocks) ≤ length (entries_of node.blocks) + length n.1
    left_most r piece h ok err = omega (arith, put_most r n s.left.blocks new i piece v.left_are (omega (arith, h, v.front_is, node_front)) ok err, node_chars)

    -- or into its right side
    pub right_most : {A E : Type 0} (r : Result A E) (j : ℕ) → IsPiece n.0 n.1 → i ≡ s.end + j → i < length (entries_of node.blocks) → OnOk r (new ≡ put_among n s.right.blocks j) → OnErr r (new ≡ s.right.blocks)
        → length (entries_of s.left.blocks) + length s.block.1 + length (entries_of new) ≤ length (entries_of node.blocks) + length n.1
    right_most r j piece e h ok err = omega (arith, put_most r n s.right.blocks new j piece v.right_are (omega (arith, e, h, v.front_is, v.end_is, node_chars)) ok err, node_chars)

    -- which blocks there are, if it goes into its left side
    pub put_left : i < length (entries_of node.left.blocks) → new ≡ put_among n s.left.blocks i → new ++ s.block ∷ s.right.blocks ≡ put_among n node.blocks i
    put_left h d = ap (λ bs. bs ++ s.block ∷ s.right.blocks) d ∙ made_front s.block s.left.blocks s.right.blocks node.blocks i is v.left_are v.own_is (put_in n) (omega (arith, h, v.front_is, node_front))

    -- or into its right side
    pub put_right : (j : ℕ) → i ≡ s.end + j → new ≡ put_among n s.right.blocks j → s.left.blocks ++ s.block ∷ new ≡ put_among n node.blocks i
    put_right j e d = ap (λ bs. s.left.blocks ++ s.block ∷ bs) d ∙ made_behind s.block s.left.blocks s.right.blocks node.blocks i is v.left_are v.own_is (put_in n) j (omega (arith, e, v.front_is, v.end_is))

-- ---- beside the block that has the place

module _ (n b : Piece) (l r link : List Piece) (i at : ℕ) (is : link ≡ l ++ b ∷ r) (front : ArePieces l) (own : IsPiece b.0 b.1) (place : i ≡ length (entries_of l) + at) where
  abbrev beside : Bool → List Piece
  beside t = l ++ ((if t then part_of 0 (at + 1) b ∷ n ∷ part_of (at + 1) (b.0.1 - (at + 1)) b ∷ [] else b ∷ n ∷ []) ++ r)

  -- at its end
  pub put_after_block : at + 1 ≡ length b.1 → l ++ b ∷ n ∷ r ≡ put_among n link i
  put_after_block last =
      let test : nat_lt (at + 1) (length b.1) ≡ false = not_true (nat_lt (at + 1) (length b.1)) (λ t. let w = lt_is (at + 1) (length b.1) t in omega (arith, w, last)) in
      sym (ap beside test) ∙ made_own b l r link i is front own (put_in n) at place (omega (arith, last))

  -- within it
  pub put_within_block : at + 1 < length b.1 → l ++ part_of 0 (at + 1) b ∷ n ∷ part_of (at + 1) (b.0.1 - (at + 1)) b ∷ r ≡ put_among n link i
  put_within_block fits = sym (ap beside (lt_test (at + 1) (length b.1) fits)) ∙ made_own b l r link i is front own (put_in n) at place (omega (arith, fits))
