-- Blocks split at a place.
use Rattle.std.proofs.Common.{◌≡◌, ℕ, ◌+◌, ◌<◌, List, [], ◌∷◌, ◌++◌, length, sym, ap, ◌∙◌, subst, append_assoc}
use Rattle.rls_blocks.specs.Trees.{Piece, ArePieces, entries_of}
use Rattle.rls_blocks.specs.Splits.{IsBetweenLists, IsWithin}
use Rattle.rls_blocks.proofs.Pieces.{chars_append, node_length}

pub are_left : (xs ys : List Piece) → ArePieces (xs ++ ys) → ArePieces xs
are_left [] ys h = tt
are_left (x ∷ xs) ys h = (h.0, are_left xs ys h.1)

pub are_right : (xs ys : List Piece) → ArePieces (xs ++ ys) → ArePieces ys
are_right [] ys h = h
are_right (x ∷ xs) ys h = are_right xs ys h.1

-- the parts of a tree on one side of a block, with the block and what is on its other side
pub more_behind : {bs l j : List Piece} (near far rest : List Piece) → bs ≡ l ++ rest → l ≡ near ++ far → j ≡ far ++ rest → bs ≡ near ++ j
more_behind near far rest e h k = e ∙ ap (λ xs. xs ++ rest) h ∙ append_assoc near far rest ∙ ap (λ xs. near ++ xs) (sym k)

pub more_front : {bs r j : List Piece} (front near far : List Piece) (own : Piece) → bs ≡ front ++ own ∷ r → r ≡ near ++ far → j ≡ front ++ own ∷ near → bs ≡ j ++ far
more_front front near far own e h k = e ∙ ap (λ xs. front ++ own ∷ xs) h ∙ sym (append_assoc front (own ∷ near) far) ∙ ap (λ xs. xs ++ far) (sym k)

module _ (bs f g : List Piece) (i : ℕ) (are : ArePieces bs) where
  pub between_is : bs ≡ f ++ g → length (entries_of f) ≡ i → IsBetweenLists bs i f g
  between_is e h =
      let all = subst ArePieces e are in
      record { blocks = e; place = h; front_are = are_left f g all; behind_are = are_right f g all; chars = ap (λ xs. length (entries_of xs)) e ∙ chars_append f g }

  pub within_is : (b : Piece) (at : ℕ) → bs ≡ f ++ b ∷ g → length (entries_of f) + at ≡ i → 0 < at → at < length b.1 → IsWithin bs i f b at g
  within_is b at e h some within =
      let all = subst ArePieces e are in
      let own = are_right f (b ∷ g) all in
      record { blocks = e; place = h; some = some; within = within; piece = own.0; front_are = are_left f (b ∷ g) all; behind_are = own.1; chars = ap (λ xs. length (entries_of xs)) e ∙ node_length f g b own.0 }
