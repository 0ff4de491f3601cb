-- The identifiers of a node: those of its left side, of its block and of its right side.
use Rattle.std.proofs.Common.{None, Result, Ok, Err, true, ◌≡◌, ℕ, ◌+◌, ◌<◌, ◌≤◌, List, ◌∷◌, ◌++◌, ◌⊎◌, length, inr, sym, ap, ◌∙◌, subst, arith}
use Rattle.std.proofs.lemmas.List.{map-append, length-map}
use Rattle.rls_ident.specs.declared.tuple.Tuple.{Tuple}
use Rattle.rls_runs.specs.Runs.{run_idents, idents_of, are_apart, place_of}
use Rattle.rls_runs.proofs.RunOrder.{Rising, idents_append, idents_rise, rising_left, rising_right}
use Rattle.rls_runs.proofs.RunPlaces.{found_is, moved}
use Rattle.rls_runs.proofs.RunLists.{place_most}
use Rattle.rls_runs.proofs.PartPlaces.{found_own, missed_own, found_left, found_right}
use Rattle.rls_runs.specs.Entries.{idents_in, chars_in}
use Rattle.std.proofs.lemmas.Slice.Zip.{seconds-zip}
use Rattle.rls_runs.proofs.Finding.{run_length}
use Rattle.rls_runs.specs.Places.{find_ident}
use Rattle.rls_blocks.specs.Trees.{IsPiece, piece_entries, Piece, ArePieces, entries_of, runs_in}
use Rattle.rls_blocks.proofs.Pieces.{entries_append, idents_of_pieces, runs_sound, piece_some}

pub node_idents : (l r : List Piece) (b : Piece) (bs : List Piece) → l ++ b ∷ r ≡ bs → idents_of (runs_in bs) ≡ idents_of (runs_in l) ++ (run_idents b.0.0 b.0.1 ++ idents_of (runs_in r))
node_idents l r b bs e = ap (λ cs. idents_of (runs_in cs)) (sym e) ∙ ap idents_of (map-append (λ c. c.0) l (b ∷ r)) ∙ idents_append (runs_in l) (runs_in (b ∷ r))

pub as_many_idents : (l : List Piece) → ArePieces l → length (entries_of l) ≡ length (idents_of (runs_in l))
as_many_idents l h = sym (length-map (entries_of l) (λ e. e.0)) ∙ ap length (idents_of_pieces l h)

pub pieces_rising : (bs : List Piece) → ArePieces bs → are_apart None (runs_in bs) ≡ true → Rising (idents_of (runs_in bs))
pieces_rising bs h a = idents_rise None (runs_in bs) a (runs_sound bs h)

-- what is found among the identifiers of the runs is the place in the list
pub found_place : (bs : List Piece) (y : List Tuple) → ArePieces bs → are_apart None (runs_in bs) ≡ true → find_ident (idents_of (runs_in bs)) y ≡ place_of y (idents_in (entries_of bs))
found_place bs y h a = found_is (idents_of (runs_in bs)) y (pieces_rising bs h a) ∙ ap (place_of y) (sym (idents_of_pieces bs h))

pub node_chars : (l r : List Piece) (b : Piece) (bs : List Piece) → l ++ b ∷ r ≡ bs → IsPiece b.0 b.1 → chars_in (entries_of bs) ≡ chars_in (entries_of l) ++ (b.1 ++ chars_in (entries_of r))
node_chars l r b bs e p =
    ap (λ cs. chars_in (entries_of cs)) (sym e) ∙ ap chars_in (entries_append l (b ∷ r)) ∙ map-append (λ u. u.1) (entries_of l) (entries_of (b ∷ r))
    ∙ ap (λ cs. chars_in (entries_of l) ++ cs) (map-append (λ u. u.1) (piece_entries b) (entries_of r) ∙ ap (λ cs. cs ++ chars_in (entries_of r)) (seconds-zip (run_idents b.0.0 b.0.1) b.1 (p.as_many ∙ sym (run_length b.0.0 b.0.1))))

-- no answer is after the last place
pub found_most : (bs : List Piece) (y : List Tuple) (i : ℕ) → ArePieces bs → (find_ident (idents_of (runs_in bs)) y ≡ Ok i) ⊎ (find_ident (idents_of (runs_in bs)) y ≡ Err i) → i ≤ length (entries_of bs)
found_most bs y i h f = omega (arith, place_most (idents_of (runs_in bs)) y i f, as_many_idents bs h)

-- an identifier found among those of a node's block, or missed there
module _ (l r : List Piece) (b : Piece) (bs : List Piece) (y : List Tuple) (is : l ++ b ∷ r ≡ bs) (front : ArePieces l) (own : IsPiece b.0 b.1) (rises : Rising (idents_of (runs_in bs))) where
  parts : Rising (idents_of (runs_in l) ++ (run_idents b.0.0 b.0.1 ++ idents_of (runs_in r)))
  parts = subst Rising (node_idents l r b bs is) rises

  all : find_ident (idents_of (runs_in l) ++ (run_idents b.0.0 b.0.1 ++ idents_of (runs_in r))) y ≡ find_ident (idents_of (runs_in bs)) y
  all = ap (λ xs. find_ident xs y) (sym (node_idents l r b bs is))

  pub left_rises : Rising (idents_of (runs_in l))
  left_rises = rising_left (idents_of (runs_in l)) (run_idents b.0.0 b.0.1 ++ idents_of (runs_in r)) parts

  pub right_rises : Rising (idents_of (runs_in r))
  right_rises = rising_right (run_idents b.0.0 b.0.1) (idents_of (runs_in r)) (rising_right (idents_of (runs_in l)) (run_idents b.0.0 b.0.1 ++ idents_of (runs_in r)) parts)

  pub in_own : (k : ℕ) → Ok k ≡ find_ident (run_idents b.0.0 b.0.1) y → Ok (length (entries_of l) + k) ≡ find_ident (idents_of (runs_in bs)) y
  in_own k e = ap (λ i. Ok (i + k)) (as_many_idents l front) ∙ found_own (idents_of (runs_in l)) (run_idents b.0.0 b.0.1) (idents_of (runs_in r)) y k parts e ∙ all

  pub within_own : (k : ℕ) → Err k ≡ find_ident (run_idents b.0.0 b.0.1) y → 0 < k → k < length b.1 → Err (length (entries_of l) + k) ≡ find_ident (idents_of (runs_in bs)) y
  within_own k e some less =
      ap (λ i. Err (i + k)) (as_many_idents l front)
      ∙ missed_own (idents_of (runs_in l)) (run_idents b.0.0 b.0.1) (idents_of (runs_in r)) y k parts e some (omega (arith, less, own.as_many, run_length b.0.0 b.0.1)) ∙ all

  pub before_own : Err 0 ≡ find_ident (run_idents b.0.0 b.0.1) y → find_ident (idents_of (runs_in l)) y ≡ find_ident (idents_of (runs_in bs)) y
  before_own e = found_left (idents_of (runs_in l)) (run_idents b.0.0 b.0.1) (idents_of (runs_in r)) y parts e (omega (arith, piece_some b own, own.as_many, run_length b.0.0 b.0.1)) ∙ all

  pub after_own : (k : ℕ) → Err k ≡ find_ident (run_idents b.0.0 b.0.1) y → length b.1 ≤ k → moved (length (entries_of l) + length b.1) (find_ident (idents_of (runs_in r)) y) ≡ find_ident (idents_of (runs_in bs)) y
  after_own k e more =
      let most = place_most (run_idents b.0.0 b.0.1) y k (inr (sym e)) in
      let end : length (entries_of l) + length b.1 ≡ length (idents_of (runs_in l)) + k = omega (arith, as_many_idents l front, most, more, own.as_many, run_length b.0.0 b.0.1) in
      ap (λ i. moved i (find_ident (idents_of (runs_in r)) y)) end
      ∙ found_right (idents_of (runs_in l)) (run_idents b.0.0 b.0.1) (idents_of (runs_in r)) y k parts e (omega (arith, more, piece_some b own)) ∙ all

  pub after_found : (answer : Result ℕ ℕ) → answer ≡ find_ident (idents_of (runs_in r)) y → (k : ℕ) → Err k ≡ find_ident (run_idents b.0.0 b.0.1) y → length b.1 ≤ k → moved (length (entries_of l) + length b.1) answer ≡ find_ident (idents_of (runs_in bs)) y
  after_found answer f k e more = ap (moved (length (entries_of l) + length b.1)) f ∙ after_own k e more
