-- Where a place stands among blocks.
use Rattle.std.proofs.Common.{map, zip, get_or, Some, ◌≡◌, ℕ, zero, suc, ◌<◌, List, [], ◌∷◌, length, slice_get, ap, ◌∙◌, arith}
use Rattle.std.specs.Prelude.{pos}
use Rattle.rls_ident.specs.declared.tuple.Tuple.{Tuple}
use Rattle.rls_ident.specs.Identifiers.{shifted}
use Rattle.rls_runs.specs.Runs.{run_idents}
use Rattle.rls_runs.proofs.RunOrder.{run_gets}
use Rattle.rls_blocks.specs.Trees.{Piece, IsPiece, piece_entries}
use Rattle.std.proofs.lemmas.Option.{slice_get-map}
use Rattle.std.specs.Option.{option_map}

pub mapped_at : {X Y : Type 0} (f : X → Y) (xs : List X) (i : ℕ) (x : X) → slice_get xs i ≡ Some x → slice_get (map f xs) i ≡ Some (f x)
mapped_at f xs i x e = slice_get-map f xs i ∙ ap (option_map f) e

zipped_at : (ks : List (List Tuple)) (vs : List ℕ) (i : ℕ) (k : List Tuple) → slice_get ks i ≡ Some k → i < length vs → slice_get (zip ks vs) i ≡ Some (k, get_or vs i 0)
zipped_at [] vs i k e h = absurd (cc)
zipped_at (x ∷ ks) [] i k e h = absurd (omega arith)
zipped_at (x ∷ ks) (v ∷ vs) zero k e h = let s : x ≡ k = cc in ap (λ u. Some (u, v)) s
zipped_at (x ∷ ks) (v ∷ vs) (suc i) k e h = zipped_at ks vs i k e (omega arith)

-- the identifier and the character at a place of a block
pub entry_at : (b : Piece) (j : ℕ) → IsPiece b.0 b.1 → j < length b.1 → slice_get (piece_entries b) j ≡ Some (shifted (pos j) b.0.0, get_or b.1 j 0)
entry_at b j p h = let m = p.as_many in zipped_at (run_idents b.0.0 b.0.1) b.1 j (shifted (pos j) b.0.0) (run_gets b.0.0 b.0.1 j (omega (arith, m))) h
