-- The blocks of a tree are the maximal runs of its text.
use Rattle.std.proofs.Common.{◌≡◌, ◌∙◌, List, [], ◌∷◌, ◌++◌, map, true, refl, sym, ap}
use Rattle.std.specs.Prelude.{zip, None}
use Rattle.rls_runs.specs.Runs.{are_apart, run_idents}
use Rattle.rls_model.specs.Parts.{text_runs}
use Rattle.rls_blocks.specs.Trees.{Piece, ArePieces, entries_of, runs_in}
use Rattle.rls_parts.specs.Given.{HaveTexts}
use Rattle.rls_parts.specs.Restored as restored
use Rattle.rls_parts.proofs.RestoredText.{text_restored}
use Rattle.rls_parts.specs.Blocks.{runs_with_texts}

same_runs : (bs : List Piece) → map (λ r. r.run) (runs_with_texts bs) ≡ runs_in bs
same_runs [] = refl
same_runs (b ∷ bs) = ap (λ rs. b.0 ∷ rs) (same_runs bs)

same_entries : (bs : List Piece) → restored.entries_of (runs_with_texts bs) ≡ entries_of bs
same_entries [] = refl
same_entries (b ∷ bs) = ap (λ es. zip (run_idents b.0.0 b.0.1) b.1 ++ es) (same_entries bs)

have_texts : (bs : List Piece) → ArePieces bs → HaveTexts (runs_with_texts bs)
have_texts [] h = tt
have_texts (b ∷ bs) h = (h.0.as_many, have_texts bs h.1)

pub blocks_are : (bs : List Piece) → are_apart None (runs_in bs) ≡ true → ArePieces bs → runs_with_texts bs ≡ text_runs (entries_of bs)
blocks_are bs a p =
    sym (text_restored (runs_with_texts bs) (ap (are_apart None) (same_runs bs) ∙ a, have_texts bs p)) ∙ ap text_runs (same_entries bs)
