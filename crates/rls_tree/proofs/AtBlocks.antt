-- Identifiers that stand from a place of a block on.
use Rattle.std.proofs.Common.{◌≡◌, ℕ, ◌+◌, ◌<◌, ◌≤◌, List, length, take, drop, Some, Ok, slice_get, sym, ap, ◌∙◌, arith}
use Rattle.std.specs.Prelude.{pos}
use Rattle.rls_ident.specs.declared.tuple.Tuple.{Tuple}
use Rattle.rls_ident.specs.Identifiers.{shifted}
use Rattle.rls_ident.proofs.Members.{some_is}
use Rattle.rls_runs.specs.Runs.{run_idents}
use Rattle.rls_runs.specs.Entries.{idents_in}
use Rattle.rls_runs.specs.Places.{find_ident}
use Rattle.rls_runs.proofs.RunOrder.{Rising, run_gets, run_ident, run_rising}
use Rattle.rls_runs.proofs.RunPlaces.{found_there}
use Rattle.rls_blocks.specs.Trees.{Piece, IsPiece, ArePieces, entries_of}
use Rattle.rls_blocks.specs.Edits.{located}
use Rattle.rls_blocks.proofs.AtPlaces.{entry_located, part_at}
use Rattle.rls_tree.proofs.Located.{mapped_at, entry_at}
use Rattle.rls_tree.proofs.Puts.{idents_located}

module _ (bs : List Piece) (i at : ℕ) (b : Piece) (are : ArePieces bs) (there : located bs i ≡ Some (b, at)) (own : IsPiece b.0 b.1) (within : at < length b.1) where
  pub ident_is : slice_get (idents_in (entries_of bs)) i ≡ Some (shifted (pos at) b.0.0)
  ident_is = mapped_at (λ e. e.0) (entries_of bs) i _ (entry_located bs i at b are there ∙ entry_at b at own within)

  rising : Rising (run_idents b.0.0 b.0.1)
  rising = run_rising b.0.0 b.0.1 (run_ident b.0 own.sound)

  at_own : slice_get (run_idents b.0.0 b.0.1) at ≡ Some (shifted (pos at) b.0.0)
  at_own = let m = own.as_many in run_gets b.0.0 b.0.1 at (omega (arith, within, m))

  -- those of a run, whose first one is found there
  pub run_stands : (r : List Tuple × ℕ) → find_ident (run_idents b.0.0 b.0.1) r.0 ≡ Ok at → 0 < r.1 → at + r.1 ≤ length b.1
      → (i + r.1 ≤ length (entries_of bs)) × (take r.1 (drop i (idents_in (entries_of bs))) ≡ run_idents r.0 r.1)
  run_stands r found some fits =
      let m = own.as_many in
      let first : shifted (pos at) b.0.0 ≡ r.0 = some_is (shifted (pos at) b.0.0) r.0 (sym at_own ∙ found_there (run_idents b.0.0 b.0.1) r.0 at rising found) in
      ((part_at bs i at r.1 b are there fits some).1, idents_located bs i at r.1 b are there m (omega (arith, fits, m)) some ∙ ap (λ x. run_idents x r.1) first)
