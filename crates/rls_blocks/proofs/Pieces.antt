-- How many characters blocks have.
use Rattle.std.proofs.Common.{◌≡◌, ◌+◌, ◌<◌, ◌≤◌, List, [], ◌∷◌, ◌++◌, length, refl, sym, ap, ◌∙◌, arith, length-append, append_assoc, true, None}
use Rattle.std.proofs.lemmas.List.{map-append, length-map}
use Rattle.std.proofs.lemmas.Slice.Zip.{length-zip, firsts-zip}
use Rattle.std.specs.List.{list_all}
use Rattle.rls_ident.proofs.Members.{and_true}
use Rattle.rls_runs.specs.Entries.{idents_in}
use Rattle.rls_runs.proofs.RunsOf.{runs_of_idents}
use Rattle.rls_runs.specs.Runs.{run_idents, is_run, idents_of, are_apart, runs_of, is_increasing}
use Rattle.rls_runs.proofs.Finding.{run_length}
use Rattle.rls_runs.proofs.RunOrder.{run_some, idents_rise, increasing_of}
use Rattle.rls_blocks.specs.Trees.{Piece, IsPiece, ArePieces, runs_in, piece_entries, entries_of}

pub entries_append : (xs ys : List Piece) → entries_of (xs ++ ys) ≡ entries_of xs ++ entries_of ys
entries_append [] ys = refl
entries_append (b ∷ xs) ys = ap (λ es. piece_entries b ++ es) (entries_append xs ys) ∙ sym (append_assoc (piece_entries b) (entries_of xs) (entries_of ys))

pub chars_append : (xs ys : List Piece) → length (entries_of (xs ++ ys)) ≡ length (entries_of xs) + length (entries_of ys)
chars_append xs ys = ap length (entries_append xs ys) ∙ length-append (entries_of xs) (entries_of ys)

pub piece_length : (b : Piece) → IsPiece b.0 b.1 → length (piece_entries b) ≡ length b.1
piece_length b h =
    let z = length-zip (run_idents b.0.0 b.0.1) b.1 in
    let r = run_length b.0.0 b.0.1 in
    let m = h.as_many in
    omega (arith, z, r, m)

-- one block between two lists of blocks
pub node_length : (l r : List Piece) (b : Piece) → IsPiece b.0 b.1 → length (entries_of (l ++ b ∷ r)) ≡ length (entries_of l) + length b.1 + length (entries_of r)
node_length l r b h =
    let e = ap length (entries_append l (b ∷ r)) in
    let f = length-append (entries_of l) (entries_of (b ∷ r)) in
    let g = length-append (piece_entries b) (entries_of r) in
    let p = piece_length b h in
    omega (arith, e, f, g, p)

pub piece_some : (b : Piece) → IsPiece b.0 b.1 → 0 < length b.1
piece_some b h =
    let r = run_some b.0 h.sound in
    let m = h.as_many in
    omega (arith, r, m)

-- each block has a character
pub count_most : (bs : List Piece) → ArePieces bs → length bs ≤ length (entries_of bs)
count_most [] h = omega arith
count_most (b ∷ bs) h = omega (arith, node_length [] bs b h.0, piece_some b h.0, count_most bs h.1)

pub are_append : (xs : List Piece) (b : Piece) (ys : List Piece) → ArePieces xs → IsPiece b.0 b.1 → ArePieces ys → ArePieces (xs ++ b ∷ ys)
are_append [] b ys h p k = (p, k)
are_append (x ∷ xs) b ys h p k = (h.0, are_append xs b ys h.1 p k)

-- the identifiers of blocks are those of their runs
pub idents_of_pieces : (bs : List Piece) → ArePieces bs → idents_in (entries_of bs) ≡ idents_of (runs_in bs)
idents_of_pieces [] h = refl
idents_of_pieces (b ∷ bs) h =
    map-append (λ e. e.0) (piece_entries b) (entries_of bs)
    ∙ ap (λ xs. xs ++ idents_in (entries_of bs)) (firsts-zip (run_idents b.0.0 b.0.1) b.1 (h.0.as_many ∙ sym (run_length b.0.0 b.0.1)))
    ∙ ap (λ ys. run_idents b.0.0 b.0.1 ++ ys) (idents_of_pieces bs h.1)

pub runs_sound : (bs : List Piece) → ArePieces bs → list_all is_run (runs_in bs) ≡ true
runs_sound [] h = refl
runs_sound (b ∷ bs) h = and_true (is_run b.0) (list_all is_run (runs_in bs)) h.0.sound (runs_sound bs h.1)

-- blocks that don't touch are the maximal runs
pub runs_are : (bs : List Piece) → ArePieces bs → are_apart None (runs_in bs) ≡ true → runs_of (idents_in (entries_of bs)) ≡ runs_in bs
runs_are bs h a = ap runs_of (idents_of_pieces bs h) ∙ runs_of_idents None (runs_in bs) a

pub runs_count : (bs : List Piece) → ArePieces bs → are_apart None (runs_in bs) ≡ true → length bs ≡ length (runs_of (idents_in (entries_of bs)))
runs_count bs h a = sym (ap length (runs_are bs h a) ∙ length-map bs (λ b. b.0))

pub pieces_rise : (bs : List Piece) → ArePieces bs → are_apart None (runs_in bs) ≡ true → is_increasing (idents_in (entries_of bs)) ≡ true
pieces_rise bs h a = ap is_increasing (idents_of_pieces bs h) ∙ increasing_of (idents_of (runs_in bs)) (idents_rise None (runs_in bs) a (runs_sound bs h))
