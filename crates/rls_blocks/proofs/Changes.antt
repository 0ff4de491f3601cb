-- What changes of blocks come to, seen as entries.
use Rattle.std.proofs.Common.{◌≡◌, ℕ, zero, suc, ◌+◌, ◌-◌, ◌≤◌, true, List, [], ◌∷◌, ◌++◌, length, take, drop, refl, sym, ap, ◌∙◌, arith, length-drop}
use Rattle.std.specs.Prelude.{pos, ◌+ℤ◌, ◌-ℤ◌, zip}
use Rattle.std.proofs.lemmas.Int.{ints}
use Rattle.std.proofs.lemmas.List.{take-append-drop, take_all, length-take-le, drop-drop}
use Rattle.std.proofs.Math.Seq.{take-append_seam, drop-append_seam, drop-append-add}
use Rattle.rls_ident.specs.declared.tuple.Tuple.{Tuple}
use Rattle.rls_ident.specs.Identifiers.{shifted, follows}
use Rattle.rls_ident.proofs.Ends.{eq_same}
use Rattle.rls_ident.proofs.Shifted.{shifted_none, shifted_shifted}
use Rattle.rls_runs.specs.Runs.{run_idents, run_last}
use Rattle.rls_runs.specs.Entries.{Entries}
use Rattle.rls_runs.proofs.Cuts.{joined_front}
use Rattle.rls_runs.proofs.Finding.{run_length}
use Rattle.rls_runs.proofs.RunJoins.{run_longer}
use Rattle.rls_blocks.specs.Trees.{Piece, IsPiece, piece_entries}
use Rattle.rls_blocks.specs.Edits.{part_of, joined, lengthened_front, inserted, removed}

zip_both : (xs ys : List (List Tuple)) (cs ds : List ℕ) → length xs ≡ length cs → zip (xs ++ ys) (cs ++ ds) ≡ zip xs cs ++ zip ys ds
zip_both [] ys [] ds h = refl
zip_both [] ys (c ∷ cs) ds h = absurd (omega arith)
zip_both (x ∷ xs) ys [] ds h = absurd (omega arith)
zip_both (x ∷ xs) ys (c ∷ cs) ds h = ap (λ es. (x, c) ∷ es) (zip_both xs ys cs ds (omega arith))

-- two blocks as one
pub entries_joined : (a b : Piece) → length a.1 ≡ a.0.1 → b.0.0 ≡ shifted (pos a.0.1) a.0.0 → piece_entries (joined a b) ≡ piece_entries a ++ piece_entries b
entries_joined a b h e =
    ap (λ xs. zip xs (a.1 ++ b.1)) (run_longer a.0.0 a.0.1 b.0.1 ∙ ap (λ x. run_idents a.0.0 a.0.1 ++ run_idents x b.0.1) (sym e))
    ∙ zip_both (run_idents a.0.0 a.0.1) (run_idents b.0.0 b.0.1) a.1 b.1 (run_length a.0.0 a.0.1 ∙ sym h)

-- a block grown at its front by the characters of one that it goes on with
pub joined_before : (n b : Piece) → IsPiece n.0 n.1 → follows b.0.0 (run_last n.0) ≡ true → lengthened_front n.1 b ≡ joined n b
joined_before n b h t = ap (λ k. ((shifted (pos 0 -ℤ pos k) b.0.0, b.0.1 + k), n.1 ++ b.1)) h.as_many ∙ ap (λ r. (r, n.1 ++ b.1)) (joined_front n.0 b.0 h.sound t)

rest_all : (cs : List ℕ) (k n : ℕ) → length cs ≡ n → take (n - k) (drop k cs) ≡ drop k cs
rest_all cs zero n h = take_all (n - 0) cs (omega arith)
rest_all [] (suc k) n h = take_all (n - suc k) [] (omega arith)
rest_all (c ∷ cs) (suc k) n h = let e : n - suc k ≡ (n - 1) - k = omega arith in ap (λ m. take m (drop k cs)) e ∙ rest_all cs k (n - 1) (omega arith)

-- a block as two
pub halves : (b : Piece) (k : ℕ) → length b.1 ≡ b.0.1 → k ≤ b.0.1 → piece_entries b ≡ piece_entries (part_of 0 k b) ++ piece_entries (part_of k (b.0.1 - k) b)
halves b k m h =
    let front : length (take k b.1) ≡ k = length-take-le k b.1 (omega (arith, m)) in
    let first : shifted (pos 0) b.0.0 ≡ b.0.0 = shifted_none b.0.0 in
    let next : shifted (pos k) b.0.0 ≡ shifted (pos k) (shifted (pos 0) b.0.0) = ap (shifted (pos k)) (sym first) in
    let all : (k + (b.0.1 - k)) ≡ b.0.1 = omega arith in
    let text : take k b.1 ++ take (b.0.1 - k) (drop k b.1) ≡ b.1 = ap (λ cs. take k b.1 ++ cs) (rest_all b.1 k b.0.1 m) ∙ take-append-drop k b.1 in
    ap (λ cs. zip (run_idents b.0.0 b.0.1) cs) (sym text)
    ∙ ap (λ n. zip (run_idents b.0.0 n) (take k b.1 ++ take (b.0.1 - k) (drop k b.1))) (sym all)
    ∙ ap (λ x. zip (run_idents x (k + (b.0.1 - k))) (take k b.1 ++ take (b.0.1 - k) (drop k b.1))) (sym first)
    ∙ entries_joined (part_of 0 k b) (part_of k (b.0.1 - k) b) front next

-- a block as three
pub thirds : (b : Piece) (a k : ℕ) → length b.1 ≡ b.0.1 → a + k ≤ b.0.1 → piece_entries b ≡ piece_entries (part_of 0 a b) ++ (piece_entries (part_of a k b) ++ piece_entries (part_of (a + k) (b.0.1 - (a + k)) b))
thirds b a k m h =
    let c = part_of a (b.0.1 - a) b in
    let l = length-drop a b.1 in
    let rest : take (b.0.1 - a) (drop a b.1) ≡ drop a b.1 = rest_all b.1 a b.0.1 m in
    let long : length c.1 ≡ b.0.1 - a = ap length rest ∙ omega (arith, l, m) in
    let near : piece_entries (part_of 0 k c) ≡ piece_entries (part_of a k b) =
    ap (λ x. zip (run_idents x k) (take k c.1)) (shifted_none (shifted (pos a) b.0.0)) ∙ ap (λ cs. zip (run_idents (shifted (pos a) b.0.0) k) (take k cs)) rest in
    let n : (b.0.1 - a) - k ≡ b.0.1 - (a + k) = omega arith in
    let sum : pos a +ℤ pos k ≡ pos (a + k) = omega (arith, ints) in
    let far : piece_entries (part_of k ((b.0.1 - a) - k) c) ≡ piece_entries (part_of (a + k) (b.0.1 - (a + k)) b) =
    ap (λ x. zip (run_idents x ((b.0.1 - a) - k)) (take ((b.0.1 - a) - k) (drop k c.1))) (shifted_shifted (pos k) (pos a) b.0.0 ∙ ap (λ j. shifted j b.0.0) sum)
    ∙ ap (λ cs. zip (run_idents (shifted (pos (a + k)) b.0.0) ((b.0.1 - a) - k)) (take ((b.0.1 - a) - k) cs)) (ap (drop k) rest ∙ drop-drop k a b.1)
    ∙ ap (λ j. zip (run_idents (shifted (pos (a + k)) b.0.0) j) (take j (drop (a + k) b.1))) n in
    halves b a m (omega arith) ∙ ap (λ es. piece_entries (part_of 0 a b) ++ es) (halves c k long (omega arith) ∙ ap (λ es. es ++ piece_entries (part_of k ((b.0.1 - a) - k) c)) near ∙ ap (λ es. piece_entries (part_of a k b) ++ es) far)

-- ---- entries put in and taken out

pub put_between : (xs ms ys : Entries) (i : ℕ) → length xs ≡ i → xs ++ ms ++ ys ≡ inserted i ms (xs ++ ys)
put_between xs ms ys i h =
    ap (λ zs. zs ++ ms ++ ys) (sym (take-append_seam xs ys) ∙ ap (λ k. take k (xs ++ ys)) h)
    ∙ ap (λ zs. take i (xs ++ ys) ++ ms ++ zs) (sym (drop-append_seam xs ys) ∙ ap (λ k. drop k (xs ++ ys)) h)

pub taken_out : (xs ms ys : Entries) (i k : ℕ) → length xs ≡ i → length ms ≡ k → xs ++ ys ≡ removed i k (xs ++ (ms ++ ys))
taken_out xs ms ys i k h e =
    let n : length xs + length ms ≡ i + k = omega arith in
    ap (λ zs. zs ++ ys) (sym (take-append_seam xs (ms ++ ys)) ∙ ap (λ j. take j (xs ++ (ms ++ ys))) h)
    ∙ ap (λ zs. take i (xs ++ (ms ++ ys)) ++ zs) (sym (drop-append_seam ms ys) ∙ sym (drop-append-add xs (ms ++ ys) (length ms)) ∙ ap (λ j. drop j (xs ++ (ms ++ ys))) n)

-- ---- what doesn't touch

pub follows_is : (x y : List Tuple) → follows y x ≡ true → y ≡ shifted (pos 1) x
follows_is x y h = eq_same y (shifted (pos 1) x) h

pub back : (k : ℕ) (x y : List Tuple) → shifted (pos (suc k)) x ≡ shifted (pos 1) y → shifted (pos k) x ≡ y
back k x y e =
    ap (λ j. shifted j x) (omega (arith, ints)) ∙ sym (shifted_shifted (pos 0 -ℤ pos 1) (pos (suc k)) x) ∙ ap (shifted (pos 0 -ℤ pos 1)) e
    ∙ shifted_shifted (pos 0 -ℤ pos 1) (pos 1) y ∙ ap (λ j. shifted j y) (omega (arith, ints)) ∙ shifted_none y
