-- Changes that go on with one another do as one what they do one after another.
use Rattle.std.proofs.Common.{◌≡◌, ℕ, zero, suc, ◌+◌, ◌≤◌, ◌==◌, Bool, true, false, List, [], ◌∷◌, ◌++◌, length, take, drop, refl, sym, ap, ◌∙◌, arith, append_assoc}
use Rattle.std.specs.Prelude.{replicate, if◌then◌else◌}
use Rattle.std.proofs.lemmas.List.{take_all, append-nil, drop-drop, length-append}
use Rattle.std.proofs.Math.ListN.{drop_of_length-le}
use Rattle.std.proofs.Math.Seq.{take-append_seam, drop-append_seam}
use Rattle.rls_ident.proofs.Members.{eq_is, eq_test, eq_refl, neq_test}
use Rattle.rls_changes.specs.declared.change.Change.{Change}
use Rattle.rls_changes.specs.declared.change.Change.TheVariants.{Insert, Delete}
use Rattle.rls_changes.specs.Changes.{changed, played, inserted_by, deleted_by, joined, with_change, with_changes}

-- ---- two changes at one place

abbrev nil : List ℕ
nil = []

pub insert_on : (at : ℕ) (cs ds t : List ℕ) → changed (Insert (at + length cs) ds) (changed (Insert at cs) t) ≡ changed (Insert at (cs ++ ds)) t
insert_on zero cs ds t =
    let e : 0 + length cs ≡ length cs = omega arith in
    ap (λ n. take n (cs ++ t) ++ (ds ++ drop n (cs ++ t))) e
    ∙ (ap (λ zs. zs ++ (ds ++ drop (length cs) (cs ++ t))) (take-append_seam cs t)
    ∙ (ap (λ zs. cs ++ (ds ++ zs)) (drop-append_seam cs t)
    ∙ sym (append_assoc cs ds t)))
insert_on (suc at) cs ds [] =
    let l = length-append cs [] in
    let h : length (cs ++ []) ≤ suc at + length cs = omega (arith, l) in
    ap (λ zs. zs ++ (ds ++ drop (suc at + length cs) (cs ++ []))) (take_all (suc at + length cs) (cs ++ []) h)
    ∙ (ap (λ zs. (cs ++ []) ++ (ds ++ zs)) (drop_of_length-le (cs ++ []) h)
    ∙ (ap (λ zs. zs ++ (ds ++ [])) (append-nil cs)
    ∙ sym (append_assoc cs ds [])))
insert_on (suc at) cs ds (x ∷ t) =
    let e : suc at + length cs ≡ suc (at + length cs) = omega arith in
    ap (λ n. take n (changed (Insert (suc at) cs) (x ∷ t)) ++ (ds ++ drop n (changed (Insert (suc at) cs) (x ∷ t)))) e ∙ ap (λ zs. x ∷ zs) (insert_on at cs ds t)

pub delete_on : (at n m : ℕ) (t : List ℕ) → changed (Delete at m) (changed (Delete at n) t) ≡ changed (Delete at (n + m)) t
delete_on zero n m t =
    let e : 0 + m ≡ m = omega arith in
    let f : 0 + n ≡ n = omega arith in
    let g : n + m ≡ 0 + (n + m) = omega arith in
    ap (λ k. drop k (drop (0 + n) t)) e ∙ (ap (λ k. drop m (drop k t)) f ∙ (drop-drop m n t ∙ ap (λ k. drop k t) g))
delete_on (suc at) n m [] =
    let e : suc at + m ≡ suc (at + m) = omega arith in
    let f : suc at + n ≡ suc (at + n) = omega arith in
    let g : suc at + (n + m) ≡ suc (at + (n + m)) = omega arith in
    ap (λ k. take (suc at) (drop k nil) ++ drop (suc at + m) (drop k nil)) f ∙ (ap (λ k. drop k nil) e ∙ sym (ap (λ k. drop k nil) g))
delete_on (suc at) n m (x ∷ t) =
    let e : suc at + m ≡ suc (at + m) = omega arith in
    let f : suc at + n ≡ suc (at + n) = omega arith in
    let g : suc at + (n + m) ≡ suc (at + (n + m)) = omega arith in
    ap (λ k. take (suc at) (x ∷ (take at t ++ drop k (x ∷ t))) ++ drop (suc at + m) (x ∷ (take at t ++ drop k (x ∷ t)))) f
    ∙ (ap (λ k. x ∷ (take at (take at t ++ drop (at + n) t) ++ drop k (x ∷ (take at t ++ drop (at + n) t)))) e
    ∙ (ap (λ zs. x ∷ zs) (delete_on at n m t) ∙ sym (ap (λ k. x ∷ (take at t ++ drop k (x ∷ t))) g)))

-- ---- playing

pub played_append : (cs ds : List Change) (t : List ℕ) → played (cs ++ ds) t ≡ played ds (played cs t)
played_append [] ds t = refl
played_append (c ∷ cs) ds t = played_append cs ds (changed c t)

played_joined : (c d : Change) (t : List ℕ) → played (joined c d) t ≡ changed d (changed c t)
played_joined (Insert at cs) (Insert k ds) t = go ((at + length cs) == k) refl
  where
    go : (b : Bool) → ((at + length cs) == k) ≡ b → played (if b then Insert at (cs ++ ds) ∷ [] else Insert at cs ∷ Insert k ds ∷ []) t ≡ changed (Insert k ds) (changed (Insert at cs) t)
    go true e = sym (insert_on at cs ds t) ∙ ap (λ i. changed (Insert i ds) (changed (Insert at cs) t)) (eq_is (at + length cs) k e)
    go false e = refl
played_joined (Delete at n) (Delete k m) t = go (at == k) refl
  where
    go : (b : Bool) → (at == k) ≡ b → played (if b then Delete at (n + m) ∷ [] else Delete at n ∷ Delete k m ∷ []) t ≡ changed (Delete k m) (changed (Delete at n) t)
    go true e = sym (delete_on at n m t) ∙ ap (λ i. changed (Delete i m) (changed (Delete at n) t)) (eq_is at k e)
    go false e = refl
played_joined (Insert at cs) (Delete k m) t = refl
played_joined (Delete at n) (Insert k ds) t = refl

played_with : (cs : List Change) (d : Change) (t : List ℕ) → played (with_change cs d) t ≡ changed d (played cs t)
played_with [] d t = refl
played_with (c ∷ []) d t = played_joined c d t
played_with (c ∷ (b ∷ cs)) d t = played_with (b ∷ cs) d (changed c t)

pub played_all : (cs ds : List Change) (t : List ℕ) → played (with_changes cs ds) t ≡ played ds (played cs t)
played_all cs [] t = refl
played_all cs (d ∷ ds) t = played_all (with_change cs d) ds t ∙ ap (played ds) (played_with cs d t)

-- ---- what is inserted and deleted

inserted_joined : (c d : Change) → inserted_by (joined c d) ≡ inserted_by (c ∷ []) ++ inserted_by (d ∷ [])
inserted_joined (Insert at cs) (Insert k ds) = go ((at + length cs) == k)
  where
    go : (b : Bool) → inserted_by (if b then Insert at (cs ++ ds) ∷ [] else Insert at cs ∷ Insert k ds ∷ []) ≡ (cs ++ []) ++ (ds ++ [])
    go true = append_assoc cs ds [] ∙ ap (λ zs. zs ++ (ds ++ [])) (sym (append-nil cs))
    go false = ap (λ zs. zs ++ (ds ++ [])) (sym (append-nil cs))
inserted_joined (Delete at n) (Delete k m) = go (at == k)
  where
    go : (b : Bool) → inserted_by (if b then Delete at (n + m) ∷ [] else Delete at n ∷ Delete k m ∷ []) ≡ []
    go true = refl
    go false = refl
inserted_joined (Insert at cs) (Delete k m) = sym (append-nil (cs ++ []))
inserted_joined (Delete at n) (Insert k ds) = refl

inserted_with : (cs : List Change) (d : Change) → inserted_by (with_change cs d) ≡ inserted_by cs ++ inserted_by (d ∷ [])
inserted_with [] d = refl
inserted_with (c ∷ []) d = inserted_joined c d
inserted_with (Insert at xs ∷ (b ∷ cs)) d = ap (λ zs. xs ++ zs) (inserted_with (b ∷ cs) d) ∙ sym (append_assoc xs (inserted_by (b ∷ cs)) (inserted_by (d ∷ [])))
inserted_with (Delete at n ∷ (b ∷ cs)) d = inserted_with (b ∷ cs) d

inserted_front : (d : Change) (ds : List Change) → inserted_by (d ∷ []) ++ inserted_by ds ≡ inserted_by (d ∷ ds)
inserted_front (Insert at cs) ds = ap (λ zs. zs ++ inserted_by ds) (append-nil cs)
inserted_front (Delete at n) ds = refl

pub inserted_all : (cs ds : List Change) → inserted_by (with_changes cs ds) ≡ inserted_by cs ++ inserted_by ds
inserted_all cs [] = sym (append-nil (inserted_by cs))
inserted_all cs (d ∷ ds) =
    inserted_all (with_change cs d) ds
    ∙ (ap (λ zs. zs ++ inserted_by ds) (inserted_with cs d)
    ∙ (append_assoc (inserted_by cs) (inserted_by (d ∷ [])) (inserted_by ds) ∙ ap (λ zs. inserted_by cs ++ zs) (inserted_front d ds)))

deleted_joined : (c d : Change) → deleted_by (joined c d) ≡ deleted_by (c ∷ []) + deleted_by (d ∷ [])
deleted_joined (Insert at cs) (Insert k ds) = go ((at + length cs) == k)
  where
    go : (b : Bool) → deleted_by (if b then Insert at (cs ++ ds) ∷ [] else Insert at cs ∷ Insert k ds ∷ []) ≡ 0
    go true = refl
    go false = refl
deleted_joined (Delete at n) (Delete k m) = go (at == k)
  where
    go : (b : Bool) → deleted_by (if b then Delete at (n + m) ∷ [] else Delete at n ∷ Delete k m ∷ []) ≡ (n + 0) + (m + 0)
    go true = omega arith
    go false = omega arith
deleted_joined (Insert at cs) (Delete k m) = omega arith
deleted_joined (Delete at n) (Insert k ds) = omega arith

deleted_with : (cs : List Change) (d : Change) → deleted_by (with_change cs d) ≡ deleted_by cs + deleted_by (d ∷ [])
deleted_with [] d = omega arith
deleted_with (c ∷ []) d = deleted_joined c d
deleted_with (Insert at xs ∷ (b ∷ cs)) d = deleted_with (b ∷ cs) d
deleted_with (Delete at n ∷ (b ∷ cs)) d = let e = deleted_with (b ∷ cs) d in omega arith

deleted_front : (d : Change) (ds : List Change) → deleted_by (d ∷ []) + deleted_by ds ≡ deleted_by (d ∷ ds)
deleted_front (Insert at cs) ds = omega arith
deleted_front (Delete at n) ds = omega arith

pub deleted_all : (cs ds : List Change) → deleted_by (with_changes cs ds) ≡ deleted_by cs + deleted_by ds
deleted_all cs [] = omega arith
deleted_all cs (d ∷ ds) =
    let a = deleted_all (with_change cs d) ds in
    let b = deleted_with cs d in
    let c = deleted_front d ds in
    omega arith

-- no change is lost
pub deleted_last : (cs : List Change) (at n : ℕ) → n ≤ deleted_by (cs ++ Delete at n ∷ [])
deleted_last [] at n = omega arith
deleted_last (Insert k xs ∷ cs) at n = deleted_last cs at n
deleted_last (Delete k m ∷ cs) at n = let l = deleted_last cs at n in omega arith

-- ---- one change in two parts

joined_some : (c x d e : Change) → with_change (c ∷ joined x d) e ≡ c ∷ with_change (joined x d) e
joined_some c (Insert at cs) (Insert k ds) e = go ((at + length cs) == k)
  where
    go : (b : Bool) → let j = (if b then Insert at (cs ++ ds) ∷ [] else Insert at cs ∷ Insert k ds ∷ []) in with_change (c ∷ j) e ≡ c ∷ with_change j e
    go true = refl
    go false = refl
joined_some c (Delete at n) (Delete k m) e = go (at == k)
  where
    go : (b : Bool) → let j = (if b then Delete at (n + m) ∷ [] else Delete at n ∷ Delete k m ∷ []) in with_change (c ∷ j) e ≡ c ∷ with_change j e
    go true = refl
    go false = refl
joined_some c (Insert at cs) (Delete k m) e = refl
joined_some c (Delete at n) (Insert k ds) e = refl

with_some : (c b : Change) (cs : List Change) (d e : Change) → with_change (c ∷ with_change (b ∷ cs) d) e ≡ c ∷ with_change (with_change (b ∷ cs) d) e
with_some c b [] d e = joined_some c b d e
with_some c b (a ∷ cs) d e = refl

two_inserts : (c : Change) (a : ℕ) (ds es : List ℕ) → with_change (joined c (Insert a ds)) (Insert (a + length ds) es) ≡ joined c (Insert a (ds ++ es))
two_inserts (Delete k n) a ds es = ap (λ b. Delete k n ∷ (if b then Insert a (ds ++ es) ∷ [] else Insert a ds ∷ Insert (a + length ds) es ∷ [])) (eq_refl (a + length ds))
two_inserts (Insert at cs) a ds es = go ((at + length cs) == a) refl
  where
    go : (b : Bool) → ((at + length cs) == a) ≡ b
        → with_change (if b then Insert at (cs ++ ds) ∷ [] else Insert at cs ∷ Insert a ds ∷ []) (Insert (a + length ds) es) ≡ (if b then Insert at (cs ++ (ds ++ es)) ∷ [] else Insert at cs ∷ Insert a (ds ++ es) ∷ [])
    go true e =
        let k = eq_is (at + length cs) a e in
        let l = length-append cs ds in
        let t : ((at + length (cs ++ ds)) == (a + length ds)) ≡ true = eq_test (at + length (cs ++ ds)) (a + length ds) (omega arith) in
        ap (λ b. if b then Insert at ((cs ++ ds) ++ es) ∷ [] else Insert at (cs ++ ds) ∷ Insert (a + length ds) es ∷ []) t ∙ ap (λ zs. Insert at zs ∷ []) (append_assoc cs ds es)
    go false e = ap (λ b. Insert at cs ∷ (if b then Insert a (ds ++ es) ∷ [] else Insert a ds ∷ Insert (a + length ds) es ∷ [])) (eq_refl (a + length ds))

pub insert_more : (cs : List Change) (a : ℕ) (ds es : List ℕ) → with_change (with_change cs (Insert a ds)) (Insert (a + length ds) es) ≡ with_change cs (Insert a (ds ++ es))
insert_more [] a ds es = ap (λ b. if b then Insert a (ds ++ es) ∷ [] else Insert a ds ∷ Insert (a + length ds) es ∷ []) (eq_refl (a + length ds))
insert_more (c ∷ []) a ds es = two_inserts c a ds es
insert_more (c ∷ (b ∷ cs)) a ds es = with_some c b cs (Insert a ds) (Insert (a + length ds) es) ∙ ap (λ zs. c ∷ zs) (insert_more (b ∷ cs) a ds es)

two_deletes : (c : Change) (a n m : ℕ) → with_change (joined c (Delete a n)) (Delete a m) ≡ joined c (Delete a (n + m))
two_deletes (Insert k ds) a n m = ap (λ b. Insert k ds ∷ (if b then Delete a (n + m) ∷ [] else Delete a n ∷ Delete a m ∷ [])) (eq_refl a)
two_deletes (Delete at j) a n m = go (at == a) refl
  where
    go : (b : Bool) → (at == a) ≡ b → with_change (if b then Delete at (j + n) ∷ [] else Delete at j ∷ Delete a n ∷ []) (Delete a m) ≡ (if b then Delete at (j + (n + m)) ∷ [] else Delete at j ∷ Delete a (n + m) ∷ [])
    go true e =
        let s : j + n + m ≡ j + (n + m) = omega arith in
        ap (λ b. if b then Delete at (j + n + m) ∷ [] else Delete at (j + n) ∷ Delete a m ∷ []) e ∙ ap (λ i. Delete at i ∷ []) s
    go false e = ap (λ b. Delete at j ∷ (if b then Delete a (n + m) ∷ [] else Delete a n ∷ Delete a m ∷ [])) (eq_refl a)

pub delete_more : (cs : List Change) (a n m : ℕ) → with_change (with_change cs (Delete a n)) (Delete a m) ≡ with_change cs (Delete a (n + m))
delete_more [] a n m = ap (λ b. if b then Delete a (n + m) ∷ [] else Delete a n ∷ Delete a m ∷ []) (eq_refl a)
delete_more (c ∷ []) a n m = two_deletes c a n m
delete_more (c ∷ (b ∷ cs)) a n m = with_some c b cs (Delete a n) (Delete a m) ∙ ap (λ zs. c ∷ zs) (delete_more (b ∷ cs) a n m)

-- as many deletions of one character
pub delete_times : (cs : List Change) (a n : ℕ) → with_changes cs (replicate (suc n) (Delete a 1)) ≡ with_change cs (Delete a (suc n))
delete_times cs a n = let s : 1 + n ≡ suc n = omega arith in go n 1 ∙ ap (λ i. with_change cs (Delete a i)) s
  where
    go : (m k : ℕ) → with_changes (with_change cs (Delete a k)) (replicate m (Delete a 1)) ≡ with_change cs (Delete a (k + m))
    go zero k = let s : k ≡ k + 0 = omega arith in ap (λ i. with_change cs (Delete a i)) s
    go (suc m) k =
        let s : k + 1 + m ≡ k + suc m = omega arith in
        ap (λ zs. with_changes zs (replicate m (Delete a 1))) (delete_more cs a k 1) ∙ (go m (k + 1) ∙ ap (λ i. with_change cs (Delete a i)) s)

-- ---- lists of changes

pub with_append : (cs ds es : List Change) → with_changes cs (ds ++ es) ≡ with_changes (with_changes cs ds) es
with_append cs [] es = refl
with_append cs (d ∷ ds) es = with_append (with_change cs d) ds es

-- the changes with one more, where a list ends with a given one
pub with_last : (cs : List Change) (c d : Change) → with_change (cs ++ c ∷ []) d ≡ cs ++ joined c d
with_last [] c d = refl
with_last (b ∷ []) c d = refl
with_last (b ∷ (a ∷ cs)) c d = ap (λ zs. b ∷ zs) (with_last (a ∷ cs) c d)

-- ---- for calls

pub joined_inserts : (at k : ℕ) (cs ds : List ℕ) → at + length cs ≡ k → joined (Insert at cs) (Insert k ds) ≡ Insert at (cs ++ ds) ∷ []
joined_inserts at k cs ds e = ap (λ b. if b then Insert at (cs ++ ds) ∷ [] else Insert at cs ∷ Insert k ds ∷ []) (eq_test (at + length cs) k e)

pub apart_inserts : (at k : ℕ) (cs ds : List ℕ) → (at + length cs ≡ k → ⊥) → joined (Insert at cs) (Insert k ds) ≡ Insert at cs ∷ Insert k ds ∷ []
apart_inserts at k cs ds h = ap (λ b. if b then Insert at (cs ++ ds) ∷ [] else Insert at cs ∷ Insert k ds ∷ []) (neq_test (at + length cs) k h)

pub joined_deletes : (at k n m : ℕ) → at ≡ k → joined (Delete at n) (Delete k m) ≡ Delete k (n + m) ∷ []
joined_deletes at k n m e = ap (λ b. if b then Delete at (n + m) ∷ [] else Delete at n ∷ Delete k m ∷ []) (eq_test at k e) ∙ ap (λ i. Delete i (n + m) ∷ []) e

pub apart_deletes : (at k n m : ℕ) → (at ≡ k → ⊥) → joined (Delete at n) (Delete k m) ≡ Delete at n ∷ Delete k m ∷ []
apart_deletes at k n m h = ap (λ b. if b then Delete at (n + m) ∷ [] else Delete at n ∷ Delete k m ∷ []) (neq_test at k h)

-- the list after its last change was taken out and put back with one more
pub pushed_with : (cs old new : List Change) (c d : Change) → old ≡ cs ++ c ∷ [] → new ≡ cs ++ joined c d → new ≡ with_change old d
pushed_with cs old new c d e f = f ∙ (sym (with_last cs c d) ∙ ap (λ zs. with_change zs d) (sym e))

pub pushed_first : (cs new : List Change) (d : Change) → length cs ≡ 0 → new ≡ d ∷ [] → new ≡ with_change cs d
pushed_first [] new d h e = e
pushed_first (c ∷ cs) new d h e = absurd (omega arith)

-- the same, where the last change is named
pub pushed_joined : (cs old new : List Change) (l c d : Change) → old ≡ cs ++ l ∷ [] → l ≡ c → new ≡ cs ++ joined c d → new ≡ with_change old d
pushed_joined cs old new l c d e is f = pushed_with cs old new c d (e ∙ ap (λ (x : Change). cs ++ x ∷ []) is) f

-- the two pushed one after another
pub pushed_apart : (cs old mid new : List Change) (l c d : Change) → old ≡ cs ++ l ∷ [] → l ≡ c → mid ≡ cs ++ c ∷ [] → new ≡ mid ++ d ∷ [] → joined c d ≡ c ∷ d ∷ [] → new ≡ with_change old d
pushed_apart cs old mid new l c d e is m n j =
    pushed_joined cs old new l c d e is (n ∙ (ap (λ zs. zs ++ d ∷ []) m ∙ (append_assoc cs (c ∷ []) (d ∷ []) ∙ ap (λ zs. cs ++ zs) (sym j))))

-- the last change is as long as all at most
pub deleted_old : (cs old : List Change) (l : Change) (at n : ℕ) → old ≡ cs ++ l ∷ [] → l ≡ Delete at n → n ≤ deleted_by old
deleted_old cs old l at n e is =
    let w = deleted_last cs at n in
    let f = ap deleted_by (e ∙ ap (λ (x : Change). cs ++ x ∷ []) is) in
    omega (arith, w, f)
