-- What a deletion changes.
use Rattle.std.proofs.Common.{◌≡◌, ℕ, suc, ◌+◌, ◌-◌, ◌≤◌, ◌<◌, ◌||◌, Bool, true, false, cond, List, [], ◌∷◌, ◌++◌, length, take, drop, refl, sym, ap, ◌∙◌, subst, arith, append_assoc}
use Rattle.std.specs.Prelude.{not, replicate, if◌then◌else◌}
use Rattle.std.proofs.lemmas.List.{append-nil, length-append, length-replicate}
use Rattle.std.proofs.lemmas.List.Folds.{list_any-append}
use Rattle.std.specs.declared.cmp.Ordering.{Ordering}
use Rattle.std.specs.declared.cmp.Ordering.TheVariants.{Less, Equal, Greater}
use Rattle.std.specs.Ordering.{ordering_reverse, is_lt}
use Rattle.rls_ident.specs.declared.tuple.Tuple.{Tuple}
use Rattle.rls_ident.specs.Identifiers.{ident_cmp, ident_eq, ident_lt}
use Rattle.rls_ident.proofs.Lists.{Lt, lt_irrefl}
use Rattle.rls_ident.proofs.Members.{not_true}
use Rattle.rls_ident.proofs.Ends.{eq_same, same_eq}
use Rattle.rls_ident.proofs.Tuples.{tuples, ident_same, ident_total}
use Rattle.rls_runs.specs.Entries.{Entries, idents_in, chars_in, has_ident, without_all}
use Rattle.rls_runs.specs.Places.{below_count}
use Rattle.rls_runs.proofs.RunOrder.{AllLess, AllMore, Rising, less_trans}
use Rattle.rls_runs.proofs.Gaps.{differs}
use Rattle.rls_runs.proofs.RunPlaces.{tells_less}
use Rattle.rls_changes.specs.declared.change.Change.{Change}
use Rattle.rls_changes.specs.declared.change.Change.TheVariants.{Delete}
use Rattle.rls_changes.specs.Changes.{changed, played, inserted_by, deleted_by, with_change, with_changes, cuts}
use Rattle.rls_changes.specs.Places.{AreMissing}
use Rattle.rls_changes.proofs.Joining.{with_append, delete_times}

-- ---- playing

delete_one : (P cs : List ℕ) (c : ℕ) → changed (Delete (length P) 1) (P ++ c ∷ cs) ≡ P ++ cs
delete_one [] cs c = refl
delete_one (p ∷ P) cs c =
    let e : suc (length P) + 1 ≡ suc (length P + 1) = omega arith in
    ap (λ n. p ∷ (take (length P) (P ++ c ∷ cs) ++ drop n (p ∷ (P ++ c ∷ cs)))) e ∙ ap (λ zs. p ∷ zs) (delete_one P cs c)

pub cuts_played : (k : ℕ) (ts : List (List Tuple)) (P : List ℕ) (es : Entries) → length P ≡ k → played (cuts k ts (idents_in es)) (P ++ chars_in es) ≡ P ++ chars_in (without_all ts es)
cuts_played k ts P [] h = refl
cuts_played k ts P (e ∷ es) h = go (has_ident ts e.0) (λ Q l. cuts_played k ts Q es l) (λ Q l. cuts_played (suc k) ts Q es l)
  where
    go : (b : Bool) → ((Q : List ℕ) → length Q ≡ k → played (cuts k ts (idents_in es)) (Q ++ chars_in es) ≡ Q ++ chars_in (without_all ts es))
        → ((Q : List ℕ) → length Q ≡ suc k → played (cuts (suc k) ts (idents_in es)) (Q ++ chars_in es) ≡ Q ++ chars_in (without_all ts es))
        → played (if b then Delete k 1 ∷ cuts k ts (idents_in es) else cuts (suc k) ts (idents_in es)) (P ++ e.1 ∷ chars_in es) ≡ P ++ chars_in (cond (not b) (e ∷ without_all ts es) (without_all ts es))
    go true f g =
        ap (λ n. played (cuts k ts (idents_in es)) (changed (Delete n 1) (P ++ e.1 ∷ chars_in es))) (sym h)
        ∙ (ap (played (cuts k ts (idents_in es))) (delete_one P (chars_in es) e.1) ∙ f P h)
    go false f g =
        let l = length-append P (e.1 ∷ []) in
        let n : length (P ++ e.1 ∷ []) ≡ suc k = omega arith in
        ap (played (cuts (suc k) ts (idents_in es))) (sym (append_assoc P (e.1 ∷ []) (chars_in es)))
        ∙ (g (P ++ e.1 ∷ []) n ∙ append_assoc P (e.1 ∷ []) (chars_in (without_all ts es)))

-- ---- what is deleted

pub cuts_insert : (k : ℕ) (ts xs : List (List Tuple)) → inserted_by (cuts k ts xs) ≡ []
cuts_insert k ts [] = refl
cuts_insert k ts (x ∷ xs) = go (has_ident ts x) (cuts_insert k ts xs) (cuts_insert (suc k) ts xs)
  where
    go : (b : Bool) → inserted_by (cuts k ts xs) ≡ [] → inserted_by (cuts (suc k) ts xs) ≡ [] → inserted_by (if b then Delete k 1 ∷ cuts k ts xs else cuts (suc k) ts xs) ≡ []
    go true f g = f
    go false f g = g

pub cuts_delete : (k : ℕ) (ts xs : List (List Tuple)) → deleted_by (cuts k ts xs) ≡ length (cuts k ts xs)
cuts_delete k ts [] = refl
cuts_delete k ts (x ∷ xs) = go (has_ident ts x) (cuts_delete k ts xs) (cuts_delete (suc k) ts xs)
  where
    go : (b : Bool) → deleted_by (cuts k ts xs) ≡ length (cuts k ts xs) → deleted_by (cuts (suc k) ts xs) ≡ length (cuts (suc k) ts xs)
        → deleted_by (if b then Delete k 1 ∷ cuts k ts xs else cuts (suc k) ts xs) ≡ length (if b then Delete k 1 ∷ cuts k ts xs else cuts (suc k) ts xs)
    go true f g = omega arith
    go false f g = g

-- as many as are gone
pub cuts_gone : (k : ℕ) (ts : List (List Tuple)) (es : Entries) → length (cuts k ts (idents_in es)) + length (without_all ts es) ≡ length es
cuts_gone k ts [] = refl
cuts_gone k ts (e ∷ es) = go (has_ident ts e.0) (cuts_gone k ts es) (cuts_gone (suc k) ts es)
  where
    go : (b : Bool) → length (cuts k ts (idents_in es)) + length (without_all ts es) ≡ length es → length (cuts (suc k) ts (idents_in es)) + length (without_all ts es) ≡ length es
        → length (if b then Delete k 1 ∷ cuts k ts (idents_in es) else cuts (suc k) ts (idents_in es)) + length (cond (not b) (e ∷ without_all ts es) (without_all ts es)) ≡ suc (length es)
    go true f g = omega arith
    go false f g = omega arith

-- ---- one more target, above the others

pub none_cut : (k : ℕ) (xs : List (List Tuple)) → cuts k [] xs ≡ []
none_cut k [] = refl
none_cut k (x ∷ xs) = none_cut (suc k) xs

-- targets that are all below
has_not : (ts : List (List Tuple)) (x : List Tuple) → AllLess ts x → has_ident ts x ≡ false
has_not ts x h = (tells_less ts x h).0

below_cut : (k : ℕ) (ts : List (List Tuple)) (y : List Tuple) (xs : List (List Tuple)) → AllLess ts y → AllMore y xs → cuts k ts xs ≡ []
below_cut k ts y [] h a = refl
below_cut k ts y (x ∷ xs) h a = ap (λ b. if b then Delete k 1 ∷ cuts k ts xs else cuts (suc k) ts xs) (has_not ts x (less_trans ts y x h a.0)) ∙ below_cut (suc k) ts y xs h a.1

has_more : (ts : List (List Tuple)) (y x : List Tuple) (b : Bool) → ident_eq y x ≡ b → has_ident (ts ++ y ∷ []) x ≡ has_ident ts x || b
has_more ts y x b e = list_any-append (λ z. ident_eq z x) ts (y ∷ []) ∙ ap (λ c. has_ident ts x || c) (go b e)
  where
    go : (b : Bool) → ident_eq y x ≡ b → ident_eq y x || false ≡ b
    go true e = ap (λ c. c || false) e
    go false e = ap (λ c. c || false) e

or_false : (b : Bool) → b || false ≡ b
or_false true = refl
or_false false = refl

-- what isn't the one more is told as before
told_before : (ts : List (List Tuple)) (y x : List Tuple) → ident_eq y x ≡ false → has_ident (ts ++ y ∷ []) x ≡ has_ident ts x
told_before ts y x e = has_more ts y x false e ∙ or_false (has_ident ts x)

-- how many are cut, and how many identifiers are below y
fewer_cut : (k : ℕ) (ts : List (List Tuple)) (y : List Tuple) (xs : List (List Tuple)) → AllLess ts y → Rising xs → length (cuts k ts xs) ≤ below_count xs y
fewer_cut k ts y [] h r = omega arith
fewer_cut k ts y (x ∷ xs) h r = less_or (ident_lt x y) refl (fewer_cut k ts y xs h r.1) (fewer_cut (suc k) ts y xs h r.1)
  where
    less_or : (b : Bool) → ident_lt x y ≡ b → length (cuts k ts xs) ≤ below_count xs y → length (cuts (suc k) ts xs) ≤ below_count xs y → length (cuts k ts (x ∷ xs)) ≤ below_count (x ∷ xs) y
    less_or true e f g =
        let c : below_count (x ∷ xs) y ≡ suc (below_count xs y) = ap (λ b. if b then suc (below_count xs y) else below_count xs y) e in
        go (has_ident ts x) c
      where
        go : (b : Bool) → below_count (x ∷ xs) y ≡ suc (below_count xs y) → length (if b then Delete k 1 ∷ cuts k ts xs else cuts (suc k) ts xs) ≤ below_count (x ∷ xs) y
        go true c = omega arith
        go false c = omega arith
    less_or false e f g = not_less (ident_cmp x y) refl
      where
        none : AllLess ts x → AllMore x xs → length (cuts k ts (x ∷ xs)) ≤ below_count (x ∷ xs) y
        none a m =
            let n : length (cuts k ts (x ∷ xs)) ≡ 0 = ap length (ap (λ b. if b then Delete k 1 ∷ cuts k ts xs else cuts (suc k) ts xs) (has_not ts x a) ∙ below_cut (suc k) ts x xs a m) in
            omega arith

        not_less : (o : Ordering) → ident_cmp x y ≡ o → length (cuts k ts (x ∷ xs)) ≤ below_count (x ∷ xs) y
        not_less Less q = absurd (let i = ap is_lt q in cc)
        not_less Equal q = none (subst (AllLess ts) (sym (ident_same x y q)) h) r.0
        not_less Greater q = let l : Lt tuples y x = record { less = ident_total.antisymm y x ∙ ap ordering_reverse q } in none (less_trans ts y x h l) r.0

pub few_cut : (ts : List (List Tuple)) (y : List Tuple) (xs : List (List Tuple)) → AllLess ts y → Rising xs → length (cuts 0 ts xs) ≤ below_count xs y
few_cut ts y xs h r = fewer_cut 0 ts y xs h r

-- a target that isn't there
one_missing : (k : ℕ) (ts : List (List Tuple)) (y : List Tuple) (xs : List (List Tuple)) → has_ident xs y ≡ false → cuts k (ts ++ y ∷ []) xs ≡ cuts k ts xs
one_missing k ts y [] h = refl
one_missing k ts y (x ∷ xs) h = go (ident_eq x y) refl h (one_missing k ts y xs) (one_missing (suc k) ts y xs)
  where
    flip_eq : ident_eq x y ≡ false → ident_eq y x ≡ false
    flip_eq e = not_true (ident_eq y x) (λ f. let g = same_eq x y (sym (eq_same y x f)) in absurd (cc))

    go : (b : Bool) → ident_eq x y ≡ b → b || has_ident xs y ≡ false → (has_ident xs y ≡ false → cuts k (ts ++ y ∷ []) xs ≡ cuts k ts xs) → (has_ident xs y ≡ false → cuts (suc k) (ts ++ y ∷ []) xs ≡ cuts (suc k) ts xs)
        → cuts k (ts ++ y ∷ []) (x ∷ xs) ≡ cuts k ts (x ∷ xs)
    go true e n f g = absurd (cc)
    go false e n f g =
        ap (λ b. if b then Delete k 1 ∷ cuts k (ts ++ y ∷ []) xs else cuts (suc k) (ts ++ y ∷ []) xs) (told_before ts y x (flip_eq e))
        ∙ (ap (λ zs. if has_ident ts x then Delete k 1 ∷ zs else cuts (suc k) (ts ++ y ∷ []) xs) (f n) ∙ ap (λ zs. if has_ident ts x then Delete k 1 ∷ cuts k ts xs else zs) (g n))

-- one that is there, between what is before and after it
one_cut : (k : ℕ) (ts a : List (List Tuple)) (y : List Tuple) (b : List (List Tuple)) → AllLess ts y → Rising (a ++ y ∷ b)
    → cuts k (ts ++ y ∷ []) (a ++ y ∷ b) ≡ cuts k ts (a ++ y ∷ b) ++ Delete ((k + length a) - length (cuts k ts (a ++ y ∷ b))) 1 ∷ []
one_cut k ts [] y b h r =
    let same : ident_eq y y ≡ true = same_eq_self y in
    let with_it : has_ident (ts ++ y ∷ []) y ≡ true = has_more ts y y true same ∙ or_true (has_ident ts y) in
    let after = above_none k b h r.0 in
    let before : cuts k ts (y ∷ b) ≡ [] = ap (λ c. if c then Delete k 1 ∷ cuts k ts b else cuts (suc k) ts b) (has_not ts y h) ∙ below_cut (suc k) ts y b h r.0 in
    let n : k ≡ (k + 0) - 0 = omega arith in
    ap (λ c. if c then Delete k 1 ∷ cuts k (ts ++ y ∷ []) b else cuts (suc k) (ts ++ y ∷ []) b) with_it
    ∙ (ap (λ zs. Delete k 1 ∷ zs) after
    ∙ (ap (λ i. Delete i 1 ∷ []) n ∙ sym (ap (λ (zs : List Change). zs ++ Delete ((k + 0) - length zs) 1 ∷ []) before)))
  where
    same_eq_self : (z : List Tuple) → ident_eq z z ≡ true
    same_eq_self z = same_eq z z refl

    or_true : (c : Bool) → c || true ≡ true
    or_true true = refl
    or_true false = refl

    above_none : (i : ℕ) (zs : List (List Tuple)) → AllLess ts y → AllMore y zs → cuts i (ts ++ y ∷ []) zs ≡ []
    above_none i [] l m = refl
    above_none i (z ∷ zs) l m =
        ap (λ c. if c then Delete i 1 ∷ cuts i (ts ++ y ∷ []) zs else cuts (suc i) (ts ++ y ∷ []) zs) (told_before ts y z (differs y z m.0) ∙ has_not ts z (less_trans ts y z l m.0)) ∙ above_none (suc i) zs l m.1
one_cut k ts (x ∷ a) y b h r =
    let l : Lt tuples x y = front_less y a b r.0 in
    let e = told_before ts y x (not_true (ident_eq y x) (λ f. lt_irrefl (subst (λ z. Lt tuples x z) (eq_same y x f) l))) in
    ap (λ c. if c then Delete k 1 ∷ cuts k (ts ++ y ∷ []) (a ++ y ∷ b) else cuts (suc k) (ts ++ y ∷ []) (a ++ y ∷ b)) e
    ∙ go (has_ident ts x) (one_cut k ts a y b h r.1) (one_cut (suc k) ts a y b h r.1)
  where
    front_less : (z : List Tuple) (zs ws : List (List Tuple)) → AllMore x (zs ++ z ∷ ws) → Lt tuples x z
    front_less z [] ws m = m.0
    front_less z (v ∷ zs) ws m = front_less z zs ws m.1

    go : (c : Bool) → cuts k (ts ++ y ∷ []) (a ++ y ∷ b) ≡ cuts k ts (a ++ y ∷ b) ++ Delete ((k + length a) - length (cuts k ts (a ++ y ∷ b))) 1 ∷ []
        → cuts (suc k) (ts ++ y ∷ []) (a ++ y ∷ b) ≡ cuts (suc k) ts (a ++ y ∷ b) ++ Delete ((suc k + length a) - length (cuts (suc k) ts (a ++ y ∷ b))) 1 ∷ []
        → (if c then Delete k 1 ∷ cuts k (ts ++ y ∷ []) (a ++ y ∷ b) else cuts (suc k) (ts ++ y ∷ []) (a ++ y ∷ b))
        ≡ (if c then Delete k 1 ∷ cuts k ts (a ++ y ∷ b) else cuts (suc k) ts (a ++ y ∷ b)) ++ Delete ((k + suc (length a)) - length (if c then Delete k 1 ∷ cuts k ts (a ++ y ∷ b) else cuts (suc k) ts (a ++ y ∷ b))) 1 ∷ []
    go true f g =
        let zs = cuts k ts (a ++ y ∷ b) in
        let n : (k + length a) - length zs ≡ (k + suc (length a)) - suc (length zs) = omega arith in
        ap (λ ws. Delete k 1 ∷ ws) (f ∙ ap (λ i. zs ++ Delete i 1 ∷ []) n)
    go false f g =
        let zs = cuts (suc k) ts (a ++ y ∷ b) in
        let n : (suc k + length a) - length zs ≡ (k + suc (length a)) - length zs = omega arith in
        g ∙ ap (λ i. zs ++ Delete i 1 ∷ []) n

-- ---- several more targets, of which none is there, or which stand one right behind another

all_less : (f : List (List Tuple)) (y : List Tuple) (m : List (List Tuple)) → Rising (f ++ y ∷ m) → AllLess f y
all_less [] y m r = tt
all_less (x ∷ f) y m r = (head f r.0, all_less f y m r.1)
  where
    head : (zs : List (List Tuple)) → AllMore x (zs ++ y ∷ m) → Lt tuples x y
    head [] h = h.0
    head (z ∷ zs) h = head zs h.1

pub cut_missing : (f m xs : List (List Tuple)) → AreMissing m xs → cuts 0 (f ++ m) xs ≡ cuts 0 f xs
cut_missing f [] xs h = ap (λ ts. cuts 0 ts xs) (append-nil f)
cut_missing f (y ∷ m) xs h =
    ap (λ ts. cuts 0 ts xs) (sym (append_assoc f (y ∷ []) m)) ∙ (cut_missing (f ++ y ∷ []) m xs h.1 ∙ one_missing 0 f y xs h.0)

pub cut_stretch : (f m a b : List (List Tuple)) → Rising (f ++ m) → Rising (a ++ (m ++ b)) → length (cuts 0 f (a ++ (m ++ b))) ≤ length a
    → cuts 0 (f ++ m) (a ++ (m ++ b)) ≡ cuts 0 f (a ++ (m ++ b)) ++ replicate (length m) (Delete (length a - length (cuts 0 f (a ++ (m ++ b)))) 1)
cut_stretch f [] a b r s l = ap (λ ts. cuts 0 ts (a ++ b)) (append-nil f) ∙ sym (append-nil (cuts 0 f (a ++ b)))
cut_stretch f (y ∷ m) a b r s l =
    let xs = a ++ y ∷ (m ++ b) in
    let ys : a ++ y ∷ (m ++ b) ≡ (a ++ y ∷ []) ++ (m ++ b) = sym (append_assoc a (y ∷ []) (m ++ b)) in
    let one = one_cut 0 f a y (m ++ b) (all_less f y m r) s in
    let n = length (cuts 0 f xs) in
    let d = Delete (length a - n) 1 in
    let z : (0 + length a) - n ≡ length a - n = omega arith in
    let one' : cuts 0 (f ++ y ∷ []) xs ≡ cuts 0 f xs ++ d ∷ [] = one ∙ ap (λ i. cuts 0 f xs ++ Delete i 1 ∷ []) z in
    let p = ap length one' in
    let q = length-append (cuts 0 f xs) (d ∷ []) in
    let u = length-append a (y ∷ []) in
    let at = ap (λ zs. length (cuts 0 (f ++ y ∷ []) zs)) ys in
    let ih = cut_stretch (f ++ y ∷ []) m (a ++ y ∷ []) b (subst Rising (sym (append_assoc f (y ∷ []) m)) r) (subst Rising ys s) (omega arith) in
    let w : length (a ++ y ∷ []) - length (cuts 0 (f ++ y ∷ []) ((a ++ y ∷ []) ++ (m ++ b))) ≡ length a - n = omega arith in
    ap (λ ts. cuts 0 ts xs) (sym (append_assoc f (y ∷ []) m))
    ∙ (ap (cuts 0 ((f ++ y ∷ []) ++ m)) ys
    ∙ (ih
    ∙ (ap (λ i. cuts 0 (f ++ y ∷ []) ((a ++ y ∷ []) ++ (m ++ b)) ++ replicate (length m) (Delete i 1)) w
    ∙ (ap (λ zs. cuts 0 (f ++ y ∷ []) zs ++ replicate (length m) d) (sym ys)
    ∙ (ap (λ zs. zs ++ replicate (length m) d) one' ∙ append_assoc (cuts 0 f xs) (d ∷ []) (replicate (length m) d))))))

-- as one change
pub next_cut : (f m a b : List (List Tuple)) → 0 < length m → Rising (f ++ m) → Rising (a ++ (m ++ b)) → length (cuts 0 f (a ++ (m ++ b))) ≤ length a
    → with_changes [] (cuts 0 (f ++ m) (a ++ (m ++ b))) ≡ with_change (with_changes [] (cuts 0 f (a ++ (m ++ b)))) (Delete (length a - length (cuts 0 f (a ++ (m ++ b)))) (length m))
next_cut f [] a b l r s h = absurd (omega arith)
next_cut f (y ∷ m) a b l r s h =
    let xs = a ++ ((y ∷ m) ++ b) in
    let n = length a - length (cuts 0 f xs) in
    ap (with_changes []) (cut_stretch f (y ∷ m) a b r s h)
    ∙ (with_append [] (cuts 0 f xs) (replicate (suc (length m)) (Delete n 1)) ∙ delete_times (with_changes [] (cuts 0 f xs)) n (length m))

-- and how many are cut then
pub cut_count : (f m a b : List (List Tuple)) → Rising (f ++ m) → Rising (a ++ (m ++ b)) → length (cuts 0 f (a ++ (m ++ b))) ≤ length a → length (cuts 0 (f ++ m) (a ++ (m ++ b))) ≡ length (cuts 0 f (a ++ (m ++ b))) + length m
cut_count f m a b r s h =
    let d = Delete (length a - length (cuts 0 f (a ++ (m ++ b)))) 1 in
    ap length (cut_stretch f m a b r s h) ∙ (length-append (cuts 0 f (a ++ (m ++ b))) (replicate (length m) d) ∙ ap (λ n. length (cuts 0 f (a ++ (m ++ b))) + n) (length-replicate (length m) d))
