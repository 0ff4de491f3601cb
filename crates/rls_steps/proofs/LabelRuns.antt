-- The newest name of a label, run by run.
use Rattle.std.proofs.Common.{◌≡◌, ℕ, zero, suc, ◌+◌, ◌-◌, ◌<◌, ◌≤◌, Bool, false, List, [], ◌∷◌, ◌++◌, length, length-append, take, drop, inl, inr, ⊎_elim, refl, sym, ap, ◌∙◌, subst, append_assoc, arith}
use Rattle.std.specs.Prelude.{◌==◌, nat_lt, reverse, slice_get, Some, if◌then◌else◌}
use Rattle.std.proofs.lemmas.Option.{slice_get_within}
use Rattle.std.proofs.Math.Seq.{take-append-add, drop-append-add, take-length}
use Rattle.std.proofs.lemmas.List.{reverse-append, reverse-reverse, length-reverse, length-take, take-append-le}
use Rattle.rls_ident.specs.declared.tuple.Tuple.{Tuple}
use Rattle.rls_ident.specs.Lists.{IsIn}
use Rattle.rls_ident.proofs.Members.{bool_cases, lt_is, not_lt_is, eq_is, eq_test, neq_test, some_is, in_split}
use Rattle.rls_ident.proofs.Positions.{get_of}
use Rattle.rls_steps.specs.Labelled.{Names}
use Rattle.rls_steps.specs.NameRuns.{Stretch, AreSound, label_by, name_by, names_by, name_at, names_of, named, starts_of}
use Rattle.rls_steps.specs.Index.{newest_at, tail_at}
use Rattle.rls_steps.specs.Bounds.{HaveNone, IsLatest}
use Rattle.rls_steps.proofs.Giving.{reverse_snoc, front_stays}
use Rattle.rls_steps.proofs.LabelSteps.{labels_apart}
use Rattle.rls_steps.proofs.Stretches.{names_long, names_suc, in_names, in_named, name_in, named_snoc, reverse_cons, reverse_in, sound_at}
use Rattle.rls_steps.proofs.Bounded.{take_got}
use Rattle.rls_steps.proofs.Indexing.{tail_short, placed_name}

-- ---- lists of names

-- none of the newer names has the label
newest_skip : (xs ys : Names) (l : ℕ) → ((n : List Tuple × ℕ) → IsIn n xs → n.1 ≡ l → ⊥) → newest_at (xs ++ ys) l ≡ newest_at ys l
newest_skip [] ys l f = refl
newest_skip (x ∷ xs) ys l f =
    ap (λ (c : Bool). if c then Some (length (xs ++ ys)) else newest_at (xs ++ ys) l) (neq_test x.1 l (f x (inl refl))) ∙ newest_skip xs ys l (λ n p. f n (inr p))

-- the name of a run
newest_here : (d : Bool) (x : List Tuple) (l m k : ℕ) (ys : Names) → k < m → ((j : ℕ) → j < m → label_by d l j ≡ label_by d l k → j ≡ k) → newest_at (reverse (names_by d x l 0 m) ++ ys) (label_by d l k) ≡ Some (length ys + k)
newest_here d x l zero k ys h f = absurd (omega (arith, h))
newest_here d x l (suc m) k ys h f =
    let ns = names_by d x l 0 m in
    let z : 0 + m ≡ m = omega arith in
    let whole : reverse (names_by d x l 0 (suc m)) ++ ys ≡ name_by d x l m ∷ (reverse ns ++ ys) =
    ap (λ (zs : Names). reverse zs ++ ys) (names_suc d x l 0 m ∙ ap (λ j. ns ++ name_by d x l j ∷ []) z) ∙ ap (λ (zs : Names). zs ++ ys) (reverse_snoc ns (name_by d x l m)) in
    let size = length-append (reverse ns) ys in
    let back = length-reverse ns in
    let long = names_long d x l 0 m in
    let there : length (reverse ns ++ ys) ≡ length ys + m = omega (arith, size, back, long) in
    ap (λ (zs : Names). newest_at zs (label_by d l k)) whole
    ∙ bool_cases (label_by d l m == label_by d l k)
    (λ b. let same = f m (omega arith) (eq_is (label_by d l m) (label_by d l k) b) in
    ap (λ (c : Bool). if c then Some (length (reverse ns ++ ys)) else newest_at (reverse ns ++ ys) (label_by d l k)) b ∙ (ap Some there ∙ ap (λ j. Some (length ys + j)) same))
    (λ b. ap (λ (c : Bool). if c then Some (length (reverse ns ++ ys)) else newest_at (reverse ns ++ ys) (label_by d l k)) b
    ∙ newest_here d x l m k ys (before b) (λ j g e. f j (omega (arith, g)) e))
  where
    before : (label_by d l m == label_by d l k) ≡ false → k < m
    before b = bool_cases (nat_lt k m)
        (λ c. lt_is k m c)
        (λ c. let over = not_lt_is k m c in
        let same : m ≡ k = omega (arith, h, over) in
        let yes = eq_test (label_by d l m) (label_by d l k) (ap (label_by d l) same) in
        absurd (cc))

-- ---- the first runs

take_run : (rs : List Stretch) (k : ℕ) (r : Stretch) → slice_get rs k ≡ Some r → take (k + 1) rs ≡ take k rs ++ r ∷ []
take_run rs k r g = let one : k + 1 ≡ suc k = omega arith in ap (λ j. take j rs) one ∙ go rs k g
  where
    go : (qs : List Stretch) (j : ℕ) → slice_get qs j ≡ Some r → take (suc j) qs ≡ take j qs ++ r ∷ []
    go [] j h = absurd (cc)
    go (q ∷ qs) zero h = ap (λ p. p ∷ []) (some_is q r h)
    go (q ∷ qs) (suc j) h = ap (λ ps. q ∷ ps) (go qs j h)

start_is : (n : ℕ) (rs : List Stretch) (k s : ℕ) → slice_get (starts_of n rs) k ≡ Some s → s ≡ n + length (named (take k rs))
start_is n [] k s g = absurd (cc)
start_is n (r ∷ rs) zero s g = let e = some_is n s g in omega (arith, e)
start_is n (r ∷ rs) (suc k) s g =
    let e = start_is (n + r.len) rs k s g in
    let size = length-append (names_of r) (named (take k rs)) in
    let own = names_long r.down r.first r.label 0 r.len in
    omega (arith, e, size, own)

-- one more run, the newest
run_names : (rs : List Stretch) (k : ℕ) (r : Stretch) → slice_get rs k ≡ Some r → reverse (named (take (k + 1) rs)) ≡ reverse (names_of r) ++ reverse (named (take k rs))
run_names rs k r g = ap (λ (qs : List Stretch). reverse (named qs)) (take_run rs k r g) ∙ (ap reverse (named_snoc (take k rs) r) ∙ reverse-append (named (take k rs)) (names_of r))

-- a run without the label
pub run_missed : (rs : List Stretch) (k l : ℕ) (r : Stretch) → slice_get rs k ≡ Some r → ((j : ℕ) → j < r.len → (name_at r j).1 ≡ l → ⊥) → newest_at (reverse (named (take (k + 1) rs))) l ≡ newest_at (reverse (named (take k rs))) l
run_missed rs k l r g f = ap (λ (zs : Names). newest_at zs l) (run_names rs k r g) ∙ newest_skip (reverse (names_of r)) (reverse (named (take k rs))) l none
  where
    none : (n : List Tuple × ℕ) → IsIn n (reverse (names_of r)) → n.1 ≡ l → ⊥
    none n p e =
        let w = in_names r.down r.first r.label 0 r.len n (reverse_in n (names_of r) p) in
        let z : w.0 ≡ 0 + w.0 = omega arith in
        f w.0 w.1 (ap (λ j. (name_at r j).1) z ∙ (ap (λ (m : List Tuple × ℕ). m.1) w.2 ∙ e))

-- a run with it
pub run_found : (rs : List Stretch) (ss : List ℕ) (k l j s : ℕ) (r : Stretch) → AreSound rs → ss ≡ starts_of 0 rs → slice_get rs k ≡ Some r → slice_get ss k ≡ Some s → j < r.len → (name_at r j).1 ≡ l → newest_at (reverse (named (take (k + 1) rs))) l ≡ Some (s + j)
run_found rs ss k l j s r o e g h short is =
    let ys = reverse (named (take k rs)) in
    let sound = sound_at rs k r o g in
    let at = start_is 0 rs k s (ap (λ (zs : List ℕ). slice_get zs k) (sym e) ∙ h) in
    let back = length-reverse (named (take k rs)) in
    let there : length ys + j ≡ s + j = omega (arith, at, back) in
    ap (λ (zs : Names). newest_at zs l) (run_names rs k r g)
    ∙ (ap (newest_at (reverse (names_of r) ++ ys)) (sym is)
    ∙ (newest_here r.down r.first r.label r.len j ys short (λ m n q. labels_apart r m j sound n short q) ∙ ap Some there))

take_names : (d : Bool) (x : List Tuple) (l k n j : ℕ) → j ≤ n → take j (names_by d x l k n) ≡ names_by d x l k j
take_names d x l k n zero h = refl
take_names d x l k zero (suc j) h = absurd (omega (arith, h))
take_names d x l k (suc n) (suc j) h = ap (λ ns. name_by d x l k ∷ ns) (take_names d x l (suc k) n j (omega (arith, h)))

-- the first runs and the first names of the next one
take_named : (rs : List Stretch) (k j : ℕ) (r : Stretch) → slice_get rs k ≡ Some r → j ≤ r.len → take (length (named (take k rs)) + j) (named rs) ≡ named (take k rs) ++ names_by r.down r.first r.label 0 j
take_named [] k j r g h = absurd (cc)
take_named (q ∷ qs) zero j r g h =
    let same = some_is q r g in
    let long = names_long q.down q.first q.label 0 q.len in
    let size = ap (λ (u : Stretch). u.len) same in
    let z : 0 + j ≡ j = omega arith in
    ap (λ m. take m (names_of q ++ named qs)) z
    ∙ (take-append-le j (names_of q) (named qs) (omega (arith, long, size, h))
    ∙ (take_names q.down q.first q.label 0 q.len j (omega (arith, size, h)) ∙ ap (λ (u : Stretch). names_by u.down u.first u.label 0 j) same))
take_named (q ∷ qs) (suc k) j r g h =
    let own = names_of q in
    let front = named (take k qs) in
    let size = length-append own front in
    let e : length (own ++ front) + j ≡ length own + (length front + j) = omega (arith, size) in
    ap (λ m. take m (own ++ named qs)) e
    ∙ (take-append-add own (named qs) (length front + j) ∙ (ap (λ ns. own ++ ns) (take_named qs k j r g h) ∙ sym (append_assoc own front (names_by r.down r.first r.label 0 j))))

-- a place is a place among all names
pub place_few : (rs : List Stretch) (ss : List ℕ) (k s j : ℕ) (r : Stretch) → ss ≡ starts_of 0 rs → slice_get rs k ≡ Some r → slice_get ss k ≡ Some s → j < r.len → s + j < length (named rs)
place_few rs ss k s j r e g h short =
    let at = start_is 0 rs k s (ap (λ (zs : List ℕ). slice_get zs k) (sym e) ∙ h) in
    let front = ap length (take_named rs k r.len r g (omega arith)) ∙ length-append (named (take k rs)) (names_of r) in
    let long = names_long r.down r.first r.label 0 r.len in
    let most = length-take (length (named (take k rs)) + r.len) (named rs) in
    omega (arith, at, front, long, most, short)

-- runs that don't have the label
pub none_skipped : (rs : List Stretch) (l c n end : ℕ) → end ≡ c + n → end ≤ length rs → HaveNone rs c end l l → newest_at (reverse (named (take end rs))) l ≡ newest_at (reverse (named (take c rs))) l
none_skipped rs l c zero end e h none = let w : end ≡ c = omega (arith, e) in ap (λ k. newest_at (reverse (named (take k rs))) l) w
none_skipped rs l c (suc n) end e h none =
    let k = end - 1 in
    let back : end ≡ k + 1 = omega (arith, e) in
    let w = get_of rs k (omega (arith, e, h)) in
    let r = w.0 in
    ap (λ j. newest_at (reverse (named (take j rs))) l) back
    ∙ (run_missed rs k l r w.1 (λ j p t. none k l (omega (arith, e)) (omega (arith, e)) (r, name_at r j, w.1, name_in r j p, t) (omega arith) (omega arith))
    ∙ none_skipped rs l c n k (omega (arith, e)) (omega (arith, e, h)) (λ i m x y has p q. none i m x (omega (arith, y)) has p q))

pub newest_skipped : (rs : List Stretch) (l c : ℕ) → c ≤ length rs → HaveNone rs c (length rs) l l → newest_at (reverse (named rs)) l ≡ newest_at (reverse (named (take c rs))) l
newest_skipped rs l c h none = ap (λ (qs : List Stretch). newest_at (reverse (named qs)) l) (sym (take-length rs)) ∙ none_skipped rs l c (length rs - c) (length rs) (omega (arith, h)) (omega arith) none

-- ---- an older name

-- the older ones are the first ones
tail_take : (ds : Names) (i : ℕ) (n : List Tuple × ℕ) (ms : Names) → tail_at ds i ≡ n ∷ ms → ms ≡ reverse (take i (reverse ds))
tail_take [] i n ms t = absurd (cc)
tail_take (d ∷ ds) i n ms t =
    let size = length-reverse ds in
    bool_cases (length ds == i)
    (λ b. let whole : (d ∷ ds) ≡ (n ∷ ms) = sym (ap (λ (c : Bool). if c then d ∷ ds else tail_at ds i) b) ∙ t in
    let same : ds ≡ ms = cc in
    let q = eq_is (length ds) i b in
    let front : take i (reverse ds ++ d ∷ []) ≡ reverse ds =
    ap (λ k. take k (reverse ds ++ d ∷ [])) (let w : i ≡ length (reverse ds) = omega (arith, size, q) in w) ∙ (take-append-le (length (reverse ds)) (reverse ds) (d ∷ []) (omega arith) ∙ take-length (reverse ds)) in
    sym same ∙ (sym (reverse-reverse ds) ∙ (ap reverse (sym front) ∙ ap (λ (zs : Names). reverse (take i zs)) (sym (reverse_cons d ds)))))
    (λ b. let later = sym (ap (λ (c : Bool). if c then d ∷ ds else tail_at ds i) b) ∙ t in
    let s = (tail_short ds i n ms later).0 in
    tail_take ds i n ms later
    ∙ (ap reverse (sym (take-append-le i (reverse ds) (d ∷ []) (omega (arith, size, s)))) ∙ ap (λ (zs : Names). reverse (take i zs)) (sym (reverse_cons d ds))))

-- no name before one of a run has its label in that run
own_apart : (rs : List Stretch) (k j : ℕ) (r : Stretch) (m : List Tuple × ℕ) → AreSound rs → slice_get rs k ≡ Some r → j < r.len → IsIn m (reverse (names_by r.down r.first r.label 0 j)) → m.1 ≡ (name_at r j).1 → ⊥
own_apart rs k j r m o g short p q =
    let w = in_names r.down r.first r.label 0 j m (reverse_in m (names_by r.down r.first r.label 0 j) p) in
    let z : w.0 ≡ 0 + w.0 = omega arith in
    let less = w.1 in
    let same = labels_apart r w.0 j (sound_at rs k r o g) (omega (arith, less, short)) short (ap (λ x. (name_at r x).1) z ∙ (ap (λ (y : List Tuple × ℕ). y.1) w.2 ∙ q)) in
    absurd (omega (arith, same, less))

-- those that are older than one of a run are those before it in the run, and those of the runs before
older_split : (rs : List Stretch) (ss : List ℕ) (i k s : ℕ) (r : Stretch) (n : List Tuple × ℕ) (ms : Names) → ss ≡ starts_of 0 rs → slice_get rs k ≡ Some r → slice_get ss k ≡ Some s → s ≤ i → i - s < r.len → tail_at (reverse (named rs)) i ≡ n ∷ ms →
    ms ≡ reverse (names_by r.down r.first r.label 0 (i - s)) ++ reverse (named (take k rs))
older_split rs ss i k s r n ms e g h low short t =
    let j = i - s in
    let front = named (take k rs) in
    let own = names_by r.down r.first r.label 0 j in
    let at = start_is 0 rs k s (ap (λ (zs : List ℕ). slice_get zs k) (sym e) ∙ h) in
    let place : i ≡ length front + j = omega (arith, at, low) in
    let all : take i (named rs) ≡ front ++ own = ap (λ m. take m (named rs)) place ∙ take_named rs k j r g (omega (arith, short)) in
    tail_take (reverse (named rs)) i n ms t ∙ (ap (λ (zs : Names). reverse (take i zs)) (reverse-reverse (named rs)) ∙ (ap reverse all ∙ reverse-append front own))

-- the newest name that is older than one of a run is in a run before
pub older_is : (rs : List Stretch) (ss : List ℕ) (i k s : ℕ) (r : Stretch) (n : List Tuple × ℕ) (ms : Names) → AreSound rs → ss ≡ starts_of 0 rs → slice_get rs k ≡ Some r → slice_get ss k ≡ Some s → s ≤ i → i - s < r.len → tail_at (reverse (named rs)) i ≡ n ∷ ms →
    newest_at (reverse (named (take k rs))) (name_at r (i - s)).1 ≡ newest_at ms (name_at r (i - s)).1
older_is rs ss i k s r n ms o e g h low short t =
    let l = (name_at r (i - s)).1 in
    let own = names_by r.down r.first r.label 0 (i - s) in
    let front = named (take k rs) in
    sym (ap (λ (zs : Names). newest_at zs l) (older_split rs ss i k s r n ms e g h low short t) ∙ newest_skip (reverse own) (reverse front) l (λ m p q. own_apart rs k (i - s) r m o g short p q))

-- each name that is older and of the same label is in a run before
pub older_in : (rs : List Stretch) (ss : List ℕ) (i k s : ℕ) (r : Stretch) (n m : List Tuple × ℕ) (ms : Names) → AreSound rs → ss ≡ starts_of 0 rs → slice_get rs k ≡ Some r → slice_get ss k ≡ Some s → s ≤ i → i - s < r.len → tail_at (reverse (named rs)) i ≡ n ∷ ms →
    IsIn m ms → m.1 ≡ (name_at r (i - s)).1 → (j : ℕ) × (q : Stretch) × (j < k) × (slice_get rs j ≡ Some q) × IsIn m (names_of q)
older_in rs ss i k s r n m ms o e g h low short t p same =
    let own = names_by r.down r.first r.label 0 (i - s) in
    let front = named (take k rs) in
    ⊎_elim
    (λ u. absurd (own_apart rs k (i - s) r m o g short u same))
    (λ u. let w = in_named (take k rs) m (reverse_in m front u) in
    let within = slice_get_within (take k rs) w.0 w.1 w.3 in
    let size = length-take k rs in
    (w.0, w.1, omega (arith, within, size), take_got k w.0 w.1 rs w.3, subst (λ x. IsIn x (names_of w.1)) w.5 (name_in w.1 w.2 w.4)))
    (in_split m (reverse own) (reverse front) (subst (IsIn m) (older_split rs ss i k s r n ms e g h low short t) p))

-- ---- a run whose names are the newest

-- no later run has the label
later_missed : (rs : List Stretch) (l n k : ℕ) → k + n ≡ length rs → ((i j : ℕ) (r : Stretch) → k ≤ i → slice_get rs i ≡ Some r → j < r.len → (name_at r j).1 ≡ l → ⊥) → newest_at (reverse (named rs)) l ≡ newest_at (reverse (named (take k rs))) l
later_missed rs l zero k e f =
    let all : length rs ≡ k = omega (arith, e) in
    ap (λ (qs : List Stretch). newest_at (reverse (named qs)) l) (sym (take-length rs) ∙ ap (λ m. take m rs) all)
later_missed rs l (suc n) k e f =
    let w = get_of rs k (omega (arith, e)) in
    later_missed rs l n (k + 1) (omega (arith, e)) (λ i j r a g h q. f i j r (omega (arith, a)) g h q) ∙ run_missed rs k l w.0 w.1 (λ j h q. f k j w.0 (omega arith) w.1 h q)

drop_named : (rs : List Stretch) (k : ℕ) (r : Stretch) → slice_get rs k ≡ Some r → drop (length (named (take k rs))) (named rs) ≡ names_of r ++ named (drop (suc k) rs)
drop_named [] k r g = absurd (cc)
drop_named (q ∷ qs) zero r g = ap (λ (u : Stretch). names_of u ++ named qs) (some_is q r g)
drop_named (q ∷ qs) (suc k) r g =
    let own = names_of q in
    let front = named (take k qs) in
    ap (λ m. drop m (own ++ named qs)) (length-append own front) ∙ (drop-append-add own (named qs) (length front) ∙ drop_named qs k r g)

pub run_latest : (rs : List Stretch) (ss : List ℕ) (k i low high : ℕ) (r : Stretch) → AreSound rs → ss ≡ starts_of 0 rs → slice_get rs k ≡ Some r → slice_get ss k ≡ Some i → HaveNone rs (k + 1) (length rs) low high →
    ((n : List Tuple × ℕ) → IsIn n (names_of r) → (low ≤ n.1) × (n.1 ≤ high)) → IsLatest (named rs) i r
run_latest rs ss k i low high r o e g h none bounds =
    let at = start_is 0 rs k i (ap (λ (zs : List ℕ). slice_get zs k) (sym e) ∙ h) in
    let here : i ≡ length (named (take k rs)) = omega (arith, at) in
    let own = names_of r in
    let size : r.len ≡ length own = sym (names_long r.down r.first r.label 0 r.len) in
    record {
      names = ap (λ m. take r.len (drop m (named rs))) here
          ∙ (ap (take r.len) (drop_named rs k r g) ∙ (ap (λ m. take m (own ++ named (drop (suc k) rs))) size ∙ front_stays own own (named (drop (suc k) rs)) (take-length own)));
      at = λ j short.
          let there : slice_get (starts_of 0 rs) k ≡ Some i = ap (λ (zs : List ℕ). slice_get zs k) (sym e) ∙ h in
          let back : (i + j) - i ≡ j = omega arith in
          let z : (i + j) - 0 ≡ i + j = omega arith in
          let w = placed_name 0 rs k r i (i + j) g there (omega arith) (omega (arith, short)) in
          ap (slice_get (named rs)) (sym z) ∙ (w.1 ∙ ap (λ m. Some (name_at r m)) back);
      newest = λ j short.
          let l = (name_at r j).1 in
          let b = bounds (name_at r j) (name_in r j short) in
          let short' = slice_get_within rs k r g in
          later_missed rs l (length rs - (k + 1)) (k + 1) (omega (arith, short')) (λ i' j' q a g' h' same.
          none i' (name_at q j').1 a (slice_get_within rs i' q g') (q, name_at q j', g', name_in q j' h', refl) (subst (λ x. low ≤ x) (sym same) b.0) (subst (λ x. x ≤ high) (sym same) b.1))
          ∙ run_found rs ss k l j i r o e g h short refl;
    }
