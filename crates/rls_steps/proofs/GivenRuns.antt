-- Labels that the first identifiers of a run have, or get.
use Rattle.std.proofs.Common.{◌≡◌, ℕ, zero, suc, ◌+◌, ◌-◌, ◌<◌, ◌≤◌, Bool, true, false, List, [], ◌∷◌, ◌++◌, map, length, take, drop, refl, sym, ap, ◌∙◌, subst, append_assoc, arith}
use Rattle.std.specs.Prelude.{pos, ◌+ℤ◌, ◌^◌, reverse, slice_get, Option, Some, None, if◌then◌else◌}
use Rattle.std.proofs.lemmas.Int.{ints}
use Rattle.std.proofs.lemmas.List.{append-nil, reverse-append}
use Rattle.std.proofs.lemmas.Option.{slice_get_within}
use Rattle.std.proofs.Math.Seq.{take-add}
use Rattle.rls_ident.specs.declared.tuple.Tuple.{Tuple}
use Rattle.rls_ident.specs.Tuples.{offset_of}
use Rattle.rls_ident.specs.Identifiers.{IsIdent, ident_eq, last_of, shifted}
use Rattle.rls_ident.specs.Lists.{IsIn}
use Rattle.rls_ident.proofs.Ends.{eq_same}
use Rattle.rls_ident.proofs.Members.{bool_cases, get_in, in_right}
use Rattle.rls_ident.proofs.Shifted.{shifted_shifted}
use Rattle.rls_runs.specs.Runs.{run_idents, is_run}
use Rattle.rls_runs.proofs.RunOrder.{run_ident}
use Rattle.rls_runs.proofs.RunEnds.{run_end}
use Rattle.rls_runs.proofs.RunJoins.{run_longer}
use Rattle.rls_tree.proofs.Puts.{get_drop}
use Rattle.rls_model.proofs.Spliced.{append_map}
use Rattle.rls_seen.specs.Seen.{Seen}
use Rattle.rls_steps.specs.Marks.{numbers_from}
use Rattle.rls_steps.specs.Labelled.{Names, Labelled, label_of, new_label, label_all}
use Rattle.rls_steps.specs.NameRuns.{IsStretch, name_by, names_by}
use Rattle.rls_steps.specs.Index.{AreApart}
use Rattle.rls_steps.specs.Recorded.{held_by}
use Rattle.rls_steps.proofs.Tabling.{take_snoc}
use Rattle.rls_steps.proofs.Giving.{all_append, reverse_snoc}
use Rattle.rls_steps.proofs.Stretches.{names_get, names_suc, in_reverse}
use Rattle.rls_steps.proofs.Found.{name_label}
use Rattle.rls_steps.proofs.RunLookups.{rising_labels}
use Rattle.rls_steps.proofs.FreeRuns.{later_free}

-- ---- labels that are there

-- identifiers that have labels get none
pub all_same : (g : Labelled) (ys : List (List Tuple)) (ls : List ℕ) → map (label_of g.names) ys ≡ map Some ls → label_all g ys ≡ g
all_same g [] ls e = refl
all_same g (y ∷ ys) [] e = absurd (cc)
all_same g (y ∷ ys) (l ∷ ls) e =
    let first : label_of g.names y ≡ Some l = cc in
    let rest : map (label_of g.names) ys ≡ map Some ls = cc in
    ap (λ (o : Option ℕ). label_all (new_label o g y) ys) first ∙ all_same g ys ls rest

-- a label stays
stays_by : (g : Labelled) (y x : List Tuple) (l : ℕ) (o : Option ℕ) → label_of g.names y ≡ o → label_of g.names x ≡ Some l → label_of (new_label o g y).names x ≡ Some l
stays_by g y x l (Some n) q e = e
stays_by g y x l None q e = bool_cases (ident_eq y x)
    (λ t. absurd (let same = ap (label_of g.names) (eq_same y x t) in cc))
    (λ t. ap (λ (c : Bool). if c then Some g.next else label_of g.names x) t ∙ e)

one_stays : (g : Labelled) (ys : List (List Tuple)) (x : List Tuple) (l : ℕ) → label_of g.names x ≡ Some l → label_of (label_all g ys).names x ≡ Some l
one_stays g [] x l e = e
one_stays g (y ∷ ys) x l e = one_stays (new_label (label_of g.names y) g y) ys x l (stays_by g y x l (label_of g.names y) refl e)

all_stay : (g : Labelled) (xs ys : List (List Tuple)) (ls : List ℕ) → map Some ls ≡ map (label_of g.names) xs → map Some ls ≡ map (label_of (label_all g ys).names) xs
all_stay g [] ys ls e = e
all_stay g (x ∷ xs) ys [] e = absurd (cc)
all_stay g (x ∷ xs) ys (l ∷ ls) e =
    let first : label_of g.names x ≡ Some l = cc in
    let rest : map Some ls ≡ map (label_of g.names) xs = cc in
    let here : Some l ≡ label_of (label_all g ys).names x = sym (one_stays g ys x l first) in
    ap (λ o. o ∷ map Some ls) here ∙ ap (λ os. label_of (label_all g ys).names x ∷ os) (all_stay g xs ys ls rest)

-- ---- labels of a run

run_snoc : (x : List Tuple) (n : ℕ) → run_idents x (suc n) ≡ run_idents x n ++ shifted (pos n) x ∷ []
run_snoc x n = let one : suc n ≡ n + 1 = omega arith in ap (run_idents x) one ∙ run_longer x n 1

-- none of these has one
pub all_fresh : (s : Seen) (next : ℕ) (names : Names) (x : List Tuple) (n : ℕ) → IsIdent x → ((j : ℕ) → j < n → label_of (reverse names) (shifted (pos j) x) ≡ None) →
    label_all (held_by s next names) (run_idents x n) ≡ held_by s (next + n) (names ++ names_by false x next 0 n)
all_fresh s next names x zero i f = let z : next ≡ next + 0 = omega arith in ap (λ k. held_by s k names) z ∙ ap (held_by s (next + 0)) (sym (append-nil names))
all_fresh s next names x (suc n) i f =
    let y = shifted (pos n) x in
    let ns = names_by false x next 0 n in
    let z : 0 + n ≡ n = omega arith in
    let one : suc (next + n) ≡ next + suc n = omega arith in
    let none : label_of (reverse (names ++ ns)) y ≡ None = ap (λ (ks : Names). label_of ks y) (reverse-append names ns) ∙ later_free false x next n (reverse names) i (f n (omega arith)) in
    let all : (names ++ ns) ++ (y, next + n) ∷ [] ≡ names ++ names_by false x next 0 (suc n) =
    append_assoc names ns ((y, next + n) ∷ []) ∙ ap (λ (ks : Names). names ++ ks) (sym (names_suc false x next 0 n ∙ ap (λ m. ns ++ name_by false x next m ∷ []) z)) in
    let with_names : Names → Labelled = λ ks. record { seen = s; next = suc (next + n); names = ks } in
    ap (label_all (held_by s next names)) (run_snoc x n)
    ∙ (all_append (held_by s next names) (run_idents x n) (y ∷ [])
    ∙ (ap (λ (g : Labelled). label_all g (y ∷ [])) (all_fresh s next names x n i (λ j h. f j (omega (arith, h))))
    ∙ (ap (λ (o : Option ℕ). new_label o (held_by s (next + n) (names ++ ns)) y) none
    ∙ (ap with_names (sym (reverse_snoc (names ++ ns) (y, next + n))) ∙ (ap (λ k. held_by s k ((names ++ ns) ++ (y, next + n) ∷ [])) one ∙ ap (held_by s (next + suc n)) all)))))

pub rising_within : (r : List Tuple × ℕ) (x : List Tuple) (l n : ℕ) → is_run r ≡ true → x ≡ r.0 → 0 < n → n ≤ r.1 → l + n ≤ 2 ^ 64 → IsStretch x l false n
rising_within r x l n run e some most room =
    let end = run_end r run in
    let same = ap (λ y. offset_of (last_of y)) e in
    record { some = some; ident = subst IsIdent (sym e) (run_ident r run); within = (omega (arith, ints, end, same, most), room) }

pub rising_named : (old new : Names) (x : List Tuple) (l n : ℕ) → new ≡ old ++ names_by false x l 0 n → AreApart (reverse new) → map (label_of (reverse new)) (run_idents x n) ≡ map Some (numbers_from l n)
rising_named old new x l n e a = rising_labels (reverse new) x n l (λ j h.
    let m : List Tuple × ℕ = (shifted (pos j) x, l + j) in
    let ns = names_by false x l 0 n in
    let z : 0 + j ≡ j = omega arith in
    let there : IsIn m ns = get_in ns j m (names_get false x l 0 n j h ∙ ap (λ i. Some (name_by false x l i)) z) in
    name_label (reverse new) m.0 m.1 a (in_reverse m new (subst (IsIn m) (sym e) (in_right m old ns there))))

-- ---- the next ones of a list

-- so many identifiers of a run, from a place on
pub part_run : (xs : List (List Tuple)) (x : List Tuple) (i n : ℕ) → ((k : ℕ) → k < n → slice_get xs (i + k) ≡ Some (shifted (pos k) x)) → take n (drop i xs) ≡ run_idents x n
part_run xs x i zero f = refl
part_run xs x i (suc n) f =
    take_snoc (drop i xs) n (shifted (pos n) x) (get_drop i n xs ∙ f n (omega arith)) ∙ (ap (λ ys. ys ++ shifted (pos n) x ∷ []) (part_run xs x i n (λ k h. f k (omega (arith, h)))) ∙ sym (run_snoc x n))

-- so many of what a place of a list begins within its run
pub located : (xs : List (List Tuple)) (r q : List Tuple × ℕ) (i at n m : ℕ) → ((k : ℕ) → at + k < r.1 → slice_get xs (i + k) ≡ Some (shifted (pos (at + k)) r.0)) → q ≡ (shifted (pos at) r.0, m - at) → m ≡ r.1 → n ≤ q.1 → take n (drop i xs) ≡ run_idents q.0 n
located xs r q i at n m f e s most = part_run xs q.0 i n next
  where
    next : (k : ℕ) → k < n → slice_get xs (i + k) ≡ Some (shifted (pos k) q.0)
    next k h =
        let size = ap (λ (p : List Tuple × ℕ). p.1) e in
        let by : pos (at + k) ≡ pos at +ℤ pos k = omega (arith, ints) in
        f k (omega (arith, h, size, s, most))
        ∙ ap Some (ap (λ d. shifted d r.0) by ∙ (sym (shifted_shifted (pos k) (pos at) r.0) ∙ ap (λ (p : List Tuple × ℕ). shifted (pos k) p.0) (sym e)))

pub located_within : (xs : List (List Tuple)) (r q : List Tuple × ℕ) (i at n m : ℕ) → ((k : ℕ) → at + k < r.1 → slice_get xs (i + k) ≡ Some (shifted (pos (at + k)) r.0)) → q ≡ (shifted (pos at) r.0, m - at) → m ≡ r.1 → n ≤ q.1 → 0 < n → i + n ≤ length xs
located_within xs r q i at n m f e s most some =
    let size = ap (λ (p : List Tuple × ℕ). p.1) e in
    let last = slice_get_within xs (i + (n - 1)) (shifted (pos (at + (n - 1))) r.0) (f (n - 1) (omega (arith, size, s, most, some))) in
    omega (arith, last, some)

pub next_given : (h g k : Labelled) (xs : List (List Tuple)) (x : List Tuple) (i n : ℕ) → take n (drop i xs) ≡ run_idents x n → k ≡ label_all g (run_idents x n) → g ≡ label_all h (take i xs) → k ≡ label_all h (take (i + n) xs)
next_given h g k xs x i n part new old =
    new
    ∙ (ap (λ (j : Labelled). label_all j (run_idents x n)) old
    ∙ (ap (label_all (label_all h (take i xs))) (sym part) ∙ (sym (all_append h (take i xs) (take n (drop i xs))) ∙ ap (label_all h) (sym (take-add i n xs)))))

pub next_labels : (g k : Labelled) (xs : List (List Tuple)) (x : List Tuple) (i n l : ℕ) (ls ms : List ℕ) → take n (drop i xs) ≡ run_idents x n → k ≡ label_all g (run_idents x n) → map (label_of k.names) (run_idents x n) ≡ map Some (numbers_from l n) →
    ms ≡ ls ++ numbers_from l n → map Some ls ≡ map (label_of g.names) (take i xs) → map Some ms ≡ map (label_of k.names) (take (i + n) xs)
next_labels g k xs x i n l ls ms part new own more old =
    let of = label_of k.names in
    let stay : map Some ls ≡ map of (take i xs) = all_stay g (take i xs) (run_idents x n) ls old ∙ ap (λ (j : Labelled). map (label_of j.names) (take i xs)) (sym new) in
    ap (map Some) more
    ∙ (append_map Some ls (numbers_from l n)
    ∙ (ap (λ os. os ++ map Some (numbers_from l n)) stay
    ∙ (ap (λ os. map of (take i xs) ++ os) (sym own ∙ ap (map of) (sym part)) ∙ (sym (append_map of (take i xs) (take n (drop i xs))) ∙ ap (map of) (sym (take-add i n xs))))))
