-- The stems of all authors: finding one, and putting one in.
use Rattle.std.proofs.Common.{◌≡◌, ℕ, zero, suc, ◌+◌, ◌<◌, ◌≤◌, Bool, true, false, List, [], ◌∷◌, ◌++◌, map, length, set, get_or, slice_index, drop, append_assoc, add-one, refl, sym, ap, ◌∙◌, subst, arith, Option, Some, None}
use Rattle.std.specs.Prelude.{◌==◌, nat_lt, slice_get, if◌then◌else◌, ℤ, pos, ◌+ℤ◌, ◌<ℤ◌}
use Rattle.std.specs.Option.{option_map}
use Rattle.std.specs.Ordering.{int_eq}
use Rattle.std.proofs.lemmas.Int.{ints}
use Rattle.std.proofs.lemmas.List.{append-nil, drop_all, drop_more, length-set, get_or-map, get_or-set_same}
use Rattle.std.proofs.lemmas.Option.{slice_get_read}
use Rattle.rls_ident.specs.Lists.{IsIn}
use Rattle.rls_ident.proofs.Members.{same_bool, eq_is, eq_refl, eq_test, neq_test, lt_test, not_true, int_is, int_test, in_left, in_right, map_in, all_in, not_lt_test}
use Rattle.rls_model.specs.declared.parts.Stem.{Stem}
use Rattle.rls_model.specs.Stems.{stem_of, with_stem, extended, with_extended}
use Rattle.rls_parts.specs.declared.line.Reach.{Reach}
use Rattle.rls_parts.specs.Lines.{LineSeen}
use Rattle.rls_parts.specs.Reaches.{stem_at, reach_of, with_reach, grown, with_grown, AreBelow}
use Rattle.rls_parts.specs.Seen.{StemsSeen}
use Rattle.rls_parts.specs.Tables.{stems_from, seen_of, IsNewest}

-- the stems of the author at this place
abbrev pub reaches_at : List LineSeen → ℕ → List Reach
reaches_at [] i = []
reaches_at (l ∷ ls) zero = l.reaches
reaches_at (l ∷ ls) (suc i) = reaches_at ls i

pub reaches_there : (ls : List LineSeen) (i : ℕ) (l : LineSeen) → slice_get ls i ≡ Some l → reaches_at ls i ≡ l.reaches
reaches_there [] i l e = absurd (cc)
reaches_there (m ∷ ls) zero l e = let f : m ≡ l = cc in ap (λ (x : LineSeen). x.reaches) f
reaches_there (m ∷ ls) (suc i) l e = reaches_there ls i l e

pub reaches_past : (ls : List LineSeen) (i : ℕ) → length ls ≤ i → reaches_at ls i ≡ []
reaches_past [] i h = refl
reaches_past (m ∷ ls) zero h = absurd (omega arith)
reaches_past (m ∷ ls) (suc i) h = reaches_past ls i (omega arith)

pub reaches_read : (ls : List LineSeen) (i : ℕ) (l : LineSeen) → i < length ls → l ≡ get_or ls i l → reaches_at ls i ≡ l.reaches
reaches_read ls i l h e = reaches_there ls i l (slice_get_read ls (length ls) i l refl h e)

pub member_is : (ls : List LineSeen) (t : StemsSeen) (a : ℕ) → seen_of ls ≡ t → a < t.members → a < length ls
member_is ls t a e h = let f = ap (λ (u : StemsSeen). u.members) e in omega arith

pub spare_read : (ls : List LineSeen) (i : ℕ) (l : LineSeen) → i < length ls → slice_index (map (λ (m : LineSeen). m.spare) (set ls i l)) i ≡ l.spare
spare_read ls i l h = let k : i < length (set ls i l) = omega (arith, length-set ls i l) in get_or-map (λ (m : LineSeen). m.spare) (set ls i l) i l 0 k ∙ ap (λ (m : LineSeen). m.spare) (get_or-set_same ls i l l h)

-- ---- finding

-- after the stems of another author
skipped : (b a s : ℕ) (rs : List Reach) (ss : List Stem) → (b == a) ≡ false → stem_of (map (stem_at b) rs ++ ss) a s ≡ stem_of ss a s
skipped b a s [] ss n = refl
skipped b a s (r ∷ rs) ss n = rw n (skipped b a s rs ss n)

-- no stem of a lesser author
none_later : (k a s : ℕ) (ls : List LineSeen) → a < k → stem_of (stems_from k ls) a s ≡ None
none_later k a s [] l = refl
none_later k a s (m ∷ ls) l = skipped k a s m.reaches (stems_from (suc k) ls) (neq_test k a (λ e. absurd (omega arith))) ∙ none_later (suc k) a s ls (omega arith)

-- among the author's own
own : (a s : ℕ) (rs : List Reach) (ss : List Stem) → stem_of ss a s ≡ None → stem_of (map (stem_at a) rs ++ ss) a s ≡ option_map (stem_at a) (reach_of rs s)
own a s [] ss n = n
own a s (r ∷ rs) ss n = rw (eq_refl a) (go (r.s0 == s) (own a s rs ss n))
  where
    go : (b : Bool) → stem_of (map (stem_at a) rs ++ ss) a s ≡ option_map (stem_at a) (reach_of rs s) → (if b then Some (stem_at a r) else stem_of (map (stem_at a) rs ++ ss) a s) ≡ option_map (stem_at a) (if b then Some r else reach_of rs s)
    go true e = refl
    go false e = e

pub found : (k a i s : ℕ) (ls : List LineSeen) → a ≡ k + i → stem_of (stems_from k ls) a s ≡ option_map (stem_at a) (reach_of (reaches_at ls i) s)
found k a i s [] e = refl
found k a zero s (l ∷ ls) e =
    let f : k ≡ a = omega arith in
    ap (λ b. stem_of (map (stem_at b) l.reaches ++ stems_from (suc k) ls) a s) f ∙ own a s l.reaches (stems_from (suc k) ls) (none_later (suc k) a s ls (omega arith))
found k a (suc i) s (l ∷ ls) e =
    skipped k a s l.reaches (stems_from (suc k) ls) (neq_test k a (λ f. absurd (omega arith))) ∙ found (suc k) a i s ls (omega arith)

-- in the line that is read, or where there is none
pub found_read : (ls : List LineSeen) (t : StemsSeen) (a s : ℕ) (l : LineSeen) → seen_of ls ≡ t → a < length ls → l ≡ get_or ls a l → stem_of t.stems a s ≡ option_map (stem_at a) (reach_of l.reaches s)
found_read ls t a s l v h e =
    ap (λ (u : StemsSeen). stem_of u.stems a s) (sym v) ∙ found 0 a a s ls (omega arith) ∙ ap (λ rs. option_map (stem_at a) (reach_of rs s)) (reaches_read ls a l h e)

pub none_read : (ls : List LineSeen) (t : StemsSeen) (a s : ℕ) → seen_of ls ≡ t → length ls ≤ a → stem_of t.stems a s ≡ None
none_read ls t a s v h =
    ap (λ (u : StemsSeen). stem_of u.stems a s) (sym v) ∙ found 0 a a s ls (omega arith) ∙ ap (λ rs. option_map (stem_at a) (reach_of rs s)) (reaches_past ls a h)

-- ---- putting in

-- after the stems of a lesser author
passed : (b a : ℕ) (w : Reach) (rs : List Reach) (ss : List Stem) → b < a → with_stem (stem_at a w) (map (stem_at b) rs ++ ss) ≡ map (stem_at b) rs ++ with_stem (stem_at a w) ss
passed b a w [] ss l = refl
passed b a w (r ∷ rs) ss l =
    let n = neq_test b a (λ e. absurd (omega arith)) in
    let m = lt_test b a l in
    rw (n, m) (ap (λ ts. stem_at b r ∷ ts) (passed b a w rs ss l))

-- before the stems of greater authors
ahead : (k a : ℕ) (w : Reach) (ls : List LineSeen) → a < k → with_stem (stem_at a w) (stems_from k ls) ≡ stem_at a w ∷ stems_from k ls
ahead k a w [] l = refl
ahead k a w (m ∷ ls) l = go m.reaches (ahead (suc k) a w ls (omega arith))
  where
    n : (k == a) ≡ false
    n = neq_test k a (λ e. absurd (omega arith))

    f : nat_lt k a ≡ false
    f = not_lt_test k a (omega arith)

    go : (rs : List Reach) → with_stem (stem_at a w) (stems_from (suc k) ls) ≡ stem_at a w ∷ stems_from (suc k) ls → with_stem (stem_at a w) (map (stem_at k) rs ++ stems_from (suc k) ls) ≡ stem_at a w ∷ (map (stem_at k) rs ++ stems_from (suc k) ls)
    go [] e = e
    go (r ∷ rs) e = rw (n, f) refl

-- among the author's own
put : (a : ℕ) (w : Reach) (rs : List Reach) (ss : List Stem) → with_stem (stem_at a w) ss ≡ stem_at a w ∷ ss → with_stem (stem_at a w) (map (stem_at a) rs ++ ss) ≡ map (stem_at a) (with_reach w rs) ++ ss
put a w [] ss h = h
put a w (r ∷ rs) ss h = rw (eq_refl a, not_lt_test a a (omega arith)) (go (r.s0 == w.s0) (nat_lt r.s0 w.s0) (put a w rs ss h))
  where
    go : (b c : Bool) → with_stem (stem_at a w) (map (stem_at a) rs ++ ss) ≡ map (stem_at a) (with_reach w rs) ++ ss
        → (if b then stem_at a w ∷ (map (stem_at a) rs ++ ss) else if c then stem_at a r ∷ with_stem (stem_at a w) (map (stem_at a) rs ++ ss) else stem_at a w ∷ stem_at a r ∷ (map (stem_at a) rs ++ ss))
        ≡ map (stem_at a) (if b then w ∷ rs else if c then r ∷ with_reach w rs else w ∷ r ∷ rs) ++ ss
    go true c e = refl
    go false true e = ap (λ ts. stem_at a r ∷ ts) e
    go false false e = refl

-- the stems of one author become these
pub kept : (k a i : ℕ) (w : Reach) (ls : List LineSeen) (l : LineSeen) → a ≡ k + i → i < length ls → l.reaches ≡ with_reach w (reaches_at ls i) → stems_from k (set ls i l) ≡ with_stem (stem_at a w) (stems_from k ls)
kept k a i w [] l e h f = absurd (omega arith)
kept k a zero w (m ∷ ls) l e h f =
    let g : k ≡ a = omega arith in
    ap (λ rs. map (stem_at k) rs ++ stems_from (suc k) ls) f
    ∙ sym (subst (λ b. with_stem (stem_at a w) (map (stem_at b) m.reaches ++ stems_from (suc k) ls) ≡ map (stem_at b) (with_reach w m.reaches) ++ stems_from (suc k) ls) (sym g)
    (put a w m.reaches (stems_from (suc k) ls) (ahead (suc k) a w ls (omega arith))))
kept k a (suc i) w (m ∷ ls) l e h f =
    ap (λ ss. map (stem_at k) m.reaches ++ ss) (kept (suc k) a i w ls l (omega arith) (omega arith) f)
    ∙ sym (passed k a w m.reaches (stems_from (suc k) ls) (omega arith))

pub unchanged : (k i : ℕ) (ls : List LineSeen) (l : LineSeen) → l.reaches ≡ reaches_at ls i → stems_from k (set ls i l) ≡ stems_from k ls
unchanged k i [] l f = refl
unchanged k zero (m ∷ ls) l f = ap (λ rs. map (stem_at k) rs ++ stems_from (suc k) ls) f
unchanged k (suc i) (m ∷ ls) l f = ap (λ ss. map (stem_at k) m.reaches ++ ss) (unchanged (suc k) i ls l f)

-- ---- growing

pub grown_at : (a : ℕ) (r : Reach) (k : ℤ) (n : ℕ) → stem_at a (grown r k n) ≡ extended (stem_at a r) k n
grown_at a r k n = go (int_eq k (pos r.next))
  where
    go : (b : Bool) → stem_at a (if b then record r { next = r.next + n } else record r { low = k }) ≡ (if b then record (stem_at a r) { next = r.next + n } else record (stem_at a r) { low = k })
    go true = refl
    go false = refl

pub grows : (a q : ℕ) (t : ℤ) (n : ℕ) (ls : List LineSeen) (l : LineSeen) → a < length ls → l.reaches ≡ with_grown (reach_of (reaches_at ls a) q) t n (reaches_at ls a)
    → stems_from 0 (set ls a l) ≡ with_extended (stem_of (stems_from 0 ls) a q) t n (stems_from 0 ls)
grows a q t n ls l h f =
    go (reach_of (reaches_at ls a) q) f ∙ ap (λ o. with_extended o t n (stems_from 0 ls)) (sym (found 0 a a q ls (omega arith)))
  where
    go : (o : Option Reach) → l.reaches ≡ with_grown o t n (reaches_at ls a) → stems_from 0 (set ls a l) ≡ with_extended (option_map (stem_at a) o) t n (stems_from 0 ls)
    go None g = unchanged 0 a ls l g
    go (Some r) g = kept 0 a a (grown r t n) ls l (omega arith) h g ∙ ap (λ w. with_stem w (stems_from 0 ls)) (grown_at a r t n)

-- ---- the greatest number

in_stems : (k a i : ℕ) (ls : List LineSeen) (r : Reach) → a ≡ k + i → IsIn r (reaches_at ls i) → IsIn (stem_at a r) (stems_from k ls)
in_stems k a i [] r e p = absurd p
in_stems k a zero (l ∷ ls) r e p =
    let g : a ≡ k = omega arith in
    in_left (stem_at a r) (map (stem_at k) l.reaches) (stems_from (suc k) ls) (subst (λ b. IsIn (stem_at a r) (map (stem_at b) l.reaches)) g (map_in (stem_at a) r l.reaches p))
in_stems k a (suc i) (l ∷ ls) r e p = in_right (stem_at a r) (map (stem_at k) l.reaches) (stems_from (suc k) ls) (in_stems (suc k) a i ls r (omega arith) p)

pub newest_is : (a s : ℕ) (ls : List LineSeen) → IsNewest (stems_from 0 ls) a s → AreBelow s (reaches_at ls a)
newest_is a s ls h = all_in (λ r. nat_lt r.s0 s) (reaches_at ls a) (λ r p. lt_test r.s0 s (h (stem_at a r) (in_stems 0 a a ls r (omega arith) p) refl))

-- ---- the line that is read

pub below_read : (ls : List LineSeen) (t : StemsSeen) (a s : ℕ) (l : LineSeen) → seen_of ls ≡ t → a < length ls → l ≡ get_or ls a l → IsNewest t.stems a s → AreBelow s l.reaches
below_read ls t a s l v h e n =
    subst (AreBelow s) (reaches_read ls a l h e) (newest_is a s ls (subst (λ (u : StemsSeen). IsNewest u.stems a s) (sym v) n))

pub begins_read : (ls : List LineSeen) (t : StemsSeen) (a : ℕ) (w : Reach) (l m : LineSeen) → seen_of ls ≡ t → a < length ls → l ≡ get_or ls a l → m.reaches ≡ with_reach w l.reaches → stems_from 0 (set ls a m) ≡ with_stem (stem_at a w) t.stems
begins_read ls t a w l m v h e f =
    kept 0 a a w ls m (omega arith) h (f ∙ ap (with_reach w) (sym (reaches_read ls a l h e))) ∙ ap (λ (u : StemsSeen). with_stem (stem_at a w) u.stems) v

pub same_read : (ls : List LineSeen) (t : StemsSeen) (a : ℕ) (l m : LineSeen) → seen_of ls ≡ t → a < length ls → l ≡ get_or ls a l → m.reaches ≡ l.reaches → stems_from 0 (set ls a m) ≡ t.stems
same_read ls t a l m v h e f = unchanged 0 a ls m (f ∙ sym (reaches_read ls a l h e)) ∙ ap (λ (u : StemsSeen). u.stems) v

pub grows_read : (ls : List LineSeen) (t : StemsSeen) (a q : ℕ) (k : ℤ) (n : ℕ) (l m : LineSeen) → seen_of ls ≡ t → a < length ls → l ≡ get_or ls a l → m.reaches ≡ with_grown (reach_of l.reaches q) k n l.reaches
    → stems_from 0 (set ls a m) ≡ with_extended (stem_of t.stems a q) k n t.stems
grows_read ls t a q k n l m v h e f =
    grows a q k n ls m h (f ∙ ap (λ rs. with_grown (reach_of rs q) k n rs) (sym (reaches_read ls a l h e))) ∙ ap (λ (u : StemsSeen). with_extended (stem_of u.stems a q) k n u.stems) v

-- ---- no stems

-- no author has a stem
abbrev pub AreEmpty : List LineSeen → Type 0
AreEmpty [] = Unit {0}
AreEmpty (l ∷ ls) = (l.reaches ≡ []) × AreEmpty ls

pub empty_push : (ls : List LineSeen) (l : LineSeen) → AreEmpty ls → l.reaches ≡ [] → AreEmpty (ls ++ l ∷ [])
empty_push [] l h e = (e, tt)
empty_push (m ∷ ls) l h e = (h.0, empty_push ls l h.1 e)

pub stems_empty : (k : ℕ) (ls : List LineSeen) → AreEmpty ls → stems_from k ls ≡ []
stems_empty k [] h = refl
stems_empty k (m ∷ ls) h = ap (λ rs. map (stem_at k) rs ++ stems_from (suc k) ls) h.0 ∙ stems_empty (suc k) ls h.1

-- ---- offsets

pub gap_test : (k l : ℤ) (g n : ℕ) → k +ℤ pos g ≡ l → (g == n) ≡ int_eq (k +ℤ pos n) l
gap_test k l g n e =
    same_bool (g == n) (int_eq (k +ℤ pos n) l)
    (λ h. let f = eq_is g n h in int_test (k +ℤ pos n) l (ap (λ m. k +ℤ pos m) (sym f) ∙ e))
    (λ h. let f = int_is (k +ℤ pos n) l h in eq_test g n (omega (arith, ints)))

pub no_gap : (k l : ℤ) (n : ℕ) → l <ℤ k → int_eq (k +ℤ pos n) l ≡ false
no_gap k l n h = not_true (int_eq (k +ℤ pos n) l) (λ e. let f = int_is (k +ℤ pos n) l e in absurd (omega (arith, ints)))

-- ---- a line after the others

pub one_further : (ss : List Stem) (i : ℕ) (ls : List LineSeen) (l : LineSeen) (all : List Stem) → i < length ls → l ≡ get_or ls i l → ss ++ stems_from i (drop i ls) ≡ all → (ss ++ map (stem_at i) l.reaches) ++ stems_from (i + 1) (drop (i + 1) ls) ≡ all
one_further ss i ls l all h e f =
    let more : drop i ls ≡ l ∷ drop (i + 1) ls = drop_more ls i l h ∙ ap (λ m. m ∷ drop (i + 1) ls) (sym e) in
    append_assoc ss (map (stem_at i) l.reaches) (stems_from (i + 1) (drop (i + 1) ls))
    ∙ ap (λ j. ss ++ (map (stem_at i) l.reaches ++ stems_from j (drop (i + 1) ls))) (add-one i)
    ∙ ap (λ ms. ss ++ stems_from i ms) (sym more) ∙ f

pub no_further : (ss : List Stem) (i : ℕ) (ls : List LineSeen) (all : List Stem) → length ls ≤ i → ss ++ stems_from i (drop i ls) ≡ all → ss ≡ all
no_further ss i ls all h f = sym (append-nil ss) ∙ ap (λ ms. ss ++ stems_from i ms) (sym (drop_all i ls h)) ∙ f
