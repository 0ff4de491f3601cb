-- The places of anchors.
use Rattle.std.proofs.Common.{◌≡◌, ℕ, zero, suc, ◌+◌, ◌-◌, ◌≤◌, ◌<◌, Bool, true, false, List, [], ◌∷◌, ◌++◌, map, length, take, drop, refl, sym, ap, ◌∙◌, subst, arith, inl, inr, ⊎_elim}
use Rattle.std.specs.Prelude.{not, pos, slice_get, Option, Some, None, nat_lt, if◌then◌else◌}
use Rattle.std.proofs.lemmas.List.{take-append-drop, length-map, length-drop, length-take-le}
use Rattle.std.proofs.lemmas.Option.{slice_get_past}
use Rattle.rls_ident.specs.declared.tuple.Tuple.{Tuple}
use Rattle.rls_ident.specs.declared.epoch_name.EpochName.{EpochName}
use Rattle.rls_ident.specs.declared.epoch_name.EpochName.TheVariants.{Origin}
use Rattle.rls_ident.specs.Identifiers.{ident_eq, ident_lt, shifted}
use Rattle.rls_ident.specs.Lists.{IsIn}
use Rattle.rls_ident.proofs.Lists.{Lt, lt_irrefl, lt_trans}
use Rattle.rls_ident.proofs.Members.{in_map, map_in, in_left, in_right, in_split, get_in, any_in, in_any, bool_cases, lt_is, not_lt_is, not_lt_test}
use Rattle.rls_ident.proofs.Positions.{get_of}
use Rattle.rls_ident.proofs.Ends.{eq_same}
use Rattle.rls_ident.proofs.Tuples.{tuples}
use Rattle.rls_rename.specs.Tree.{is_kept}
use Rattle.rls_rename.proofs.Growth.{translate_same}
use Rattle.rls_rename.proofs.Kept.{greatest_kept}
use Rattle.rls_rename.proofs.Paths.{translate_ident, translate_translate}
use Rattle.rls_rename.proofs.SameNodes.{translate_within}
use Rattle.rls_runs.specs.Entries.{has_ident}
use Rattle.rls_runs.specs.Places.{below_count}
use Rattle.rls_runs.proofs.Gaps.{at_same}
use Rattle.rls_runs.proofs.RunOrder.{AllMore, Rising, rising_of}
use Rattle.rls_runs.proofs.Sorted.{Entry, IsBelow, Rises, rises_of_increasing}
use Rattle.rls_model.specs.declared.edit.Edit.TheVariants as edits
use Rattle.rls_model.specs.Epochs.{epochs, greatest, translate}
use Rattle.rls_model.specs.Document.{idents}
use Rattle.rls_model.specs.History.{History}
use Rattle.rls_model.specs.Laws.{HaveSameOps}
use Rattle.rls_model.specs.Legal.{IsLegal}
use Rattle.rls_model.proofs.OneTree.{nodes, parents}
use Rattle.rls_model.proofs.SameOps.{same_epochs, top_kept}
use Rattle.rls_model.proofs.SameOps as same_ops
use Rattle.rls_model.proofs.Spliced.{ids, entries, append_map}
use Rattle.rls_seen.specs.Seen.{Seen, idents_over, greatest_over}
use Rattle.rls_seen.specs.Over.{placed_over}
use Rattle.rls_seen.specs.Edits.{edited}
use Rattle.rls_seen.specs.Sane.{IsSane}
use Rattle.rls_seen.specs.Stands.{StandsFor}
use Rattle.rls_model.specs.Receiving.{State}
use Rattle.rls_seen.proofs.Accepting.{placed_alike}
use Rattle.rls_seen.proofs.Alike.{greatest_alike}
use Rattle.rls_seen.proofs.EditedText.{inserted_entries, deleted_entries, delete_place, insert_place, first_made, cross, rises_right, take_drop_drop, placed_delete, placed_insert}
use Rattle.rls_seen.proofs.Editing.{idents_alike}
use Rattle.rls_seen.proofs.Making.{edited_sane}
use Rattle.rls_seen.proofs.TextLists.{ident_in}
use Rattle.rls_anchor.specs.declared.anchor.Anchor.{Anchor}
use Rattle.rls_anchor.specs.declared.anchor.Anchor.TheVariants.{Beginning, After, Before}
use Rattle.rls_anchor.specs.Anchors.{count_before, count_upto, place, place_over, anchor_before_over, anchor_over, behind, in_front, settled_over}
use Rattle.rls_anchor.specs.AnchorLaws.{IsAnchor, IsAnchored, MadeThere, SettledAlike, SettledThere, MovedThere, PlaceAlike, SamePlace, OwnInsertion, OwnInsertionBefore, OwnDeletion}
use Rattle.rls_anchor.proofs.Counting.{IsClosed, below_closed, below_is, count_of, of_all, of_append, of_few, of_some, upto_append, upto_all, upto_closed, upto_few, upto_is, upto_none, upto_some}

-- one that is there counts
upto_one : (xs : List (List Tuple)) (z : List Tuple) → IsIn z xs → 0 < count_upto xs z
upto_one [] z p = absurd p
upto_one (y ∷ ys) z (inl e) =
    let a = upto_append (y ∷ []) ys z in
    let b = upto_all (y ∷ []) z (λ w p l. ⊎_elim (λ q. lt_irrefl (subst (λ v. Lt tuples z v) (sym q ∙ e) l)) (λ q. absurd q) p) in
    omega arith
upto_one (y ∷ ys) z (inr p) =
    let a = upto_append (y ∷ []) ys z in
    let b = upto_one ys z p in
    omega arith

-- ---- an anchor that was just made

more_in : (x : List Tuple) (xs : List (List Tuple)) (y : List Tuple) → AllMore x xs → IsIn y xs → Lt tuples x y
more_in x [] y a p = absurd p
more_in x (z ∷ zs) y a (inl e) = subst (λ w. Lt tuples x w) e a.0
more_in x (z ∷ zs) y a (inr p) = more_in x zs y a.1 p

-- the identifier at place k is above k others
upto_at : (xs : List (List Tuple)) (k : ℕ) (x : List Tuple) → Rising xs → slice_get xs k ≡ Some x → count_upto xs x ≡ suc k
upto_at [] k x r h = absurd (cc)
upto_at (y ∷ ys) zero x r h =
    let e : y ≡ x = cc in
    let a = upto_append (y ∷ []) ys x in
    let b = upto_all (y ∷ []) x (λ z p l. ⊎_elim (λ q. lt_irrefl (subst (λ w. Lt tuples x w) (sym q ∙ e) l)) (λ q. absurd q) p) in
    let c = upto_none ys x (λ z p. subst (λ w. Lt tuples w z) e (more_in y ys z r.0 p)) in
    omega arith
upto_at (y ∷ ys) (suc k) x r h =
    let l = more_in y ys x r.0 (get_in ys k x h) in
    let a = upto_append (y ∷ []) ys x in
    let b = upto_all (y ∷ []) x (λ z q m. ⊎_elim (λ e. lt_irrefl (lt_trans l (subst (λ w. Lt tuples x w) (sym e) m))) (λ u. absurd u) q) in
    let c = upto_at ys k x r.1 h in
    omega arith

-- its epoch is kept
pub made_kept : (s : Seen) (at : ℕ) → IsAnchored s (anchor_over s at)
made_kept s zero = tt
made_kept s (suc k) = go (slice_get (idents_over s) k)
  where
    go : (x : Option (List Tuple)) → IsAnchored s (behind (greatest_over s) x)
    go None = tt
    go (Some x) = greatest_kept s.epochs.top s.epochs.nodes

-- and that of one which belongs to the character after it
pub before_kept : (s : Seen) (at : ℕ) → IsAnchored s (anchor_before_over s at)
before_kept s at = go (slice_get (idents_over s) at)
  where
    go : (x : Option (List Tuple)) → IsAnchored s (in_front (greatest_over s) x (anchor_over s at))
    go None = made_kept s at
    go (Some x) = greatest_kept s.epochs.top s.epochs.nodes

pub made_at : (s : Seen) (at : ℕ) → IsSane s → at ≤ length s.text → place_over s (anchor_over s at) ≡ at
unfolding place_over
made_at s zero sane h = refl
made_at s (suc k) sane h =
    let xs = idents_over s in
    let l = length-map s.text (λ (y : Entry). y.0) in
    let g = get_of xs k (omega arith) in
    let i = ident_in xs sane.idents g.0 (get_in xs k g.0 g.1) in
    let same = translate_same s.epochs.nodes (greatest_over s) g.0 sane.epochs.nodes i in
    ap (λ o. place_over s (behind (greatest_over s) o)) g.1 ∙ (ap (count_upto xs) same ∙ upto_at xs k g.0 (rising_of xs sane.idents.1) g.1)

pub made_before : (s : Seen) (at : ℕ) → IsSane s → at ≤ length s.text → place_over s (anchor_before_over s at) ≡ at
unfolding place_over
made_before s at sane h =
    bool_cases (nat_lt at (length (idents_over s))) (λ t. inner (lt_is at (length (idents_over s)) t)) (λ t. outer (not_lt_is at (length (idents_over s)) t))
  where
    inner : at < length (idents_over s) → place_over s (anchor_before_over s at) ≡ at
    inner l =
        let xs = idents_over s in
        let g = get_of xs at l in
        let i = ident_in xs sane.idents g.0 (get_in xs at g.0 g.1) in
        let same = translate_same s.epochs.nodes (greatest_over s) g.0 sane.epochs.nodes i in
        ap (λ o. place_over s (in_front (greatest_over s) o (anchor_over s at))) g.1 ∙ (ap (below_count xs) same ∙ at_same xs at g.0 (rising_of xs sane.idents.1) g.1)

    outer : length (idents_over s) ≤ at → place_over s (anchor_before_over s at) ≡ at
    outer l = ap (λ o. place_over s (in_front (greatest_over s) o (anchor_over s at))) (slice_get_past (idents_over s) at l) ∙ made_at s at sane h

-- the one that names the character at a place
pub before_at : (s : Seen) (at : ℕ) (x : List Tuple) → IsSane s → slice_get (idents_over s) at ≡ Some x → place_over s (Before (greatest_over s) x) ≡ at
unfolding place_over
before_at s at x sane h =
    let xs = idents_over s in
    let i = ident_in xs sane.idents x (get_in xs at x h) in
    ap (below_count xs) (translate_same s.epochs.nodes (greatest_over s) x sane.epochs.nodes i) ∙ at_same xs at x (rising_of xs sane.idents.1) h

pub made_there : MadeThere
made_there s at sane h = (made_at s at sane h, made_before s at sane h)

-- ---- another epoch

pub settled_there : SettledThere
unfolding place_over
settled_there s Beginning sane i = refl
settled_there s (After e x) sane i = ap (count_upto (idents_over s)) (translate_same s.epochs.nodes (greatest_over s) (placed_over s e x) sane.epochs.nodes (translate_ident s.epochs.nodes e (greatest_over s) x sane.epochs.nodes i))
settled_there s (Before e x) sane i = ap (below_count (idents_over s)) (translate_same s.epochs.nodes (greatest_over s) (placed_over s e x) sane.epochs.nodes (translate_ident s.epochs.nodes e (greatest_over s) x sane.epochs.nodes i))

pub moved_there : MovedThere
unfolding place_over
moved_there s g Beginning sane i k l = refl
moved_there s g (After e x) sane i k l = ap (count_upto (idents_over s)) (translate_translate s.epochs.nodes e g (greatest_over s) x sane.epochs.nodes i)
moved_there s g (Before e x) sane i k l = ap (below_count (idents_over s)) (translate_translate s.epochs.nodes e g (greatest_over s) x sane.epochs.nodes i)

-- ---- histories

pub settled_alike : SettledAlike
settled_alike s t Beginning h k = (refl, tt)
settled_alike s t (After e x) h k = (
  ap (λ g. After g (placed_over s e x)) (greatest_alike s t h) ∙ ap (After (greatest t.history)) (placed_alike s t h e x k),
  greatest_kept s.epochs.top s.epochs.nodes,
)
settled_alike s t (Before e x) h k = (
  ap (λ g. Before g (placed_over s e x)) (greatest_alike s t h) ∙ ap (Before (greatest t.history)) (placed_alike s t h e x k),
  greatest_kept s.epochs.top s.epochs.nodes,
)

pub place_alike : PlaceAlike
unfolding place place_over
place_alike s t Beginning h k = refl
place_alike s t (After e x) h k = ap (λ xs. count_upto xs (placed_over s e x)) (idents_alike s t h) ∙ ap (count_upto (idents t.history)) (placed_alike s t h e x k)
place_alike s t (Before e x) h k = ap (λ xs. below_count xs (placed_over s e x)) (idents_alike s t h) ∙ ap (below_count (idents t.history)) (placed_alike s t h e x k)

same_placed : (G H : History) (e : EpochName) (x : List Tuple) (l : IsLegal G) (m : IsLegal H) → HaveSameOps G H → is_kept Origin (epochs G) e ≡ true
    → translate G e (greatest G) x ≡ translate H e (greatest G) x
unfolding translate
same_placed G H e x l m h k = translate_within Origin (epochs G) (epochs H) (nodes G l) (parents G l) (nodes H m) (parents H m) (same_epochs G H (λ o. (h o).0)) e (greatest G) x k (top_kept G)

pub same_place : SamePlace
unfolding place
same_place G H Beginning l m h a b = refl
same_place G H (After e x) l m h a b =
    let w = same_ops.law G H l m h in
    ap (λ xs. count_upto xs (translate G e (greatest G) x)) w.2
    ∙ (ap (count_upto (idents H)) (same_placed G H e x l m h a.0) ∙ ap (λ g. count_upto (idents H) (translate H e g x)) w.0)
same_place G H (Before e x) l m h a b =
    let w = same_ops.law G H l m h in
    ap (λ xs. below_count xs (translate G e (greatest G) x)) w.2
    ∙ (ap (below_count (idents H)) (same_placed G H e x l m h a.0) ∙ ap (λ g. below_count (idents H) (translate H e g x)) w.0)

-- ---- own edits

length-entries : (y : List Tuple) (cs : List ℕ) → length (ids (entries y cs)) ≡ length cs
length-entries y [] = refl
length-entries y (c ∷ cs) = ap suc (length-entries (shifted (pos 1) y) cs)

-- the three parts of a text after an insertion
parts_upto : (a m b : List Entry) (z : List Tuple) → count_upto (ids (a ++ (m ++ b))) z ≡ count_upto (ids a) z + (count_upto (ids m) z + count_upto (ids b) z)
parts_upto a m b z =
    let f : Entry → List Tuple = λ y. y.0 in
    ap (λ xs. count_upto xs z) (append_map f a (m ++ b) ∙ ap (λ ys. map f a ++ ys) (append_map f m b))
    ∙ (upto_append (ids a) (ids m ++ ids b) z ∙ ap (λ n. count_upto (ids a) z + n) (upto_append (ids m) (ids b) z))

two_upto : (a b : List Entry) (z : List Tuple) → count_upto (ids (a ++ b)) z ≡ count_upto (ids a) z + count_upto (ids b) z
two_upto a b z = ap (λ xs. count_upto xs z) (append_map (λ (y : Entry). y.0) a b) ∙ upto_append (ids a) (ids b) z

-- an insertion of m between a and b, where z is the identifier of a character there
inserted_upto : (a m b : List Entry) (z : List Tuple) (q : ℕ) → Rises (a ++ (m ++ b)) → length a ≡ q → has_ident (ids (a ++ b)) z ≡ true →
    let p = count_upto (ids (a ++ b)) z in
    count_upto (ids (a ++ (m ++ b))) z ≡ (if nat_lt q p then p + length (ids m) else p)
inserted_upto a m b z q r l live =
    let p = count_upto (ids (a ++ b)) z in
    bool_cases (nat_lt q p) (λ h. in_front h (lt_is q p h)) (λ h. behind h (not_lt_is q p h))
  where
    in_front : nat_lt q (count_upto (ids (a ++ b)) z) ≡ true → q < count_upto (ids (a ++ b)) z → count_upto (ids (a ++ (m ++ b))) z ≡ (if nat_lt q (count_upto (ids (a ++ b)) z) then count_upto (ids (a ++ b)) z + length (ids m) else count_upto (ids (a ++ b)) z)
    in_front h k =
        let f : Entry → List Tuple = λ y. y.0 in
        let t = two_upto a b z in
        let few = upto_few (ids a) z in
        let la = length-map a f in
        let some : 0 < count_upto (ids b) z = omega arith in
        let w = upto_some (ids b) z some in
        let v = in_map f w.0 b w.1 in
        let all : count_upto (ids m) z ≡ length (ids m) = upto_all (ids m) z (λ y u g.
        let x = in_map f y m u in
        let c : IsBelow x.0 v.0 = cross m b (rises_right a (m ++ b) r) x.0 v.0 x.1 v.1 in
        w.2 (subst (λ n. Lt tuples z n) v.2 (lt_trans g (subst (λ n. Lt tuples n v.0.0) x.2 c)))) in
        let e = parts_upto a m b z in
        rw h (omega arith)

    behind : nat_lt q (count_upto (ids (a ++ b)) z) ≡ false → count_upto (ids (a ++ b)) z ≤ q → count_upto (ids (a ++ (m ++ b))) z ≡ (if nat_lt q (count_upto (ids (a ++ b)) z) then count_upto (ids (a ++ b)) z + length (ids m) else count_upto (ids (a ++ b)) z)
    behind h k =
        let f : Entry → List Tuple = λ y. y.0 in
        let t = two_upto a b z in
        let e = parts_upto a m b z in
        let u = in_any (λ y. ident_eq y z) (ids (a ++ b)) live in
        let same : u.0 ≡ z = eq_same u.0 z u.2 in
        let v = in_map f u.0 (a ++ b) u.1 in
        let front : IsIn v.0 a → count_upto (ids m) z ≡ 0 = λ p. upto_none (ids m) z (λ y g.
        let x = in_map f y m g in
        let c : IsBelow v.0 x.0 = cross a (m ++ b) r v.0 x.0 p (in_left x.0 m b x.1) in
        subst (λ n. Lt tuples z n) x.2 (subst (λ n. Lt tuples n x.0.0) (v.2 ∙ same) c)) in
        let rest : IsIn v.0 b → ⊥ = λ p.
        let all : count_upto (ids a) z ≡ length (ids a) = upto_all (ids a) z (λ y g n.
        let x = in_map f y a g in
        let c : IsBelow x.0 v.0 = cross a (m ++ b) r x.0 v.0 x.1 (in_right v.0 m b p) in
        lt_irrefl (lt_trans n (subst (λ i. Lt tuples i z) x.2 (subst (λ i. Lt tuples x.0.0 i) (v.2 ∙ same) c)))) in
        let one : 0 < count_upto (ids b) z = upto_one (ids b) z (subst (λ i. IsIn i (ids b)) (v.2 ∙ same) (map_in f v.0 b p)) in
        let la = length-map a f in
        omega arith in
        let none = ⊎_elim front (λ p. absurd (rest p)) (in_split v.0 a b v.1) in
        rw h (omega arith)

pub own_insertion : OwnInsertion
unfolding place_over
own_insertion s q cs e x sane i f live =
    let n = edited s (edits.Insert q cs) in
    let z = placed_over s e x in
    let m = entries (first_made s q (length cs)) cs in
    let a = take q s.text in
    let b = drop q s.text in
    let there = inserted_entries s q cs sane i f in
    let r : Rises (a ++ (m ++ b)) = subst Rises there (rises_of_increasing n.text (edited_sane s (edits.Insert q cs) sane i f).idents.1) in
    let back = take-append-drop q s.text in
    let l : length a ≡ q = length-take-le q s.text (insert_place s q cs f) in
    let k = inserted_upto a m b z q r l (subst (λ (es : List Entry). has_ident (ids es) z ≡ true) (sym back) live) in
    ap (count_upto (idents_over n)) (placed_insert s q cs e x)
    ∙ (ap (λ es. count_upto (ids es) z) there
    ∙ (k
    ∙ (ap (λ (es : List Entry). if nat_lt q (count_upto (ids es) z) then count_upto (ids es) z + length (ids m) else count_upto (ids es) z) back
    ∙ ap (λ c. if nat_lt q (count_upto (idents_over s) z) then count_upto (idents_over s) z + c else count_upto (idents_over s) z) (length-entries (first_made s q (length cs)) cs))))

-- where some of the second part counts, all of the first does
front_counts : (t : List Tuple → Bool) → IsClosed t → (a b : List Entry) → Rises (a ++ b) → 0 < count_of t (ids b) → count_of t (ids a) ≡ length a
front_counts t closed a b r h =
    let f : Entry → List Tuple = λ y. y.0 in
    let w = of_some t (ids b) h in
    let v = in_map f w.0 b w.1 in
    of_all t (ids a) (λ y u.
    let x = in_map f y a u in
    let c : IsBelow x.0 v.0 = cross a b r x.0 v.0 x.1 v.1 in
    closed y w.0 (subst (λ n. Lt tuples y n) v.2 (subst (λ n. Lt tuples n v.0.0) x.2 c)) w.2)
    ∙ length-map a f

two_of : (t : List Tuple → Bool) (a b : List Entry) → count_of t (ids (a ++ b)) ≡ count_of t (ids a) + count_of t (ids b)
two_of t a b = ap (count_of t) (append_map (λ (y : Entry). y.0) a b) ∙ of_append t (ids a) (ids b)

-- what a deletion of m between a and b leaves, by the three counts
deleted_count : (q m ca cb cc : ℕ) → ca ≤ q → cb ≤ m → (0 < cb + cc → ca ≡ q) → (0 < cc → cb ≡ m) → let p = ca + (cb + cc) in ca + cc ≡ (if nat_lt q p then (if nat_lt p (q + m) then q else p - m) else p)
deleted_count q m ca cb cc la lb f g =
    let p = ca + (cb + cc) in
    bool_cases (nat_lt q p)
    (λ h. let k = lt_is q p h in let e = f (omega arith) in
    bool_cases (nat_lt p (q + m))
    (λ i. let l = lt_is p (q + m) i in let none = zero_or cc (λ t. let u = g t in omega arith) in rw (h, i) (omega arith))
    (λ i. let l = not_lt_is p (q + m) i in let all = zero_case cc (cb ≡ m) (λ t. omega arith) g in rw (h, i) (omega arith)))
    (λ h. let k = not_lt_is q p h in let none = zero_or cb (λ t. let u = f (omega arith) in omega arith) in rw h (omega arith))
  where
    zero_or : (n : ℕ) → (0 < n → ⊥) → n ≡ 0
    zero_or zero t = refl
    zero_or (suc n) t = absurd (t (omega arith))

    zero_case : (n : ℕ) (P : Type 0) → (n ≡ 0 → P) → (0 < n → P) → P
    zero_case zero P s t = s refl
    zero_case (suc n) P s t = t (omega arith)

deleted_of : (t : List Tuple → Bool) → IsClosed t → (es : List Entry) (q m : ℕ) → Rises es → q + m ≤ length es →
    let p = count_of t (ids es) in
    count_of t (ids (take q es ++ drop (q + m) es)) ≡ (if nat_lt q p then (if nat_lt p (q + m) then q else p - m) else p)
deleted_of t closed es q m r l =
    let a = take q es in
    let b = take m (drop q es) in
    let c = drop (q + m) es in
    let back = take_drop_drop m q es in
    let whole : Rises (a ++ (b ++ c)) = subst Rises (sym back) r in
    let la : length a ≡ q = length-take-le q es (omega arith) in
    let ld : length (drop q es) ≡ length es - q = length-drop q es in
    let lb : length b ≡ m = length-take-le m (drop q es) (omega arith) in
    let ca = count_of t (ids a) in
    let cb = count_of t (ids b) in
    let cc = count_of t (ids c) in
    let fa = of_few t (ids a) in
    let fb = of_few t (ids b) in
    let ma = length-map a (λ (y : Entry). y.0) in
    let mb = length-map b (λ (y : Entry). y.0) in
    let two = two_of t b c in
    let sum : count_of t (ids es) ≡ ca + (cb + cc) = ap (λ ys. count_of t (ids ys)) (sym back) ∙ (two_of t a (b ++ c) ∙ ap (λ n. ca + n) two) in
    two_of t a c
    ∙ (deleted_count q m ca cb cc (omega arith) (omega arith)
    (λ h. front_counts t closed a (b ++ c) whole (subst (λ n. 0 < n) (sym two) h) ∙ la)
    (λ h. front_counts t closed b c (rises_right a (b ++ c) whole) h ∙ lb)
    ∙ ap (λ p. if nat_lt q p then (if nat_lt p (q + m) then q else p - m) else p) (sym sum))

pub own_deletion : OwnDeletion
unfolding place_over
own_deletion s q m Beginning sane f = rw (not_lt_test q 0 (omega arith)) refl
own_deletion s q m (After e x) sane f =
    let z = placed_over s e x in
    ap (count_upto (idents_over (edited s (edits.Delete q m)))) (placed_delete s q m e x)
    ∙ (ap (λ es. count_upto (ids es) z) (deleted_entries s q m sane)
    ∙ deleted_of (λ y. not (ident_lt z y)) (upto_closed z) s.text q m (rises_of_increasing s.text sane.idents.1) (delete_place s q m f).0)
own_deletion s q m (Before e x) sane f =
    let z = placed_over s e x in
    ap (below_count (idents_over (edited s (edits.Delete q m)))) (placed_delete s q m e x)
    ∙ (ap (λ es. below_count (ids es) z) (deleted_entries s q m sane)
    ∙ (below_is (ids (take q s.text ++ drop (q + m) s.text)) z
    ∙ (deleted_of (λ y. ident_lt y z) (below_closed z) s.text q m (rises_of_increasing s.text sane.idents.1) (delete_place s q m f).0
    ∙ ap (λ p. if nat_lt q p then (if nat_lt p (q + m) then q else p - m) else p) (sym (below_is (ids s.text) z)))))

-- ---- an insertion right before

before_count : (q p all n new l : ℕ) → all ≡ suc p → new ≡ suc n → new ≡ (if nat_lt q all then all + l else all) → n ≡ (if nat_lt p q then p else p + l)
before_count q p all n new l a b c =
    bool_cases (nat_lt q all)
    (λ h. let k = lt_is q all h in let d : new ≡ all + l = c ∙ ap (λ t. if t then all + l else all) h in rw (not_lt_test p q (omega arith)) (omega arith))
    (λ h. let k = not_lt_is q all h in let d : new ≡ all = c ∙ ap (λ t. if t then all + l else all) h in
    bool_cases (nat_lt p q) (λ i. rw i (omega arith)) (λ i. let j = not_lt_is p q i in absurd (omega arith)))

-- a live identifier is one more than those below it
live_upto : (xs : List (List Tuple)) (z : List Tuple) → Rising xs → has_ident xs z ≡ true → count_upto xs z ≡ suc (below_count xs z)
live_upto xs z r live = upto_is xs z r ∙ ap (λ b. if b then suc (below_count xs z) else below_count xs z) live

still_live : (a m b : List Entry) (z : List Tuple) → has_ident (ids (a ++ b)) z ≡ true → has_ident (ids (a ++ (m ++ b))) z ≡ true
still_live a m b z live =
    let f : Entry → List Tuple = λ y. y.0 in
    let u = in_any (λ y. ident_eq y z) (ids (a ++ b)) live in
    let v = in_map f u.0 (a ++ b) u.1 in
    let p : IsIn v.0 (a ++ (m ++ b)) = ⊎_elim (λ h. in_left v.0 a (m ++ b) h) (λ h. in_right v.0 a (m ++ b) (in_right v.0 m b h)) (in_split v.0 a b v.1) in
    any_in (λ y. ident_eq y z) u.0 (ids (a ++ (m ++ b))) (subst (λ y. IsIn y (ids (a ++ (m ++ b)))) v.2 (map_in f v.0 (a ++ (m ++ b)) p)) u.2

pub own_insertion_before : OwnInsertionBefore
unfolding place_over
own_insertion_before s q cs e x sane i f live =
    let n = edited s (edits.Insert q cs) in
    let z = placed_over s e x in
    let a = take q s.text in
    let b = drop q s.text in
    let m = entries (first_made s q (length cs)) cs in
    let back = take-append-drop q s.text in
    let there = inserted_entries s q cs sane i f in
    let new : has_ident (idents_over n) z ≡ true = ap (λ es. has_ident (ids es) z) there ∙ still_live a m b z (subst (λ (es : List Entry). has_ident (ids es) z ≡ true) (sym back) live) in
    ap (below_count (idents_over n)) (placed_insert s q cs e x)
    ∙ before_count q (below_count (idents_over s) z) (count_upto (idents_over s) z) (below_count (idents_over n) z) (count_upto (idents_over n) z) (length cs)
    (live_upto (idents_over s) z (rising_of (idents_over s) sane.idents.1) live)
    (live_upto (idents_over n) z (rising_of (idents_over n) (edited_sane s (edits.Insert q cs) sane i f).idents.1) new)
    (ap (count_upto (idents_over n)) (sym (placed_insert s q cs e x)) ∙ own_insertion s q cs e x sane i f live)

-- ---- by the anchor at the greatest epoch

pub place_by : (s : Seen) (a b : Anchor) → b ≡ settled_over s a → count_before (idents_over s) b ≡ place_over s a
unfolding place_over
place_by s a b h = ap (count_before (idents_over s)) h

pub settled_by : (s : Seen) (a b : Anchor) → IsSane s → IsAnchor a → b ≡ settled_over s a → place_over s b ≡ place_over s a
settled_by s a b sane i h = ap (place_over s) h ∙ settled_there s a sane i

pub before_stands : (s : Seen) (t : State) (at : ℕ) (x : List Tuple) → IsSane s → slice_get (idents_over s) at ≡ Some x → StandsFor s t → place t.history (Before (greatest_over s) x) ≡ at
before_stands s t at x sane h k = sym (place_alike s t (Before (greatest_over s) x) k (greatest_kept s.epochs.top s.epochs.nodes)) ∙ before_at s at x sane h
