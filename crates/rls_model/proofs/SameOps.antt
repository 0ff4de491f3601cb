-- What two legal histories show depends on the set of their operations alone.
use Rattle.std.proofs.Common.{◌≡◌, ℕ, suc, ◌≤◌, true, List, [], ◌∷◌, ◌++◌, map, refl, sym, ap, ◌∙◌, subst, arith, inl, inr, ⊎_elim}
use Rattle.std.specs.Prelude.{not, pos}
use Rattle.rls_ident.specs.declared.tuple.Tuple.{Tuple}
use Rattle.rls_ident.specs.declared.epoch_name.EpochName.{EpochName}
use Rattle.rls_ident.specs.declared.epoch_name.EpochName.TheVariants.{Origin}
use Rattle.rls_ident.specs.Lists.{IsIn, AreIn}
use Rattle.rls_ident.specs.Identifiers.{shifted}
use Rattle.rls_ident.proofs.Members.{AreOnce, once_filter, any_in, are_in, filter_in, in_any, in_filter, in_left, in_map, in_right, in_split, map_in, same_bool, snoc_split}
use Rattle.rls_ident.proofs.Vectors.{index-raise_le}
use Rattle.rls_runs.specs.Runs.{runs_of}
use Rattle.rls_rename.specs.Tree.{Node, is_kept}
use Rattle.rls_rename.proofs.Kept.{kept_more, greatest_kept}
use Rattle.rls_rename.proofs.SameNodes.{translate_within, greatest_same}
use Rattle.rls_ops.specs.declared.op.Op.{Op}
use Rattle.rls_ops.specs.declared.op.Body.{Body}
use Rattle.rls_ops.specs.declared.op.Body.TheVariants.{Insert, Delete, Rename, Leave}
use Rattle.rls_model.specs.History.{Accepted, Acknowledged, History, Then, ops, count_of}
use Rattle.rls_model.specs.History as history
use Rattle.rls_model.specs.Epochs.{epochs, nodes_after, renaming_of, greatest, translate}
use Rattle.rls_model.specs.Document.{Character, chars, chars_of, chars_from, chars_of_all, targets_of, ident_in, has_ident, is_named, live, export, idents, text}
use Rattle.rls_model.specs.Legal.{IsLegal}
use Rattle.rls_model.specs.Laws.{HaveSameOps, SameOperations}
use Rattle.rls_model.proofs.OneTree.{nodes, parents, epoch_kept, count_next}
use Rattle.rls_model.proofs.Distinct.{char_split, all_append, known, one}
use Rattle.rls_runs.proofs.Sorted.{Rises, AreApart, AreDistinct, AllApart, rises_all, in_put_all, put_all_in, same_rising}

-- ---- no character twice

once_append : (xs ys : List Character) → AreOnce xs → AreOnce ys → ((c : Character) → IsIn c xs → IsIn c ys → ⊥) → AreOnce (xs ++ ys)
once_append [] ys h k f = k
once_append (x ∷ xs) ys h k f = ((λ p. ⊎_elim h.0 (f x (inl refl)) (in_split x xs ys p)), once_append xs ys h.1 k (λ c p. f c (inr p)))

place_from : (o : Op) (i : ℕ) (x : List Tuple) (cs : List ℕ) (c : Character) → IsIn c (chars_from o i x cs) → i ≤ c.place
place_from o i x [] c p = absurd p
place_from o i x (d ∷ cs) c (inl e) = let f = ap (λ (c : Character). c.place) e in omega arith
place_from o i x (d ∷ cs) c (inr p) = let h = place_from o (suc i) (shifted (pos 1) x) cs c p in omega arith

once_from : (o : Op) (i : ℕ) (x : List Tuple) (cs : List ℕ) → AreOnce (chars_from o i x cs)
once_from o i x [] = tt
once_from o i x (d ∷ cs) = ((λ p. let h = place_from o (suc i) (shifted (pos 1) x) cs _ p in omega arith), once_from o (suc i) (shifted (pos 1) x) cs)

once_op : (o : Op) (b : Body) → AreOnce (chars_of o b)
once_op o (Insert first text) = once_from o 0 first text
once_op o (Delete targets) = tt
once_op o (Rename xs) = tt
once_op o Leave = tt

number_from : (o : Op) (i : ℕ) (x : List Tuple) (cs : List ℕ) (c : Character) → IsIn c (chars_from o i x cs) → (o.author ≡ c.author) × (o.seq ≡ c.seq)
number_from o i x [] c p = absurd p
number_from o i x (d ∷ cs) c (inl e) = (ap (λ (c : Character). c.author) e, ap (λ (c : Character). c.seq) e)
number_from o i x (d ∷ cs) c (inr p) = number_from o (suc i) (shifted (pos 1) x) cs c p

pub number_of : (o : Op) (b : Body) (c : Character) → IsIn c (chars_of o b) → (o.author ≡ c.author) × (o.seq ≡ c.seq)
number_of o (Insert first text) c p = number_from o 0 first text c p
number_of o (Delete targets) c p = absurd p
number_of o (Rename xs) c p = absurd p
number_of o Leave c p = absurd p

-- a character's number was counted
char_counted : (H : History) → IsLegal H → (c : Character) → IsIn c (chars H) → c.seq ≤ count_of H c.author
unfolding chars
char_counted (history.Fresh group me members) l c p = absurd p
char_counted (Then G (Acknowledged b v)) l c p = char_counted G l.0 c p
char_counted (Then G (Accepted o)) l c p =
    ⊎_elim (λ q. let h = char_counted G l.0 c q in omega (arith, index-raise_le (history.count G) o.author c.author))
    (λ q. let e = number_of o o.body c q in
    let h = count_next G o l.2 in
    subst (λ a. c.seq ≤ count_of (Then G (Accepted o)) a) e.0 (subst (λ s. s ≤ count_of (Then G (Accepted o)) o.author) e.1 h))
    (char_split G o c p)

pub once : (H : History) → IsLegal H → AreOnce (chars H)
unfolding chars
once (history.Fresh group me members) l = tt
once (Then G (Acknowledged b v)) l = once G l.0
once (Then G (Accepted o)) l =
    subst AreOnce (sym (all_append (ops G) o)) (once_append (chars_of_all (ops G)) (chars_of o o.body) (once G l.0) (once_op o o.body)
    (λ c p q. let e = number_of o o.body c q in
    let h = char_counted G l.0 c p in
    let f : count_of G o.author ≡ count_of G c.author = ap (count_of G) e.0 in
    let k = e.1 in
    omega (arith, l.2.next)))

-- ---- the nodes of equal sets of operations

abbrev pub node_of : Op → List (List Tuple) → Node
node_of o xs = record { parent = o.epoch; renaming = renaming_of o xs }

pub in_nodes : (H : History) (n : Node) → IsIn n (epochs H) → (o : Op) × (xs : List (List Tuple)) × IsIn o (ops H) × (o.body ≡ Rename xs) × (node_of o xs ≡ n)
in_nodes (history.Fresh group me members) n p = absurd p
in_nodes (Then G (Acknowledged b v)) n p = in_nodes G n p
in_nodes (Then G (Accepted o)) n p = go o.body refl p (λ q. in_nodes G n q)
  where
    old : (u : Op) × (xs : List (List Tuple)) × IsIn u (ops G) × (u.body ≡ Rename xs) × (node_of u xs ≡ n) → (u : Op) × (xs : List (List Tuple)) × IsIn u (ops G ++ (o ∷ [])) × (u.body ≡ Rename xs) × (node_of u xs ≡ n)
    old r = (r.0, r.1, in_left r.0 (ops G) (o ∷ []) r.2, r.3, r.4)

    go : (b : Body) → o.body ≡ b → IsIn n (nodes_after (epochs G) o b) → (IsIn n (epochs G) → (u : Op) × (xs : List (List Tuple)) × IsIn u (ops G) × (u.body ≡ Rename xs) × (node_of u xs ≡ n)) →
        (u : Op) × (xs : List (List Tuple)) × IsIn u (ops G ++ (o ∷ [])) × (u.body ≡ Rename xs) × (node_of u xs ≡ n)
    go (Insert first text) e q ih = old (ih q)
    go (Delete targets) e q ih = old (ih q)
    go (Rename xs) e (inl f) ih = (o, xs, in_right o (ops G) (o ∷ []) (inl refl), e, f)
    go (Rename xs) e (inr q) ih = old (ih q)
    go Leave e q ih = old (ih q)

nodes_in : (H : History) (o : Op) (xs : List (List Tuple)) → IsIn o (ops H) → o.body ≡ Rename xs → IsIn (node_of o xs) (epochs H)
nodes_in (history.Fresh group me members) o xs p e = absurd p
nodes_in (Then G (Acknowledged b v)) o xs p e = nodes_in G o xs p e
nodes_in (Then G (Accepted u)) o xs p e = ⊎_elim (λ q. old u.body (nodes_in G o xs q e)) (λ q. new u.body (ap (λ (w : Op). w.body) q ∙ e) q) (snoc_split o u (ops G) p)
  where
    old : (b : Body) → IsIn (node_of o xs) (epochs G) → IsIn (node_of o xs) (nodes_after (epochs G) u b)
    old (Insert first text) q = q
    old (Delete targets) q = q
    old (Rename ys) q = inr q
    old Leave q = q

    new : (b : Body) → b ≡ Rename xs → u ≡ o → IsIn (node_of o xs) (nodes_after (epochs G) u b)
    new b f q = subst (λ c. IsIn (node_of o xs) (nodes_after (epochs G) u c)) (sym f) (inl (ap (λ w. node_of w xs) q))

pub same_epochs : (G H : History) → ((o : Op) → IsIn o (ops G) → IsIn o (ops H)) → AreIn (epochs G) (epochs H)
same_epochs G H f = are_in (epochs G) (epochs H) (λ n p. let r = in_nodes G n p in subst (λ (m : Node). IsIn m (epochs H)) r.4 (nodes_in H r.0 r.1 (f r.0 r.2) r.3))

-- the epoch of each operation is kept
pub op_kept : (H : History) → IsLegal H → (o : Op) → IsIn o (ops H) → is_kept Origin (epochs H) o.epoch ≡ true
op_kept (history.Fresh group me members) l o p = absurd p
op_kept (Then G (Acknowledged b v)) l o p = op_kept G l.0 o p
op_kept (Then G (Accepted u)) l o p =
    more u.body (⊎_elim (λ q. op_kept G l.0 o q) (λ q. subst (λ (w : Op). is_kept Origin (epochs G) w.epoch ≡ true) q (epoch_kept G u l.2.fits)) (snoc_split o u (ops G) p))
  where
    more : (b : Body) → is_kept Origin (epochs G) o.epoch ≡ true → is_kept Origin (nodes_after (epochs G) u b) o.epoch ≡ true
    more (Insert first text) k = k
    more (Delete targets) k = k
    more (Rename xs) k = kept_more Origin (record { parent = u.epoch; renaming = renaming_of u xs }) (epochs G) o.epoch k
    more Leave k = k

-- ---- characters of equal sets of operations

pub in_chars : (c : Character) (os : List Op) → IsIn c (chars_of_all os) → (o : Op) × IsIn o os × IsIn c (chars_of o o.body)
in_chars c [] p = absurd p
in_chars c (o ∷ os) p = ⊎_elim (λ q. (o, inl refl, q)) (λ q. let r = in_chars c os q in (r.0, inr r.1, r.2)) (in_split c (chars_of o o.body) (chars_of_all os) p)

pub chars_in : (c : Character) (o : Op) (os : List Op) → IsIn o os → IsIn c (chars_of o o.body) → IsIn c (chars_of_all os)
chars_in c o [] p q = absurd p
chars_in c o (u ∷ os) (inl e) q = in_left c (chars_of u u.body) (chars_of_all os) (subst (λ (w : Op). IsIn c (chars_of w w.body)) (sym e) q)
chars_in c o (u ∷ os) (inr p) q = in_right c (chars_of u u.body) (chars_of_all os) (chars_in c o os p q)

pub same_chars : (G H : History) → ((o : Op) → IsIn o (ops G) → IsIn o (ops H)) → (c : Character) → IsIn c (chars G) → IsIn c (chars H)
unfolding chars
same_chars G H f c p = let r = in_chars c (ops G) p in chars_in c r.0 (ops H) (f r.0 r.1) r.2

pub same_ident : (G H : History) → IsLegal G → IsLegal H → ((o : Op) → IsIn o (ops G) → IsIn o (ops H)) → (c : Character) → IsIn c (chars G) → (e : EpochName) → is_kept Origin (epochs G) e ≡ true → ident_in G e c ≡ ident_in H e c
unfolding translate
same_ident G H l m f c p e k = translate_within Origin (epochs G) (epochs H) (nodes G l) (parents G l) (nodes H m) (parents H m) (same_epochs G H f) c.epoch e c.ident (known G l c p).1 k

same_named : (G H : History) → IsLegal G → IsLegal H → ((o : Op) → IsIn o (ops G) → IsIn o (ops H)) → (c : Character) → IsIn c (chars G) → is_named G c ≡ true → is_named H c ≡ true
unfolding is_named
same_named G H l m f c p h =
    let r = in_any (λ d. has_ident (targets_of d.body) (ident_in G d.epoch c)) (ops G) h in
    any_in (λ d. has_ident (targets_of d.body) (ident_in H d.epoch c)) r.0 (ops H) (f r.0 r.1)
    (ap (has_ident (targets_of (r.0).body)) (sym (same_ident G H l m f c p (r.0).epoch (op_kept G l r.0 r.1))) ∙ r.2)

same_live : (G H : History) → IsLegal G → IsLegal H → ((o : Op) → IsIn o (ops G) → IsIn o (ops H)) → ((o : Op) → IsIn o (ops H) → IsIn o (ops G)) → (c : Character) → IsIn c (live G) → IsIn c (live H)
unfolding live
same_live G H l m f g c p =
    let r = in_filter (λ c. not (is_named G c)) c (chars G) p in
    let q = same_chars G H f c r.0 in
    filter_in (λ c. not (is_named H c)) c (chars H) q (ap not (same_bool (is_named H c) (is_named G c) (same_named H G m l g c q) (same_named G H l m f c r.0)) ∙ r.1)

-- ---- the export

-- the entry of a character in the export
abbrev pub entry_of : History → Character → List Tuple × ℕ
entry_of H c = (ident_in H (greatest H) c, c.char)

pub top_kept : (H : History) → is_kept Origin (epochs H) (greatest H) ≡ true
unfolding greatest
top_kept H = greatest_kept Origin (epochs H)

apart_of : (H : History) → IsLegal H → (c : Character) → IsIn c (chars H) → (cs : List Character) → ((d : Character) → IsIn d cs → IsIn d (chars H)) → (IsIn c cs → ⊥) → AreApart (entry_of H c) (map (entry_of H) cs)
unfolding translate
apart_of H l c p [] f n = tt
apart_of H l c p (d ∷ cs) f n =
    ((λ e. n (inl (sym (one H l c d p (f d (inl refl)) (greatest H) (top_kept H) e)))), apart_of H l c p cs (λ z q. f z (inr q)) (λ q. n (inr q)))

distinct_of : (H : History) → IsLegal H → (cs : List Character) → AreOnce cs → ((d : Character) → IsIn d cs → IsIn d (chars H)) → AreDistinct (map (entry_of H) cs)
distinct_of H l [] h f = tt
distinct_of H l (c ∷ cs) h f = (apart_of H l c (f c (inl refl)) cs (λ z q. f z (inr q)) h.0, distinct_of H l cs h.1 (λ z q. f z (inr q)))

none_apart : (es : List (List Tuple × ℕ)) → AllApart es []
none_apart [] = tt
none_apart (e ∷ es) = (tt, none_apart es)

pub live_char : (H : History) (c : Character) → IsIn c (live H) → IsIn c (chars H)
unfolding live
live_char H c p = (in_filter (λ c. not (is_named H c)) c (chars H) p).0

once_live : (H : History) → IsLegal H → AreOnce (live H)
unfolding live
once_live H l = once_filter (λ c. not (is_named H c)) (chars H) (once H l)

-- the export of a legal history rises strictly
pub export_rises : (H : History) → IsLegal H → Rises (export H)
unfolding export
export_rises H l = rises_all (map (entry_of H) (live H)) [] tt (distinct_of H l (live H) (once_live H l) (live_char H)) (none_apart (map (entry_of H) (live H)))

-- its entries are those of the live characters
pub in_export : (H : History) (y : List Tuple × ℕ) → IsIn y (export H) → (c : Character) × IsIn c (live H) × (entry_of H c ≡ y)
unfolding export
in_export H y p = in_map (entry_of H) y (live H) (⊎_elim (λ q. q) (λ q. absurd q) (in_put_all y (map (entry_of H) (live H)) [] p))

pub export_in : (H : History) (c : Character) → IsIn c (live H) → IsIn (entry_of H c) (export H)
unfolding export
export_in H c p = put_all_in (entry_of H c) (map (entry_of H) (live H)) [] (inl (map_in (entry_of H) c (live H) p))

same_greatest : (G H : History) → IsLegal G → IsLegal H → ((o : Op) → IsIn o (ops G) → IsIn o (ops H)) → ((o : Op) → IsIn o (ops H) → IsIn o (ops G)) → greatest G ≡ greatest H
unfolding greatest
same_greatest G H l m f g = greatest_same Origin (epochs G) (epochs H) (nodes G l) (parents G l) (nodes H m) (parents H m) (same_epochs G H f) (same_epochs H G g)

same_entries : (G H : History) → IsLegal G → IsLegal H → ((o : Op) → IsIn o (ops G) → IsIn o (ops H)) → ((o : Op) → IsIn o (ops H) → IsIn o (ops G)) → (y : List Tuple × ℕ) → IsIn y (export G) → IsIn y (export H)
same_entries G H l m f g y p =
    let r = in_export G y p in
    let e : ident_in G (greatest G) r.0 ≡ ident_in H (greatest H) r.0 =
    same_ident G H l m f r.0 (live_char G r.0 r.1) (greatest G) (top_kept G) ∙ ap (λ z. ident_in H z r.0) (same_greatest G H l m f g) in
    subst (λ (z : List Tuple × ℕ). IsIn z (export H)) (ap (λ x. (x, (r.0).char)) (sym e) ∙ r.2) (export_in H r.0 (same_live G H l m f g r.0 r.1))

pub same_export : (G H : History) → IsLegal G → IsLegal H → HaveSameOps G H → export G ≡ export H
same_export G H l m h =
    let f = λ (o : Op). (h o).0 in
    let g = λ (o : Op). (h o).1 in
    same_rising (export G) (export H) (export_rises G l) (export_rises H m) (same_entries G H l m f g) (same_entries H G m l g f)

pub law : SameOperations
unfolding text idents
law G H l m h =
    let e = same_export G H l m h in
    (same_greatest G H l m (λ o. (h o).0) (λ o. (h o).1), ap (λ xs. map (λ x. x.1) xs) e, ap (λ xs. map (λ x. x.0) xs) e, ap (λ xs. runs_of (map (λ x. x.0) xs)) e)
