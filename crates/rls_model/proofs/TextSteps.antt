-- The text after one more operation, by the text before it.
use Rattle.std.proofs.Common.{◌≡◌, ℕ, Bool, true, false, List, [], ◌∷◌, ◌++◌, map, refl, sym, ap, ◌∙◌, subst, inl, inr, append-nil}
use Rattle.std.specs.Prelude.{pos, not, cond, ◌||◌, filter}
use Rattle.std.specs.List.{list_all, list_any}
use Rattle.std.specs.Ordering.{is_eq}
use Rattle.std.proofs.lemmas.List.Elements.{filter-append}
use Rattle.rls_ident.specs.declared.tuple.Tuple.{Tuple}
use Rattle.rls_ident.specs.declared.epoch_name.EpochName.{EpochName}
use Rattle.rls_ident.specs.declared.epoch_name.EpochName.TheVariants.{Origin, Of}
use Rattle.rls_ident.specs.Lists.{IsIn}
use Rattle.rls_ident.specs.Identifiers.{shifted, is_ident, IsIdent, ident_eq}
use Rattle.rls_ident.proofs.Members.{and_left, and_right, in_map, map_in, in_filter, filter_in, or_none}
use Rattle.rls_ident.proofs.Shifted.{ident_shifted}
use Rattle.rls_ident.proofs.Agreeing.{map_same, filter_same, filter_all}
use Rattle.rls_rename.specs.Renaming.{forward}
use Rattle.rls_rename.specs.Tree.{Node}
use Rattle.rls_rename.specs.Tree as tree
use Rattle.rls_rename.proofs.Growth.{kept_other, translate_child}
use Rattle.rls_rename.proofs.Laws as laws
use Rattle.rls_rename.proofs.Paths.{name_eq_refl}
use Rattle.rls_ops.specs.declared.op.Op.{Op}
use Rattle.rls_ops.specs.declared.op.Body.TheVariants.{Insert, Delete, Rename, Leave}
use Rattle.rls_model.specs.History.{Accepted, Acknowledged, History, Then, ops}
use Rattle.rls_model.specs.Epochs.{epochs, nodes_after, renaming_of, greatest, translate}
use Rattle.rls_model.specs.Document.{Character, chars, chars_of, chars_from, chars_of_all, targets_of, ident_in, has_ident, is_named, live, put_all, export}
use Rattle.rls_model.specs.WellFormed.{IsBody}
use Rattle.rls_model.specs.Legal.{IsLegal}
use Rattle.rls_model.proofs.OneTree.{history_ident, history_translate, history_order}
use Rattle.rls_model.proofs.Distinct.{all_append, known}
use Rattle.rls_runs.proofs.Sorted.{Entry, AreAbove, Rises, same_rising, rises_filter, put_all_append}
use Rattle.rls_model.proofs.SameOps.{entry_of, live_char, top_kept, export_rises, in_export, export_in}
use Rattle.rls_model.proofs.Ranges.{export_ident}
use Rattle.rls_model.proofs.Named.{grown_translate}
use Rattle.rls_model.proofs.Spliced.{entries, append_map}
use Rattle.rls_model.proofs.Insertion.{born, born_entries, born_in, same_named, new_unnamed, entry_old}
use Rattle.rls_model.proofs.RenamedRun.{live_back, live_stays, nodes_are, tree_of}

-- ---- an insertion

live_insert : (G : History) (o : Op) (x : List Tuple) (cs : List ℕ) → IsLegal (Then G (Accepted o)) → o.body ≡ Insert x cs → live (Then G (Accepted o)) ≡ live G ++ chars_of o o.body
unfolding live chars
live_insert G o x cs l e =
    let K = Then G (Accepted o) in
    let t : Character → Bool = λ c. not (is_named K c) in
    let xs = chars_of_all (ops G) in
    let ys = chars_of o o.body in
    ap (filter t) (all_append (ops G) o)
    ∙ (filter-append t xs ys
    ∙ (ap (λ zs. zs ++ filter t ys) (filter_same t (λ c. not (is_named G c)) xs (λ c p. ap not (same_named G o x cs e c)))
    ∙ ap (λ zs. filter (λ c. not (is_named G c)) xs ++ zs) (filter_all t ys (λ c p. ap not (new_unnamed G o x cs l e c p)))))

-- an entry of the operation's epoch in the greatest one
abbrev pub placed : History → EpochName → Entry → Entry
placed G e y = (translate G e (greatest G) y.0, y.1)

entry_placed : (G : History) (o : Op) (x : List Tuple) (cs : List ℕ) → o.body ≡ Insert x cs → (c : Character) → c.epoch ≡ o.epoch → entry_of (Then G (Accepted o)) c ≡ placed G o.epoch (born c)
entry_placed G o x cs e c h = entry_old G o x cs e c ∙ ap (λ f. (translate G f (greatest G) c.ident, c.char)) h

new_entries : (G : History) (o : Op) (x : List Tuple) (cs : List ℕ) → o.body ≡ Insert x cs → map (entry_of (Then G (Accepted o))) (chars_of o o.body) ≡ map (placed G o.epoch) (entries x cs)
new_entries G o x cs e =
    let K = Then G (Accepted o) in
    ap (λ b. map (entry_of K) (chars_of o b)) e
    ∙ (map_same (entry_of K) (λ c. placed G o.epoch (born c)) (chars_from o 0 x cs) (λ c p. entry_placed G o x cs e c (born_in o 0 x cs c p))
    ∙ (map_map (placed G o.epoch) born (chars_from o 0 x cs) ∙ ap (map (placed G o.epoch)) (born_entries o 0 x cs)))
  where
    map_map : (f : Entry → Entry) (g : Character → Entry) (zs : List Character) → map (λ c. f (g c)) zs ≡ map f (map g zs)
    map_map f g [] = refl
    map_map f g (z ∷ zs) = ap (λ ys. f (g z) ∷ ys) (map_map f g zs)

-- the new characters are put into the text
pub export_put : (G : History) (o : Op) (x : List Tuple) (cs : List ℕ) → IsLegal (Then G (Accepted o)) → o.body ≡ Insert x cs → export (Then G (Accepted o)) ≡ put_all (map (placed G o.epoch) (entries x cs)) (export G)
unfolding export
export_put G o x cs l e =
    let K = Then G (Accepted o) in
    let f = entry_of K in
    let ys = chars_of o o.body in
    ap (λ zs. put_all (map f zs) []) (live_insert G o x cs l e)
    ∙ (ap (λ zs. put_all zs []) (append_map f (live G) ys)
    ∙ (put_all_append (map f (live G)) (map f ys) []
    ∙ (ap (λ zs. put_all (map f ys) (put_all zs [])) (map_same f (entry_of G) (live G) (λ c p. entry_old G o x cs e c))
    ∙ ap (λ zs. put_all zs (put_all (map (entry_of G) (live G)) [])) (new_entries G o x cs e))))

-- ---- a deletion

any_snoc : {A : Type 0} (t : A → Bool) (xs : List A) (y : A) → list_any t (xs ++ (y ∷ [])) ≡ (list_any t xs || t y)
any_snoc t [] y = or_none (t y)
any_snoc t (x ∷ xs) y = ap (λ b. t x || b) (any_snoc t xs y) ∙ assoc (t x) (list_any t xs) (t y)
  where
    assoc : (a b c : Bool) → (a || (b || c)) ≡ ((a || b) || c)
    assoc true b c = refl
    assoc false b c = refl

delete_nodes : (G : History) (o : Op) (ts : List (List Tuple)) → o.body ≡ Delete ts → epochs (Then G (Accepted o)) ≡ epochs G
delete_nodes G o ts e = ap (nodes_after (epochs G) o) e

delete_greatest : (G : History) (o : Op) (ts : List (List Tuple)) → o.body ≡ Delete ts → greatest (Then G (Accepted o)) ≡ greatest G
unfolding greatest
delete_greatest G o ts e = ap (tree.greatest Origin) (delete_nodes G o ts e)

delete_ident : (G : History) (o : Op) (ts : List (List Tuple)) → o.body ≡ Delete ts → (f : EpochName) (c : Character) → ident_in (Then G (Accepted o)) f c ≡ ident_in G f c
unfolding translate
delete_ident G o ts e f c = ap (λ ns. tree.translate ns c.epoch f c.ident) (delete_nodes G o ts e)

delete_entry : (G : History) (o : Op) (ts : List (List Tuple)) → o.body ≡ Delete ts → (c : Character) → entry_of (Then G (Accepted o)) c ≡ entry_of G c
delete_entry G o ts e c = ap (λ z. (z, c.char)) (delete_ident G o ts e (greatest (Then G (Accepted o))) c ∙ ap (λ f. ident_in G f c) (delete_greatest G o ts e))

-- some deletion names the character, by nodes and operations
abbrev is_named_by : List Node → List Op → Character → Bool
is_named_by ns os c = list_any (λ d. has_ident (targets_of d.body) (tree.translate ns c.epoch d.epoch c.ident)) os

delete_named : (G : History) (o : Op) (ts : List (List Tuple)) → o.body ≡ Delete ts → (c : Character) → is_named (Then G (Accepted o)) c ≡ (is_named G c || has_ident ts (ident_in G o.epoch c))
unfolding is_named translate
delete_named G o ts e c =
    let t : Op → Bool = λ d. has_ident (targets_of d.body) (tree.translate (epochs G) c.epoch d.epoch c.ident) in
    ap (λ ns. is_named_by ns (ops G ++ (o ∷ [])) c) (delete_nodes G o ts e)
    ∙ (any_snoc t (ops G) o ∙ ap (λ b. list_any t (ops G) || has_ident (targets_of b) (tree.translate (epochs G) c.epoch o.epoch c.ident)) e)

delete_chars : (G : History) (o : Op) (ts : List (List Tuple)) → o.body ≡ Delete ts → chars (Then G (Accepted o)) ≡ chars G
unfolding chars
delete_chars G o ts e = all_append (ops G) o ∙ (ap (λ b. chars_of_all (ops G) ++ chars_of o b) e ∙ append-nil (chars_of_all (ops G)))

filter_both : (s t u : Character → Bool) (xs : List Character) → ((c : Character) → u c ≡ (s c || t c)) → filter (λ c. not (u c)) xs ≡ filter (λ c. not (t c)) (filter (λ c. not (s c)) xs)
filter_both s t u [] h = refl
filter_both s t u (x ∷ xs) h =
    ap (λ b. cond (not b) (x ∷ filter (λ c. not (u c)) xs) (filter (λ c. not (u c)) xs)) (h x) ∙ go (s x) (t x) refl (filter_both s t u xs h)
  where
    go : (a b : Bool) → t x ≡ b → filter (λ c. not (u c)) xs ≡ filter (λ c. not (t c)) (filter (λ c. not (s c)) xs) →
        cond (not (a || b)) (x ∷ filter (λ c. not (u c)) xs) (filter (λ c. not (u c)) xs) ≡ filter (λ c. not (t c)) (cond (not a) (x ∷ filter (λ c. not (s c)) xs) (filter (λ c. not (s c)) xs))
    go true b e ih = ih
    go false true e ih = ih ∙ sym (ap (λ b. cond (not b) (x ∷ filter (λ c. not (t c)) (filter (λ c. not (s c)) xs)) (filter (λ c. not (t c)) (filter (λ c. not (s c)) xs))) e)
    go false false e ih = ap (λ zs. x ∷ zs) ih ∙ sym (ap (λ b. cond (not b) (x ∷ filter (λ c. not (t c)) (filter (λ c. not (s c)) xs)) (filter (λ c. not (t c)) (filter (λ c. not (s c)) xs))) e)

pub live_delete : (G : History) (o : Op) (ts : List (List Tuple)) → o.body ≡ Delete ts → live (Then G (Accepted o)) ≡ filter (λ c. not (has_ident ts (ident_in G o.epoch c))) (live G)
unfolding live
live_delete G o ts e =
    ap (filter (λ c. not (is_named (Then G (Accepted o)) c))) (delete_chars G o ts e)
    ∙ filter_both (λ c. is_named G c) (λ c. has_ident ts (ident_in G o.epoch c)) (λ c. is_named (Then G (Accepted o)) c) (chars G) (delete_named G o ts e)

-- the targets in the greatest epoch
abbrev pub aims : History → Op → List (List Tuple) → List (List Tuple)
aims G o ts = map (translate G o.epoch (greatest G)) ts

-- a character has a target there just if it has one in the operation's epoch
aimed : (G : History) (o : Op) → IsLegal G → (ts : List (List Tuple)) → list_all is_ident ts ≡ true → (c : Character) → IsIdent c.ident → has_ident (aims G o ts) (ident_in G (greatest G) c) ≡ has_ident ts (ident_in G o.epoch c)
aimed G o l [] h c i = refl
aimed G o l (t ∷ ts) h c i =
    let g = greatest G in
    let u = ident_in G o.epoch c in
    let j : IsIdent u = history_ident G c.epoch o.epoch c.ident l i in
    let e : ident_eq (translate G o.epoch g t) (ident_in G g c) ≡ ident_eq t u =
    ap (ident_eq (translate G o.epoch g t)) (sym (history_translate G c.epoch o.epoch g c.ident l i)) ∙ ap is_eq (history_order G o.epoch g t u l (and_left (is_ident t) (list_all is_ident ts) h) j) in
    ap (λ b. b || has_ident (aims G o ts) (ident_in G g c)) e ∙ ap (λ b. ident_eq t u || b) (aimed G o l ts (and_right (is_ident t) (list_all is_ident ts) h) c i)

targets_ident : (o : Op) (ts : List (List Tuple)) → o.body ≡ Delete ts → IsBody o.body → list_all is_ident ts ≡ true
targets_ident o ts e h = (subst IsBody e h).0

-- the entries with a target's identifier go
pub export_delete : (G : History) (o : Op) (ts : List (List Tuple)) → IsLegal (Then G (Accepted o)) → o.body ≡ Delete ts → export (Then G (Accepted o)) ≡ filter (λ y. not (has_ident (aims G o ts) y.0)) (export G)
export_delete G o ts l e =
    let K = Then G (Accepted o) in
    let t : Entry → Bool = λ y. not (has_ident (aims G o ts) y.0) in
    let s : Character → Bool = λ c. not (has_ident ts (ident_in G o.epoch c)) in
    let h = targets_ident o ts e l.1.body in
    let same : (c : Character) → IsIn c (live G) → t (entry_of G c) ≡ s c = λ c p. ap not (aimed G o l.0 ts h c (known G l.0 c (live_char G c p)).0) in
    same_rising (export K) (filter t (export G)) (export_rises K l) (rises_filter t (export G) (export_rises G l.0))
    (λ z p. let r = in_export K z p in
    let q = in_filter s r.0 (live G) (subst (IsIn r.0) (live_delete G o ts e) r.1) in
    subst (λ (w : Entry). IsIn w (filter t (export G))) (sym (delete_entry G o ts e r.0) ∙ r.2) (filter_in t (entry_of G r.0) (export G) (export_in G r.0 q.0) (same r.0 q.0 ∙ q.1)))
    (λ z p. let q = in_filter t z (export G) p in
    let r = in_export G z q.0 in
    let k : s r.0 ≡ true = sym (same r.0 r.1) ∙ (ap t r.2 ∙ q.1) in
    subst (λ (w : Entry). IsIn w (export K)) (delete_entry G o ts e r.0 ∙ r.2) (export_in K r.0 (subst (IsIn r.0) (sym (live_delete G o ts e)) (filter_in s r.0 (live G) r.1 k))))

-- ---- a rename

-- the new epoch isn't the greatest: the text stays
pub export_stays : (G : History) (o : Op) (xs : List (List Tuple)) → IsLegal (Then G (Accepted o)) → o.body ≡ Rename xs → greatest (Then G (Accepted o)) ≡ greatest G → export (Then G (Accepted o)) ≡ export G
export_stays G o xs l e h =
    let K = Then G (Accepted o) in
    let same : (c : Character) → IsIn c (live G) → entry_of K c ≡ entry_of G c =
    λ c p. ap (λ z. (z, c.char)) (ap (λ f. ident_in K f c) h ∙ grown_translate G (Accepted o) l c.epoch (greatest G) c.ident (known G l.0 c (live_char G c p)).1 (top_kept G)) in
    same_rising (export K) (export G) (export_rises K l) (export_rises G l.0)
    (λ z p. let r = in_export K z p in
    let q = live_back G o xs l e r.0 r.1 in
    subst (λ (w : Entry). IsIn w (export G)) (sym (same r.0 q) ∙ r.2) (export_in G r.0 q))
    (λ z p. let r = in_export G z p in
    subst (λ (w : Entry). IsIn w (export K)) (same r.0 r.1 ∙ r.2) (export_in K r.0 (live_stays G o xs l e r.0 r.1)))

-- an entry of the greatest epoch in the one that the rename opens
abbrev pub renamed_entry : History → Op → List (List Tuple) → Entry → Entry
renamed_entry G o xs y = (forward (renaming_of o xs) (translate G (greatest G) o.epoch y.0), y.1)

entry_renamed : (G : History) (o : Op) (xs : List (List Tuple)) → IsLegal (Then G (Accepted o)) → o.body ≡ Rename xs → greatest (Then G (Accepted o)) ≡ Of o.author o.seq → (c : Character) → IsIn c (chars G) → entry_of (Then G (Accepted o)) c ≡ renamed_entry G o xs (entry_of G c)
unfolding translate
entry_renamed G o xs l e h c p =
    let t = tree_of G o xs l e in
    let k = known G l.0 c p in
    let n : Node = record { parent = o.epoch; renaming = renaming_of o xs } in
    ap (λ z. (z, c.char))
    (ap (λ ns. tree.translate ns c.epoch (greatest (Then G (Accepted o))) c.ident) (nodes_are G o xs e)
    ∙ (ap (λ f. tree.translate (n ∷ epochs G) c.epoch f c.ident) h
    ∙ (translate_child n (epochs G) c.epoch (Of o.author o.seq) c.ident t.0 k.0 (kept_other Origin n (epochs G) c.epoch t.0 t.1 k.1) (name_eq_refl (Of o.author o.seq))
    ∙ ap (forward (renaming_of o xs)) (sym (history_translate G c.epoch (greatest G) o.epoch c.ident l.0 k.0)))))

above_renamed : (G : History) (o : Op) (xs : List (List Tuple)) → IsLegal (Then G (Accepted o)) → o.body ≡ Rename xs → (x : Entry) (ys : List Entry) → IsIdent x.0 → ((y : Entry) → IsIn y ys → IsIdent y.0) → AreAbove x ys → AreAbove (renamed_entry G o xs x) (map (renamed_entry G o xs) ys)
above_renamed G o xs l e x [] i f a = tt
above_renamed G o xs l e x (y ∷ ys) i f a =
    let R = renaming_of o xs in
    let g = greatest G in
    let j = f y (inl refl) in
    let p = history_ident G g o.epoch x.0 l.0 i in
    let q = history_ident G g o.epoch y.0 l.0 j in
    let c = (laws.order_kept R (translate G g o.epoch x.0) (translate G g o.epoch y.0) (tree_of G o xs l e).0.0 p q).0 in
    (record { less = c ∙ (history_order G g o.epoch x.0 y.0 l.0 i j ∙ (a.0).less) }, above_renamed G o xs l e x ys i (λ z r. f z (inr r)) a.1)

rises_renamed : (G : History) (o : Op) (xs : List (List Tuple)) → IsLegal (Then G (Accepted o)) → o.body ≡ Rename xs → (ys : List Entry) → ((y : Entry) → IsIn y ys → IsIdent y.0) → Rises ys → Rises (map (renamed_entry G o xs) ys)
rises_renamed G o xs l e [] f r = tt
rises_renamed G o xs l e (y ∷ ys) f r = (above_renamed G o xs l e y ys (f y (inl refl)) (λ z p. f z (inr p)) r.0, rises_renamed G o xs l e ys (λ z p. f z (inr p)) r.1)

-- the new epoch is the greatest: each identifier is translated and renamed
pub export_renamed : (G : History) (o : Op) (xs : List (List Tuple)) → IsLegal (Then G (Accepted o)) → o.body ≡ Rename xs → greatest (Then G (Accepted o)) ≡ Of o.author o.seq → export (Then G (Accepted o)) ≡ map (renamed_entry G o xs) (export G)
export_renamed G o xs l e h =
    let K = Then G (Accepted o) in
    let f = renamed_entry G o xs in
    same_rising (export K) (map f (export G)) (export_rises K l) (rises_renamed G o xs l e (export G) (export_ident G l.0) (export_rises G l.0))
    (λ z p. let r = in_export K z p in
    let q = live_back G o xs l e r.0 r.1 in
    subst (λ (w : Entry). IsIn w (map f (export G))) (sym (entry_renamed G o xs l e h r.0 (live_char G r.0 q)) ∙ r.2) (map_in f (entry_of G r.0) (export G) (export_in G r.0 q)))
    (λ z p. let r = in_map f z (export G) p in
    let q = in_export G r.0 r.1 in
    subst (λ (w : Entry). IsIn w (export K)) (entry_renamed G o xs l e h q.0 (live_char G q.0 q.1) ∙ (ap f q.2 ∙ r.2)) (export_in K q.0 (live_stays G o xs l e q.0 q.1)))

-- ---- what is put in

pub entry_ident : (x : List Tuple) (cs : List ℕ) → IsIdent x → (y : Entry) → IsIn y (entries x cs) → IsIdent y.0
entry_ident x [] i y p = absurd p
entry_ident x (c ∷ cs) i y (inl e) = subst (λ (z : Entry). IsIdent z.0) e i
entry_ident x (c ∷ cs) i y (inr p) = entry_ident (shifted (pos 1) x) cs (ident_shifted (pos 1) x i) y p

-- ---- a leave or an acknowledgement

pub export_acknowledged : (G : History) (a : ℕ) (v : List ℕ) → export (Then G (Acknowledged a v)) ≡ export G
unfolding export live chars is_named translate greatest
export_acknowledged G a v = refl

pub leave_live : (G : History) (o : Op) → o.body ≡ Leave → live (Then G (Accepted o)) ≡ live G
unfolding live chars is_named translate
leave_live G o e =
    let K = Then G (Accepted o) in
    let t : Character → Bool = λ c. not (is_named K c) in
    ap (filter t) (all_append (ops G) o ∙ (ap (λ b. chars_of_all (ops G) ++ chars_of o b) e ∙ append-nil (chars_of_all (ops G))))
    ∙ filter_same t (λ c. not (is_named G c)) (chars_of_all (ops G))
    (λ c p. let s : Op → Bool = λ d. has_ident (targets_of d.body) (tree.translate (epochs G) c.epoch d.epoch c.ident) in
    ap not
    (ap (λ ns. is_named_by ns (ops G ++ (o ∷ [])) c) (ap (nodes_after (epochs G) o) e)
    ∙ (any_snoc s (ops G) o ∙ (ap (λ b. list_any s (ops G) || has_ident (targets_of b) (tree.translate (epochs G) c.epoch o.epoch c.ident)) e ∙ or_none (list_any s (ops G))))))

pub export_leave : (G : History) (o : Op) → o.body ≡ Leave → export (Then G (Accepted o)) ≡ export G
unfolding export translate greatest
export_leave G o e =
    let K = Then G (Accepted o) in
    ap (λ ns. put_all (map (λ c. (tree.translate ns c.epoch (tree.greatest Origin ns) c.ident, c.char)) (live K)) []) (ap (nodes_after (epochs G) o) e) ∙ ap (λ cs. put_all (map (entry_of G) cs) []) (leave_live G o e)
