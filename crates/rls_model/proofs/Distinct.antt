-- Two characters have different identifiers in every epoch.
use Rattle.std.proofs.Common.{◌≡◌, ℕ, suc, true, false, List, [], ◌∷◌, ◌++◌, refl, sym, ap, ◌∙◌, subst, arith, inl, inr, ◌⊎◌, ⊎_elim, append_assoc, append-nil}
use Rattle.std.specs.Prelude.{◌||◌, ℤ, pos}
use Rattle.std.proofs.lemmas.Int.{ints}
use Rattle.rls_ident.specs.declared.tuple.Tuple.{Tuple}
use Rattle.rls_ident.specs.declared.epoch_name.EpochName.{EpochName}
use Rattle.rls_ident.specs.declared.epoch_name.EpochName.TheVariants.{Origin}
use Rattle.rls_ident.specs.Lists.{IsIn}
use Rattle.rls_ident.specs.EpochNames.{name_eq}
use Rattle.rls_ident.specs.Tuples.{replica_of, seq_of, offset_of}
use Rattle.rls_ident.specs.Identifiers.{IsIdent, last_of, shifted}
use Rattle.rls_ident.proofs.Members.{bool_cases}
use Rattle.rls_ident.proofs.Shifted.{raised_offset, last_shifted, last_at, ident_shifted}
use Rattle.rls_rename.specs.Tree.{Node, is_of, has_node, is_kept, AreNodes, AreBelow}
use Rattle.rls_rename.specs.Tree as tree
use Rattle.rls_rename.proofs.Kept.{kept_more}
use Rattle.rls_rename.proofs.Paths.{IsAmong, translate_ident, translate_translate}
use Rattle.rls_rename.proofs.Growth.{kept_other, translate_other, translate_child, translate_back, forward_same}
use Rattle.rls_rename.proofs.Triples.{HasLast, IsCovered, AreCovered, forward_in, newborn_in}
use Rattle.rls_ops.specs.declared.op.Op.{Op}
use Rattle.rls_ops.specs.declared.op.Body.{Body}
use Rattle.rls_ops.specs.declared.op.Body.TheVariants.{Insert, Delete, Rename, Leave}
use Rattle.rls_model.specs.History.{Accepted, Acknowledged, History, Then, ops}
use Rattle.rls_model.specs.History as history
use Rattle.rls_model.specs.Stems.{is_used, stems}
use Rattle.rls_model.specs.Epochs.{epochs, nodes_after, renaming_of, translate}
use Rattle.rls_model.specs.Document.{Character, chars, chars_of, chars_from, chars_of_all}
use Rattle.rls_model.specs.WellFormed.{IsBody}
use Rattle.rls_model.specs.Legal.{IsLegal}
use Rattle.rls_model.specs.Laws.{IsOfRename, IsUsedBy, Distinct}
use Rattle.rls_model.proofs.OneTree.{nodes, parents, epoch_kept}
use Rattle.rls_model.proofs.Fresh.{in_range, may_begin, next_change, none_used, still_used, now_used}

-- ---- characters of one operation

char_facts : (o : Op) (i : ℕ) (x : List Tuple) (cs : List ℕ) → IsIdent x → (c : Character) → IsIn c (chars_from o i x cs) → IsIdent c.ident × (c.epoch ≡ o.epoch)
char_facts o i x [] h c p = absurd p
char_facts o i x (d ∷ cs) h c (inl e) = (subst IsIdent (ap (λ (c : Character). c.ident) e) h, sym (ap (λ (c : Character). c.epoch) e))
char_facts o i x (d ∷ cs) h c (inr p) = char_facts o (suc i) (shifted (pos 1) x) cs (ident_shifted (pos 1) x h) c p

-- a later one has a greater offset
later_above : (o : Op) (i : ℕ) (x : List Tuple) (cs : List ℕ) → IsIdent x → (d : Character) → IsIn d (chars_from o (suc i) (shifted (pos 1) x) cs) → d.ident ≡ x → ⊥
later_above o i x cs h d q e =
    let j = ident_shifted (pos 1) x h in
    let r = in_range o (suc i) (shifted (pos 1) x) cs (last_at (shifted (pos 1) x) j) d q (replica_of (last_of d.ident)) (seq_of (last_of d.ident)) (offset_of (last_of d.ident)) (refl, refl, refl) in
    let l = r.2 in
    let f = ap (λ y. offset_of (last_of y)) e in
    let g = ap offset_of (last_shifted (pos 1) x) ∙ raised_offset (pos 1) (last_of x) (last_at x h) in
    omega (arith, ints)

-- those with one identifier are one
char_one : (o : Op) (i : ℕ) (x : List Tuple) (cs : List ℕ) → IsIdent x → (c d : Character) → IsIn c (chars_from o i x cs) → IsIn d (chars_from o i x cs) → c.ident ≡ d.ident → c ≡ d
char_one o i x [] h c d p q e = absurd p
char_one o i x (y ∷ cs) h c d (inl p) (inl q) e = sym p ∙ q
char_one o i x (y ∷ cs) h c d (inl p) (inr q) e = absurd (later_above o i x cs h d q (sym e ∙ sym (ap (λ (c : Character). c.ident) p)))
char_one o i x (y ∷ cs) h c d (inr p) (inl q) e = absurd (later_above o i x cs h c p (e ∙ sym (ap (λ (c : Character). c.ident) q)))
char_one o i x (y ∷ cs) h c d (inr p) (inr q) e = char_one o (suc i) (shifted (pos 1) x) cs (ident_shifted (pos 1) x h) c d p q e

-- ---- what a legal history has used

abbrev pub UsedIn : History → ℕ → ℕ → ℤ → Type 0
UsedIn H a s k = is_used (stems H) a s k ≡ true

used_grows : (G : History) (o : Op) → IsLegal (Then G (Accepted o)) → (a s : ℕ) (k : ℤ) → UsedIn G a s k → UsedIn (Then G (Accepted o)) a s k
used_grows G o l a s k u = still_used (stems G) o (next_change G o l.0 l.2.next (may_begin G o l.2)) a s k u

used_now : (G : History) (o : Op) → IsLegal (Then G (Accepted o)) → (a s : ℕ) (k : ℤ) → IsUsedBy o a s k → UsedIn (Then G (Accepted o)) a s k
used_now G o l a s k u = now_used (stems G) o (next_change G o l.0 l.2.next (may_begin G o l.2)) a s k u

used_not : (G : History) (o : Op) → IsLegal (Then G (Accepted o)) → (a s : ℕ) (k : ℤ) → IsUsedBy o a s k → UsedIn G a s k → ⊥
used_not G o l a s k u v = let e = none_used G o l.0 l.2.next (may_begin G o l.2) a s k u in absurd (cc)

rename_used : (G : History) (o : Op) → IsLegal (Then G (Accepted o)) → (xs : List (List Tuple)) → o.body ≡ Rename xs → IsCovered (UsedIn (Then G (Accepted o))) (renaming_of o xs)
rename_used G o l xs e j m =
    let P : Body → Type 0 = λ b. IsOfRename o b o.author o.seq (pos j) in
    let q : P (Rename xs) = (refl, refl, omega (arith, ints), omega (arith, ints)) in
    used_now G o l o.author o.seq (pos j) (inr (subst P (sym e) q))

-- the new identifiers of each epoch were used
pub covered : (H : History) → IsLegal H → AreCovered (UsedIn H) (epochs H)
covered (history.Fresh group me members) l R p = absurd p
covered (Then G (Acknowledged b v)) l R p = covered G l.0 R p
covered (Then G (Accepted o)) l R p = go o.body refl p (λ q j m. used_grows G o l R.replica R.seq (pos j) (covered G l.0 R q j m))
  where
    go : (b : Body) → o.body ≡ b → IsAmong (nodes_after (epochs G) o b) R → (IsAmong (epochs G) R → IsCovered (UsedIn (Then G (Accepted o))) R) → IsCovered (UsedIn (Then G (Accepted o))) R
    go (Insert first text) e q ih = ih q
    go (Delete targets) e q ih = ih q
    go (Rename xs) e (inl f) ih = subst (IsCovered (UsedIn (Then G (Accepted o)))) f (rename_used G o l xs e)
    go (Rename xs) e (inr q) ih = ih q
    go Leave e q ih = ih q

-- ---- the characters of a legal history

pub all_append : (os : List Op) (o : Op) → chars_of_all (os ++ (o ∷ [])) ≡ chars_of_all os ++ chars_of o o.body
all_append [] o = append-nil (chars_of o o.body)
all_append (p ∷ os) o = ap (λ cs. chars_of p p.body ++ cs) (all_append os o) ∙ sym (append_assoc (chars_of p p.body) (chars_of_all os) (chars_of o o.body))

in_split : (c : Character) (xs ys : List Character) → IsIn c (xs ++ ys) → IsIn c xs ⊎ IsIn c ys
in_split c [] ys p = inr p
in_split c (x ∷ xs) ys (inl e) = inl (inl e)
in_split c (x ∷ xs) ys (inr p) = ⊎_elim (λ q. inl (inr q)) (λ q. inr q) (in_split c xs ys p)

-- a character is an old one or one of the operation
pub char_split : (G : History) (o : Op) (c : Character) → IsIn c (chars (Then G (Accepted o))) → IsIn c (chars G) ⊎ IsIn c (chars_of o o.body)
unfolding chars
char_split G o c p = in_split c (chars_of_all (ops G)) (chars_of o o.body) (subst (IsIn c) (all_append (ops G) o) p)

-- its birth is well formed, and in each epoch its last tuple was used
abbrev pub IsKnown : (ℕ → ℕ → ℤ → Type 0) → List Node → Character → Type 0
IsKnown U ns c = IsIdent c.ident × (is_kept Origin ns c.epoch ≡ true) × ((f : EpochName) → is_kept Origin ns f ≡ true → HasLast U (tree.translate ns c.epoch f c.ident))

kept_before : (node : Node) (older : List Node) (f : EpochName) → is_of node f ≡ false → is_kept Origin (node ∷ older) f ≡ true → is_kept Origin older f ≡ true
kept_before node older f h k = sym (ap (λ b. name_eq f Origin || (b || has_node older f)) h) ∙ k

-- an old character after one more rename
known_renamed : (U V : ℕ → ℕ → ℤ → Type 0) (node : Node) (older : List Node) (c : Character) → AreNodes (node ∷ older) → AreBelow Origin (node ∷ older) → ((a s : ℕ) (k : ℤ) → U a s k → V a s k) → IsCovered V node.renaming →
    IsKnown U older c → IsKnown V (node ∷ older) c
known_renamed U V node older c n b g v k =
    let here = kept_other Origin node older c.epoch n b k.1 in (
      k.0,
      kept_more Origin node older c.epoch k.1,
      λ f m. bool_cases (is_of node f)
          (λ e. let x = tree.translate older c.epoch node.parent c.ident in
          let u = k.2 node.parent b.0 in
          subst (HasLast V) (sym (translate_child node older c.epoch f c.ident n k.0 here e))
          (forward_in V node.renaming x n.0 (translate_ident older c.epoch node.parent c.ident n.2 k.0) v (g (replica_of (last_of x)) (seq_of (last_of x)) (offset_of (last_of x)) u)))
          (λ e. let x = tree.translate older c.epoch f c.ident in
          subst (HasLast V) (sym (translate_other node older c.epoch f c.ident here e))
          (g (replica_of (last_of x)) (seq_of (last_of x)) (offset_of (last_of x)) (k.2 f (kept_before node older f e m)))),
    )

known_grown : (U V : ℕ → ℕ → ℤ → Type 0) (ns : List Node) (c : Character) → ((a s : ℕ) (k : ℤ) → U a s k → V a s k) → IsKnown U ns c → IsKnown V ns c
known_grown U V ns c g k =
    (k.0, k.1, λ f m. let x = tree.translate ns c.epoch f c.ident in g (replica_of (last_of x)) (seq_of (last_of x)) (offset_of (last_of x)) (k.2 f m))

-- a new one
new_used : (o : Op) (c : Character) → IsIn c (chars_of o o.body) → IsUsedBy o (replica_of (last_of c.ident)) (seq_of (last_of c.ident)) (offset_of (last_of c.ident))
new_used o c p = inl (c, p, (refl, refl, refl))

new_facts : (o : Op) (b : Body) → IsBody b → (c : Character) → IsIn c (chars_of o b) → IsIdent c.ident × (c.epoch ≡ o.epoch)
new_facts o (Insert first text) h c p = char_facts o 0 first text h.0 c p
new_facts o (Delete targets) h c p = absurd p
new_facts o (Rename xs) h c p = absurd p
new_facts o Leave h c p = absurd p

new_one : (o : Op) (b : Body) → IsBody b → (c d : Character) → IsIn c (chars_of o b) → IsIn d (chars_of o b) → c.ident ≡ d.ident → c ≡ d
new_one o (Insert first text) h c d p q e = char_one o 0 first text h.0 c d p q e
new_one o (Delete targets) h c d p q e = absurd p
new_one o (Rename xs) h c d p q e = absurd p
new_one o Leave h c d p q e = absurd p

-- an operation with a character leaves the epochs
same_nodes : (ns : List Node) (o : Op) (b : Body) (c : Character) → IsIn c (chars_of o b) → nodes_after ns o b ≡ ns
same_nodes ns o (Insert first text) c p = refl
same_nodes ns o (Delete targets) c p = absurd p
same_nodes ns o (Rename xs) c p = absurd p
same_nodes ns o Leave c p = absurd p

known_new : (G : History) (o : Op) → IsLegal (Then G (Accepted o)) → (c : Character) → IsIn c (chars_of o o.body) → IsKnown (UsedIn (Then G (Accepted o))) (epochs G) c
known_new G o l c p =
    let f = new_facts o o.body l.1.body c p in
    let k : is_kept Origin (epochs G) c.epoch ≡ true = ap (is_kept Origin (epochs G)) f.1 ∙ epoch_kept G o l.2.fits in
    let u = new_used o c p in (
      f.0,
      k,
      λ e m. newborn_in (UsedIn G) (UsedIn (Then G (Accepted o))) (epochs G) c.epoch e c.ident (nodes G l.0) (covered G l.0)
          (λ R q j r. used_grows G o l R.replica R.seq (pos j) (covered G l.0 R q j r)) f.0
          (used_not G o l (replica_of (last_of c.ident)) (seq_of (last_of c.ident)) (offset_of (last_of c.ident)) u)
          (used_now G o l (replica_of (last_of c.ident)) (seq_of (last_of c.ident)) (offset_of (last_of c.ident)) u),
    )

pub known : (H : History) → IsLegal H → (c : Character) → IsIn c (chars H) → IsKnown (UsedIn H) (epochs H) c
unfolding chars
known (history.Fresh group me members) l c p = absurd p
known (Then G (Acknowledged b v)) l c p = known G l.0 c p
known (Then G (Accepted o)) l c p =
    ⊎_elim (λ q. old o.body refl (nodes (Then G (Accepted o)) l) (parents (Then G (Accepted o)) l) (known G l.0 c q))
    (λ q. subst (λ ns. IsKnown (UsedIn (Then G (Accepted o))) ns c) (sym (same_nodes (epochs G) o o.body c q)) (known_new G o l c q))
    (char_split G o c p)
  where
    old : (b : Body) → o.body ≡ b → AreNodes (nodes_after (epochs G) o b) → AreBelow Origin (nodes_after (epochs G) o b) → IsKnown (UsedIn G) (epochs G) c → IsKnown (UsedIn (Then G (Accepted o))) (nodes_after (epochs G) o b) c
    old (Insert first text) e n m k = known_grown (UsedIn G) (UsedIn (Then G (Accepted o))) (epochs G) c (used_grows G o l) k
    old (Delete targets) e n m k = known_grown (UsedIn G) (UsedIn (Then G (Accepted o))) (epochs G) c (used_grows G o l) k
    old (Rename xs) e n m k = known_renamed (UsedIn G) (UsedIn (Then G (Accepted o))) (record { parent = o.epoch; renaming = renaming_of o xs }) (epochs G) c n m (used_grows G o l) (rename_used G o l xs e) k
    old Leave e n m k = known_grown (UsedIn G) (UsedIn (Then G (Accepted o))) (epochs G) c (used_grows G o l) k

-- ---- an old one and a new one

apart : (G : History) (o : Op) → IsLegal (Then G (Accepted o)) → (c d : Character) → IsIn c (chars G) → IsIn d (chars_of o o.body) → (e : EpochName) →
    tree.translate (epochs G) c.epoch e c.ident ≡ tree.translate (epochs G) d.epoch e d.ident → ⊥
apart G o l c d p q e h =
    let n = nodes G l.0 in
    let k = known G l.0 c p in
    let f = new_facts o o.body l.1.body d q in
    let r : is_kept Origin (epochs G) d.epoch ≡ true = ap (is_kept Origin (epochs G)) f.1 ∙ epoch_kept G o l.2.fits in
    let s : tree.translate (epochs G) c.epoch d.epoch c.ident ≡ d.ident =
    sym (translate_translate (epochs G) c.epoch e d.epoch c.ident n k.0) ∙ (ap (tree.translate (epochs G) e d.epoch) h ∙ translate_back (epochs G) d.epoch e d.ident n f.0) in
    used_not G o l (replica_of (last_of d.ident)) (seq_of (last_of d.ident)) (offset_of (last_of d.ident)) (new_used o d q) (subst (HasLast (UsedIn G)) s (k.2 d.epoch r))

-- ---- all

-- with one identifier in one epoch the two are one
abbrev pub IsOne : List Node → Character → Character → Type 0
IsOne ns c d = (e : EpochName) → is_kept Origin ns e ≡ true → tree.translate ns c.epoch e c.ident ≡ tree.translate ns d.epoch e d.ident → c ≡ d

renamed_one : (node : Node) (older : List Node) (c d : Character) → AreNodes (node ∷ older) → AreBelow Origin (node ∷ older) → IsIdent c.ident → IsIdent d.ident → is_kept Origin older c.epoch ≡ true → is_kept Origin older d.epoch ≡ true →
    IsOne older c d → IsOne (node ∷ older) c d
renamed_one node older c d n b i j r s h = λ e m g.
    let p = kept_other Origin node older c.epoch n b r in
    let q = kept_other Origin node older d.epoch n b s in
    bool_cases (is_of node e)
    (λ t. h node.parent b.0
    (forward_same node.renaming (tree.translate older c.epoch node.parent c.ident) (tree.translate older d.epoch node.parent d.ident) n.0
    (translate_ident older c.epoch node.parent c.ident n.2 i) (translate_ident older d.epoch node.parent d.ident n.2 j)
    (sym (translate_child node older c.epoch e c.ident n i p t) ∙ (g ∙ translate_child node older d.epoch e d.ident n j q t))))
    (λ t. h e (kept_before node older e t m)
    (sym (translate_other node older c.epoch e c.ident p t) ∙ (g ∙ translate_other node older d.epoch e d.ident q t)))

both_new : (G : History) (o : Op) → IsLegal (Then G (Accepted o)) → (c d : Character) → IsIn c (chars_of o o.body) → IsIn d (chars_of o o.body) → IsOne (epochs G) c d
both_new G o l c d p q = λ e m h.
    let n = nodes G l.0 in
    let f = new_facts o o.body l.1.body c p in
    let g = new_facts o o.body l.1.body d q in
    let same : d.epoch ≡ c.epoch = g.1 ∙ sym f.1 in
    let i : tree.translate (epochs G) d.epoch e d.ident ≡ tree.translate (epochs G) c.epoch e d.ident = ap (λ b. tree.translate (epochs G) b e d.ident) same in
    new_one o o.body l.1.body c d p q
    (sym (translate_back (epochs G) c.epoch e c.ident n f.0) ∙ (ap (tree.translate (epochs G) e c.epoch) (h ∙ i) ∙ translate_back (epochs G) c.epoch e d.ident n g.0))

pub one : (H : History) → IsLegal H → (c d : Character) → IsIn c (chars H) → IsIn d (chars H) → IsOne (epochs H) c d
unfolding chars
one (history.Fresh group me members) l c d p q = absurd p
one (Then G (Acknowledged b v)) l c d p q = one G l.0 c d p q
one (Then G (Accepted o)) l c d p q =
    ⊎_elim
    (λ x. ⊎_elim
    (λ y. old o.body (nodes (Then G (Accepted o)) l) (parents (Then G (Accepted o)) l) (known G l.0 c x) (known G l.0 d y) (one G l.0 c d x y))
    (λ y. subst (λ ns. IsOne ns c d) (sym (same_nodes (epochs G) o o.body d y)) (λ e m h. absurd (apart G o l c d x y e h)))
    (char_split G o d q))
    (λ x. ⊎_elim
    (λ y. subst (λ ns. IsOne ns c d) (sym (same_nodes (epochs G) o o.body c x)) (λ e m h. absurd (apart G o l d c y x e (sym h))))
    (λ y. subst (λ ns. IsOne ns c d) (sym (same_nodes (epochs G) o o.body c x)) (both_new G o l c d x y))
    (char_split G o d q))
    (char_split G o c p)
  where
    old : (b : Body) → AreNodes (nodes_after (epochs G) o b) → AreBelow Origin (nodes_after (epochs G) o b) → IsKnown (UsedIn G) (epochs G) c → IsKnown (UsedIn G) (epochs G) d → IsOne (epochs G) c d → IsOne (nodes_after (epochs G) o b) c d
    old (Insert first text) n m k j h = h
    old (Delete targets) n m k j h = h
    old (Rename xs) n m k j h = renamed_one (record { parent = o.epoch; renaming = renaming_of o xs }) (epochs G) c d n m k.0 j.0 k.1 j.1 h
    old Leave n m k j h = h

pub law : Distinct
unfolding translate
law H c d e l p q k h = one H l c d p q e k h
