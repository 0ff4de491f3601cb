-- A deletion's targets are identifiers of characters that were there before, so none names a character that comes later.
use Rattle.std.proofs.Common.{◌≡◌, ℕ, Bool, true, false, List, [], ◌∷◌, ◌++◌, refl, sym, ap, ◌∙◌, subst, inl, inr, ⊎_elim}
use Rattle.std.specs.Prelude.{not, if◌then◌else◌, Some, None}
use Rattle.std.specs.List.{list_any}
use Rattle.rls_ident.specs.declared.tuple.Tuple.{Tuple}
use Rattle.rls_ident.specs.declared.epoch_name.EpochName.{EpochName}
use Rattle.rls_ident.specs.declared.epoch_name.EpochName.TheVariants.{Origin}
use Rattle.rls_ident.specs.Lists.{IsIn}
use Rattle.rls_ident.specs.Identifiers.{IsIdent, ident_eq}
use Rattle.rls_ident.proofs.Members.{AreOnce, or_split, in_left, in_right, snoc_split, in_filter, in_any}
use Rattle.rls_ident.proofs.Ends.{eq_same}
use Rattle.rls_rename.specs.Tree.{Node, is_kept, AreNodes, AreBelow}
use Rattle.rls_rename.specs.Tree as tree
use Rattle.rls_rename.proofs.Kept.{kept_more}
use Rattle.rls_rename.proofs.Growth.{kept_other, translate_other}
use Rattle.rls_ops.specs.declared.op.Op.{Op}
use Rattle.rls_ops.specs.declared.op.Body.{Body}
use Rattle.rls_ops.specs.declared.op.Body.TheVariants.{Insert, Delete, Rename, Leave}
use Rattle.rls_model.specs.Answers.{UnknownTarget}
use Rattle.rls_model.specs.History.{Entry, Accepted, Acknowledged, History, Then, ops}
use Rattle.rls_model.specs.History as history
use Rattle.rls_model.specs.Stability.{is_covered, stable, unstable}
use Rattle.rls_model.specs.Epochs.{epochs, nodes_after, renaming_of, translate}
use Rattle.rls_model.specs.Document.{Character, chars, chars_of, chars_of_all, targets_of, ident_in, has_ident, live}
use Rattle.rls_model.specs.Fitting.{is_known, first_unknown, body_refusal}
use Rattle.rls_model.specs.Legal.{IsLegal}
use Rattle.rls_model.proofs.OneTree.{nodes, parents, epoch_kept, fits_body, history_translate}
use Rattle.rls_model.proofs.Distinct.{all_append, known, one}
use Rattle.rls_model.proofs.SameOps.{once, op_kept, live_char}

-- ---- one more entry

-- translation between kept epochs stays
pub grown_translate : (G : History) (e : Entry) → IsLegal (Then G e) → (f g : EpochName) (x : List Tuple) → is_kept Origin (epochs G) f ≡ true → is_kept Origin (epochs G) g ≡ true → translate (Then G e) f g x ≡ translate G f g x
unfolding translate
grown_translate G (Acknowledged b v) l f g x h k = refl
grown_translate G (Accepted o) l f g x h k = go o.body (nodes (Then G (Accepted o)) l) (parents (Then G (Accepted o)) l)
  where
    go : (b : Body) → AreNodes (nodes_after (epochs G) o b) → AreBelow Origin (nodes_after (epochs G) o b) → tree.translate (nodes_after (epochs G) o b) f g x ≡ tree.translate (epochs G) f g x
    go (Insert first text) n m = refl
    go (Delete targets) n m = refl
    go (Rename xs) n m =
        let node : Node = record { parent = o.epoch; renaming = renaming_of o xs } in
        translate_other node (epochs G) f g x (kept_other Origin node (epochs G) f n m h) (kept_other Origin node (epochs G) g n m k)
    go Leave n m = refl

-- what was kept stays kept
pub grown_kept : (G : History) (e : Entry) (f : EpochName) → is_kept Origin (epochs G) f ≡ true → is_kept Origin (epochs (Then G e)) f ≡ true
grown_kept G (Acknowledged b v) f h = h
grown_kept G (Accepted o) f h = go o.body
  where
    go : (b : Body) → is_kept Origin (nodes_after (epochs G) o b) f ≡ true
    go (Insert first text) = h
    go (Delete targets) = h
    go (Rename xs) = kept_more Origin (record { parent = o.epoch; renaming = renaming_of o xs }) (epochs G) f h
    go Leave = h

pub char_old : (G : History) (o : Op) (c : Character) → IsIn c (chars G) → IsIn c (chars (Then G (Accepted o)))
unfolding chars
char_old G o c p = subst (IsIn c) (sym (all_append (ops G) o)) (in_left c (chars_of_all (ops G)) (chars_of o o.body) p)

pub char_new : (G : History) (o : Op) (c : Character) → IsIn c (chars_of o o.body) → IsIn c (chars (Then G (Accepted o)))
unfolding chars
char_new G o c p = subst (IsIn c) (sym (all_append (ops G) o)) (in_right c (chars_of_all (ops G)) (chars_of o o.body) p)

once_apart : (xs ys : List Character) → AreOnce (xs ++ ys) → (c : Character) → IsIn c xs → IsIn c ys → ⊥
once_apart [] ys h c p q = p
once_apart (x ∷ xs) ys h c (inl e) q = h.0 (subst (λ (d : Character). IsIn d (xs ++ ys)) (sym e) (in_right c xs ys q))
once_apart (x ∷ xs) ys h c (inr p) q = once_apart xs ys h.1 c p q

-- no character is old and new
pub old_new : (G : History) (o : Op) → IsLegal (Then G (Accepted o)) → (c : Character) → IsIn c (chars G) → IsIn c (chars_of o o.body) → ⊥
unfolding chars
old_new G o l c p q = once_apart (chars_of_all (ops G)) (chars_of o o.body) (subst AreOnce (all_append (ops G) o) (once (Then G (Accepted o)) l)) c p q

-- ---- targets

-- x is the identifier of a character in this epoch
abbrev pub IsOfChar : History → EpochName → List Tuple → Type 0
IsOfChar H e x = (c : Character) × IsIn c (chars H) × (ident_in H e c ≡ x)

all_known : (H : History) (e : EpochName) (ts : List (List Tuple)) → first_unknown H e ts ≡ None → (t : List Tuple) → IsIn t ts → is_known H e t ≡ true
all_known H e [] h t p = absurd p
all_known H e (u ∷ ts) h t p = go (is_known H e u) refl h p (λ k q. all_known H e ts k t q)
  where
    go : (b : Bool) → is_known H e u ≡ b → (if b then first_unknown H e ts else Some (UnknownTarget u)) ≡ None → IsIn t (u ∷ ts) → (first_unknown H e ts ≡ None → IsIn t ts → is_known H e t ≡ true) → is_known H e t ≡ true
    go true k m (inl q) ih = ap (is_known H e) (sym q) ∙ k
    go true k m (inr q) ih = ih m q
    go false k m q ih = absurd (cc)

through : (H : History) (c : Character) (f e : EpochName) (u t : List Tuple) → IsLegal H → IsIdent c.ident → ident_in H f c ≡ u → translate H f e u ≡ t → ident_in H e c ≡ t
through H c f e u t l i p q = sym (history_translate H c.epoch f e c.ident l i) ∙ (ap (translate H f e) p ∙ q)

known_char : (H : History) (e : EpochName) (t : List Tuple) → IsLegal H → ((d : Op) → IsIn d (ops H) → (u : List Tuple) → IsIn u (targets_of d.body) → IsOfChar H d.epoch u) → is_known H e t ≡ true → IsOfChar H e t
unfolding is_known unstable
known_char H e t l f h =
    ⊎_elim
    (λ k. let r = in_any (λ c. ident_eq (ident_in H e c) t) (live H) k in (r.0, live_char H r.0 r.1, eq_same (ident_in H e r.0) t r.2))
    (λ k. let r = in_any (λ d. list_any (λ u. ident_eq (translate H d.epoch e u) t) (targets_of d.body)) (unstable H) k in
    let d = r.0 in
    let q = in_any (λ u. ident_eq (translate H d.epoch e u) t) (targets_of d.body) r.2 in
    let m = in_filter (λ o. not (is_covered (stable H) o)) d (ops H) r.1 in
    let c = f d m.0 q.0 q.1 in (
      c.0,
      c.1,
      through H c.0 d.epoch e q.0 t l (known H l c.0 c.1).0 c.2 (eq_same (translate H d.epoch e q.0) t q.2),
    ))
    (or_split (list_any (λ c. ident_eq (ident_in H e c) t) (live H)) (list_any (λ d. list_any (λ u. ident_eq (translate H d.epoch e u) t) (targets_of d.body)) (unstable H)) h)

-- the identifier stays that of the character
char_grows : (G : History) (o : Op) → IsLegal (Then G (Accepted o)) → (e : EpochName) (t : List Tuple) → is_kept Origin (epochs G) e ≡ true → IsOfChar G e t → IsOfChar (Then G (Accepted o)) e t
char_grows G o l e t k r = (r.0, char_old G o r.0 r.1, grown_translate G (Accepted o) l (r.0).epoch e (r.0).ident (known G l.0 r.0 r.1).1 k ∙ r.2)

char_acknowledged : (G : History) (a : ℕ) (v : List ℕ) (e : EpochName) (t : List Tuple) → IsOfChar G e t → IsOfChar (Then G (Acknowledged a v)) e t
unfolding chars translate
char_acknowledged G a v e t r = r

-- each target of a deletion is the identifier of a character
pub target_char : (H : History) → IsLegal H → (d : Op) → IsIn d (ops H) → (t : List Tuple) → IsIn t (targets_of d.body) → IsOfChar H d.epoch t
target_char (history.Fresh group me members) l d p t q = absurd p
target_char (Then G (Acknowledged b v)) l d p t q = char_acknowledged G b v d.epoch t (target_char G l.0 d p t q)
target_char (Then G (Accepted o)) l d p t q =
    ⊎_elim (λ r. char_grows G o l d.epoch t (op_kept G l.0 d r) (target_char G l.0 d r t q))
    (λ e. subst (λ (w : Op). IsOfChar (Then G (Accepted o)) w.epoch t) e
    (char_grows G o l o.epoch t (epoch_kept G o l.2.fits) (go o.body (fits_body G o l.2.fits) (subst (λ (w : Op). IsIn t (targets_of w.body)) (sym e) q) (λ w r u s. target_char G l.0 w r u s))))
    (snoc_split d o (ops G) p)
  where
    go : (b : Body) → body_refusal G o b ≡ None → IsIn t (targets_of b) → ((w : Op) → IsIn w (ops G) → (u : List Tuple) → IsIn u (targets_of w.body) → IsOfChar G w.epoch u) → IsOfChar G o.epoch t
    go (Insert first text) h r ih = absurd r
    go (Delete targets) h r ih = known_char G o.epoch t l.0 ih (all_known G o.epoch targets h t r)
    go (Rename xs) h r ih = absurd r
    go Leave h r ih = absurd r

pub one_ident : (H : History) → IsLegal H → (c d : Character) → IsIn c (chars H) → IsIn d (chars H) → (e : EpochName) → is_kept Origin (epochs H) e ≡ true → ident_in H e c ≡ ident_in H e d → c ≡ d
unfolding translate
one_ident H l c d p q e k h = one H l c d p q e k h

-- no earlier operation names a new character
pub newborn_unnamed : (G : History) (o : Op) → IsLegal (Then G (Accepted o)) → (c : Character) → IsIn c (chars_of o o.body) → (d : Op) → IsIn d (ops G) → has_ident (targets_of d.body) (ident_in (Then G (Accepted o)) d.epoch c) ≡ true → ⊥
newborn_unnamed G o l c p d q h =
    let K = Then G (Accepted o) in
    let r = in_any (λ y. ident_eq y (ident_in K d.epoch c)) (targets_of d.body) h in
    let t = target_char G l.0 d q r.0 r.1 in
    let k = op_kept G l.0 d q in
    let e : ident_in K d.epoch t.0 ≡ ident_in K d.epoch c =
    grown_translate G (Accepted o) l (t.0).epoch d.epoch (t.0).ident (known G l.0 t.0 t.1).1 k ∙ (t.2 ∙ eq_same r.0 (ident_in K d.epoch c) r.2) in
    let s : t.0 ≡ c = one_ident K l t.0 c (char_old G o t.0 t.1) (char_new G o c p) d.epoch (grown_kept G (Accepted o) d.epoch k) e in
    old_new G o l c (subst (λ (z : Character). IsIn z (chars G)) s t.1) p
