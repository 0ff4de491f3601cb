-- What a window that keeps the retained epochs answers about targets, epochs and messages.
use Rattle.std.proofs.Common.{◌≡◌, ℕ, Bool, true, false, List, [], ◌∷◌, refl, sym, ap, ◌∙◌, subst, inl, inr, ◌⊎◌, ⊎_elim}
use Rattle.std.specs.Prelude.{◌||◌, if◌then◌else◌, Some}
use Rattle.std.specs.declared.cmp.Ordering.TheVariants.{Less}
use Rattle.std.specs.List.{list_any}
use Rattle.rls_ident.specs.declared.tuple.Tuple.{Tuple}
use Rattle.rls_ident.specs.declared.epoch_name.EpochName.{EpochName}
use Rattle.rls_ident.specs.declared.epoch_name.EpochName.TheVariants.{Origin}
use Rattle.rls_ident.specs.EpochNames.{name_eq}
use Rattle.rls_ident.specs.Lists.{IsIn}
use Rattle.rls_ident.specs.Identifiers.{IsIdent, ident_eq}
use Rattle.rls_ident.proofs.Members.{not_true, same_bool, or_split, in_any, any_in, each_in}
use Rattle.rls_ident.proofs.Ends.{eq_same, same_eq}
use Rattle.rls_ident.proofs.Agreeing.{map_same, any_same}
use Rattle.rls_rename.specs.Tree.{Node, name_of, is_of, has_node, is_kept, AreNodes, epoch_cmp}
use Rattle.rls_rename.specs.Tree as tree
use Rattle.rls_rename.proofs.Growth.{translate_back}
use Rattle.rls_rename.proofs.Hull.{node_at}
use Rattle.rls_rename.proofs.Order.{level_same}
use Rattle.rls_rename.proofs.Ordered.{IsBelowAll, Rises, spanned_rises}
use Rattle.rls_rename.proofs.Paths.{name_eq_is, name_eq_refl}
use Rattle.rls_rename.proofs.SameNodes.{greatest_top, node_named}
use Rattle.rls_rename.proofs.Windows.{cmp_window, none_below, translate_window}
use Rattle.rls_ops.specs.declared.op.Op.{Op}
use Rattle.rls_model.specs.History.{Entry, History, Then}
use Rattle.rls_model.specs.Stability.{unstable}
use Rattle.rls_model.specs.Epochs.{epochs, greatest, translate}
use Rattle.rls_model.specs.Document.{Character, targets_of, ident_in, live, export}
use Rattle.rls_model.specs.Fitting.{is_known}
use Rattle.rls_model.specs.Legal.{IsLegal}
use Rattle.rls_model.specs.Parts.{node_of, top_part, epoch_part, epoch_parts}
use Rattle.rls_model.specs.Retained.{needed, retained}
use Rattle.rls_model.proofs.OneTree.{nodes, parents, history_translate}
use Rattle.rls_model.proofs.Distinct.{known}
use Rattle.rls_model.proofs.SameOps.{entry_of, live_char, top_kept, in_export, export_in}
use Rattle.rls_model.proofs.Named.{grown_kept}
use Rattle.rls_model.proofs.Dropping.{Keeps, IsOpened, grown_cmp, kept_cases, greatest_retained, unstable_retained}

-- ---- the greatest epoch after one more entry

-- the greatest epoch stays, or is the one that the entry opens
pub greatest_cases : (G : History) (e : Entry) → IsLegal G → IsLegal (Then G e) → (greatest (Then G e) ≡ greatest G) ⊎ IsOpened e (greatest (Then G e))
unfolding greatest
greatest_cases G e m l =
    let K = Then G e in
    let k = tree.greatest Origin (epochs K) in
    let g = tree.greatest Origin (epochs G) in
    ⊎_elim
    (λ h. inl (level_same Origin (epochs K) (nodes K l) (parents K l) k g (top_kept K) (grown_kept G e g (top_kept G)) (greatest_top Origin (epochs K) g (grown_kept G e g (top_kept G)))
    (λ q. greatest_top Origin (epochs G) k h (sym (grown_cmp G e l g k (top_kept G) h) ∙ q))))
    (λ h. inr h)
    (kept_cases G e k (top_kept K))

-- ---- targets

translate_over : (H : History) (U : EpochName) (A : List Node) → Keeps H U A → (e f : EpochName) (x : List Tuple) → is_kept U A e ≡ true → is_kept U A f ≡ true → tree.translate A e f x ≡ translate H e f x
unfolding translate
translate_over H U A k e f x h m = translate_window k.window e f x h m

back_over : (H : History) (e f : EpochName) (x : List Tuple) → IsLegal H → IsIdent x → translate H f e (translate H e f x) ≡ x
unfolding translate
back_over H e f x l i = translate_back (epochs H) e f x (nodes H l) i

-- a live character's identifier is found in the text, translated by the window
live_over : (H : History) (U : EpochName) (A : List Node) → IsLegal H → Keeps H U A → (f : EpochName) (t : List Tuple) → is_kept U A f ≡ true → IsIdent t →
    list_any (λ c. ident_eq (ident_in H f c) t) (live H) ≡ list_any (λ y. ident_eq y.0 (tree.translate A f (greatest H) t)) (export H)
live_over H U A l k f t h i =
    let g = greatest H in
    let over = translate_over H U A k f g t h (k.keeps g (greatest_retained H l)) in
    let s : Character → Bool = λ c. ident_eq (ident_in H f c) t in
    let p : List Tuple × ℕ → Bool = λ y. ident_eq y.0 (tree.translate A f g t) in
    same_bool (list_any s (live H)) (list_any p (export H))
    (λ q. let r = in_any s (live H) q in
    let c = r.0 in
    let e : ident_in H g c ≡ tree.translate A f g t = sym (history_translate H c.epoch f g c.ident l (known H l c (live_char H c r.1)).0) ∙ (ap (translate H f g) (eq_same (ident_in H f c) t r.2) ∙ sym over) in
    any_in p (entry_of H c) (export H) (export_in H c r.1) (same_eq (ident_in H g c) (tree.translate A f g t) e))
    (λ q. let r = in_any p (export H) q in
    let w = in_export H r.0 r.1 in
    let c = w.0 in
    let e : ident_in H g c ≡ translate H f g t = ap (λ (y : List Tuple × ℕ). y.0) w.2 ∙ (eq_same (r.0).0 (tree.translate A f g t) r.2 ∙ over) in
    let d : ident_in H f c ≡ t = sym (history_translate H c.epoch g f c.ident l (known H l c (live_char H c w.1)).0) ∙ (ap (translate H g f) e ∙ back_over H f g t l i) in
    any_in s c (live H) w.1 (same_eq (ident_in H f c) t d))

-- whether a target is known can be told from the window, the text and the unstable operations
pub known_window : (H : History) (U : EpochName) (A : List Node) → IsLegal H → Keeps H U A → (f : EpochName) (t : List Tuple) → is_kept U A f ≡ true → IsIdent t →
    is_known H f t
    ≡ (list_any (λ y. ident_eq y.0 (tree.translate A f (greatest H) t)) (export H) || list_any (λ d. list_any (λ u. ident_eq (tree.translate A d.epoch f u) t) (targets_of d.body)) (unstable H))
unfolding is_known
known_window H U A l k f t h i =
    let s : Op → Bool = λ d. list_any (λ u. ident_eq (translate H d.epoch f u) t) (targets_of d.body) in
    let p : Op → Bool = λ d. list_any (λ u. ident_eq (tree.translate A d.epoch f u) t) (targets_of d.body) in
    ap (λ b. b || list_any s (unstable H)) (live_over H U A l k f t h i)
    ∙ ap (λ b. list_any (λ y. ident_eq y.0 (tree.translate A f (greatest H) t)) (export H) || b)
    (any_same s p (unstable H)
    (λ d q. any_same (λ u. ident_eq (translate H d.epoch f u) t) (λ u. ident_eq (tree.translate A d.epoch f u) t) (targets_of d.body)
    (λ u r. ap (λ z. ident_eq z t) (sym (translate_over H U A k d.epoch f u (k.keeps d.epoch (unstable_retained H l d q)) h)))))

-- ---- messages

-- ---- the parts of epochs

-- no two nodes have one name
abbrev pub AreNamedOnce : List Node → Type 0
AreNamedOnce [] = Unit {0}
AreNamedOnce (n ∷ ns) = (has_node ns (name_of n.renaming) ≡ false) × AreNamedOnce ns

pub named_once : (ns : List Node) → AreNodes ns → AreNamedOnce ns
named_once [] d = tt
named_once (n ∷ ns) d = (d.1, named_once ns d.2)

-- a node is found by its name
pub node_found : (ns : List Node) → AreNamedOnce ns → (n : Node) → IsIn n ns → node_of ns (name_of n.renaming) ≡ Some n
node_found [] d n p = absurd p
node_found (m ∷ ns) d n (inl e) =
    ap (λ b. if b then Some m else node_of ns (name_of n.renaming)) (ap (λ (k : Node). name_eq (name_of k.renaming) (name_of n.renaming)) e ∙ name_eq_refl (name_of n.renaming)) ∙ ap Some e
node_found (m ∷ ns) d n (inr p) =
    let f = not_true (is_of m (name_of n.renaming)) (λ q. let x = ap (has_node ns) (name_eq_is (name_of m.renaming) (name_of n.renaming) q) ∙ node_named n ns p in let y = d.0 in absurd (cc)) in
    ap (λ b. if b then Some m else node_of ns (name_of n.renaming)) f ∙ node_found ns d.1 n p

-- an epoch above which another kept one stands is found in both
node_over : (H : History) (U : EpochName) (A : List Node) → Keeps H U A → (u e : EpochName) → is_kept U A u ≡ true → is_kept U A e ≡ true → epoch_cmp (epochs H) u e ≡ Less → node_of A e ≡ node_of (epochs H) e
node_over H U A k u e h m q =
    let w = k.window in
    ⊎_elim
    (λ r. absurd (none_below U A w.below u (subst (λ f. epoch_cmp A u f ≡ Less) (name_eq_is e U r) (cmp_window w u e h m ∙ q))))
    (λ r. let n = node_at A e r in
    let a = node_found A (named_once A w.nodes) n.0 n.1 in
    let b = node_found (epochs H) (named_once (epochs H) w.whole) n.0 (each_in n.0 A (epochs H) w.each n.1) in
    subst (λ f. node_of A f ≡ node_of (epochs H) f) n.2 (a ∙ sym b))
    (or_split (name_eq e U) (has_node A e) m)

parts_over : (H : History) (U : EpochName) (A : List Node) → Keeps H U A → (es : List EpochName) → ((e : EpochName) → IsIn e es → is_kept U A e ≡ true) → Rises (epochs H) es → epoch_parts A es ≡ epoch_parts (epochs H) es
parts_over H U A k [] f r = refl
parts_over H U A k (u ∷ es) f r =
    ap (λ ps. top_part u ∷ ps)
    (map_same (λ e. epoch_part (u ∷ es) e (node_of A e)) (λ e. epoch_part (u ∷ es) e (node_of (epochs H) e)) es
    (λ e p. ap (epoch_part (u ∷ es) e) (node_over H U A k u e (f u (inl refl)) (f e (inr p)) (at e es r.0 p))))
  where
    at : (e : EpochName) (fs : List EpochName) → IsBelowAll (epochs H) u fs → IsIn e fs → epoch_cmp (epochs H) u e ≡ Less
    at e [] b p = absurd p
    at e (g ∷ fs) b (inl q) = subst (λ z. epoch_cmp (epochs H) u z ≡ Less) q b.0
    at e (g ∷ fs) b (inr p) = at e fs b.1 p

-- the parts of the retained epochs can be told from the window
pub parts_window : (H : History) (U : EpochName) (A : List Node) → IsLegal H → Keeps H U A → epoch_parts A (retained H) ≡ epoch_parts (epochs H) (retained H)
unfolding retained
parts_window H U A l k = parts_over H U A k (retained H) k.keeps (spanned_rises Origin (epochs H) (nodes H l) (parents H l) (greatest H) (needed H))
