-- Legal histories that agree on the operations with one author and number order the characters of both alike.
use Rattle.std.proofs.Common.{◌≡◌, Bool, true, false, List, [], ◌∷◌, refl, sym, ap, ◌∙◌, subst, inl, inr, ⊎_elim}
use Rattle.std.specs.Prelude.{cond, filter}
use Rattle.rls_ident.specs.declared.epoch_name.EpochName.{EpochName}
use Rattle.rls_ident.specs.declared.epoch_name.EpochName.TheVariants.{Origin, Of}
use Rattle.rls_ident.specs.EpochNames.{name_eq}
use Rattle.rls_ident.specs.Identifiers.{ident_lt}
use Rattle.rls_ident.specs.Lists.{IsIn, AreIn}
use Rattle.rls_ident.proofs.Members.{are_in, filter_in, in_filter, not_true, or_left, or_right, or_split, true_false}
use Rattle.rls_rename.specs.Tree.{Node, name_of, has_node, is_kept, AreNodes, AreBelow}
use Rattle.rls_rename.proofs.Hull.{node_at}
use Rattle.rls_rename.proofs.SameNodes.{node_named, parent_kept, translate_within}
use Rattle.rls_ops.specs.declared.op.Op.{Op}
use Rattle.rls_ops.specs.declared.op.Body.TheVariants.{Rename}
use Rattle.rls_model.specs.History.{History}
use Rattle.rls_model.specs.Epochs.{epochs, translate}
use Rattle.rls_model.specs.Document.{Character, chars, ident_in}
use Rattle.rls_model.specs.Legal.{IsLegal}
use Rattle.rls_model.specs.Laws.{Agree, precedes, OrderAgreed}
use Rattle.rls_model.proofs.OneTree.{nodes, parents}
use Rattle.rls_model.proofs.Distinct.{known}
use Rattle.rls_model.proofs.SameOps.{in_nodes, node_of}

-- ---- the nodes that two trees share

-- the nodes of A of which B has the name
abbrev pub shared : List Node → List Node → List Node
shared A B = filter (λ n. has_node B (name_of n.renaming)) A

has_shared : (A B : List Node) (e : EpochName) → has_node A e ≡ true → has_node B e ≡ true → has_node (shared A B) e ≡ true
has_shared A B e h k =
    let r = node_at A e h in
    let q = filter_in (λ n. has_node B (name_of n.renaming)) r.0 A r.1 (ap (has_node B) r.2 ∙ k) in
    ap (has_node (shared A B)) (sym r.2) ∙ node_named r.0 (shared A B) q

kept_shared : (A B : List Node) (e : EpochName) → is_kept Origin A e ≡ true → is_kept Origin B e ≡ true → is_kept Origin (shared A B) e ≡ true
kept_shared A B e h k =
    ⊎_elim (λ t. or_left (name_eq e Origin) (has_node (shared A B) e) t)
    (λ p. ⊎_elim (λ t. or_left (name_eq e Origin) (has_node (shared A B) e) t) (λ q. or_right (name_eq e Origin) (has_node (shared A B) e) (has_shared A B e p q)) (or_split (name_eq e Origin) (has_node B e) k))
    (or_split (name_eq e Origin) (has_node A e) h)

shared_nodes : (A B : List Node) → AreNodes A → AreNodes (shared A B)
shared_nodes [] B d = tt
shared_nodes (n ∷ A) B d = go (has_node B (name_of n.renaming)) (shared_nodes A B d.2)
  where
    none : has_node (shared A B) (name_of n.renaming) ≡ true → ⊥
    none h =
        let r = node_at (shared A B) (name_of n.renaming) h in
        let q = (in_filter (λ m. has_node B (name_of m.renaming)) r.0 A r.1).0 in
        true_false (has_node A (name_of n.renaming)) (ap (has_node A) (sym r.2) ∙ node_named r.0 A q) d.1

    go : (b : Bool) → AreNodes (shared A B) → AreNodes (cond b (n ∷ shared A B) (shared A B))
    go true k = (d.0, not_true (has_node (shared A B) (name_of n.renaming)) none, k)
    go false k = k

shared_below : (A B : List Node) → AreBelow Origin A → ((n : Node) → IsIn n A → has_node B (name_of n.renaming) ≡ true → is_kept Origin B n.parent ≡ true) → AreBelow Origin (shared A B)
shared_below [] B b f = tt
shared_below (n ∷ A) B b f = go (has_node B (name_of n.renaming)) refl (shared_below A B b.2 (λ m p h. f m (inr p) h))
  where
    go : (c : Bool) → has_node B (name_of n.renaming) ≡ c → AreBelow Origin (shared A B) → AreBelow Origin (cond c (n ∷ shared A B) (shared A B))
    go true h k = (kept_shared A B n.parent b.0 (f n (inl refl) h), b.1, k)
    go false h k = k

-- ---- two histories

module _ (G H : History) (l : IsLegal G) (m : IsLegal H) (a : Agree G H) where
  -- nodes with one name are one
  one_node : (n k : Node) → IsIn n (epochs G) → IsIn k (epochs H) → name_of n.renaming ≡ name_of k.renaming → n ≡ k
  one_node n k p q e =
      let r = in_nodes G n p in
      let s = in_nodes H k q in
      let names : Of (r.0).author (r.0).seq ≡ Of (s.0).author (s.0).seq =
      ap (λ (x : Node). name_of x.renaming) r.4 ∙ (e ∙ ap (λ (x : Node). name_of x.renaming) (sym s.4)) in
      let author : (r.0).author ≡ (s.0).author = cc in
      let seq : (r.0).seq ≡ (s.0).seq = cc in
      let same : r.0 ≡ s.0 = a r.0 s.0 r.2 s.2 author seq in
      let bodies : Rename r.1 ≡ Rename s.1 = sym r.3 ∙ (ap (λ (x : Op). x.body) same ∙ s.3) in
      let former : r.1 ≡ s.1 = cc in
      sym r.4 ∙ (ap (λ o. node_of o r.1) same ∙ (ap (node_of s.0) former ∙ s.4))

  both : (n : Node) → IsIn n (epochs G) → has_node (epochs H) (name_of n.renaming) ≡ true → IsIn n (epochs H)
  both n p h =
      let r = node_at (epochs H) (name_of n.renaming) h in
      subst (λ (k : Node). IsIn k (epochs H)) (sym (one_node n r.0 p r.1 (sym r.2))) r.1

  same_ident : (c : Character) (e : EpochName) → IsIn c (chars G) → IsIn c (chars H) → is_kept Origin (epochs G) e ≡ true → is_kept Origin (epochs H) e ≡ true → ident_in G e c ≡ ident_in H e c
  unfolding translate
  same_ident c e p q g h =
      let t : Node → Bool = λ n. has_node (epochs H) (name_of n.renaming) in
      let d = shared_nodes (epochs G) (epochs H) (nodes G l) in
      let b = shared_below (epochs G) (epochs H) (parents G l) (λ n u v. parent_kept Origin n (epochs H) (parents H m) (both n u v)) in
      let in_g : AreIn (shared (epochs G) (epochs H)) (epochs G) = are_in (shared (epochs G) (epochs H)) (epochs G) (λ n u. (in_filter t n (epochs G) u).0) in
      let in_h : AreIn (shared (epochs G) (epochs H)) (epochs H) = are_in (shared (epochs G) (epochs H)) (epochs H) (λ n u. let r = in_filter t n (epochs G) u in both n r.0 r.1) in
      let i = known G l c p in
      let birth = kept_shared (epochs G) (epochs H) c.epoch i.1 (known H m c q).1 in
      let there = kept_shared (epochs G) (epochs H) e g h in
      sym (translate_within Origin (shared (epochs G) (epochs H)) (epochs G) d b (nodes G l) (parents G l) in_g c.epoch e c.ident birth there)
      ∙ translate_within Origin (shared (epochs G) (epochs H)) (epochs H) d b (nodes H m) (parents H m) in_h c.epoch e c.ident birth there

  same_order : (c d : Character) → IsIn c (chars G) → IsIn c (chars H) → IsIn d (chars G) → IsIn d (chars H) → precedes G c d ≡ precedes H c d
  same_order c d p q r s = ap (λ x. ident_lt x (ident_in G Origin d)) (same_ident c Origin p q refl refl) ∙ ap (λ x. ident_lt (ident_in H Origin c) x) (same_ident d Origin r s refl refl)

pub law : OrderAgreed
law G H l m a = (same_ident G H l m a, same_order G H l m a)
