-- Names that were recorded in some epoch, before and after a rename.
use Rattle.std.proofs.Common.{◌≡◌, ◌∙◌, ℕ, None, Bool, true, false, List, [], ◌∷◌, map, inl, inr, refl, sym, ap, subst}
use Rattle.std.specs.Prelude.{IsTrue, reverse, if◌then◌else◌}
use Rattle.rls_ident.specs.declared.tuple.Tuple.{Tuple}
use Rattle.rls_ident.specs.declared.epoch_name.EpochName.{EpochName}
use Rattle.rls_ident.specs.EpochNames.{name_eq}
use Rattle.rls_ident.specs.Identifiers.{IsIdent}
use Rattle.rls_ident.specs.Lists.{IsIn}
use Rattle.rls_ident.proofs.Members.{in_map, map_in}
use Rattle.rls_ident.proofs.Named.{name_eq_is}
use Rattle.rls_rename.specs.Tree.{AreBelow, AreNodes, Epochs, Node, translate}
use Rattle.rls_rename.proofs.Growth.{kept_other, translate_other, translate_same}
use Rattle.rls_rename.proofs.Kept.{greatest_kept}
use Rattle.rls_rename.proofs.Paths.{translate_ident, translate_translate}
use Rattle.rls_model.specs.declared.edit.Edit.TheVariants as edits
use Rattle.rls_model.specs.Epochs.{renaming_of}
use Rattle.rls_seen.specs.Edits.{edit_fault_over, edited, made_over}
use Rattle.rls_seen.specs.Over.{accepted, placed_over}
use Rattle.rls_seen.specs.Sane.{IsSane}
use Rattle.rls_seen.specs.Seen.{Seen, greatest_over, idents_over}
use Rattle.rls_seen.proofs.Making.{edited_sane, made_may}
use Rattle.rls_seen.proofs.Written.{rename_tree}
use Rattle.rls_replica.specs.Names.{keeps}
use Rattle.rls_steps.specs.Labelled.{Names}
use Rattle.rls_steps.specs.Recorded.{names_over}
use Rattle.rls_steps.proofs.Stretches.{in_reverse}
use Rattle.rls_session.specs.Remembering.{AreIdents}

abbrev Placed : Type 0
Placed = List Tuple → List Tuple

abbrev mapped : Placed → Names → Names
mapped f ns = map (λ n. (f n.0, n.1)) ns

mapped_same : (f g : Placed) (ns : Names) → AreIdents ns → ((x : List Tuple) → IsIdent x → f x ≡ g x) → mapped f ns ≡ mapped g ns
mapped_same f g [] i e = refl
mapped_same f g (n ∷ ns) i e = ap (λ x. (x, n.1) ∷ mapped f ns) (e n.0 i.0) ∙ ap (λ ms. (g n.0, n.1) ∷ ms) (mapped_same f g ns i.1 e)

mapped_none : (f : Placed) (ns : Names) → AreIdents ns → ((x : List Tuple) → IsIdent x → f x ≡ x) → mapped f ns ≡ ns
mapped_none f [] i e = refl
mapped_none f (n ∷ ns) i e = ap (λ x. (x, n.1) ∷ mapped f ns) (e n.0 i.0) ∙ ap (λ ms. n ∷ ms) (mapped_none f ns i.1 e)

mapped_twice : (f g : Placed) (ns : Names) → mapped f (mapped g ns) ≡ mapped (λ x. f (g x)) ns
mapped_twice f g [] = refl
mapped_twice f g (n ∷ ns) = ap (λ ms. (f (g n.0), n.1) ∷ ms) (mapped_twice f g ns)

mapped_idents : (f : Placed) (ns : Names) → ((x : List Tuple) → IsIdent x → IsIdent (f x)) → AreIdents ns → AreIdents (mapped f ns)
mapped_idents f [] e i = tt
mapped_idents f (n ∷ ns) e i = (e n.0 i.0, mapped_idents f ns e i.1)

-- names at the greatest epoch are all translated
names_mapped : (s : Seen) (e : EpochName) (ns : Names) → IsSane s → AreIdents ns → names_over s e ns ≡ mapped (placed_over s e) ns
names_mapped s e ns sane i = go (name_eq e (greatest_over s)) refl
  where
    go : (b : Bool) → name_eq e (greatest_over s) ≡ b → (if b then ns else mapped (placed_over s e) ns) ≡ mapped (placed_over s e) ns
    go false q = refl
    go true q = sym (mapped_none (placed_over s e) ns i (λ x j. ap (λ g. translate s.epochs.nodes e g x) (sym (name_eq_is e (greatest_over s) q)) ∙ translate_same s.epochs.nodes e x sane.epochs.nodes j))

-- the epochs after an own rename
node_of : Seen → Node
node_of s = let o = made_over s edits.Rename in record { parent = o.epoch; renaming = renaming_of o (idents_over s) }

nodes_after : (s : Seen) → (edited s edits.Rename).epochs ≡ record { top = s.epochs.top; nodes = node_of s ∷ s.epochs.nodes }
unfolding accepted made_over node_of
nodes_after s = refl

module _ (s : Seen) (sane : IsSane s) (f : edit_fault_over s edits.Rename ≡ None) where
  abbrev n : Seen
  n = edited s edits.Rename

  tree : AreNodes (node_of s ∷ s.epochs.nodes) × AreBelow s.epochs.top (node_of s ∷ s.epochs.nodes)
  unfolding made_over node_of
  tree = rename_tree s (made_over s edits.Rename) (idents_over s) sane (made_may s edits.Rename sane tt f) refl

  stays : (e : EpochName) (x : List Tuple) → IsTrue (keeps s e) → IsIdent x → translate n.epochs.nodes e (greatest_over s) x ≡ placed_over s e x
  stays e x kept i =
      ap (λ (E : Epochs). translate E.nodes e (greatest_over s) x) (nodes_after s)
      ∙ translate_other (node_of s) s.epochs.nodes e (greatest_over s) x (kept_other s.epochs.top (node_of s) s.epochs.nodes e tree.0 tree.1 kept) (kept_other s.epochs.top (node_of s) s.epochs.nodes (greatest_over s) tree.0 tree.1 (greatest_kept s.epochs.top s.epochs.nodes))

  -- names of a kept epoch are the same after the rename, whether they were taken to the greatest epoch before it or not
  pub names_stay : (e : EpochName) (ns : Names) → IsTrue (keeps s e) → AreIdents ns → names_over n (greatest_over s) (names_over s e ns) ≡ names_over n e ns
  names_stay e ns kept i =
      let g = greatest_over s in
      let there = edited_sane s edits.Rename sane tt f in
      let j = mapped_idents (placed_over s e) ns (λ x k. translate_ident s.epochs.nodes e g x sane.epochs.nodes k) i in
      ap (names_over n g) (names_mapped s e ns sane i)
      ∙ (names_mapped n g (mapped (placed_over s e) ns) there j
      ∙ (mapped_twice (placed_over n g) (placed_over s e) ns
      ∙ (mapped_same (λ x. placed_over n g (placed_over s e x)) (placed_over n e) ns i (λ x k. ap (placed_over n g) (sym (stays e x kept k)) ∙ translate_translate n.epochs.nodes e g (greatest_over n) x there.epochs.nodes k)
      ∙ sym (names_mapped n e ns there i))))

-- ---- identifiers

all_in : (ns : Names) → ((x : List Tuple) → IsIn x (map (λ n. n.0) ns) → IsIdent x) → AreIdents ns
all_in [] h = tt
all_in (n ∷ ns) h = (h n.0 (inl refl), all_in ns (λ x p. h x (inr p)))

-- where the newest come first
pub idents_back : (ns : Names) → ((x : List Tuple) → IsIn x (map (λ n. n.0) (reverse ns)) → IsIdent x) → AreIdents ns
idents_back ns h = all_in ns (λ x p.
    let q = in_map (λ (n : List Tuple × ℕ). n.0) x ns p in
    h x (subst (λ y. IsIn y (map (λ (n : List Tuple × ℕ). n.0) (reverse ns))) q.2 (map_in (λ (n : List Tuple × ℕ). n.0) q.0 (reverse ns) (in_reverse q.0 ns q.1))))
