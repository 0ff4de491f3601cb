-- A tree within a greater one: its greatest epoch is the greater one's greatest epoch within a vector that holds just its nodes.
use Rattle.std.proofs.Common.{◌≡◌, ℕ, Bool, true, false, List, [], ◌∷◌, refl, sym, ap, ◌∙◌, inl, inr, ◌⊎◌, ⊎_elim}
use Rattle.std.specs.Prelude.{if◌then◌else◌}
use Rattle.std.specs.declared.cmp.Ordering.TheVariants.{Less}
use Rattle.std.specs.Ordering.{is_lt}
use Rattle.std.specs.Cmp.Lexicographic.{slice_cmp}
use Rattle.rls_ident.specs.declared.epoch_name.EpochName.{EpochName}
use Rattle.rls_ident.specs.EpochNames.{name_eq, is_within}
use Rattle.rls_ident.specs.Lists.{IsIn, AreIn}
use Rattle.rls_ident.proofs.Members.{or_left, or_right, or_split}
use Rattle.rls_rename.specs.Tree.{Node, name_of, has_node, is_kept, AreNodes, AreBelow, path, renaming_cmp, epoch_cmp, later_of, greatest_from, names, names_within, greatest, greatest_within}
use Rattle.rls_rename.proofs.Kept.{greatest_kept}
use Rattle.rls_rename.proofs.Paths.{name_eq_is, name_eq_refl}
use Rattle.rls_rename.proofs.SameNodes.{path_within, kept_within, epoch_same, from_top, name_in, greatest_top, paths_total, tied, top_at}
use Rattle.rls_rename.proofs.Order.{in_within, within_in}

-- a node has the name
pub in_names : (ns : List Node) (e : EpochName) → IsIn e (names ns) → (n : Node) × IsIn n ns × (name_of n.renaming ≡ e)
in_names [] e p = absurd p
in_names (n ∷ ns) e (inl q) = (n, inl refl, q)
in_names (n ∷ ns) e (inr p) = let r = in_names ns e p in (r.0, inr r.1, r.2)

from_in : (ns : List Node) (e : EpochName) (fs : List EpochName) → (e ≡ greatest_from ns e fs) ⊎ IsIn (greatest_from ns e fs) fs
from_in ns e [] = inl refl
from_in ns e (f ∷ fs) = ⊎_elim (λ q. go (is_lt (epoch_cmp ns e f)) refl q) (λ q. inr (inr q)) (from_in ns (later_of ns e f) fs)
  where
    G : EpochName
    G = greatest_from ns (later_of ns e f) fs

    go : (b : Bool) → is_lt (epoch_cmp ns e f) ≡ b → later_of ns e f ≡ G → (e ≡ G) ⊎ ((f ≡ G) ⊎ IsIn G fs)
    go true h q = inr (inl (sym (ap (λ b. if b then f else e) h) ∙ q))
    go false h q = inl (sym (ap (λ b. if b then f else e) h) ∙ q)

pub greatest_part : (top : EpochName) (A B : List Node) (v : List ℕ) → AreNodes A → AreBelow top A → AreNodes B → AreBelow top B → AreIn A B →
    ((e : EpochName) → has_node A e ≡ true → is_within e v ≡ true) → ((e : EpochName) → IsIn e (names B) → is_within e v ≡ true → has_node A e ≡ true) →
    greatest top A ≡ greatest_within top B v
unfolding greatest_within
greatest_part top A B v d b f g i inside outside =
    let fs = names_within (names B) v in
    let x = greatest top A in
    let y = greatest_from B top fs in
    let kx = greatest_kept top A in
    let kt : is_kept top A top ≡ true = or_left (name_eq top top) (has_node A top) (name_eq_refl top) in
    let ky : is_kept top A y ≡ true =
    ⊎_elim (λ q. ap (is_kept top A) (sym q) ∙ kt)
    (λ q. let r = in_within (names B) v y q in or_right (name_eq y top) (has_node A y) (outside y r.0 r.1)) (from_in B top fs) in
    let t = from_top B top fs in
    let h : epoch_cmp B y x ≡ Less → ⊥ = λ l.
    ⊎_elim (λ q. t.0 (ap (epoch_cmp B y) (sym (name_eq_is x top q)) ∙ l))
    (λ q. ⊎_elim (λ p. t.0 (ap (epoch_cmp B y) (sym (name_eq_is x top p)) ∙ l))
    (λ p. top_at B y x fs t.1 (within_in (names B) v x (name_in B x p) (inside x q)) l)
    (or_split (name_eq x top) (has_node B x) (kept_within top A B i x kx)))
    (or_split (name_eq x top) (has_node A x) kx) in
    let e : epoch_cmp B y x ≡ epoch_cmp A y x =
    ap (λ p. slice_cmp renaming_cmp p (path B x)) (sym (path_within top A B d b f g i y ky)) ∙ ap (λ p. slice_cmp renaming_cmp (path A y) p) (sym (path_within top A B d b f g i x kx)) in
    epoch_same top A d b x y kx ky
    (tied (epoch_cmp A x y) (greatest_top top A y ky) (λ l. h (e ∙ (paths_total.antisymm (path A y) (path A x) ∙ l))))
