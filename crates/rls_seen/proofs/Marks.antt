-- What is kept depends on which epochs are marked, and not on their order.
use Rattle.std.proofs.Common.{◌≡◌, true, List, ◌∷◌, ◌++◌, ap, ◌∙◌, subst, inl, inr, ⊎_elim}
use Rattle.std.specs.Prelude.{ℕ, not, ◌&&◌}
use Rattle.rls_ident.specs.declared.epoch_name.EpochName.{EpochName}
use Rattle.rls_ident.specs.Lists.{IsIn}
use Rattle.rls_ident.proofs.Members.{same_bool, in_left, in_right, in_split}
use Rattle.rls_ident.proofs.Agreeing.{filter_same}
use Rattle.rls_rename.specs.Tree.{Node, Epochs, AreNodes, name_of, path, greatest}
use Rattle.rls_rename.specs.Connected.{begins_with, top_path, is_spanned}
use Rattle.rls_rename.specs.Keeping.{end_of, is_below, kept_nodes, part, reached, kept_part}
use Rattle.rls_rename.proofs.Hull.{IsFront, top_front, top_most, spanned_is, is_spanned_of}
use Rattle.rls_rename.proofs.Windows.{both_fronts}

abbrev pub AreSame : List EpochName → List EpochName → Type 0
AreSame es fs = ((g : EpochName) → IsIn g es → IsIn g fs) × ((g : EpochName) → IsIn g fs → IsIn g es)

more : (e : EpochName) (es fs : List EpochName) → ((g : EpochName) → IsIn g es → IsIn g fs) → (g : EpochName) → IsIn g (e ∷ es) → IsIn g (e ∷ fs)
more e es fs f g (inl q) = inl q
more e es fs f g (inr p) = inr (f g p)

same_top : (ns : List Node) → AreNodes ns → (e : EpochName) (es fs : List EpochName) → AreSame es fs → top_path ns e es ≡ top_path ns e fs
same_top ns d e es fs s =
    both_fronts (top_path ns e es) (top_path ns e fs)
    (top_most ns e fs (top_path ns e es) (λ g p. top_front ns d e es g (more e fs es s.1 g p)))
    (top_most ns e es (top_path ns e fs) (λ g p. top_front ns d e fs g (more e es fs s.0 g p)))

spanned_more : (ns : List Node) → AreNodes ns → (e : EpochName) (es fs : List EpochName) → AreSame es fs → (f : EpochName) → is_spanned ns e es f ≡ true → is_spanned ns e fs f ≡ true
spanned_more ns d e es fs s f h =
    let r = spanned_is ns d e es f h in
    is_spanned_of ns e fs f (subst (λ p. IsFront p (path ns f)) (same_top ns d e es fs s) r.0, (r.1.0, more e es fs s.0 r.1.0 r.1.1, r.1.2))

same_below : (ns : List Node) → AreNodes ns → (e : EpochName) (es fs : List EpochName) → AreSame es fs → (n : Node) → is_below ns e es n ≡ is_below ns e fs n
same_below ns d e es fs s n =
    ap (λ b. b && not (begins_with (top_path ns e es) (path ns (name_of n.renaming))))
    (same_bool (is_spanned ns e es (name_of n.renaming)) (is_spanned ns e fs (name_of n.renaming)) (spanned_more ns d e es fs s (name_of n.renaming)) (spanned_more ns d e fs es (s.1, s.0) (name_of n.renaming)))
    ∙ ap (λ p. is_spanned ns e fs (name_of n.renaming) && not (begins_with p (path ns (name_of n.renaming)))) (same_top ns d e es fs s)

same_part : (E : Epochs) → AreNodes E.nodes → (e : EpochName) (es fs : List EpochName) → AreSame es fs → part E e es ≡ part E e fs
unfolding part
same_part E d e es fs s =
    ap (λ p. part_of (end_of E.top p) (kept_nodes E.nodes e es)) (same_top E.nodes d e es fs s)
    ∙ ap (part_of (end_of E.top (top_path E.nodes e fs))) (filter_same (is_below E.nodes e es) (is_below E.nodes e fs) E.nodes (λ n p. same_below E.nodes d e es fs s n))
  where
    part_of : EpochName → List Node → Epochs
    part_of t ns = record { top = t; nodes = ns }

-- two lists of marked epochs with the same elements
pub same_kept : (E : Epochs) → AreNodes E.nodes → (v : List ℕ) (es fs : List EpochName) → AreSame es fs → kept_part E v es ≡ kept_part E v fs
same_kept E d v es fs s = same_part E d (greatest E.top E.nodes) (reached E v ++ es) (reached E v ++ fs) (both es fs s.0, both fs es s.1)
  where
    both : (xs ys : List EpochName) → ((g : EpochName) → IsIn g xs → IsIn g ys) → (g : EpochName) → IsIn g (reached E v ++ xs) → IsIn g (reached E v ++ ys)
    both xs ys f g p = ⊎_elim (λ q. in_left g (reached E v) ys q) (λ q. in_right g (reached E v) ys (f g q)) (in_split g (reached E v) xs p)
