-- Anchors keep their order.
use Rattle.std.proofs.Common.{◌≡◌, ◌≤◌, Bool, true, false, suc, List, [], ◌∷◌, length, refl, sym, subst, ap, ◌∙◌, ⊎_elim, arith}
use Rattle.std.specs.Prelude.{filter, not, if◌then◌else◌}
use Rattle.std.specs.Ordering.{is_lt}
use Rattle.rls_ident.specs.declared.tuple.Tuple.{Tuple}
use Rattle.rls_ident.specs.declared.epoch_name.EpochName.{EpochName}
use Rattle.rls_ident.specs.Identifiers.{IsIdent, ident_lt}
use Rattle.rls_ident.proofs.Lists.{lt_irrefl, lt_trans, tri}
use Rattle.rls_ident.proofs.Members.{not_true}
use Rattle.rls_runs.specs.Places.{below_count}
use Rattle.rls_ident.proofs.Tuples.{lt_of, of_lt, tuples}
use Rattle.rls_rename.proofs.Paths.{translate_ident, translate_order, translate_translate}
use Rattle.rls_seen.specs.Over.{placed_over}
use Rattle.rls_seen.specs.Sane.{IsSane}
use Rattle.rls_seen.specs.Seen.{Seen, greatest_over, idents_over, translate_over}
use Rattle.rls_anchor.specs.Anchors.{count_upto, place_over}
use Rattle.rls_anchor.specs.AnchorLaws.{StayInOrder, StayInOrderAcross}

-- what is below one is at most it
below_upto : (xs : List (List Tuple)) (x : List Tuple) → below_count xs x ≤ count_upto xs x
below_upto [] x = omega arith
below_upto (z ∷ zs) x = go (ident_lt z x) (ident_lt x z) (λ h. not_true (ident_lt x z) (λ k. lt_irrefl (lt_trans (lt_of z x h) (lt_of x z k)))) (below_upto zs x)
  where
    go : (b c : Bool) → (b ≡ true → c ≡ false) → below_count zs x ≤ count_upto zs x → (if b then suc (below_count zs x) else below_count zs x) ≤ length (if not c then z ∷ filter (λ v. not (ident_lt x v)) zs else filter (λ v. not (ident_lt x v)) zs)
    go true true k l = absurd (let e = k refl in cc)
    go true false k l = omega (arith, l)
    go false true k l = l
    go false false k l = omega (arith, l)

-- what isn't above the less one is below the greater one
less_below : (x y z : List Tuple) → ident_lt x y ≡ true → ident_lt x z ≡ false → ident_lt z y ≡ true
less_below x y z h k =
    ⊎_elim (λ l. of_lt z y (lt_trans l (lt_of x y h))) (λ q. ⊎_elim (λ e. subst (λ w. ident_lt w y ≡ true) (sym e) h) (λ l. let m = of_lt x z l in absurd (cc)) q) (tri tuples z x)

upto_below : (xs : List (List Tuple)) (x y : List Tuple) → ident_lt x y ≡ true → count_upto xs x ≤ below_count xs y
upto_below [] x y h = omega arith
upto_below (z ∷ zs) x y h = go (ident_lt x z) (ident_lt z y) (less_below x y z h) (upto_below zs x y h)
  where
    go : (b c : Bool) → (b ≡ false → c ≡ true) → count_upto zs x ≤ below_count zs y → length (if not b then z ∷ filter (λ v. not (ident_lt x v)) zs else filter (λ v. not (ident_lt x v)) zs) ≤ (if c then suc (below_count zs y) else below_count zs y)
    go true true k l = omega (arith, l)
    go true false k l = l
    go false true k l = omega (arith, l)
    go false false k l = absurd (let e = k refl in cc)

pub stay_in_order : StayInOrder
unfolding place_over
stay_in_order s e x y sane i j h =
    let same : ident_lt (placed_over s e x) (placed_over s e y) ≡ ident_lt x y = ap is_lt (translate_order s.epochs.nodes e (greatest_over s) x y sane.epochs.nodes i j) in
    (omega arith, below_upto (idents_over s) (placed_over s e x), upto_below (idents_over s) (placed_over s e x) (placed_over s e y) (same ∙ h))

-- by way of another epoch an identifier comes to the same place
by_way : (s : Seen) (e g : EpochName) (x : List Tuple) → IsSane s → IsIdent x → placed_over s g (translate_over s e g x) ≡ placed_over s e x
by_way s e g x sane i = translate_translate s.epochs.nodes e g (greatest_over s) x sane.epochs.nodes i

pub stay_in_order_across : StayInOrderAcross
unfolding place_over
stay_in_order_across s e f g x y sane i j =
    let nodes = s.epochs.nodes in
    let u = translate_over s e g x in
    let v = translate_over s f g y in
    let p = by_way s e g x sane i in
    let q = by_way s f g y sane j in
    let order : ident_lt (placed_over s g u) (placed_over s g v) ≡ ident_lt u v = ap is_lt (translate_order nodes g (greatest_over s) u v sane.epochs.nodes (translate_ident nodes e g x sane.epochs.nodes i) (translate_ident nodes f g y sane.epochs.nodes j)) in
    let there : ident_lt (placed_over s g u) (placed_over s g v) ≡ ident_lt (placed_over s e x) (placed_over s f y) = ap (λ z. ident_lt z (placed_over s g v)) p ∙ ap (ident_lt (placed_over s e x)) q in (
      λ h. upto_below (idents_over s) (placed_over s e x) (placed_over s f y) (sym there ∙ (order ∙ h)),
      λ h. subst (λ z. below_count (idents_over s) (placed_over s e x) ≤ count_upto (idents_over s) z) (sym p ∙ (ap (placed_over s g) h ∙ q)) (below_upto (idents_over s) (placed_over s e x)),
    )
