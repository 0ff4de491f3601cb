-- The order of names.
use Rattle.std.proofs.Common.{◌≡◌, ℕ, refl, ap, ◌∙◌}
use Rattle.std.specs.declared.cmp.Ordering.{Ordering}
use Rattle.std.specs.declared.cmp.Ordering.TheVariants.{Less, Equal, Greater}
use Rattle.std.specs.Ordering.{nat_cmp, ordering_reverse, on, then_cmp}
use Rattle.std.specs.Cmp.{IsTotalOrder}
use Rattle.std.proofs.lemmas.Cmp.{nat_cmp_total, on_total, then_total}
use Rattle.rls_ident.specs.declared.epoch_name.EpochName.{EpochName}
use Rattle.rls_ident.specs.declared.epoch_name.EpochName.TheVariants.{Origin, Of}
use Rattle.rls_ident.proofs.Lists.{then_equal}
use Rattle.rls_ident.proofs.Tuples.{nat_same}
use Rattle.rls_epoch.specs.Climbing.{name_cmp}
use Rattle.rls_epoch.proofs.Sorting.{IsOrder}

abbrev pair_cmp : ℕ × ℕ → ℕ × ℕ → Ordering
pair_cmp = then_cmp (on (λ p. p.0) nat_cmp) (on (λ p. p.1) nat_cmp)

pairs : IsTotalOrder pair_cmp
pairs = then_total (on_total (λ p. p.0) nat_cmp_total) (on_total (λ p. p.1) nat_cmp_total)

name_trans : (e f g : EpochName) → name_cmp e f ≡ Less → name_cmp f g ≡ Less → name_cmp e g ≡ Less
name_trans Origin Origin g h k = k
name_trans Origin (Of r s) Origin h k = absurd (cc)
name_trans Origin (Of r s) (Of q t) h k = refl
name_trans (Of r s) Origin g h k = absurd (cc)
name_trans (Of r s) (Of q t) Origin h k = absurd (cc)
name_trans (Of r s) (Of q t) (Of u v) h k = pairs.trans (r, s) (q, t) (u, v) h k

name_flips : (e f : EpochName) → name_cmp e f ≡ Less → name_cmp f e ≡ Less → ⊥
name_flips Origin Origin h k = absurd (cc)
name_flips Origin (Of r s) h k = absurd (cc)
name_flips (Of r s) Origin h k = absurd (cc)
name_flips (Of r s) (Of q t) h k = let x = pairs.antisymm (r, s) (q, t) ∙ ap ordering_reverse k in absurd (cc)

pub names_order : IsOrder name_cmp
names_order = record { trans = name_trans; flips = name_flips }

-- two names of which neither is less are one
pub names_level : (e f : EpochName) → (name_cmp e f ≡ Less → ⊥) → (name_cmp f e ≡ Less → ⊥) → e ≡ f
names_level Origin Origin h k = refl
names_level Origin (Of r s) h k = absurd (h refl)
names_level (Of r s) Origin h k = absurd (k refl)
names_level (Of r s) (Of q t) h k =
    let e = level (name_cmp (Of r s) (Of q t)) refl in
    let p = then_equal (nat_cmp r q) (nat_cmp s t) e in
    let a = nat_same r q p.0 in
    let b = nat_same s t p.1 in
    cc
  where
    level : (o : Ordering) → name_cmp (Of r s) (Of q t) ≡ o → name_cmp (Of r s) (Of q t) ≡ Equal
    level Less x = absurd (h x)
    level Equal x = x
    level Greater x = absurd (k (pairs.antisymm (q, t) (r, s) ∙ ap ordering_reverse x))
