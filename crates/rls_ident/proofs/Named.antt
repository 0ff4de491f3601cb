-- Names of epochs: their test, and the vectors that they are within.
use Rattle.std.proofs.Common.{◌≡◌, true, refl, nat_eq, arith}
use Rattle.std.proofs.lemmas.Bool.{and_parts, and_from, eqb-true, eq-eqb}
use Rattle.std.specs.Prelude.{slice_index, ℕ, List}
use Rattle.rls_ident.specs.declared.epoch_name.EpochName.{EpochName}
use Rattle.rls_ident.specs.declared.epoch_name.EpochName.TheVariants.{Origin, Of}
use Rattle.rls_ident.specs.EpochNames.{name_eq, is_within}
use Rattle.rls_ident.specs.Vectors.{at_most}
use Rattle.rls_ident.proofs.Members.{le_is, le_test}
use Rattle.rls_ident.proofs.Vectors.{index_le}

pub name_eq_is : (e f : EpochName) → name_eq e f ≡ true → e ≡ f
name_eq_is Origin Origin h = refl
name_eq_is Origin (Of r s) h = cc
name_eq_is (Of r s) Origin h = cc
name_eq_is (Of r s) (Of q t) h =
    let a = and_parts (nat_eq r q) (nat_eq s t) h in
    let e = eqb-true r q a.0 in
    let f = eqb-true s t a.1 in
    cc

pub name_eq_refl : (e : EpochName) → name_eq e e ≡ true
name_eq_refl Origin = refl
name_eq_refl (Of r s) = and_from (nat_eq r r) (nat_eq s s) (eq-eqb r r refl) (eq-eqb s s refl)

-- the greater the vector, the more epochs are within it
pub within_more : (e : EpochName) (v w : List ℕ) → at_most v w ≡ true → is_within e v ≡ true → is_within e w ≡ true
within_more Origin v w h k = refl
within_more (Of r s) v w h k =
    let a = index_le v w r h in
    let b = le_is s (slice_index v r) k in
    le_test s (slice_index w r) (omega arith)
