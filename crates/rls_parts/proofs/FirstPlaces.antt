-- The first places of epochs, noted from the last name on.
use Rattle.std.proofs.Common.{◌≡◌, ℕ, ◌+◌, ◌≤◌, cond, List, ◌∷◌, length, drop, get_or, Option, Some, sym, ap, ◌∙◌, add-one, arith}
use Rattle.std.specs.List.{position_from}
use Rattle.std.specs.Map.{lookup}
use Rattle.std.specs.BTreeMap.{is_at}
use Rattle.std.specs.Ordering.{is_eq}
use Rattle.std.proofs.lemmas.Bool.Decides.{nat_tests}
use Rattle.std.proofs.Math.Seq.{drop-cons}
use Rattle.rls_ident.specs.declared.epoch_name.EpochName.{EpochName}
use Rattle.rls_ident.specs.declared.epoch_name.EpochName.TheVariants.{Origin}
use Rattle.rls_ident.specs.EpochNames.{name_eq}
use Rattle.rls_parts.specs.declared.places.Opened.{Opened}
use Rattle.rls_parts.specs.Places.{key_of, key_cmp, AreFirst}

-- two epochs are equal exactly where they are looked up under the same
same_key : (n e : EpochName) → is_eq (key_cmp (key_of n) (key_of e)) ≡ name_eq e n
same_key n e = grind (arith, nat_tests)

-- the name in front of the others is noted
pub first_more : (es ds : List (Option Opened × ℕ)) (names : List EpochName) (i p : ℕ) (k : Option Opened) → p ≡ i + 1 → p ≤ length names → k ≡ key_of (get_or names i Origin) → AreFirst es p (drop p names)
    → ((q : Option Opened) → lookup (is_at (key_cmp q)) ds ≡ cond (is_at (key_cmp k) q) (Some i) (lookup (is_at (key_cmp q)) es)) → AreFirst ds i (drop i names)
first_more es ds names i p k next within is noted h e =
    let n = get_or names i Origin in
    let front = drop-cons names i Origin (omega (arith, next, within)) ∙ ap (λ j. n ∷ drop j names) (sym (add-one i)) in
    let rest = noted e ∙ ap (λ j. position_from (name_eq e) j (drop j names)) next in
    h (key_of e)
    ∙ (ap (λ b. cond b (Some i) (lookup (is_at (key_cmp (key_of e))) es)) (ap (λ j. is_eq (key_cmp j (key_of e))) is ∙ same_key n e)
    ∙ (ap (λ r. cond (name_eq e n) (Some i) r) rest ∙ sym (ap (position_from (name_eq e) i) front)))
