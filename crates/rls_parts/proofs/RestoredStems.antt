-- The stems of the replica that has given parts.
use Rattle.std.proofs.Common.{◌≡◌, ℕ, suc, ◌<◌, ◌==◌, ◌&&◌, nat_le, nat_lt, slice_index, Bool, true, List, [], ◌∷◌, length, refl, ◌∙◌, arith, inl, inr, ◌⊎◌, ⊎_elim, Option, Some, None}
use Rattle.std.specs.Prelude.{pos}
use Rattle.std.specs.Int.RustNames.{int_le}
use Rattle.std.specs.List.{list_all}
use Rattle.rls_ident.specs.declared.limits.TheConstants.{OFFSETS_END}
use Rattle.rls_ident.specs.Identifiers.{least_offset}
use Rattle.rls_ident.proofs.Members.{and_left, and_right, and_true, eq_is, eq_test, le_is, lt_is, lt_test, or_left, or_right, or_split, int_le_is}
use Rattle.rls_model.specs.declared.parts.Parts.{Parts}
use Rattle.rls_model.specs.declared.parts.Stem.{Stem}
use Rattle.rls_model.specs.Stems.{stands_before}
use Rattle.rls_seen.specs.Sane.{IsStem, AreStems}
use Rattle.rls_parts.specs.Rules.{is_stem_of, stem_fault}
use Rattle.rls_parts.proofs.Passing.{stem_first}

-- ---- one stem

stem_is : (p : Parts) → length p.vector ≡ p.members → (t : Stem) → is_stem_of p t ≡ true → IsStem p.vector t
stem_is p v t h =
    let h6 = and_left _ _ h in
    let h5 = and_left _ _ h6 in
    let h4 = and_left _ _ h5 in
    let h3 = and_left _ _ h4 in
    let h2 = and_left _ _ h3 in
    let l = lt_is t.author p.members (and_left _ _ h2) in
    record {
      author = omega arith;
      begun = lt_is 0 t.s0 (and_right _ _ h2);
      counted = le_is t.s0 (slice_index p.vector t.author) (and_right _ _ h3);
      bottom = int_le_is least_offset t.low (and_right _ _ h4);
      low = int_le_is t.low (pos 0) (and_right _ _ h5);
      some = lt_is 0 t.next (and_right _ _ h6);
      end = le_is t.next OFFSETS_END (and_right _ _ h);
    }

-- ---- their order

-- the second stands after the first
abbrev behind : Stem → Stem → Bool
behind t u = stands_before u.author u.s0 t

behind_is : (t u : Stem) → behind t u ≡ true → (t.author < u.author) ⊎ ((t.author ≡ u.author) × (t.s0 < u.s0))
behind_is t u h =
    ⊎_elim (λ e. inl (lt_is t.author u.author e))
    (λ e. inr (eq_is t.author u.author (and_left (t.author == u.author) (nat_lt t.s0 u.s0) e), lt_is t.s0 u.s0 (and_right (t.author == u.author) (nat_lt t.s0 u.s0) e)))
    (or_split (nat_lt t.author u.author) ((t.author == u.author) && nat_lt t.s0 u.s0) h)

behind_author : (t u : Stem) → t.author < u.author → behind t u ≡ true
behind_author t u h = or_left (nat_lt t.author u.author) ((t.author == u.author) && nat_lt t.s0 u.s0) (lt_test t.author u.author h)

behind_number : (t u : Stem) → t.author ≡ u.author → t.s0 < u.s0 → behind t u ≡ true
behind_number t u e h =
    or_right (nat_lt t.author u.author) ((t.author == u.author) && nat_lt t.s0 u.s0)
    (and_true (t.author == u.author) (nat_lt t.s0 u.s0) (eq_test t.author u.author e) (lt_test t.s0 u.s0 h))

behind_trans : (t u w : Stem) → behind t u ≡ true → behind u w ≡ true → behind t w ≡ true
behind_trans t u w h k =
    ⊎_elim
    (λ a. ⊎_elim (λ b. behind_author t w (omega arith)) (λ b. let e = b.0 in behind_author t w (omega arith)) (behind_is u w k))
    (λ a. ⊎_elim (λ b. let e = a.0 in behind_author t w (omega arith)) (λ b. let l = a.1 in let m = b.1 in behind_number t w (a.0 ∙ b.0) (omega arith)) (behind_is u w k))
    (behind_is t u h)

before_all : (p : Parts) (r t : Stem) (i : ℕ) (ts : List Stem) → behind r t ≡ true → stem_fault p (Some t) i ts ≡ None → list_all (behind r) ts ≡ true
before_all p r t i [] b h = refl
before_all p r t i (u ∷ ts) b h =
    let f = stem_first p (Some t) i u ts h in
    let c = behind_trans r t u b f.1 in
    and_true (behind r u) (list_all (behind r) ts) c (before_all p r u (suc i) ts c f.2)

behind_all : (p : Parts) (t : Stem) (i : ℕ) (ts : List Stem) → stem_fault p (Some t) i ts ≡ None → list_all (behind t) ts ≡ true
behind_all p t i [] h = refl
behind_all p t i (u ∷ ts) h =
    let f = stem_first p (Some t) i u ts h in
    and_true (behind t u) (list_all (behind t) ts) f.1 (before_all p t u (suc i) ts f.1 f.2)

pub stems_restored : (p : Parts) → length p.vector ≡ p.members → (before : Option Stem) (i : ℕ) (ts : List Stem) → stem_fault p before i ts ≡ None → AreStems p.vector ts
stems_restored p v before i [] h = tt
stems_restored p v before i (t ∷ ts) h =
    let f = stem_first p before i t ts h in
    (stem_is p v t f.0, behind_all p t (suc i) ts f.2, stems_restored p v (Some t) (suc i) ts f.2)
