-- The stems of a sane replica pass their rule.
use Rattle.std.proofs.Common.{◌≡◌, ℕ, suc, ◌&&◌, nat_le, nat_lt, slice_index, true, List, [], ◌∷◌, length, refl, ap, ◌∙◌, arith, inl, Option, Some, None, if◌then◌else◌}
use Rattle.std.specs.Prelude.{pos}
use Rattle.std.specs.Int.RustNames.{int_le}
use Rattle.rls_ident.specs.declared.limits.TheConstants.{OFFSETS_END}
use Rattle.rls_ident.specs.Identifiers.{least_offset}
use Rattle.rls_ident.specs.Lists.{IsIn}
use Rattle.rls_ident.proofs.Members.{and_true, in_all, int_le_test, le_test, lt_test}
use Rattle.rls_model.specs.declared.parts.Parts.{Parts}
use Rattle.rls_model.specs.declared.parts.Stem.{Stem}
use Rattle.rls_model.specs.Stems.{stands_before}
use Rattle.rls_seen.specs.Sane.{IsStem, AreStems}
use Rattle.rls_parts.specs.Rules.{is_stem_of, stands_behind, stem_fault}

stem_test : (p : Parts) → length p.vector ≡ p.members → (t : Stem) → IsStem p.vector t → is_stem_of p t ≡ true
stem_test p v t h =
    let l = h.author in
    let a = nat_lt t.author p.members in
    let b = nat_lt 0 t.s0 in
    let c = nat_le t.s0 (slice_index p.vector t.author) in
    let d = int_le least_offset t.low in
    let e = int_le t.low (pos 0) in
    let f = nat_lt 0 t.next in
    let g = nat_le t.next OFFSETS_END in
    and_true (a && b && c && d && e && f) g
    (and_true (a && b && c && d && e) f
    (and_true (a && b && c && d) e
    (and_true (a && b && c) d
    (and_true (a && b) c
    (and_true a b (lt_test t.author p.members (omega arith)) (lt_test 0 t.s0 h.begun))
    (le_test t.s0 (slice_index p.vector t.author) h.counted))
    (int_le_test least_offset t.low h.bottom))
    (int_le_test t.low (pos 0) h.low))
    (lt_test 0 t.next h.some))
    (le_test t.next OFFSETS_END h.end)

pub stems_pass : (p : Parts) → length p.vector ≡ p.members → (before : Option Stem) (i : ℕ) (ts : List Stem) → AreStems p.vector ts → ((t : Stem) → IsIn t ts → stands_behind before t ≡ true) → stem_fault p before i ts ≡ None
stems_pass p v before i [] h f = refl
stems_pass p v before i (t ∷ ts) h f =
    ap (λ b. if b then stem_fault p (Some t) (suc i) ts else Some i) (and_true (is_stem_of p t) (stands_behind before t) (stem_test p v t h.0) (f t (inl refl)))
    ∙ stems_pass p v (Some t) (suc i) ts h.2 (λ u q. in_all (λ (w : Stem). stands_before w.author w.s0 t) u ts h.1 q)
