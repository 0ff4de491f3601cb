-- Whether the last tuple of each identifier of a run was used.
use Rattle.std.proofs.Common.{◌≡◌, ℕ, suc, zero, ◌<◌, ◌&&◌, Bool, true, List, refl, sym, ap, ◌∙◌, arith, Option, Some, None}
use Rattle.std.specs.Prelude.{ℤ, pos, ◌+ℤ◌, ◌<ℤ◌}
use Rattle.std.specs.Int.RustNames.{int_le, int_lt}
use Rattle.std.specs.List.{list_all}
use Rattle.std.proofs.lemmas.Int.{ints}
use Rattle.rls_ident.specs.declared.tuple.Tuple.{Tuple}
use Rattle.rls_ident.specs.Identifiers.{IsIdent, last_of, shifted}
use Rattle.rls_ident.specs.Tuples.{raised, replica_of, seq_of, offset_of}
use Rattle.rls_ident.proofs.Members.{and_left, and_right, and_true, int_le_is, int_le_test, int_lt_test, same_bool}
use Rattle.rls_ident.proofs.Shifted.{ident_shifted, last_shifted, last_offset, raised_replica, raised_seq}
use Rattle.rls_runs.specs.Runs.{run_idents}
use Rattle.rls_model.specs.declared.parts.Parts.{Parts}
use Rattle.rls_model.specs.declared.parts.Stem.{Stem}
use Rattle.rls_model.specs.Stems.{stem_of, has_used}
use Rattle.rls_parts.specs.Rules.{is_used_tuple}
use Rattle.rls_parts.specs.Used.{covers}
use Rattle.rls_parts.proofs.SaneEpochs.{int_less}

one_covered : (o : Option Stem) (k : ℤ) → (has_used o k && true) ≡ covers o k 1
one_covered None k = refl
one_covered (Some t) k =
    let a = int_le t.low k in
    let b = int_lt k (pos t.next) in
    let c = int_le (k +ℤ pos 1) (pos t.next) in
    same_bool ((a && b) && true) (a && c)
    (λ h. let ab = and_left (a && b) true h in
    let l = int_less k (pos t.next) (and_right a b ab) in
    and_true a c (and_left a b ab) (int_le_test (k +ℤ pos 1) (pos t.next) (omega (arith, ints))))
    (λ h. let l = int_le_is (k +ℤ pos 1) (pos t.next) (and_right a c h) in
    and_true (a && b) true (and_true a b (and_left a c h) (int_lt_test k (pos t.next) (omega (arith, ints)))) refl)

more_covered : (o : Option Stem) (k : ℤ) (m : ℕ) → (has_used o k && covers o (k +ℤ pos 1) (suc m)) ≡ covers o k (suc (suc m))
more_covered None k m = refl
more_covered (Some t) k m =
    let a = int_le t.low k in
    let b = int_lt k (pos t.next) in
    let c = int_le t.low (k +ℤ pos 1) in
    let d = int_le ((k +ℤ pos 1) +ℤ pos (suc m)) (pos t.next) in
    let e = int_le (k +ℤ pos (suc (suc m))) (pos t.next) in
    same_bool ((a && b) && (c && d)) (a && e)
    (λ h. let l = int_le_is ((k +ℤ pos 1) +ℤ pos (suc m)) (pos t.next) (and_right c d (and_right (a && b) (c && d) h)) in
    and_true a e (and_left a b (and_left (a && b) (c && d) h)) (int_le_test (k +ℤ pos (suc (suc m))) (pos t.next) (omega (arith, ints))))
    (λ h. let low = int_le_is t.low k (and_left a e h) in
    let l = int_le_is (k +ℤ pos (suc (suc m))) (pos t.next) (and_right a e h) in
    and_true (a && b) (c && d) (and_true a b (and_left a e h) (int_lt_test k (pos t.next) (omega (arith, ints))))
    (and_true c d (int_le_test t.low (k +ℤ pos 1) (omega (arith, ints))) (int_le_test ((k +ℤ pos 1) +ℤ pos (suc m)) (pos t.next) (omega (arith, ints)))))

abbrev pub stem_at : Parts → List Tuple → Option Stem
stem_at p x = stem_of p.stems (replica_of (last_of x)) (seq_of (last_of x))

same_stem : (p : Parts) (x : List Tuple) → stem_at p (shifted (pos 1) x) ≡ stem_at p x
same_stem p x =
    let e = last_shifted (pos 1) x in
    ap (λ t. stem_of p.stems (replica_of t) (seq_of t)) e
    ∙ (ap (λ r. stem_of p.stems r (seq_of (raised (pos 1) (last_of x)))) (raised_replica (pos 1) (last_of x)) ∙ ap (stem_of p.stems (replica_of (last_of x))) (raised_seq (pos 1) (last_of x)))

pub run_used : (p : Parts) (m : ℕ) (x : List Tuple) → IsIdent x → list_all (λ y. is_used_tuple p (last_of y)) (run_idents x (suc m)) ≡ covers (stem_at p x) (offset_of (last_of x)) (suc m)
run_used p zero x i = one_covered (stem_at p x) (offset_of (last_of x))
run_used p (suc m) x i =
    ap (λ b. has_used (stem_at p x) (offset_of (last_of x)) && b)
    (run_used p m (shifted (pos 1) x) (ident_shifted (pos 1) x i)
    ∙ (ap (λ o. covers o (offset_of (last_of (shifted (pos 1) x))) (suc m)) (same_stem p x) ∙ ap (λ k. covers (stem_at p x) k (suc m)) (last_offset (pos 1) x i)))
    ∙ more_covered (stem_at p x) (offset_of (last_of x)) m

-- the same of the run of a last tuple
pub run_so : (p : Parts) (x : List Tuple) (n : ℕ) (last : Tuple) (b : Bool) → IsIdent x → 0 < n → last_of x ≡ last → b ≡ covers (stem_of p.stems (replica_of last) (seq_of last)) (offset_of last) n → b ≡ list_all (λ y. is_used_tuple p (last_of y)) (run_idents x n)
run_so p x zero last b i l e h = absurd (omega arith)
run_so p x (suc m) last b i l e h = h ∙ (ap (λ t. covers (stem_of p.stems (replica_of t) (seq_of t)) (offset_of t) (suc m)) (sym e) ∙ sym (run_used p m x i))
