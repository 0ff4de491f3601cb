-- The numbers of the operations of a log: each operation was accepted, and those of one author come in order.
use Rattle.std.proofs.Common.{◌≡◌, ◌∙◌, ℕ, zero, suc, ◌+◌, ◌≤◌, List, [], ◌∷◌, length, take, Some, refl, ap, subst, inl, inr, arith}
use Rattle.std.specs.Prelude.{slice_get, slice_index}
use Rattle.rls_ident.specs.Lists.{IsIn}
use Rattle.rls_ident.specs.Vectors.{raise}
use Rattle.rls_ident.proofs.Members.{some_is}
use Rattle.rls_ident.proofs.Vectors.{index-raise_le, index-raise_same, length-raise}
use Rattle.rls_ops.specs.declared.op.Op.{Op}
use Rattle.rls_ops.proofs.Shaped.{shaped}
use Rattle.rls_seen.specs.Seen.{Seen, members, vector}
use Rattle.rls_seen.specs.Sane.{Follow, IsSane}
use Rattle.rls_seen.proofs.Logs.{follow_length}

grows : (n : ℕ) (from : List ℕ) (os : List Op) (to : List ℕ) (b : ℕ) → Follow n from os to → slice_index from b ≤ slice_index to b
grows n from [] to b f = subst (λ v. slice_index from b ≤ slice_index v b) f (omega arith)
grows n from (o ∷ os) to b f = let k = grows n (raise from o.author) os to b f.4 in let l = index-raise_le from o.author b in omega (arith, k, l)

-- none is above what was accepted of its author
numbers_upto : (n : ℕ) (from : List ℕ) (os : List Op) (to : List ℕ) (d : Op) → length from ≡ n → Follow n from os to → IsIn d os → d.seq ≤ slice_index to d.author
numbers_upto n from [] to d e f p = absurd p
numbers_upto n from (o ∷ os) to d e f (inl s) =
    let short = (shaped n o f.1).author in
    let k = index-raise_same from o.author (omega (arith, e, short)) in
    let l = grows n (raise from o.author) os to o.author f.4 in
    let m = f.2 in
    subst (λ (y : Op). y.seq ≤ slice_index to y.author) s (omega (arith, k, l, m))
numbers_upto n from (o ∷ os) to d e f (inr p) = numbers_upto n (raise from o.author) os to d (length-raise from o.author ∙ e) f.4 p

-- what was accepted before an operation
accepted_before : (n : ℕ) (from : List ℕ) (os : List Op) (to : List ℕ) (i : ℕ) (o : Op) → Follow n from os to → slice_get os i ≡ Some o → (v : List ℕ) × Follow n from (take i os) v × (o.seq ≡ slice_index v o.author + 1)
accepted_before n from [] to i o f g = absurd (cc)
accepted_before n from (x ∷ os) to zero o f g = (from, refl, subst (λ (y : Op). y.seq ≡ slice_index from y.author + 1) (some_is x o g) f.2)
accepted_before n from (x ∷ os) to (suc i) o f g = let r = accepted_before n (raise from x.author) os to i o f.4 g in (r.0, (f.0, f.1, f.2, f.3, r.1), r.2)

-- each operation was accepted
pub logged_upto : (s : Seen) (d : Op) → IsSane s → IsIn d s.log → d.seq ≤ slice_index (vector s) d.author
logged_upto s d sane p =
    let f = sane.log.1.follow in
    numbers_upto (members s) sane.log.0 s.log (vector s) d (follow_length (members s) sane.log.0 s.log (vector s) f) f p

-- one of the same author that comes before has no greater number
pub logged_before : (s : Seen) (n : ℕ) (d o : Op) → IsSane s → IsIn d (take n s.log) → slice_get s.log n ≡ Some o → d.author ≡ o.author → d.seq ≤ o.seq
logged_before s n d o sane p got a =
    let f = sane.log.1.follow in
    let r = accepted_before (members s) sane.log.0 s.log (vector s) n o f got in
    let l = numbers_upto (members s) sane.log.0 (take n s.log) r.0 d (follow_length (members s) sane.log.0 s.log (vector s) f) r.1 p in
    let m = r.2 in
    let e : slice_index r.0 d.author ≡ slice_index r.0 o.author = ap (slice_index r.0) a in
    omega (arith, l, m, e)
