-- Large deletions, kept as values.
use Rattle.std.proofs.Common.{◌≡◌, ◌∙◌, ℕ, ◌+◌, zero, suc, ◌≤◌, List, [], ◌∷◌, ◌++◌, Option, Some, None, Ok, length, take, sym, ap, subst, arith}
use Rattle.std.specs.Prelude.{IfSome, slice_get, slice_range}
use Rattle.std.proofs.lemmas.List.Elements.{All-head, All-tail, All-push, All-weaker}
use Rattle.rls_ident.proofs.Members.{some_is}
use Rattle.rls_ops.specs.declared.op.Op.{Op}
use Rattle.rls_codec.specs.Reading.{op_fields_at}
use Rattle.rls_codec.proofs.Formats.{ok_is}
use Rattle.rls_log.specs.declared.entry.Entry.{Entry}
use Rattle.rls_log.specs.declared.large.LargeDeletion.{LargeDeletion}
use Rattle.rls_log.specs.Encoded.{op_spelled, part_of, op_in, IsEntry}
use Rattle.rls_log.specs.Large.{with_value, IsLarge, AreLarge, IsLargeWithin, AreLargeWithin}
use Rattle.rls_log.proofs.Entries.{one_after, one_within}

-- more bytes after these
pub values_after : (bytes more : List ℕ) (vs : List LargeDeletion) → AreLarge bytes vs → AreLarge (bytes ++ more) vs
values_after bytes more vs h =
    All-weaker (IsLarge bytes) (IsLarge (bytes ++ more))
    (λ v k. let m = one_after bytes more v.entry k.entry in record { entry = m.0; op = k.op ∙ sym m.1 }) vs h

-- only the first bytes
pub values_within : (bytes : List ℕ) (n : ℕ) (vs : List LargeDeletion) → n ≤ length bytes → AreLargeWithin bytes n vs → AreLarge (take n bytes) vs
values_within bytes n vs w h =
    All-weaker (IsLargeWithin bytes n) (IsLarge (take n bytes))
    (λ v k. let m = one_within bytes n v.entry w k.0.entry k.1 in record { entry = m.0; op = k.0.op ∙ sym m.1 }) vs h

-- one more
pub value_put : (bytes : List ℕ) (vs : List LargeDeletion) (e : Entry) (op : Option Op) → IsEntry bytes e → IfSome op (λ (o : Op). o ≡ op_in bytes e) → AreLarge bytes vs → AreLarge bytes (with_value vs e op)
value_put bytes vs e None k is h = h
value_put bytes vs e (Some o) k is h = All-push (IsLarge bytes) vs (record { entry = e; op = o }) h (record { entry = k; op = is })

pub value_put_within : (bytes : List ℕ) (m n : ℕ) (vs : List LargeDeletion) (e : Entry) (op : Option Op) → m ≤ n → IsEntry bytes e → e.start + e.len ≤ n → IfSome op (λ (o : Op). o ≡ op_in bytes e) → AreLargeWithin bytes m vs
    → AreLargeWithin bytes n (with_value vs e op)
value_put_within bytes m n vs e op l k end is h = go op is
  where
    wider : AreLargeWithin bytes n vs
    wider = All-weaker (IsLargeWithin bytes m) (IsLargeWithin bytes n) (λ v d. (d.0, omega (arith, d.1, l))) vs h

    go : (op : Option Op) → IfSome op (λ (o : Op). o ≡ op_in bytes e) → AreLargeWithin bytes n (with_value vs e op)
    go None is = wider
    go (Some o) is = All-push (IsLargeWithin bytes n) vs (record { entry = e; op = o }) wider (record { entry = k; op = is }, end)

-- the value at a place
pub large_at_place : (bytes : List ℕ) (vs : List LargeDeletion) (i : ℕ) (v : LargeDeletion) → slice_get vs i ≡ Some v → AreLarge bytes vs → IsLarge bytes v
large_at_place bytes [] i v h a = absurd cc
large_at_place bytes (w ∷ vs) zero v h a = subst (IsLarge bytes) (some_is w v h) (All-head (IsLarge bytes) w vs a)
large_at_place bytes (w ∷ vs) (suc i) v h a = large_at_place bytes vs i v h (All-tail (IsLarge bytes) w vs a)

-- the bytes of one place spell one operation
pub same_op : (bytes : List ℕ) (d e : Entry) → d.start ≡ e.start → d.len ≡ e.len → d.head.members ≡ e.head.members → op_in bytes d ≡ op_in bytes e
same_op bytes d e start len members =
    ap (λ s. op_spelled d.head.members (slice_range bytes s (s + d.len))) start ∙ ap (λ n. op_spelled d.head.members (slice_range bytes e.start (e.start + n))) len ∙ ap (λ m. op_spelled m (part_of bytes e)) members

-- a copy of an operation that is that of another entry
pub copied_is : (value : Option Op) (o p : Op) → IfSome value (λ (q : Op). q ≡ o) → p ≡ o → IfSome value (λ (q : Op). q ≡ p)
copied_is None o p h e = h
copied_is (Some q) o p h e = h ∙ sym e

-- what is read is one operation
pub same_found : (members : ℕ) (bytes : List ℕ) (x y : Op × List ℕ) → op_fields_at members bytes ≡ Ok x → op_fields_at members bytes ≡ Ok y → x.0 ≡ y.0
same_found members bytes x y h k = ap (λ (z : Op × List ℕ). z.0) (ok_is x y (sym h ∙ k))
