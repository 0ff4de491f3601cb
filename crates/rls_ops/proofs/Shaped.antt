-- What the rules of shape say of an operation.
use Rattle.std.proofs.Common.{◌≡◌, ℕ, ◌+◌, ◌-◌, ◌<◌, ◌==◌, ◌&&◌, not, nat_lt, slice_index, Bool, true, false, List, length, refl, arith, Some, None, if◌then◌else◌}
use Rattle.rls_ident.specs.Vectors.{at_most}
use Rattle.rls_ident.proofs.Members.{and_left, and_right, eq_is, lt_is}
use Rattle.rls_ident.proofs.Vectors.{index_le}
use Rattle.rls_ops.specs.declared.op.Op.{Op}
use Rattle.rls_ops.specs.declared.op.Shape.{Shape}
use Rattle.rls_ops.specs.declared.op.Shape.TheVariants.{Author, Context, EmptyBody, TooLong, OffsetEnd}
use Rattle.rls_ops.specs.Shapes.{shape_fault, is_next_of, is_empty, body_limit, body_len, passes_end}

-- its author is a member, its number at least 1, and its context counts what its author did before
pub record IsShaped (n : ℕ) (o : Op) : Type 0 where
  pub author : o.author < n
  pub seq : 0 < o.seq
  pub context : length o.context ≡ n
  pub own : slice_index o.context o.author ≡ o.seq - 1
  pub some : is_empty o.body ≡ false
  pub few : nat_lt (body_limit o.body) (body_len o.body) ≡ false
  pub room : passes_end o.body ≡ false

shape_go : (a b c d e : Bool) (x : Shape) → (if not a then Some Author else if not b then Some Context else if c then Some EmptyBody else if d then Some x else if e then Some OffsetEnd else None) ≡ None
    → (a ≡ true) × (b ≡ true) × (c ≡ false) × (d ≡ false) × (e ≡ false)
shape_go true true true d e x h = absurd (cc)
shape_go true true false true e x h = absurd (cc)
shape_go true true false false true x h = absurd (cc)
shape_go true true false false false x h = (refl, refl, refl, refl, refl)
shape_go true false c d e x h = absurd (cc)
shape_go false b c d e x h = absurd (cc)

pub shaped : (n : ℕ) (o : Op) → shape_fault n o ≡ None → IsShaped n o
shaped n o e =
    let p = shape_go (nat_lt o.author n) (is_next_of o n) (is_empty o.body) (nat_lt (body_limit o.body) (body_len o.body)) (passes_end o.body) (TooLong (body_len o.body)) e in
    let q = and_left (nat_lt 0 o.seq && (length o.context == n)) (slice_index o.context o.author == o.seq - 1) p.1 in
    record {
      author = lt_is o.author n p.0;
      seq = lt_is 0 o.seq (and_left (nat_lt 0 o.seq) (length o.context == n) q);
      context = eq_is (length o.context) n (and_right (nat_lt 0 o.seq) (length o.context == n) q);
      own = eq_is (slice_index o.context o.author) (o.seq - 1) (and_right (nat_lt 0 o.seq && (length o.context == n)) (slice_index o.context o.author == o.seq - 1) p.1);
      some = p.2;
      few = p.3;
      room = p.4;
    }

-- where its causes are there and its number is new, it is the next of its author
pub next_of : (n : ℕ) (v : List ℕ) (o : Op) → shape_fault n o ≡ None → slice_index v o.author < o.seq → at_most o.context v ≡ true → o.seq ≡ slice_index v o.author + 1
next_of n v o e above causes =
    let h = shaped n o e in
    let own = h.own in
    let some = h.seq in
    let k = index_le o.context v o.author causes in
    omega arith
