-- Rows that fit together after a change.
use Rattle.std.proofs.Common.{◌≡◌, ℕ, zero, suc, ◌<◌, List, [], ◌∷◌, length, get_or, set, replicate, refl, sym, ◌∙◌, subst, arith, cond, Bool, ◌++◌, true, false}
use Rattle.rls_ident.specs.Vectors.{join, raise}
use Rattle.rls_ident.proofs.Vectors.{length-raise, length-join}
use Rattle.std.specs.Prelude.{◌==◌}
use Rattle.std.proofs.lemmas.List.{length-replicate, length-set}
use Rattle.rls_ops.specs.Rows.{AcksSeen, AreRows, HaveLength, starting_at, raised, parted, noted, row_of}

pub row_length : (n : ℕ) (rows : List (List ℕ)) (i : ℕ) (d : List ℕ) → HaveLength n rows → i < length rows → length (get_or rows i d) ≡ n
row_length n [] i d h l = absurd (omega arith)
row_length n (v ∷ vs) zero d h l = h.0
row_length n (v ∷ vs) (suc i) d h l = row_length n vs i d h.1 (omega arith)

pub set_lengths : (n : ℕ) (rows : List (List ℕ)) (i : ℕ) (v : List ℕ) → HaveLength n rows → length v ≡ n → HaveLength n (set rows i v)
set_lengths n [] i v h l = tt
set_lengths n (w ∷ ws) zero v h l = (l, h.1)
set_lengths n (w ∷ ws) (suc i) v h l = (h.0, set_lengths n ws i v h.1 l)

pub same_lengths : (n k : ℕ) (v : List ℕ) → length v ≡ n → HaveLength n (replicate k v)
same_lengths n zero v l = tt
same_lengths n (suc k) v l = (l, same_lengths n k v l)

pub lengths_append : (n : ℕ) (xs ys : List (List ℕ)) → HaveLength n xs → HaveLength n ys → HaveLength n (xs ++ ys)
lengths_append n [] ys h k = k
lengths_append n (x ∷ xs) ys h k = (h.0, lengths_append n xs ys h.1 k)

pub length-row : (acks : AcksSeen) (a : ℕ) → AreRows acks → a < length acks.mine → length (row_of acks a) ≡ length acks.mine
length-row acks a h l = go (get_or acks.others a []) (a == acks.me) (row_length (length acks.mine) acks.others a [] h.counts_are (let e = h.rows in omega arith))
  where
    go : (x : List ℕ) (b : Bool) → length x ≡ length acks.mine → length (cond b acks.mine x) ≡ length acks.mine
    go x true e = refl
    go x false e = e

-- ---- rows

pub starting_rows : (me : ℕ) (mine : List ℕ) → me < length mine → AreRows (starting_at me mine)
starting_rows me mine h = record {
  member = h;
  rows = length-replicate (length mine) (replicate (length mine) 0);
  counts_are = same_lengths (length mine) (length mine) (replicate (length mine) 0) (length-replicate (length mine) 0);
  marks = length-replicate (length mine) false;
}

pub raised_rows : (acks : AcksSeen) (a : ℕ) → AreRows acks → AreRows (raised acks a)
raised_rows acks a r =
    let e = length-raise acks.mine a in
    let same : HaveLength (length (raise acks.mine a)) acks.others = subst (λ n. HaveLength n acks.others) (sym e) r.counts_are in
    record {
      member = omega (arith, e, r.member);
      rows = r.rows ∙ sym e;
      counts_are = same;
      marks = r.marks ∙ sym e;
    }

pub parted_rows : (acks : AcksSeen) (a : ℕ) → AreRows acks → AreRows (parted acks a)
parted_rows acks a r = record {
  member = r.member;
  rows = r.rows;
  counts_are = r.counts_are;
  marks = length-set acks.left a true ∙ r.marks;
}

pub noted_rows : (acks : AcksSeen) (a : ℕ) (v : List ℕ) → AreRows acks → a < length acks.mine → length v ≡ length acks.mine → AreRows (noted acks a v)
noted_rows acks a v r h l =
    let row = row_length (length acks.mine) acks.others a [] r.counts_are (omega (arith, r.rows)) in
    record {
      member = r.member;
      rows = length-set acks.others a (join (get_or acks.others a []) v) ∙ r.rows;
      counts_are = set_lengths (length acks.mine) acks.others a (join (get_or acks.others a []) v) r.counts_are (length-join (get_or acks.others a []) v (row ∙ sym l) ∙ l);
      marks = r.marks;
    }
