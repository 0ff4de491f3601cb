-- A format is a reader and a spelling that agree: what is spelled is read, and what is read is spelled so.
use Rattle.std.proofs.Common.{◌≡◌, ℕ, zero, suc, ◌+◌, ◌^◌, ◌<◌, ◌≤◌, Bool, true, false, cond, ltb, List, [], ◌∷◌, ◌++◌, length, take, drop, Option, Some, None, Result, Ok, Err, refl, sym, ap, subst, ◌∙◌, append_assoc, arith, inl, inr, leb-true, leb}
use Rattle.std.specs.List.{flat_map}
use Rattle.std.specs.Int.{Width, w32, w64, byte_len, from_be_bytes, to_be_bytes}
use Rattle.std.proofs.lemmas.Bool.{cases_lt, ltb-false, le-ltb, and_parts}
use Rattle.std.proofs.lemmas.List.{append-nil, take_at, drop_at, take-append-drop, length-append, length-take, get_or-drop, get_or-take, get_or_past}
use Rattle.std.proofs.lemmas.Nat.{be_bytes_4, be_bytes_8, from_be_bytes-to_be_bytes_4, from_be_bytes-to_be_bytes_8}
use Rattle.rls_ident.specs.declared.limits.TheConstants.{MEMBERS}
use Rattle.rls_ops.specs.Spelling.{counted}
use Rattle.rls_ops.specs.WellFormed.{IsSmall}
use Rattle.rls_codec.specs.CodecLaws.{IsBytes}
use Rattle.rls_codec.specs.Spelled.{Chained}
use Rattle.rls_codec.specs.Reading.{◌>>=◌, Read, with_rule, byte_at, number_at, bytes_at, chain_at, counted_at, is_member_count}

-- ---- lists of bytes

pub IsBytes-drop : (n : ℕ) (bytes : List ℕ) → IsBytes bytes → IsBytes (drop n bytes)
IsBytes-drop n bytes h i = rw get_or-drop (h (n + i))

pub IsBytes-take : (n : ℕ) (bytes : List ℕ) → IsBytes bytes → IsBytes (take n bytes)
IsBytes-take n bytes h i =
    elim (cases_lt i n) [
      | inl lt ↦ rw (get_or-take n bytes i 0 lt) (h i)
      | inr le ↦ rw (get_or_past (take n bytes) i 0 (omega (arith, length-take n bytes))) (omega arith)
    ]

pub IsBytes-tail : (b : ℕ) (bytes : List ℕ) → IsBytes (b ∷ bytes) → IsBytes bytes
IsBytes-tail b bytes h i = h (suc i)

-- what a reader took from the front
pub record Takes (bytes text rest : List ℕ) : Type 0 where
  pub parts : bytes ≡ text ++ rest
  pub rest_fits : IsBytes rest

-- ---- steps that did not fail

pub bind_ok : {A B : Type 0} (r : Result A ℕ) (f : A → Result B ℕ) (y : B) → (r >>= f) ≡ Ok y → (x : A) × (r ≡ Ok x) × (f x ≡ Ok y)
bind_ok (Ok x) f y e = (x, refl, e)
bind_ok (Err d) f y e = absurd cc

abbrev ok : {A : Type 0} → A → Result A ℕ
ok x = Ok x

pub ok_is : {A : Type 0} (x y : A) → ok x ≡ ok y → x ≡ y
ok_is x y e = cc

-- a test that keeps the value where it is true, or where it is false
pub kept_true : {A : Type 0} (b : Bool) (left : ℕ) (x y : A) → cond b (ok x) (Err left) ≡ ok y → (b ≡ true) × (x ≡ y)
kept_true true left x y e = (refl, cc)
kept_true false left x y e = absurd cc

pub kept_false : {A : Type 0} (b : Bool) (left : ℕ) (x y : A) → cond b (Err left) (ok x) ≡ ok y → (b ≡ false) × (x ≡ y)
kept_false true left x y e = absurd cc
kept_false false left x y e = (refl, cc)

-- ---- formats

pub record Spells {A : Type 0} (read : List ℕ → Read A) (spell : A → List ℕ) (Fits : A → Type 0) : Type 0 where
  -- what is spelled is read, and what follows stays
  pub again : (x : A) (rest : List ℕ) → Fits x → read (spell x ++ rest) ≡ Ok (x, rest)
  -- what is read is spelled so
  pub takes : (bytes : List ℕ) (x : A) (rest : List ℕ) → IsBytes bytes → read bytes ≡ Ok (x, rest) → Takes bytes (spell x) rest × Fits x

-- the value itself, which takes no byte
pub done : {A : Type 0} (v : A) → Spells (λ bytes. Ok (v, bytes)) (λ x. []) (λ x. x ≡ v)
done {A} v = record {
  again = λ x rest fits. rw fits refl;
  takes = λ bytes x rest h e.
      let p = ok_is (v, bytes) (x, rest) e in
      (record { parts = ap (λ (q : A × List ℕ). q.1) p; rest_fits = subst IsBytes (ap (λ (q : A × List ℕ). q.1) p) h }, sym (ap (λ (q : A × List ℕ). q.0) p));
}

-- a field that is a part of the value, and what follows it
pub field : {A B : Type 0} {r₁ : List ℕ → Read A} {s₁ : A → List ℕ} {F₁ : A → Type 0} {r₂ : A → List ℕ → Read B} {s₂ : B → List ℕ} {F₂ : A → B → Type 0} (part : B → A)
    → Spells r₁ s₁ F₁ → ((x : A) → F₁ x → Spells (r₂ x) s₂ (F₂ x)) → ((x : A) (y : B) → F₁ x → F₂ x y → part y ≡ x)
    → Spells (λ bytes. r₁ bytes >>= λ x. r₂ x.0 x.1) (λ y. s₁ (part y) ++ s₂ y) (λ y. F₁ (part y) × F₂ (part y) y)
field {r₁ = r₁} {s₁ = s₁} {F₁ = F₁} {r₂ = r₂} {s₂ = s₂} {F₂ = F₂} part one two is_part = record {
  again = λ y rest fits.
      ap (λ (bytes : List ℕ). r₁ bytes >>= λ x. r₂ x.0 x.1) (append_assoc (s₁ (part y)) (s₂ y) rest)
      ∙ ap (λ r. r >>= λ x. r₂ x.0 x.1) (one.again (part y) (s₂ y ++ rest) fits.0)
      ∙ (two (part y) fits.0).again y rest fits.1;
  takes = λ bytes y rest h e.
      let b = bind_ok (r₁ bytes) (λ x. r₂ x.0 x.1) (y, rest) e in
      let first = one.takes bytes b.0.0 b.0.1 h b.1 in
      let second = (two b.0.0 first.1).takes b.0.1 y rest first.0.rest_fits b.2 in
      let is : part y ≡ b.0.0 = is_part b.0.0 y first.1 second.1 in (
        record {
          parts = first.0.parts ∙ ap (λ (t : List ℕ). s₁ b.0.0 ++ t) second.0.parts ∙ sym (append_assoc (s₁ b.0.0) (s₂ y) rest) ∙ ap (λ x. (s₁ x ++ s₂ y) ++ rest) (sym is);
          rest_fits = second.0.rest_fits;
        },
        (subst F₁ (sym is) first.1, subst (λ x. F₂ x y) (sym is) second.1),
      );
}

-- the same format with another word for what fits
pub fitting : {A : Type 0} {r : List ℕ → Read A} {s : A → List ℕ} {F : A → Type 0} (G : A → Type 0) → Spells r s F → ((x : A) → F x → G x) → ((x : A) → G x → F x) → Spells r s G
fitting G one to from = record {
  again = λ x rest fits. one.again x rest (from x fits);
  takes = λ bytes x rest h e. let t = one.takes bytes x rest h e in (t.0, to x t.1);
}

-- the same format with an equal spelling
pub spelling : {A : Type 0} {r : List ℕ → Read A} {s : A → List ℕ} {F : A → Type 0} (t : A → List ℕ) → Spells r s F → ((x : A) → F x → s x ≡ t x) → Spells r t F
spelling {r = r} t one same = record {
  again = λ x rest fits. ap (λ w. r (w ++ rest)) (sym (same x fits)) ∙ one.again x rest fits;
  takes = λ bytes x rest h e.
      let u = one.takes bytes x rest h e in
      (record { parts = u.0.parts ∙ ap (λ w. w ++ rest) (same x u.1); rest_fits = u.0.rest_fits }, u.1);
}

-- the value seen as another
pub seen : {A B : Type 0} {r : List ℕ → Read A} {s : A → List ℕ} {F : A → Type 0} (G : B → Type 0) (to : A → B) (from : B → A)
    → Spells r s F → ((x : A) → F x → (from (to x) ≡ x) × G (to x)) → ((y : B) → G y → (to (from y) ≡ y) × F (from y))
    → Spells (λ bytes. r bytes >>= λ x. Ok (to x.0, x.1)) (λ y. s (from y)) G
seen {B = B} {r = r} {s = s} G to from one there back = record {
  again = λ y rest fits. ap (λ q. q >>= λ x. Ok (to x.0, x.1)) (one.again (from y) rest (back y fits).1) ∙ ap (λ z. Ok (z, rest)) (back y fits).0;
  takes = λ bytes y rest h e.
      let b = bind_ok (r bytes) (λ x. Ok (to x.0, x.1)) (y, rest) e in
      let t = one.takes bytes b.0.0 b.0.1 h b.1 in
      let p = ok_is (to b.0.0, b.0.1) (y, rest) b.2 in
      let k = there b.0.0 t.1 in
      let W : B × List ℕ → Type 0 = λ q. Takes bytes (s (from q.0)) q.1 × G q.0 in
      subst W p (record { parts = t.0.parts ∙ ap (λ w. s w ++ b.0.1) (sym k.0); rest_fits = t.0.rest_fits }, k.1);
}

-- a field with a rule
pub ruled : {A : Type 0} {r : List ℕ → Read A} {s : A → List ℕ} {F : A → Type 0} (rule : A → Bool) → Spells r s F → Spells (with_rule rule r) s (λ x. F x × (rule x ≡ true))
ruled {r = r} {s = s} {F = F} rule one = record {
  again = λ x rest fits. rw (one.again x rest fits.0, fits.1) refl;
  takes = λ bytes x rest h e.
      let b = bind_ok (r bytes) (λ y. cond (rule y.0) (Ok y) (Err (length bytes))) (x, rest) e in
      let g = kept_true (rule b.0.0) (length bytes) b.0 (x, rest) b.2 in
      let t = one.takes bytes b.0.0 b.0.1 h b.1 in
      subst (λ q. Takes bytes (s q.0) q.1 × (F q.0 × (rule q.0 ≡ true))) g.1 (t.0, (t.1, g.0));
}

-- what is read at the end is all of it, and a spelling isn't the front of another
pub only_one : {A : Type 0} {r : List ℕ → Read A} {s : A → List ℕ} {F : A → Type 0} → Spells r s F → (x y : A) (rest : List ℕ) → F x → F y → s x ++ rest ≡ s y → (x ≡ y) × (rest ≡ [])
only_one {A = A} {r = r} {s = s} one x y rest f g e =
    let p = ok_is (x, rest) (y, []) (sym (one.again x rest f) ∙ ap r (e ∙ sym (append-nil (s y))) ∙ one.again y [] g) in
    (ap (λ (q : A × List ℕ). q.0) p, ap (λ (q : A × List ℕ). q.1) p)

-- ---- single fields

pub byte : Spells byte_at (λ b. b ∷ []) (λ b. b < 256)
byte = record {
  again = λ x rest fits. refl;
  takes = byte_takes;
} where
  byte_takes : (bytes : List ℕ) (x : ℕ) (rest : List ℕ) → IsBytes bytes → byte_at bytes ≡ Ok (x, rest) → Takes bytes (x ∷ []) rest × (x < 256)
  byte_takes [] x rest h e = absurd cc
  byte_takes (b ∷ bs) x rest h e =
      subst (λ q. Takes (b ∷ bs) (q.0 ∷ []) q.1 × (q.0 < 256)) (ok_is (b, bs) (x, rest) e) (record { parts = refl; rest_fits = IsBytes-tail b bs h }, h 0)

pub record IsWide (w : Width) (limit : ℕ) : Type 0 where
  pub len : (n : ℕ) → length (to_be_bytes w n) ≡ byte_len w
  pub back : (bytes : List ℕ) → length bytes ≡ byte_len w → IsBytes bytes → to_be_bytes w (from_be_bytes w bytes) ≡ bytes
  pub again : (n : ℕ) → n < limit → from_be_bytes w (to_be_bytes w n) ≡ n
  pub below : (bytes : List ℕ) → IsBytes bytes → from_be_bytes w bytes < limit

pub wide32 : IsWide w32 (2 ^ 32)
wide32 = record {
  len = λ n. refl;
  back = λ bytes len fits. be_bytes_4 bytes _ len fits refl;
  again = λ n lt. from_be_bytes-to_be_bytes_4 n lt;
  below = λ bytes fits. omega (arith, fits 0, fits 1, fits 2, fits 3);
}

pub wide64 : IsWide w64 (2 ^ 64)
wide64 = record {
  len = λ n. refl;
  back = λ bytes len fits. be_bytes_8 bytes _ len fits refl;
  again = λ n lt. from_be_bytes-to_be_bytes_8 n lt;
  below = λ bytes fits. omega (arith, fits 0, fits 1, fits 2, fits 3, fits 4, fits 5, fits 6, fits 7);
}

number_takes : (w : Width) (limit : ℕ) (wide : IsWide w limit) (bytes : List ℕ) (n : ℕ) (rest : List ℕ) → IsBytes bytes → number_at w bytes ≡ Ok (n, rest) → Takes bytes (to_be_bytes w n) rest × (n < limit)
number_takes w limit wide bytes n rest fits e =
    let g = kept_false (ltb (length bytes) (byte_len w)) (length bytes) (from_be_bytes w (take (byte_len w) bytes), drop (byte_len w) bytes) (n, rest) e in
    let long : byte_len w ≤ length bytes = ltb-false _ _ g.0 in
    let n-is : from_be_bytes w (take (byte_len w) bytes) ≡ n = ap (λ (p : ℕ × List ℕ). p.0) g.1 in
    let rest-is : drop (byte_len w) bytes ≡ rest = ap (λ (p : ℕ × List ℕ). p.1) g.1 in
    let front : to_be_bytes w n ≡ take (byte_len w) bytes = rw (← n-is) (wide.back (take (byte_len w) bytes) (omega (arith, length-take (byte_len w) bytes)) (IsBytes-take (byte_len w) bytes fits)) in
    (record { parts = rw (front, ← rest-is) (sym (take-append-drop (byte_len w) bytes)); rest_fits = rw (← rest-is) (IsBytes-drop (byte_len w) bytes fits) }, rw (← n-is) (wide.below (take (byte_len w) bytes) (IsBytes-take (byte_len w) bytes fits)))

number_again : (w : Width) (limit : ℕ) (wide : IsWide w limit) (n : ℕ) (rest : List ℕ) → n < limit → number_at w (to_be_bytes w n ++ rest) ≡ Ok (n, rest)
number_again w limit wide n rest lt =
    let len = wide.len n in
    let long : ltb (length (to_be_bytes w n ++ rest)) (byte_len w) ≡ false = le-ltb _ _ (omega (arith, length-append (to_be_bytes w n) rest)) in
    rw (long, take_at (to_be_bytes w n) rest (byte_len w) len, drop_at (to_be_bytes w n) rest (byte_len w) len, wide.again n lt) refl

pub number : (w : Width) (limit : ℕ) → IsWide w limit → Spells (number_at w) (to_be_bytes w) (λ n. n < limit)
number w limit wide = record { again = number_again w limit wide; takes = number_takes w limit wide }

-- so many bytes
bytes_take : (n : ℕ) (bytes text rest : List ℕ) → IsBytes bytes → bytes_at n bytes ≡ Ok (text, rest) → Takes bytes text rest × (length text ≡ n)
bytes_take n bytes text rest h e =
    let g = kept_false (ltb (length bytes) n) (length bytes) (take n bytes, drop n bytes) (text, rest) e in
    let long : n ≤ length bytes = ltb-false _ _ g.0 in
    let len : length (take n bytes) ≡ n = omega (arith, length-take n bytes) in
    subst (λ (q : List ℕ × List ℕ). Takes bytes q.0 q.1 × (length q.0 ≡ n)) g.1 (record { parts = sym (take-append-drop n bytes); rest_fits = IsBytes-drop n bytes h }, len)

bytes_again : (n : ℕ) (text rest : List ℕ) → length text ≡ n → bytes_at n (text ++ rest) ≡ Ok (text, rest)
bytes_again n text rest len =
    let long : ltb (length (text ++ rest)) n ≡ false = le-ltb _ _ (omega (arith, length-append text rest)) in
    rw (long, take_at text rest n len, drop_at text rest n len) refl

pub raw : (n : ℕ) → Spells (bytes_at n) (λ bs. bs) (λ bs. length bs ≡ n)
raw n = record { again = bytes_again n; takes = bytes_take n }

-- ---- lists of parts

module _ {A : Type 0} (part : Option A → List ℕ → Read A) (spell : A → List ℕ) (F : Option A → A → Type 0) (one : (before : Option A) → Spells (part before) spell (F before)) where
  chain_again : (before : Option A) (n : ℕ) (xs : List A) (rest : List ℕ) → (length xs ≡ n) × Chained F before xs → chain_at part before n (flat_map spell xs ++ rest) ≡ Ok (xs, rest)
  unfolding chain_at
  chain_again before zero [] rest fits = refl
  chain_again before zero (x ∷ xs) rest fits = absurd (omega (arith, fits.0))
  chain_again before (suc n) [] rest fits = absurd (omega (arith, fits.0))
  chain_again before (suc n) (x ∷ xs) rest fits =
      ap (chain_at part before (suc n)) (append_assoc (spell x) (flat_map spell xs) rest)
      ∙ ap (λ r. r >>= λ first. chain_at part (Some first.0) n first.1 >>= λ others. Ok (first.0 ∷ others.0, others.1)) ((one before).again x (flat_map spell xs ++ rest) fits.1.0)
      ∙ ap (λ r. r >>= λ others. Ok (x ∷ others.0, others.1)) (chain_again (Some x) n xs rest (omega (arith, fits.0), fits.1.1))

  chain_takes : (before : Option A) (n : ℕ) (bytes : List ℕ) (xs : List A) (rest : List ℕ) → IsBytes bytes → chain_at part before n bytes ≡ Ok (xs, rest) → Takes bytes (flat_map spell xs) rest × ((length xs ≡ n) × Chained F before xs)
  unfolding chain_at
  chain_takes before zero bytes xs rest h e =
      subst (λ (q : List A × List ℕ). Takes bytes (flat_map spell q.0) q.1 × ((length q.0 ≡ 0) × Chained F before q.0)) (ok_is ([], bytes) (xs, rest) e) (record { parts = refl; rest_fits = h }, (refl, tt))
  chain_takes before (suc n) bytes xs rest h e =
      let a = bind_ok (part before bytes) (λ first. chain_at part (Some first.0) n first.1 >>= λ others. Ok (first.0 ∷ others.0, others.1)) (xs, rest) e in
      let b = bind_ok (chain_at part (Some a.0.0) n a.0.1) (λ others. Ok (a.0.0 ∷ others.0, others.1)) (xs, rest) a.2 in
      let first = (one before).takes bytes a.0.0 a.0.1 h a.1 in
      let others = chain_takes (Some a.0.0) n a.0.1 b.0.0 b.0.1 first.0.rest_fits b.1 in
      subst (λ (q : List A × List ℕ). Takes bytes (flat_map spell q.0) q.1 × ((length q.0 ≡ suc n) × Chained F before q.0)) (ok_is (a.0.0 ∷ b.0.0, b.0.1) (xs, rest) b.2)
      (record { parts = first.0.parts ∙ ap (λ (t : List ℕ). spell a.0.0 ++ t) others.0.parts ∙ sym (append_assoc (spell a.0.0) (flat_map spell b.0.0) b.0.1); rest_fits = others.0.rest_fits }, (ap suc others.1.0, (first.1, others.1.1)))

  pub chain : (before : Option A) (n : ℕ) → Spells (chain_at part before n) (flat_map spell) (λ xs. (length xs ≡ n) × Chained F before xs)
  chain before n = record { again = chain_again before n; takes = chain_takes before n }

  pub counted_parts : Spells (counted_at part) (counted spell) (λ xs. (length xs < 2 ^ 32) × Chained F None xs)
  counted_parts =
      fitting (λ xs. (length xs < 2 ^ 32) × Chained F None xs)
      (field length (number w32 (2 ^ 32) wide32) (λ n lt. chain None n) (λ n xs lt fits. fits.0))
      (λ xs fits. (fits.0, fits.1.1)) (λ xs fits. (fits.0, (refl, fits.1)))

pub small_count : (n : ℕ) → is_member_count n ≡ true → IsSmall n
small_count n e = omega (arith, leb-true n MEMBERS (and_parts (ltb 0 n) (leb n MEMBERS) e).1)

pub small_from : (from n : ℕ) → is_member_count n ≡ true → from < n → IsSmall from
small_from from n e h = omega (arith, leb-true n MEMBERS (and_parts (ltb 0 n) (leb n MEMBERS) e).1)
