-- Parts that are read one after the other, each after the last of those before it.
use Rattle.std.proofs.Common.{◌≡◌, ℕ, suc, ◌-◌, ◌+◌, ◌≤◌, ◌<◌, List, [], ◌∷◌, ◌++◌, length, Option, Some, Ok, Err, refl, sym, ap, ◌∙◌, append_assoc, arith}
use Rattle.std.specs.Prelude.{slice_get}
use Rattle.std.proofs.lemmas.List.{length-append, append-nil}
use Rattle.rls_epoch.proofs.Whole.{get_last}
use Rattle.rls_codec.specs.declared.fault.ReadError.{ReadError}
use Rattle.rls_codec.specs.declared.fault.ReadError.TheVariants.{Fault, OutOfMemory}
use Rattle.rls_codec.specs.Gives.{Fails}
use Rattle.rls_codec.specs.Reading.{◌>>=◌, Read, chain_at, counted_at}
use Rattle.rls_codec.proofs.Formats.{bind_ok, ok_is}
use Rattle.rls_codec.proofs.Loop.{goes_on}
use Rattle.rls_model.specs.declared.parts.Stem.{Stem}
use Rattle.rls_fields.specs.Listed.{latest, behind}
use Rattle.rls_fields.specs.ReadingFields.{stem_at, stems_at}

-- ---- the last of a list

latest_pushed : {A : Type 0} (xs : List A) (x : A) → latest (xs ++ x ∷ []) ≡ Some x
latest_pushed xs x =
    let place : length (xs ++ x ∷ []) - 1 ≡ length xs = omega (arith, length-append xs (x ∷ [])) in
    ap (slice_get (xs ++ x ∷ [])) place ∙ get_last xs x

pub reads_on : {A : Type 0} (part : Option A → List ℕ → Read A) (front : List A) (count i : ℕ) (bytes : List ℕ) (x : A) (after : List ℕ) (total : Read (List A)) → i < count → part (latest front) bytes ≡ Ok (x, after)
    → behind front (chain_at part (latest front) (count - i) bytes) ≡ total → behind (front ++ x ∷ []) (chain_at part (latest (front ++ x ∷ [])) (count - (i + 1)) after) ≡ total
reads_on part front count i bytes x after total lt h so_far =
    ap (λ b. behind (front ++ x ∷ []) (chain_at part b (count - (i + 1)) after)) (latest_pushed front x) ∙ goes_on part front (latest front) count i bytes x after total lt h so_far

-- ---- after what was read before

fails_behind : {A : Type 0} (front : List A) (read : Read (List A)) (left : ℕ) → behind front read ≡ Err left → read ≡ Err left
fails_behind front (Ok x) left e = absurd cc
fails_behind front (Err f) left e = cc

regroup : {A : Type 0} (front own : List A) (read : Read (List A)) → behind front (read >>= λ y. Ok (own ++ y.0, y.1)) ≡ behind (front ++ own) read
regroup {A} front own (Ok y) = ap (λ (xs : List A). Ok (xs, y.1)) (simp append_assoc)
regroup front own (Err f) = refl

module _ (form n i : ℕ) (front : List Stem) (bytes : List ℕ) (total : Read (List Stem)) where
  abbrev own : Read (List Stem)
  own = counted_at (λ before. stem_at form i) bytes

  -- the stems of the members from the next one on, after the own ones
  abbrev with_later : ℕ → Read (List Stem) → Read (List Stem)
  with_later m read = read >>= λ x. stems_at form (suc i) m x.1 >>= λ others. Ok (x.0 ++ others.0, others.1)

  pub stems_on : (more : List Stem) (after : List ℕ) → i < n → behind front own ≡ Ok (more, after) → behind front (stems_at form i (n - i) bytes) ≡ total → behind more (stems_at form (i + 1) (n - (i + 1)) after) ≡ total
  unfolding stems_at
  stems_on more after lt h so_far =
      let k : n - i ≡ suc (n - (i + 1)) = omega arith in
      let next : suc i ≡ i + 1 = omega arith in
      let b = bind_ok own (λ x. Ok (front ++ x.0, x.1)) (more, after) h in
      let p = ok_is (front ++ b.0.0, b.0.1) (more, after) b.2 in
      let one : behind front (stems_at form i (n - i) bytes) ≡ behind (front ++ b.0.0) (stems_at form (suc i) (n - (i + 1)) b.0.1) =
      ap (λ m. behind front (stems_at form i m bytes)) k ∙ ap (λ (r : Read (List Stem)). behind front (with_later (n - (i + 1)) r)) b.1 ∙ regroup front b.0.0 (stems_at form (suc i) (n - (i + 1)) b.0.1) in
      let two : behind (front ++ b.0.0) (stems_at form (suc i) (n - (i + 1)) b.0.1) ≡ behind more (stems_at form (i + 1) (n - (i + 1)) after) =
      ap (λ a. behind (front ++ b.0.0) (stems_at form a (n - (i + 1)) b.0.1)) next ∙ ap (λ (q : List Stem × List ℕ). behind q.0 (stems_at form (i + 1) (n - (i + 1)) q.1)) p in
      sym two ∙ sym one ∙ so_far

  pub stems_end : (e : ReadError) → i < n → Fails e (behind front own) → behind front (stems_at form i (n - i) bytes) ≡ total → Fails e total
  unfolding stems_at
  stems_end OutOfMemory lt h so_far = tt
  stems_end (Fault left) lt h so_far =
      let k : n - i ≡ suc (n - (i + 1)) = omega arith in
      let f = fails_behind front own left h in
      let one : behind front (stems_at form i (n - i) bytes) ≡ Err left = rw (k, f) refl in
      sym so_far ∙ one

  pub stems_done : n ≤ i → behind front (stems_at form i (n - i) bytes) ≡ total → total ≡ Ok (front, bytes)
  unfolding stems_at
  stems_done le so_far =
      let k : n - i ≡ 0 = omega arith in
      let one : behind front (stems_at form i (n - i) bytes) ≡ Ok (front, bytes) = rw k (ap (λ (xs : List Stem). Ok (xs, bytes)) (append-nil front)) in
      sym so_far ∙ one
