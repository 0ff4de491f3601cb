-- A context, compared count by count where it stands.
use Rattle.std.proofs.Common.{◌≡◌, ◌∙◌, ℕ, ◌+◌, ◌-◌, ◌<◌, ◌≤◌, Bool, true, false, List, [], ◌∷◌, ◌++◌, Ok, Err, length, take, drop, refl, sym, ap, arith}
use Rattle.std.specs.Prelude.{◌&&◌, nat_le, nat_lt, None, if◌then◌else◌}
use Rattle.std.specs.Int.{w32, from_be_bytes}
use Rattle.std.proofs.lemmas.List.{length-append}
use Rattle.rls_ident.proofs.Members.{bool_cases, not_lt_is, and_none}
use Rattle.rls_ident.specs.Vectors.{at_most}
use Rattle.rls_codec.specs.declared.fault.ReadError.TheVariants.{Fault}
use Rattle.rls_codec.specs.Reading.{Read, many_at, number_at, vector_at}
use Rattle.rls_codec.proofs.Loop.{with_front, goes_on_many, is_done, ends}
use Rattle.rls_codec.proofs.Formats.{ok_is}

-- the first counts, and the others with what the first leave
pub most_append : (xs ys ws : List ℕ) → at_most (xs ++ ys) ws ≡ (at_most xs ws && at_most ys (drop (length xs) ws))
most_append [] ys ws = refl
most_append (x ∷ xs) ys [] = refl
most_append (x ∷ xs) ys (w ∷ ws) = ap (λ b. nat_le x w && b) (most_append xs ys ws) ∙ regroup (nat_le x w) (at_most xs ws) (at_most ys (drop (length xs) ws))
  where
    regroup : (a b c : Bool) → (a && (b && c)) ≡ ((a && b) && c)
    regroup true b c = refl
    regroup false b c = refl

-- the counts so far, which are at most the others, and what is still to be read
pub record AtMostSoFar (bytes counts : List ℕ) (members i : ℕ) (rest : List ℕ) : Type 0 where
  pub front : List ℕ
  pub read : with_front front (many_at (number_at w32) (members - i) rest) ≡ vector_at members bytes
  pub place : length front ≡ i
  pub most : at_most front counts ≡ true

pub none_compared : (bytes counts : List ℕ) (members : ℕ) → AtMostSoFar bytes counts members 0 bytes
none_compared bytes counts members = record { front = []; read = (let n : members - 0 ≡ members = omega arith in ap (λ k. with_front [] (many_at (number_at w32) k bytes)) n ∙ alone (vector_at members bytes)); place = refl; most = refl }
  where
    alone : (r : Read (List ℕ)) → with_front [] r ≡ r
    alone (Ok x) = refl
    alone (Err e) = refl

-- each count is there
pub count_there : (bytes counts : List ℕ) (members i : ℕ) (rest v after : List ℕ) → i < members → AtMostSoFar bytes counts members i rest → vector_at members bytes ≡ Ok (v, after) → 4 ≤ length rest
count_there bytes counts members i rest v after l h e =
    bool_cases (nat_lt (length rest) 4)
    (λ short. let fails : number_at w32 rest ≡ Err (length rest) = ap (λ b. if b then Err (length rest) else Ok (from_be_bytes w32 (take 4 rest), drop 4 rest)) short in
    let broken = ends (λ before. number_at w32) (Fault (length rest)) h.front None members i rest (vector_at members bytes) l fails h.read in
    let both = sym e ∙ broken in absurd cc)
    (λ long. not_lt_is (length rest) 4 long)

-- one more that is at most the other
pub most_next : (bytes counts : List ℕ) (members i n : ℕ) (rest after : List ℕ) → i < members → number_at w32 rest ≡ Ok (n, after) → at_most (n ∷ []) (drop i counts) ≡ true → AtMostSoFar bytes counts members i rest → AtMostSoFar bytes counts members (i + 1) after
most_next bytes counts members i n rest after l e m h = record {
  front = h.front ++ n ∷ [];
  read = goes_on_many (number_at w32) h.front members i rest n after (vector_at members bytes) l e h.read;
  place = omega (arith, length-append h.front (n ∷ []), h.place);
  most = most_append h.front (n ∷ []) counts ∙ ap (λ b. b && at_most (n ∷ []) (drop (length h.front) counts)) h.most ∙ ap (λ k. at_most (n ∷ []) (drop k counts)) h.place ∙ m;
}

begins : (front v after : List ℕ) (r : Read (List ℕ)) → with_front front r ≡ Ok (v, after) → (zs : List ℕ) × (v ≡ front ++ zs)
begins front v after (Ok x) e = (x.0, sym (ap (λ (p : List ℕ × List ℕ). p.0) (ok_is (front ++ x.0, x.1) (v, after) e)))
begins front v after (Err left) e = absurd cc

-- one that isn't
pub most_ends : (bytes counts : List ℕ) (members i n : ℕ) (rest after v end : List ℕ) → i < members → number_at w32 rest ≡ Ok (n, after) → at_most (n ∷ []) (drop i counts) ≡ false → AtMostSoFar bytes counts members i rest → vector_at members bytes ≡ Ok (v, end) → at_most v counts ≡ false
most_ends bytes counts members i n rest after v end l e m h whole =
    let on = goes_on_many (number_at w32) h.front members i rest n after (vector_at members bytes) l e h.read in
    let b = begins (h.front ++ n ∷ []) v end (many_at (number_at w32) (members - (i + 1)) after) (on ∙ whole) in
    let one : at_most (h.front ++ n ∷ []) counts ≡ false = most_append h.front (n ∷ []) counts ∙ ap (λ k. at_most h.front counts && at_most (n ∷ []) (drop k counts)) h.place ∙ ap (λ c. at_most h.front counts && c) m ∙ and_none (at_most h.front counts) in
    ap (λ w. at_most w counts) b.1 ∙ most_append (h.front ++ n ∷ []) b.0 counts ∙ ap (λ c. c && at_most b.0 (drop (length (h.front ++ n ∷ [])) counts)) one

-- all of them
pub most_all : (bytes counts : List ℕ) (members i : ℕ) (rest v end : List ℕ) → members ≤ i → AtMostSoFar bytes counts members i rest → vector_at members bytes ≡ Ok (v, end) → at_most v counts ≡ true
most_all bytes counts members i rest v end l h whole =
    let done = is_done (λ before. number_at w32) h.front None members i rest (vector_at members bytes) l h.read in
    ap (λ w. at_most w counts) (sym (ap (λ (p : List ℕ × List ℕ). p.0) (ok_is (h.front, rest) (v, end) (sym done ∙ whole)))) ∙ h.most
