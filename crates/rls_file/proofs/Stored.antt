-- The bytes of a replica's parts, part by part.
use Rattle.std.proofs.Common.{◌≡◌, ℕ, zero, suc, ◌+◌, ◌<◌, ◌≤◌, ◌^◌, false, inl, inr, List, [], ◌∷◌, ◌++◌, length, refl, ◌∙◌, append_assoc, arith}
use Rattle.std.specs.List.{flat_map, concat}
use Rattle.std.proofs.lemmas.List.{append-nil, length-append}
use Rattle.std.specs.Prelude.{All, ◌==◌}
use Rattle.std.proofs.lemmas.Bool.{cases_lt}
use Rattle.rls_ident.proofs.Members.{bool_cases, eq_not}
use Rattle.rls_ops.specs.Spelling.{four_bytes, counted, vector_bytes, op_bytes}
use Rattle.rls_codec.specs.Spelled.{IsSpelledIfFit}
use Rattle.rls_model.specs.declared.parts.Stem.{Stem}
use Rattle.rls_model.specs.Parts.{epoch_parts, text_runs}
use Rattle.rls_seen.specs.Seen.{Seen, members, vector, unstable_over}
use Rattle.rls_seen.specs.Sane.{IsSane, AreStems}
use Rattle.rls_seen.specs.Kept.{parts_over, retained_over, other_rows, left_below}
use Rattle.rls_fields.specs.Fields.{head_bytes, stem_bytes, own_of, others_of, stems_bytes, epoch_bytes, text_run_bytes, snapshot_bytes, file_bytes}
use Rattle.rls_fields.proofs.PlaceSums.{file_length}
use Rattle.rls_fields.specs.Written.{FitsRow, FitsFormer, FitsChars}
use Rattle.rls_file.specs.Sizes.{stored_size}
use Rattle.rls_file.specs.Stored.{FitFields}

pub stored_length : (s : Seen) → length (file_bytes (parts_over s)) ≡ stored_size s
unfolding parts_over
stored_length s = file_length (parts_over s) ∙ omega arith

-- all parts, put one after another
abbrev pub parts_bytes : Seen → List (List ℕ)
parts_bytes s =
    head_bytes 4 s.group (members s) s.acks.me ∷ vector_bytes (vector s) ∷ flat_map vector_bytes (other_rows s.acks (members s)) ∷ counted four_bytes (left_below s.acks (members s))
    ∷ stems_bytes 4 0 (members s) s.stems ∷ counted epoch_bytes (epoch_parts s.epochs.nodes (retained_over s)) ∷ counted text_run_bytes (text_runs s.text) ∷ counted op_bytes (unstable_over s) ∷ counted op_bytes s.waiting ∷ []

pub file_is : (s : Seen) → file_bytes (parts_over s) ≡ concat (parts_bytes s)
unfolding parts_over snapshot_bytes
file_is s = refl

pub nine_puts : (o p1 p2 p3 p4 p5 p6 p7 p8 p9 a1 a2 a3 a4 a5 a6 a7 a8 a9 : List ℕ) → p1 ≡ o ++ a1 → p2 ≡ p1 ++ a2 → p3 ≡ p2 ++ a3 → p4 ≡ p3 ++ a4 → p5 ≡ p4 ++ a5 → p6 ≡ p5 ++ a6 → p7 ≡ p6 ++ a7 → p8 ≡ p7 ++ a8 → p9 ≡ p8 ++ a9
    → p9 ≡ o ++ concat (a1 ∷ a2 ∷ a3 ∷ a4 ∷ a5 ∷ a6 ∷ a7 ∷ a8 ∷ a9 ∷ [])
nine_puts o p1 p2 p3 p4 p5 p6 p7 p8 p9 a1 a2 a3 a4 a5 a6 a7 a8 a9 h1 h2 h3 h4 h5 h6 h7 h8 h9 = rw (h9, h8, h7, h6, h5, h4, h3, h2, h1) (simp (append_assoc, append-nil))

-- what is known of the lists that were put
pub fields_fit : (s : Seen) → All FitsRow (other_rows s.acks (members s)) → All FitsFormer (epoch_parts s.epochs.nodes (retained_over s)) → All FitsChars (text_runs s.text) → All IsSpelledIfFit (unstable_over s) → All IsSpelledIfFit s.waiting → FitFields (parts_over s)
unfolding parts_over
fields_fit s r e t l h = record { rows = r; epochs = e; text = t; log = l; held = h }

-- ---- each stem of a replica is written

abbrev pub AreFrom : ℕ → ℕ → List Stem → Type 0
AreFrom a n [] = Unit {0}
AreFrom a n (s ∷ ss) = (a ≤ s.author) × (s.author < a + n) × AreFrom a n ss

pub from_stems : (v : List ℕ) (ss : List Stem) → AreStems v ss → AreFrom 0 (length v) ss
from_stems v [] h = tt
from_stems v (s ∷ ss) h = (omega arith, omega (arith, h.0.author), from_stems v ss h.2)

pub others_from : (a n : ℕ) (ss : List Stem) → AreFrom a (suc n) ss → AreFrom (suc a) n (others_of a ss)
others_from a n [] h = tt
others_from a n (s ∷ ss) h =
    let rest = others_from a n ss h.2 in
    bool_cases (s.author == a)
    (λ e. rw e rest)
    (λ e. rw e (not_lower e, omega (arith, h.1), rest))
  where
    not_lower : (s.author == a) ≡ false → suc a ≤ s.author
    not_lower e = elim (cases_lt a s.author) [
      | inl lt ↦ omega (arith, lt)
      | inr le ↦ absurd (eq_not s.author a e (omega (arith, le, h.0)))
    ]

pub both_counts : (a : ℕ) (ss : List Stem) → length ss ≡ length (own_of a ss) + length (others_of a ss)
both_counts a [] = refl
both_counts a (s ∷ ss) =
    let rest = both_counts a ss in
    bool_cases (s.author == a) (λ e. rw e (omega (arith, rest))) (λ e. rw e (omega (arith, rest)))

some_bytes : (ss : List Stem) → length ss ≤ length (flat_map (stem_bytes 4) ss)
some_bytes [] = omega arith
some_bytes (s ∷ ss) = omega (arith, length-append (stem_bytes 4 s) (flat_map (stem_bytes 4) ss), some_bytes ss)

all_written : (a n : ℕ) (ss : List Stem) → AreFrom a n ss → length ss ≤ length (stems_bytes 4 a n ss)
all_written a zero [] h = omega arith
all_written a zero (s ∷ ss) h = absurd (omega (arith, h.0, h.1))
all_written a (suc n) ss h =
    let own = own_of a ss in
    let rest = stems_bytes 4 (suc a) n (others_of a ss) in
    omega (arith, length-append (counted (stem_bytes 4) own) rest, length-append (four_bytes (length own)) (flat_map (stem_bytes 4) own), both_counts a ss, some_bytes own, all_written (suc a) n (others_of a ss) (others_from a n ss h))

pub few_stems : (s : Seen) → IsSane s → stored_size s < 2 ^ 32 → length s.stems < 2 ^ 32
few_stems s h small = omega (arith, all_written 0 (members s) s.stems (from_stems (vector s) s.stems h.stems), small)
