-- A file by its form.
use Rattle.std.proofs.Common.{◌≡◌, ℕ, ◌-◌, ◌≤◌, cond, List, length, Result, Ok, Err, refl, sym, ap, ◌∙◌, arith}
use Rattle.std.specs.Prelude.{nat_lt, nat_le, ◌==◌, codes}
use Rattle.std.specs.Int.{w32, w64}
use Rattle.std.proofs.lemmas.Bool.{and_parts, ltb-true}
use Rattle.rls_codec.specs.Reading.{Read, ◌>>=◌, with_rule, byte_at, number_at, magic_at, is_member_count, whole}
use Rattle.rls_codec.proofs.Formats.{bind_ok, kept_true}
use Rattle.rls_file.specs.Files.{Content}
use Rattle.rls_file.specs.ReadingFiles.{is_file_form, content_at, form_at, file_at, tested, file_of}
use Rattle.rls_file.specs.ReadingJournals.{after_form_at}

-- ---- after the form

abbrev pub after_form : ℕ → List ℕ → Read Content
after_form form bytes =
    number_at w64 bytes >>= λ group. with_rule is_member_count (number_at w32) group.1 >>= λ members. with_rule (λ n. nat_lt n members.0) (number_at w32) members.1 >>= λ me. content_at form group.0 members.0 me.0 (form == 1) me.1

assoc : {A B C : Type 0} (r : Result A ℕ) (f : A → Result B ℕ) (g : B → Result C ℕ) → ((r >>= f) >>= g) ≡ (r >>= λ x. f x >>= g)
assoc (Ok x) f g = refl
assoc (Err e) f g = refl

pub file_is : (bytes : List ℕ) → file_at bytes ≡ (form_at bytes >>= λ form. after_form form.0 form.1)
unfolding file_at
file_is bytes = sym (assoc (magic_at (codes "RLSF") bytes) (λ magic. with_rule is_file_form byte_at magic.1) (λ form. after_form form.0 form.1))

-- the form of a journal, where it is none of a snapshot
form_one : (bytes rest : List ℕ) (form : ℕ) → form_at bytes ≡ Ok (form, rest) → form ≤ 1 → form ≡ 1
form_one bytes rest form h le =
    let b = bind_ok (magic_at (codes "RLSF") bytes) (λ magic. with_rule is_file_form byte_at magic.1) (form, rest) h in
    let d = bind_ok (byte_at b.0.1) (λ x. cond (is_file_form x.0) (Ok x) (Err (length b.0.1))) (form, rest) b.2 in
    let k = kept_true (is_file_form d.0.0) (length b.0.1) d.0 (form, rest) d.2 in
    let some = ltb-true 0 d.0.0 (and_parts (nat_lt 0 d.0.0) (nat_le d.0.0 4) k.0).0 in
    let same : d.0.0 ≡ form = ap (λ (q : ℕ × List ℕ). q.0) k.1 in
    omega (arith, some, same, le)

pub journal_is : (bytes rest : List ℕ) (form : ℕ) → form_at bytes ≡ Ok (form, rest) → form ≤ 1 → file_at bytes ≡ after_form_at rest
unfolding after_form_at
journal_is bytes rest form h le =
    file_is bytes ∙ ap (λ r. r >>= λ f. after_form f.0 f.1) h ∙ ap (λ n. after_form n rest) (form_one bytes rest form h le)

-- ---- faults

pub fault_of : (bytes : List ℕ) (left : ℕ) → file_at bytes ≡ Err left → file_of bytes ≡ Err (length bytes - left)
unfolding file_of
fault_of bytes left h = ap (λ r. whole bytes r >>= tested) h
