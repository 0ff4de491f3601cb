-- The worked example of two sessions in turn.
use Rattle.std.proofs.Common.{◌≡◌, ◌<◌, ℕ, zero, suc, true, List, [], ◌∷◌, length, nat_lt, refl, inl, inr, arith}
use Rattle.std.specs.Prelude.{◌++◌, codes}
use Rattle.std.specs.Fmt.{digits}
use Rattle.std.specs.List.{list_all}
use Rattle.std.specs.Str.{chars, is_utf8}
use lib.Utf8.{encode}
use Rattle.rls_ident.proofs.Members.{and_left, and_right, lt_is}
use Rattle.rls_codec.specs.CodecLaws.{IsBytes}
use Rattle.rls_undo.specs.Computing as undo
use Rattle.rls_file.specs.Computing as file
use Rattle.rls_script.specs.Scripts.{number_of, text_of}
use Rattle.rls_session.specs.Answers.{answer}
use Rattle.rls_session.specs.Courses.{stretches}
use Rattle.rls_session.specs.Orders.{order_of}
use Rattle.rls_session.specs.Requests.{cut}
use Rattle.rls_groups.specs.Events.{Begins, Resumes}
use Rattle.rls_groups.specs.Examples.{SessionsAreEvents, answering, closing, does, opening}
use Rattle.rls_groups.specs.Lives.{begun, lived}
use Rattle.rls_groups.proofs.Between.{there_still}

are_bytes : (xs : List ℕ) → list_all (λ b. nat_lt b 256) xs ≡ true → IsBytes xs
are_bytes [] h i = omega arith
are_bytes (x ∷ xs) h zero = lt_is x 256 (and_left (nat_lt x 256) (list_all (λ b. nat_lt b 256) xs) h)
are_bytes (x ∷ xs) h (suc i) = are_bytes xs (and_right (nat_lt x 256) (list_all (λ b. nat_lt b 256) xs) h) i

-- both members are there, and stay
two : (i : ℕ) → i < 2 → i < length ((begun 7 2).group).files
two i h = h

-- each takes what may be handed on
pub sessions_are_events : SessionsAreEvents
unfolding undo.computing file.computing answer order_of cut is_utf8 chars encode digits number_of text_of stretches
sessions_are_events =
    let first = does 0 (Begins (opening ++ closing)) in
    let second = does 1 (Begins answering) in
    let third = does 0 (Resumes closing) in
    let fourth = does 1 (Resumes (codes "q\n")) in
    let a = begun 7 2 in
    let b = lived a first in
    let c = lived b second in
    let d = lived c third in
    let there = λ (i : ℕ) (h : i < 2). there_still i c third (there_still i b second (there_still i a first (two i h))) in (
      (
        λ y. record { member = two 0 (omega arith); given = (are_bytes (opening ++ closing) refl, (tt, (tt, tt))) },
        (
          λ y. record { member = there_still 1 a first (two 1 (omega arith)); given = (are_bytes answering refl, (inl refl, (tt, (tt, tt)))) },
          (
            λ y. record { member = there_still 0 b second (there_still 0 a first (two 0 (omega arith))); given = (are_bytes closing refl, (inr (inl refl), (tt, tt))) },
            (
              λ y. record { member = there 1 (omega arith); given = (are_bytes (codes "q\n") refl, tt) },
              (λ y. record { member = there_still 0 d fourth (there 0 (omega arith)); given = (are_bytes (codes "q\n") refl, tt) }, tt),
            ),
          ),
        ),
      ),
      refl,
      refl,
      refl,
    )
