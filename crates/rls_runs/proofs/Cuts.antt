-- Parts of runs, and runs that touch.
use Rattle.std.proofs.Common.{◌≡◌, ℕ, ◌+◌, ◌<◌, ◌≤◌, ◌^◌, true, List, ap, ◌∙◌, arith}
use Rattle.std.specs.Prelude.{pos, ◌+ℤ◌, ◌-ℤ◌, ◌≤ℤ◌}
use Rattle.std.proofs.lemmas.Int.{ints}
use Rattle.rls_ident.specs.declared.tuple.Tuple.{Tuple}
use Rattle.rls_ident.specs.Tuples.{offset_of}
use Rattle.rls_ident.specs.Identifiers.{last_of, shifted, follows}
use Rattle.rls_ident.proofs.Shifted.{shifted_none, shifted_shifted}
use Rattle.rls_runs.specs.Runs.{run_last, is_run, past_offsets}
use Rattle.rls_runs.proofs.RunOrder.{run_ident}
use Rattle.rls_runs.proofs.RunEnds.{last_offset, run_end, run_short, longer_is, touched_is}

pub part_ends : (r : List Tuple × ℕ) (k n : ℕ) → is_run r ≡ true → k + n ≤ r.1 → (offset_of (last_of (shifted (pos k) r.0)) +ℤ pos n) ≤ℤ past_offsets
part_ends r k n h l =
    let e = run_end r h in
    let f = last_offset (pos k) r.0 (run_ident r h) in
    omega (arith, ints)

pub joined_is : (r s : List Tuple × ℕ) → is_run r ≡ true → is_run s ≡ true → follows s.0 (run_last r) ≡ true → is_run (r.0, r.1 + s.1) ≡ true
joined_is r s h k t = longer_is r s.0 s.1 h k (touched_is r s.0 h t)

pub joined_short : (r s : List Tuple × ℕ) → is_run r ≡ true → is_run s ≡ true → follows s.0 (run_last r) ≡ true → r.1 + s.1 < 2 ^ 32
joined_short r s h k t = run_short (r.0, r.1 + s.1) (joined_is r s h k t)

pub joined_ends : (r s : List Tuple × ℕ) → is_run r ≡ true → is_run s ≡ true → follows s.0 (run_last r) ≡ true → (offset_of (last_of r.0) +ℤ pos (r.1 + s.1)) ≤ℤ past_offsets
joined_ends r s h k t = run_end (r.0, r.1 + s.1) (joined_is r s h k t)

-- two runs that touch as one, told by the second of them
pub joined_front : (r s : List Tuple × ℕ) → is_run r ≡ true → follows s.0 (run_last r) ≡ true → ◌≡◌ {A = List Tuple × ℕ} (shifted (pos 0 -ℤ pos r.1) s.0, s.1 + r.1) (r.0, r.1 + s.1)
joined_front r s h t =
    let none : pos r.1 +ℤ (pos 0 -ℤ pos r.1) ≡ pos 0 = omega (arith, ints) in
    let both : s.1 + r.1 ≡ r.1 + s.1 = omega arith in
    let first = ap (shifted (pos 0 -ℤ pos r.1)) (touched_is r s.0 h t) ∙ shifted_shifted (pos 0 -ℤ pos r.1) (pos r.1) r.0 ∙ ap (λ k. shifted k r.0) none ∙ shifted_none r.0 in
    ap (λ x. (x, s.1 + r.1)) first ∙ ap (λ k. (r.0, k)) both
