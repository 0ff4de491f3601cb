-- Identifiers that are told by another one of their base.
use Rattle.std.proofs.Common.{◌≡◌, ℕ, ◌+◌, ◌-◌, ◌<◌, ◌≤◌, ◌^◌, true, List, sym, ap, ◌∙◌, arith}
use Rattle.std.specs.Prelude.{pos, ◌+ℤ◌, ◌-ℤ◌, ◌≤ℤ◌}
use Rattle.std.proofs.lemmas.Int.{ints}
use Rattle.rls_ident.specs.declared.tuple.Tuple.{Tuple}
use Rattle.rls_ident.specs.declared.tuple.Spot.{Spot}
use Rattle.rls_ident.specs.Tuples.{at_spot, raised, offset_of}
use Rattle.rls_ident.specs.Identifiers.{IsIdent, is_bounded, last_of, shifted, least_offset, greatest_offset}
use Rattle.rls_ident.proofs.Ends.{least_last}
use Rattle.rls_ident.proofs.Shifted.{shifted_shifted, last_shifted, last_offset}

module _ (x y : List Tuple) (n : ℕ) (is : shifted (pos n) x ≡ y) where
  pub last_is : (s t : Spot) → last_of x ≡ at_spot s → at_spot t ≡ raised (pos n) (at_spot s) → last_of y ≡ at_spot t
  last_is s t l r = ap last_of (sym is) ∙ last_shifted (pos n) x ∙ ap (raised (pos n)) l ∙ sym r

  pub offset_is : IsIdent x → offset_of (last_of y) ≡ offset_of (last_of x) +ℤ pos n
  offset_is i = ap (λ z. offset_of (last_of z)) (sym is) ∙ last_offset (pos n) x i

  -- one with a greater offset
  pub further : (m : ℕ) → shifted (pos (n + m)) x ≡ shifted (pos m) y
  further m =
      let s : pos (n + m) ≡ pos n +ℤ pos m = omega (arith, ints) in
      ap (λ k. shifted k x) s ∙ sym (shifted_shifted (pos m) (pos n) x) ∙ ap (shifted (pos m)) is

  pub further_most : (m : ℕ) → IsIdent x → (offset_of (last_of y) +ℤ pos m) ≤ℤ greatest_offset → (offset_of (last_of x) +ℤ pos (n + m)) ≤ℤ greatest_offset
  further_most m i h = let o = offset_is i in omega (arith, ints, o, h)

  pub further_fits : (m : ℕ) → IsIdent x → is_bounded x ≡ true → (offset_of (last_of y) +ℤ pos m) ≤ℤ greatest_offset → n + m < 2 ^ 32
  further_fits m i b h =
      let o = offset_is i in
      let l = least_last x i b in
      omega (arith, ints, o, h, l)

  -- one with a lesser offset
  pub nearer : (m : ℕ) → m ≤ n → shifted (pos (n - m)) x ≡ shifted (pos 0 -ℤ pos m) y
  nearer m h =
      let s : pos (n - m) ≡ pos n +ℤ (pos 0 -ℤ pos m) = omega (arith, ints, h) in
      ap (λ k. shifted k x) s ∙ sym (shifted_shifted (pos 0 -ℤ pos m) (pos n) x) ∙ ap (shifted (pos 0 -ℤ pos m)) is

  pub ahead : (m : ℕ) → n < m → shifted (pos 0 -ℤ pos (m - n)) x ≡ shifted (pos 0 -ℤ pos m) y
  ahead m h =
      let s : (pos 0 -ℤ pos (m - n)) ≡ pos n +ℤ (pos 0 -ℤ pos m) = omega (arith, ints, h) in
      ap (λ k. shifted k x) s ∙ sym (shifted_shifted (pos 0 -ℤ pos m) (pos n) x) ∙ ap (shifted (pos 0 -ℤ pos m)) is

  pub ahead_least : (m : ℕ) → n < m → IsIdent x → least_offset ≤ℤ (offset_of (last_of y) -ℤ pos m) → least_offset ≤ℤ (offset_of (last_of x) -ℤ pos (m - n))
  ahead_least m h i l = let o = offset_is i in omega (arith, ints, o, h, l)
