use Rattle.std.proofs.Common.{◌≡◌, ℕ, zero, suc, ◌+◌, ◌-◌, List, [], ◌∷◌, ◌++◌, length, take, drop, min, sym, ap, ◌∙◌, subst, arith, length-drop}
use Rattle.std.specs.List.{All}
use Rattle.std.specs.Char.{IsScalar}
use Rattle.std.proofs.lemmas.List.{take_min, drop_min}
use Rattle.std.proofs.lemmas.List.Elements.{All-take, All-drop}
use Rattle.rls_blocks.proofs.block.part_of_text.Goals as goal

take_both : (n : ℕ) (xs ys : List ℕ) → take n (xs ++ ys) ≡ take n xs ++ take (n - length xs) ys
take_both zero xs ys = let e : 0 ≡ 0 - length xs = omega arith in ap (λ k. take k ys) e
take_both (suc n) [] ys = let e : suc n ≡ suc n - 0 = omega arith in ap (λ k. take k ys) e
take_both (suc n) (x ∷ xs) ys = let e : n - length xs ≡ suc n - length (x ∷ xs) = omega arith in ap (λ zs. x ∷ zs) (take_both n xs ys ∙ ap (λ k. take n xs ++ take k ys) e)

drop_both : (n : ℕ) (xs ys : List ℕ) → drop n (xs ++ ys) ≡ drop n xs ++ drop (n - length xs) ys
drop_both zero xs ys = let e : 0 ≡ 0 - length xs = omega arith in ap (λ k. xs ++ drop k ys) e
drop_both (suc n) [] ys = let e : suc n ≡ suc n - 0 = omega arith in ap (λ k. drop k ys) e
drop_both (suc n) (x ∷ xs) ys = let e : n - length xs ≡ suc n - length (x ∷ xs) = omega arith in drop_both n xs ys ∙ ap (λ k. drop n xs ++ drop k ys) e

-- a part of two lists is a part of each
joined_parts : (xs ys : List ℕ) (from len a b : ℕ) → a ≡ min from (length xs) → b ≡ min (from + len) (length xs)
    → take (b - a) (drop a xs) ++ take ((from + len - b) - (from - a)) (drop (from - a) ys) ≡ take len (drop from (xs ++ ys))
joined_parts xs ys from len a b p q =
    let rest = drop from xs in
    let l = length-drop from xs in
    let first : drop a xs ≡ rest = ap (λ k. drop k xs) p ∙ drop_min from xs in
    let n : b - a ≡ min len (length rest) = omega (arith, p, q, l) in
    let m : (from + len - b) - (from - a) ≡ len - length rest = omega (arith, p, q, l) in
    let k : from - a ≡ from - length xs = omega (arith, p) in
    ap (λ zs. take (b - a) zs ++ take ((from + len - b) - (from - a)) (drop (from - a) ys)) first ∙ ap (λ j. take j rest ++ take ((from + len - b) - (from - a)) (drop (from - a) ys)) n
    ∙ ap (λ zs. zs ++ take ((from + len - b) - (from - a)) (drop (from - a) ys)) (take_min len rest) ∙ ap (λ j. take len rest ++ take j (drop (from - a) ys)) m ∙ ap (λ j. take len rest ++ take (len - length rest) (drop j ys)) k
    ∙ sym (ap (take len) (drop_both from xs ys) ∙ take_both len rest (drop (from - length xs) ys))

-- what both parts come to
part : (xs ys zs new : List ℕ) (from len a b : ℕ) → xs ++ ys ≡ zs → a ≡ min from (length xs) → b ≡ min (from + len) (length xs) → new ≡ take (b - a) (drop a xs) ++ take ((from + len - b) - (from - a)) (drop (from - a) ys) → new ≡ take len (drop from zs)
part xs ys zs new from len a b e p q n = n ∙ joined_parts xs ys from len a b p q ∙ ap (λ cs. take len (drop from cs)) e

module _ (c : goal.In_ok-extend_from_slice-2) where
  parts : c.extend_from_slice-2.new.self.items ≡ take c.args.len (drop c.args.from c.args.text.now)
  parts = part c.as_slices.result.0.now c.as_slices.result.1.now c.args.text.now c.extend_from_slice-2.new.self.items c.args.from c.args.len c.min-front_from.result c.min-front_end.result c.as_slices.ensures.chars c.min-front_from.ensures c.min-front_end.ensures (c.in_ok-extend_from_slice-2.ensures.items ∙ ap (λ cs. cs ++ take ((c.args.from + c.args.len - c.min-front_end.result) - (c.args.from - c.min-front_from.result)) (drop (c.args.from - c.min-front_from.result) c.as_slices.result.1.now)) (c.in_ok-extend_from_slice.ensures.items ∙ ap (λ cs. cs ++ take (c.min-front_end.result - c.min-front_from.result) (drop c.min-front_from.result c.as_slices.result.0.now)) c.in_ok-part.ensures.items))

pub from_vec-requires : goal.from_vec-requires
from_vec-requires c = record { scalars = subst (All IsScalar) (sym (parts c)) (All-take IsScalar c.args.len (drop c.args.from c.args.text.now) (All-drop IsScalar c.args.from c.args.text.now c.len-len.ensures.scalars)) }

pub returns : goal.returns
returns c = record { part = c.from_vec.ensures.chars ∙ parts c.before }
