-- A change that goes on with a draft.
use Rattle.std.proofs.Common.{◌≡◌, ◌∙◌, ◌+◌, ◌-◌, ◌≤◌, ℕ, zero, suc, List, [], ◌∷◌, ◌++◌, length, take, drop, sym, ap, arith, length-take}
use Rattle.std.proofs.lemmas.Grind.{common_steps}
use Rattle.std.proofs.lemmas.List.{append_assoc, drop-drop, drop_all, take-append-le}
use Rattle.std.specs.Prelude.{min}
use Rattle.rls_session.specs.declared.draft.Draft.{Draft}
use Rattle.rls_session.specs.Drafts.{MergesShown, shown_by}

-- the first n of two lists, and the rest
pub take_both : (n : ℕ) (xs ys : List ℕ) → take n (xs ++ ys) ≡ take n xs ++ take (n - length xs) ys
take_both n [] ys = grind (arith, common_steps)
take_both zero (x ∷ xs) ys = grind (arith, common_steps)
take_both (suc n) (x ∷ xs) ys = let e : suc n - length (x ∷ xs) ≡ n - length xs = omega arith in
    ap (λ zs. x ∷ zs) (take_both n xs ys) ∙ ap (λ k. take (suc n) (x ∷ xs) ++ take k ys) (sym e)

pub drop_both : (n : ℕ) (xs ys : List ℕ) → drop n (xs ++ ys) ≡ drop n xs ++ drop (n - length xs) ys
drop_both n [] ys = grind (arith, common_steps)
drop_both zero (x ∷ xs) ys = let e : 0 - length (x ∷ xs) ≡ 0 = omega arith in ap (λ k. (x ∷ xs) ++ drop k ys) (sym e)
drop_both (suc n) (x ∷ xs) ys = let e : suc n - length (x ∷ xs) ≡ n - length xs = omega arith in
    drop_both n xs ys ∙ ap (λ k. drop n xs ++ drop k ys) (sym e)

pub take_min : (m n : ℕ) (xs : List ℕ) → take m (take n xs) ≡ take (min m n) xs
take_min m n [] = grind (arith, common_steps)
take_min zero n (x ∷ xs) = let e : min 0 n ≡ 0 = omega arith in ap (λ k. take k (x ∷ xs)) (sym e)
take_min (suc m) zero (x ∷ xs) = let e : min (suc m) 0 ≡ 0 = omega arith in ap (λ k. take k (x ∷ xs)) (sym e)
take_min (suc m) (suc n) (x ∷ xs) = let e : min (suc m) (suc n) ≡ suc (min m n) = omega arith in ap (λ zs. x ∷ zs) (take_min m n xs) ∙ ap (λ k. take k (x ∷ xs)) (sym e)

-- what is shown before a place that the draft's text reaches
front : (p : Draft) (at : ℕ) (cs : List ℕ) → p.at + p.count ≤ length cs → at ≤ p.at + length p.text → take at (shown_by p cs) ≡ take (min at p.at) cs ++ take (at - p.at) p.text
front p at cs within low =
    take_both at (take p.at cs) (p.text ++ drop (p.at + p.count) cs)
    ∙ (ap (λ zs. zs ++ take (at - length (take p.at cs)) (p.text ++ drop (p.at + p.count) cs)) (take_min at p.at cs)
    ∙ (ap (λ n. take (min at p.at) cs ++ take (at - n) (p.text ++ drop (p.at + p.count) cs)) size
    ∙ ap (λ zs. take (min at p.at) cs ++ zs) (take-append-le (at - p.at) p.text (drop (p.at + p.count) cs) (omega arith))))
  where
    size : length (take p.at cs) ≡ p.at
    size = omega (arith, length-take p.at cs)

-- and behind a place from its beginning on
back : (p : Draft) (to : ℕ) (cs : List ℕ) → p.at + p.count ≤ length cs → p.at ≤ to → drop to (shown_by p cs) ≡ drop (to - p.at) p.text ++ drop (p.at + p.count + (to - (p.at + length p.text))) cs
back p to cs within high =
    drop_both to (take p.at cs) (p.text ++ drop (p.at + p.count) cs)
    ∙ (ap (λ zs. zs ++ drop (to - length (take p.at cs)) (p.text ++ drop (p.at + p.count) cs)) (drop_all to (take p.at cs) (omega (arith, size)))
    ∙ (ap (λ n. drop (to - n) (p.text ++ drop (p.at + p.count) cs)) size
    ∙ (drop_both (to - p.at) p.text (drop (p.at + p.count) cs)
    ∙ ap (λ zs. drop (to - p.at) p.text ++ zs) (drop-drop (to - p.at - length p.text) (p.at + p.count) cs
    ∙ ap (λ n. drop n cs) rest))))
  where
    size : length (take p.at cs) ≡ p.at
    size = omega (arith, length-take p.at cs)

    rest : p.at + p.count + (to - p.at - length p.text) ≡ p.at + p.count + (to - (p.at + length p.text))
    rest = omega arith

pub merges_shown : MergesShown
merges_shown p c cs within low high =
    ap (λ zs. take (min c.at p.at) cs ++ zs) (append_assoc (take (c.at - p.at) p.text) (c.text ++ drop (to - p.at) p.text) (drop n cs)
    ∙ ap (λ zs. take (c.at - p.at) p.text ++ zs) (append_assoc c.text (drop (to - p.at) p.text) (drop n cs)))
    ∙ (sym (append_assoc (take (min c.at p.at) cs) (take (c.at - p.at) p.text) (c.text ++ (drop (to - p.at) p.text ++ drop n cs)))
    ∙ (ap (λ zs. zs ++ (c.text ++ (drop (to - p.at) p.text ++ drop n cs))) (sym (front p c.at cs within low))
    ∙ ap (λ zs. take c.at (shown_by p cs) ++ (c.text ++ zs)) (ap (λ m. drop (to - p.at) p.text ++ drop m cs) count ∙ sym (back p to cs within high))))
  where
    to : ℕ
    to = c.at + c.count

    n : ℕ
    n = min c.at p.at + ((p.at - c.at) + (p.count + (to - (p.at + length p.text))))

    count : n ≡ p.at + p.count + (to - (p.at + length p.text))
    count = omega arith
