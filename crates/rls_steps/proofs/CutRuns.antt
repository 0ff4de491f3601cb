-- A run of names that is cut in two.
use Rattle.std.proofs.Common.{◌≡◌, ℕ, zero, suc, ◌+◌, ◌-◌, ◌<◌, ◌≤◌, Bool, true, false, ◌∷◌, ◌++◌, List, length, refl, sym, ap, ◌∙◌, subst, arith}
use Rattle.std.specs.Prelude.{pos, ◌+ℤ◌, ◌-ℤ◌}
use Rattle.std.proofs.lemmas.Int.{ints}
use Rattle.rls_ident.specs.declared.tuple.Tuple.{Tuple}
use Rattle.rls_ident.specs.Identifiers.{shifted}
use Rattle.rls_ident.proofs.Shifted.{shifted_shifted, ident_shifted, last_offset}
use Rattle.rls_steps.specs.NameRuns.{Stretch, IsStretch, step_by, label_by, name_by, names_by, name_at, names_of}
use Rattle.rls_steps.proofs.Stretches.{names_long}

name_later : (d : Bool) (x : List Tuple) (l c k : ℕ) → name_by d (shifted (step_by d c) x) (label_by d l c) k ≡ name_by d x l (c + k)
name_later false x l c k =
    let e : pos c +ℤ pos k ≡ pos (c + k) = omega (arith, ints) in
    let f : (l + c) + k ≡ l + (c + k) = omega arith in
    ap (λ y. (y, (l + c) + k)) (shifted_shifted (pos k) (pos c) x ∙ ap (λ z. shifted z x) e) ∙ ap (λ m. (shifted (pos (c + k)) x, m)) f
name_later true x l c k =
    let e : (pos 0 -ℤ pos c) +ℤ (pos 0 -ℤ pos k) ≡ pos 0 -ℤ pos (c + k) = omega (arith, ints) in
    let f : (l - c) - k ≡ l - (c + k) = omega arith in
    ap (λ y. (y, (l - c) - k)) (shifted_shifted (pos 0 -ℤ pos k) (pos 0 -ℤ pos c) x ∙ ap (λ z. shifted z x) e) ∙ ap (λ m. (shifted (pos 0 -ℤ pos (c + k)) x, m)) f

names_later : (d : Bool) (x : List Tuple) (l c k n : ℕ) → names_by d (shifted (step_by d c) x) (label_by d l c) k n ≡ names_by d x l (c + k) n
names_later d x l c k zero = refl
names_later d x l c k (suc n) =
    let e : c + suc k ≡ suc (c + k) = omega arith in
    ap (λ m. m ∷ names_by d (shifted (step_by d c) x) (label_by d l c) (suc k) n) (name_later d x l c k)
    ∙ ap (λ ms. name_by d x l (c + k) ∷ ms) (names_later d x l c (suc k) n ∙ ap (λ j. names_by d x l j n) e)

names_split : (d : Bool) (x : List Tuple) (l k c n : ℕ) → names_by d x l k (c + n) ≡ names_by d x l k c ++ names_by d x l (k + c) n
names_split d x l k zero n =
    let e : zero + n ≡ n = omega arith in
    let f : k ≡ k + zero = omega arith in
    ap (names_by d x l k) e ∙ ap (λ j. names_by d x l j n) f
names_split d x l k (suc c) n =
    let e : suc c + n ≡ suc (c + n) = omega arith in
    let f : suc k + c ≡ k + suc c = omega arith in
    ap (names_by d x l k) e ∙ ap (λ ms. name_by d x l k ∷ ms) (names_split d x l (suc k) c n ∙ ap (λ j. names_by d x l (suc k) c ++ names_by d x l j n) f)

pub cut_names : (r : Stretch) (c m : ℕ) (y : List Tuple) → y ≡ (name_at r c).0 → m ≡ (name_at r c).1 → c ≤ r.len → names_of r ≡ names_by r.down r.first r.label 0 c ++ names_by r.down y m 0 (r.len - c)
cut_names r c m y e f h =
    let n = r.len - c in
    let size : r.len ≡ c + n = omega (arith, h) in
    let z : c + 0 ≡ 0 + c = omega arith in
    ap (names_by r.down r.first r.label 0) size
    ∙ (names_split r.down r.first r.label 0 c n
    ∙ ap (λ ms. names_by r.down r.first r.label 0 c ++ ms)
    (ap (λ j. names_by r.down r.first r.label j n) (sym z)
    ∙ (sym (names_later r.down r.first r.label c 0 n) ∙ (ap (λ x. names_by r.down x (label_by r.down r.label c) 0 n) (sym e) ∙ ap (λ l. names_by r.down y l 0 n) (sym f)))))

pub cut_fewer : (r : Stretch) (c m : ℕ) (y : List Tuple) → 0 < c → c < r.len → length (names_by r.down y m 0 (r.len - c)) < r.len
cut_fewer r c m y h g = let long = names_long r.down y m 0 (r.len - c) in omega (arith, long, h, g)

cut_within : (d : Bool) (x : List Tuple) (l n c : ℕ) → IsStretch x l d n → c < n → IsStretch (shifted (step_by d c) x) (label_by d l c) d (n - c)
cut_within false x l n c s h =
    let a = s.within.0 in
    let b = s.within.1 in
    let o = last_offset (pos c) x s.ident in
    record { some = omega (arith, h); ident = ident_shifted (pos c) x s.ident; within = (omega (arith, ints, a, o, h), omega (arith, b, h)) }
cut_within true x l n c s h =
    let a = s.within.0 in
    let b = s.within.1 in
    let o = last_offset (pos 0 -ℤ pos c) x s.ident in
    record { some = omega (arith, h); ident = ident_shifted (pos 0 -ℤ pos c) x s.ident; within = (omega (arith, ints, a, o, h), omega (arith, b, h)) }

pub cut_sound : (r : Stretch) (c m : ℕ) (y : List Tuple) → IsStretch r.first r.label r.down r.len → y ≡ (name_at r c).0 → m ≡ (name_at r c).1 → c < r.len → IsStretch y m r.down (r.len - c)
cut_sound r c m y s e f h =
    subst (λ l. IsStretch y l r.down (r.len - c)) (sym f) (subst (λ x. IsStretch x (label_by r.down r.label c) r.down (r.len - c)) (sym e) (cut_within r.down r.first r.label r.len c s h))
