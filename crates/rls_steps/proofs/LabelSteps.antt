-- Names of a run, from one label to another.
use Rattle.std.proofs.Common.{◌≡◌, ℕ, ◌+◌, ◌-◌, ◌<◌, ◌≤◌, Bool, true, false, List, refl, sym, ap, ◌∙◌, subst, arith}
use Rattle.std.specs.Prelude.{ℤ, pos, ◌+ℤ◌, ◌-ℤ◌}
use Rattle.std.proofs.lemmas.Int.{ints}
use Rattle.rls_ident.specs.declared.tuple.Tuple.{Tuple}
use Rattle.rls_ident.specs.Tuples.{offset_of}
use Rattle.rls_ident.specs.Identifiers.{last_of, shifted}
use Rattle.rls_ident.proofs.Shifted.{shifted_shifted}
use Rattle.rls_steps.specs.NameRuns.{Stretch, IsStretch, IsWithin, label_by, name_by, name_at}

-- labels of a run are apart
pub labels_apart : (r : Stretch) (k m : ℕ) → IsStretch r.first r.label r.down r.len → k < r.len → m < r.len → (name_at r k).1 ≡ (name_at r m).1 → k ≡ m
labels_apart r k m s h g e = go r.down refl s.within
  where
    go : (d : Bool) → r.down ≡ d → IsWithin r.down (offset_of (last_of r.first)) r.label r.len → k ≡ m
    go false q w =
        let same : r.label + k ≡ r.label + m = ap (λ (c : Bool). label_by c r.label k) (sym q) ∙ (e ∙ ap (λ (c : Bool). label_by c r.label m) q) in
        omega (arith, same)
    go true q w =
        let same : r.label - k ≡ r.label - m = ap (λ (c : Bool). label_by c r.label k) (sym q) ∙ (e ∙ ap (λ (c : Bool). label_by c r.label m) q) in
        let room = (subst (λ (c : Bool). IsWithin c (offset_of (last_of r.first)) r.label r.len) q w).1 in
        omega (arith, same, room, h, g)

-- a label that is greater by so much is that of the identifier so far on
pub further : (d : Bool) (o : ℤ) (x : List Tuple) (l n p g m k : ℕ) → IsWithin d o l n → p < n → g < n → label_by d l p ≡ m → m + k ≤ label_by d l g → (i : ℕ) × (i < n) × (name_by d x l i ≡ (shifted (pos k) (name_by d x l p).0, m + k))
further false o x l n p g m k w a h e b =
    let by : pos p +ℤ pos k ≡ pos (p + k) = omega (arith, ints) in
    let sum : l + (p + k) ≡ m + k = omega (arith, e) in (
      p + k,
      omega (arith, h, e, b),
      ap (λ z. (shifted z x, l + (p + k))) (sym by) ∙ (ap (λ y. (y, l + (p + k))) (sym (shifted_shifted (pos k) (pos p) x)) ∙ ap (λ q. (shifted (pos k) (shifted (pos p) x), q)) sum),
    )
further true o x l n p g m k w a h e b =
    let room = w.1 in
    let by : (pos 0 -ℤ pos p) +ℤ pos k ≡ pos 0 -ℤ pos (p - k) = omega (arith, ints, room, a, h, e, b) in
    let sum : l - (p - k) ≡ m + k = omega (arith, room, a, h, e, b) in (
      p - k,
      omega (arith, a),
      ap (λ z. (shifted z x, l - (p - k))) (sym by) ∙ (ap (λ y. (y, l - (p - k))) (sym (shifted_shifted (pos k) (pos 0 -ℤ pos p) x)) ∙ ap (λ q. (shifted (pos k) (shifted (pos 0 -ℤ pos p) x), q)) sum),
    )

-- the identifier of a label is that of a lesser one so far on
pub named_further : (r : Stretch) (p g : ℕ) → IsStretch r.first r.label r.down r.len → p < r.len → g < r.len → (name_at r p).1 ≤ (name_at r g).1 → (name_at r g).0 ≡ shifted (pos ((name_at r g).1 - (name_at r p).1)) (name_at r p).0
named_further r p g s a h most =
    let m = (name_at r p).1 in
    let k = (name_at r g).1 - m in
    let all : m + k ≡ (name_at r g).1 = omega (arith, most) in
    let w = further r.down (offset_of (last_of r.first)) r.first r.label r.len p g m k s.within a h refl (omega (arith, all)) in
    let same = labels_apart r w.0 g s w.1 h (ap (λ (n : List Tuple × ℕ). n.1) w.2 ∙ all) in
    ap (λ i. (name_at r i).0) (sym same) ∙ ap (λ (n : List Tuple × ℕ). n.0) w.2
