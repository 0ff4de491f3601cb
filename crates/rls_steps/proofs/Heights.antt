-- How far identifiers go: one that goes further than all names has no label.
use Rattle.std.proofs.Common.{◌≡◌, ℕ, ◌+◌, ◌-◌, ◌<◌, Bool, true, false, List, [], ◌∷◌, ◌++◌, inl, inr, ⊎_elim, refl, sym, ap, ◌∙◌, subst, arith}
use Rattle.std.specs.Prelude.{ℤ, pos, ◌+ℤ◌, ◌-ℤ◌, ◌≤ℤ◌, reverse, Option, Some, None}
use Rattle.std.proofs.lemmas.Int.{ints}
use Rattle.rls_ident.specs.declared.tuple.Tuple.{Tuple}
use Rattle.rls_ident.specs.Tuples.{offset_of, seq_of}
use Rattle.rls_ident.specs.Identifiers.{IsIdent, last_of, shifted}
use Rattle.rls_ident.specs.Lists.{IsIn}
use Rattle.rls_ident.proofs.Members.{in_left, in_split}
use Rattle.rls_ident.proofs.Shifted.{last_shifted, last_offset, raised_seq}
use Rattle.rls_steps.specs.declared.height.Height.{Height}
use Rattle.rls_steps.specs.Labelled.{Names, label_of}
use Rattle.rls_steps.specs.NameRuns.{Stretch, name_at, names_of, step_by}
use Rattle.rls_steps.specs.Heights.{AreUpTo, GoesOver, GoesTo, IsOver, IsUpTo}
use Rattle.rls_steps.proofs.Stretches.{in_names, reverse_in}
use Rattle.rls_steps.proofs.Found.{label_name}

-- ---- two heights

pub greater_to : (h k : Height) → GoesOver h k.seq k.offset → (s : ℕ) (o : ℤ) → GoesTo h s o → GoesTo k s o
greater_to h k (inl a) s o (inl b) = inl (omega (arith, a, b))
greater_to h k (inl a) s o (inr b) = let e = b.0 in inl (omega (arith, a, e))
greater_to h k (inr a) s o (inl b) = let e = a.0 in inl (omega (arith, e, b))
greater_to h k (inr a) s o (inr b) = let e = a.0 in let f = b.0 in let x = a.1 in let y = b.1 in inr (omega (arith, e, f), omega (arith, ints, x, y))

pub lesser_to : (h k : Height) → GoesTo h k.seq k.offset → (s : ℕ) (o : ℤ) → GoesTo k s o → GoesTo h s o
lesser_to h k (inl a) s o (inl b) = inl (omega (arith, a, b))
lesser_to h k (inl a) s o (inr b) = let e = b.0 in inl (omega (arith, a, e))
lesser_to h k (inr a) s o (inl b) = let e = a.0 in inl (omega (arith, e, b))
lesser_to h k (inr a) s o (inr b) = let e = a.0 in let f = b.0 in let x = a.1 in let y = b.1 in inr (omega (arith, e, f), omega (arith, ints, x, y))

not_both : (h : Height) (s : ℕ) (o : ℤ) → GoesOver h s o → GoesTo h s o → ⊥
not_both h s o (inl a) (inl b) = absurd (omega (arith, a, b))
not_both h s o (inl a) (inr b) = let e = b.0 in absurd (omega (arith, a, e))
not_both h s o (inr a) (inl b) = let e = a.0 in absurd (omega (arith, e, b))
not_both h s o (inr a) (inr b) = let x = a.1 in let y = b.1 in absurd (omega (arith, ints, x, y))

-- ---- names

pub over_free : (h : Height) (ns : Names) (x : List Tuple) → AreUpTo h ns → IsOver h x → label_of (reverse ns) x ≡ None
over_free h ns x up over = go (label_of (reverse ns) x) refl
  where
    go : (c : Option ℕ) → label_of (reverse ns) x ≡ c → c ≡ None
    go None e = refl
    go (Some l) e = absurd (not_both h (seq_of (last_of x)) (offset_of (last_of x)) over (up (x, l) (reverse_in (x, l) ns (label_name (reverse ns) x l e))))

pub up_to_more : (h g k : Height) (old new ns : Names) → AreUpTo h old → AreUpTo g ns → ((s : ℕ) (o : ℤ) → GoesTo h s o → GoesTo k s o) → ((s : ℕ) (o : ℤ) → GoesTo g s o → GoesTo k s o) → new ≡ old ++ ns → AreUpTo k new
up_to_more h g k old new ns a b own other e n p = ⊎_elim (λ q. own _ _ (a n q)) (λ q. other _ _ (b n q)) (in_split n old ns (subst (IsIn n) e p))

pub up_to_less : (h : Height) (old new : Names) (m : List Tuple × ℕ) → AreUpTo h old → old ≡ new ++ m ∷ [] → AreUpTo h new
up_to_less h old new m a e n p = a n (subst (IsIn n) (sym e) (in_left n new (m ∷ []) p))

pub up_to_one : (h : Height) (x : List Tuple) (l : ℕ) → h.seq ≡ seq_of (last_of x) → h.offset ≡ offset_of (last_of x) → AreUpTo h ((x, l) ∷ [])
up_to_one h x l s o n (inl e) = subst (λ (m : List Tuple × ℕ). IsUpTo h m.0) e (inr (sym s, omega (arith, ints, o)))
up_to_one h x l s o n (inr p) = absurd p

-- ---- the names of a run

shifted_seq : (k : ℤ) (x : List Tuple) → seq_of (last_of (shifted k x)) ≡ seq_of (last_of x)
shifted_seq k x = ap seq_of (last_shifted k x) ∙ raised_seq k (last_of x)

at_most : (h : Height) (x : List Tuple) (d : ℤ) → IsIdent x → h.seq ≡ seq_of (last_of x) → (offset_of (last_of x) +ℤ d) ≤ℤ h.offset → IsUpTo h (shifted d x)
at_most h x d i s b = let e = last_offset d x i in inr (shifted_seq d x ∙ sym s, omega (arith, ints, e, b))

at_least : (h : Height) (x : List Tuple) (s : ℕ) (o d : ℤ) → IsIdent x → s ≡ seq_of (last_of x) → o ≤ℤ (offset_of (last_of x) +ℤ d) → GoesOver h s o → IsOver h (shifted d x)
at_least h x s o d i e b (inl a) = let f = shifted_seq d x in inl (omega (arith, a, e, f))
at_least h x s o d i e b (inr a) = let f = shifted_seq d x in let g = last_offset d x i in let c = a.0 in let y = a.1 in inr (omega (arith, c, e, f), omega (arith, ints, b, g, y))

-- those of a run go as far as its greatest identifier
pub run_up_to : (r : Stretch) (h : Height) → IsIdent r.first → h.seq ≡ seq_of (last_of r.first) → ((k : ℕ) → k < r.len → (offset_of (last_of r.first) +ℤ step_by r.down k) ≤ℤ h.offset) → AreUpTo h (names_of r)
run_up_to r h i s f n p =
    let w = in_names r.down r.first r.label 0 r.len n p in
    let z : 0 + w.0 ≡ w.0 = omega arith in
    subst (λ (m : List Tuple × ℕ). IsUpTo h m.0) (ap (name_at r) (sym z) ∙ w.2) (at_most h r.first (step_by r.down w.0) i s (f w.0 w.1))

-- and further than all that its least one goes further than
pub run_over : (r : Stretch) (h : Height) (s : ℕ) (o : ℤ) → IsIdent r.first → s ≡ seq_of (last_of r.first) → ((k : ℕ) → k < r.len → o ≤ℤ (offset_of (last_of r.first) +ℤ step_by r.down k)) → GoesOver h s o → (k : ℕ) → k < r.len → IsOver h (name_at r k).0
run_over r h s o i e f over k g = at_least h r.first s o (step_by r.down k) i e (f k g) over

pub rises : (d : Bool) (o t : ℤ) (n k : ℕ) → d ≡ false → t ≡ o +ℤ pos (n - 1) → k < n → (o ≤ℤ (o +ℤ step_by d k)) × ((o +ℤ step_by d k) ≤ℤ t)
rises false o t n k e f h = (omega (arith, ints), omega (arith, ints, f, h))
rises true o t n k e f h = absurd (cc)

pub falls : (d : Bool) (o t : ℤ) (n k : ℕ) → d ≡ true → t ≡ o -ℤ pos (n - 1) → k < n → (t ≤ℤ (o +ℤ step_by d k)) × ((o +ℤ step_by d k) ≤ℤ o)
falls true o t n k e f h = (omega (arith, ints, f, h), omega (arith, ints))
falls false o t n k e f h = absurd (cc)
