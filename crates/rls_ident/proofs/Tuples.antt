-- Tuples are in a total order, and each At has a next one.
use Rattle.std.proofs.Common.{◌≡◌, ℕ, ◌<◌, List, [], ◌∷◌, ◌++◌, Ordering, refl, ap, subst, inl, inr, ◌⊎◌, ⊎_elim, arith, true}
use Rattle.std.specs.Prelude.{◌-ℤ◌, ℤ, pos, ◌+ℤ◌, ◌<ℤ◌}
use Rattle.std.specs.declared.cmp.Ordering.TheVariants.{Less, Equal, Greater}
use Rattle.std.specs.Ordering.{ordering_then, ordering_reverse, nat_cmp, int_cmp, MatchOrdering, is_lt}
use Rattle.std.specs.Cmp.{IsTotalOrder}
use Rattle.std.proofs.lemmas.Cmp.{tied_itself, lists_total, nat_cmp_total, int_cmp_total, on_total, then_total, ranked, int_ranked}
use Rattle.std.proofs.lemmas.Int.{ints}
use Rattle.rls_ident.specs.declared.tuple.Spot.{Spot}
use Rattle.rls_ident.specs.declared.tuple.Tuple.{Tuple}
use Rattle.rls_ident.specs.declared.tuple.Tuple.TheVariants.{Low, At, High}
use Rattle.rls_ident.specs.Tuples.{at_offset, spot, spot_cmp, tuple_cmp}
use Rattle.rls_ident.specs.Identifiers.{pred, IsIdent, ident_cmp, ident_lt}
use Rattle.rls_ident.proofs.Lists.{Letters, Lt, then_less, then_equal, lists_same}
use Rattle.rls_ident.proofs.Reach.{Words}
use Rattle.rls_ident.proofs.Gaps.{Step, Marks}
use Rattle.rls_ident.proofs.Members.{less_is}

pub spot_total : IsTotalOrder spot_cmp
unfolding spot_cmp
spot_total = then_total (on_total (λ s. s.pos) nat_cmp_total) (then_total (on_total (λ s. s.replica) nat_cmp_total) (then_total (on_total (λ s. s.seq) nat_cmp_total) (on_total (λ s. s.offset) int_cmp_total)))

pub nat_same : (x y : ℕ) → nat_cmp x y ≡ Equal → x ≡ y
nat_same x y e = subst (λ o. MatchOrdering o (x < y) (x ≡ y) (y < x)) e (ranked x y (nat_cmp x y) refl)

nat_lower : (x y : ℕ) → nat_cmp x y ≡ Less → x < y
nat_lower x y e = subst (λ o. MatchOrdering o (x < y) (x ≡ y) (y < x)) e (ranked x y (nat_cmp x y) refl)

int_same : (x y : ℤ) → int_cmp x y ≡ Equal → x ≡ y
int_same x y e = subst (λ o. MatchOrdering o (x <ℤ y) (x ≡ y) (y <ℤ x)) e (int_ranked x y (int_cmp x y) refl)

int_lower : (x y : ℤ) → int_cmp x y ≡ Less → x <ℤ y
int_lower x y e = subst (λ o. MatchOrdering o (x <ℤ y) (x ≡ y) (y <ℤ x)) e (int_ranked x y (int_cmp x y) refl)

made : ℕ → ℕ → ℕ → ℤ → Spot
made p r n o = record { pos = p; replica = r; seq = n; offset = o }

spot_same : (s t : Spot) → spot_cmp s t ≡ Equal → s ≡ t
unfolding spot_cmp made
spot_same s t h =
    let a = then_equal (nat_cmp s.pos t.pos) (ordering_then (nat_cmp s.replica t.replica) (ordering_then (nat_cmp s.seq t.seq) (int_cmp s.offset t.offset))) h in
    let b = then_equal (nat_cmp s.replica t.replica) (ordering_then (nat_cmp s.seq t.seq) (int_cmp s.offset t.offset)) a.1 in
    let c = then_equal (nat_cmp s.seq t.seq) (int_cmp s.offset t.offset) b.1 in
    let p = nat_same s.pos t.pos a.0 in
    let q = nat_same s.replica t.replica b.0 in
    let r = nat_same s.seq t.seq c.0 in
    let u = int_same s.offset t.offset c.1 in
    let f : made s.pos s.replica s.seq s.offset ≡ made t.pos t.replica t.seq t.offset = cc in
    f

pub tuple_same : (s t : Tuple) → tuple_cmp s t ≡ Equal → s ≡ t
unfolding tuple_cmp
tuple_same Low Low h = refl
tuple_same Low (At p2 r2 n2 o2) h = cc
tuple_same Low High h = cc
tuple_same (At p r n o) Low h = cc
tuple_same (At p r n o) (At q u m k) h = let e = spot_same (spot p r n o) (spot q u m k) h in let e0 = ap (λ s. s.pos) e in let e1 = ap (λ s. s.replica) e in let e2 = ap (λ s. s.seq) e in let e3 = ap (λ s. s.offset) e in cc
tuple_same (At p r n o) High h = cc
tuple_same High Low h = cc
tuple_same High (At p2 r2 n2 o2) h = cc
tuple_same High High h = refl

tuple_antisymm : (s t : Tuple) → tuple_cmp s t ≡ ordering_reverse (tuple_cmp t s)
unfolding tuple_cmp
tuple_antisymm Low Low = refl
tuple_antisymm Low (At p2 r2 n2 o2) = refl
tuple_antisymm Low High = refl
tuple_antisymm (At p r n o) Low = refl
tuple_antisymm (At p r n o) (At q u m k) = spot_total.antisymm (spot p r n o) (spot q u m k)
tuple_antisymm (At p r n o) High = refl
tuple_antisymm High Low = refl
tuple_antisymm High (At p2 r2 n2 o2) = refl
tuple_antisymm High High = refl

tuple_trans : (s t u : Tuple) → tuple_cmp s t ≡ Less → tuple_cmp t u ≡ Less → tuple_cmp s u ≡ Less
unfolding tuple_cmp
tuple_trans Low Low u h k = k
tuple_trans Low (At p2 r2 n2 o2) Low h k = cc
tuple_trans Low (At p2 r2 n2 o2) (At p3 r3 n3 o3) h k = refl
tuple_trans Low (At p2 r2 n2 o2) High h k = refl
tuple_trans Low High Low h k = cc
tuple_trans Low High (At p3 r3 n3 o3) h k = refl
tuple_trans Low High High h k = refl
tuple_trans (At p r n o) Low u h k = cc
tuple_trans (At p r n o) (At p2 r2 n2 o2) Low h k = cc
tuple_trans (At p r n o) (At p2 r2 n2 o2) (At p3 r3 n3 o3) h k = spot_total.trans (spot p r n o) (spot p2 r2 n2 o2) (spot p3 r3 n3 o3) h k
tuple_trans (At p r n o) (At p2 r2 n2 o2) High h k = refl
tuple_trans (At p r n o) High Low h k = cc
tuple_trans (At p r n o) High (At p3 r3 n3 o3) h k = cc
tuple_trans (At p r n o) High High h k = refl
tuple_trans High Low u h k = cc
tuple_trans High (At p2 r2 n2 o2) u h k = cc
tuple_trans High High u h k = cc

pub tuple_total : IsTotalOrder tuple_cmp
tuple_total = record { antisymm = tuple_antisymm; trans = tuple_trans; congr = λ s t u h. ap (λ x. tuple_cmp x u) (tuple_same s t h) }

abbrev pub tuples : Letters Tuple
tuples = record { cmp = tuple_cmp; total = tuple_total; same = tuple_same }

low_least : (t : Tuple) → tuple_cmp t Low ≡ Less → ⊥
unfolding tuple_cmp
low_least Low h = cc
low_least (At p r n o) h = cc
low_least High h = cc

high_greatest : (t : Tuple) → tuple_cmp High t ≡ Less → ⊥
unfolding tuple_cmp
high_greatest Low h = cc
high_greatest (At p r n o) h = cc
high_greatest High h = cc

pub marks : Marks tuples Low High
marks = record { least = low_least; greatest = high_greatest }

-- the offset alone is raised
pub int_less : (a b : ℤ) (o : Ordering) → MatchOrdering o (a <ℤ b) (a ≡ b) (b <ℤ a) → a <ℤ b → o ≡ Less
int_less a b Less m h = refl
int_less a b Equal m h = absurd (omega (arith, ints))
int_less a b Greater m h = absurd (omega (arith, ints))

spot_up : (s : Spot) (o o2 : ℤ) → o2 ≡ o +ℤ pos 1 → spot_cmp (record s { offset = o }) (record s { offset = o2 }) ≡ Less
unfolding spot_cmp
spot_up s o o2 e =
    let a = tied_itself nat_cmp_total s.pos in
    let b = tied_itself nat_cmp_total s.replica in
    let c = tied_itself nat_cmp_total s.seq in
    let l : o <ℤ o2 = omega (arith, ints) in
    let d = int_less o o2 (int_cmp o o2) (int_ranked o o2 (int_cmp o o2) refl) l in
    simp (a, b, c) d

Lower : Spot → Spot → Type 0
Lower s t = (s.pos < t.pos) ⊎ ((s.pos ≡ t.pos) × ((s.replica < t.replica) ⊎ ((s.replica ≡ t.replica) × ((s.seq < t.seq) ⊎ ((s.seq ≡ t.seq) × (s.offset <ℤ t.offset))))))

spot_lower : (s t : Spot) → spot_cmp s t ≡ Less → Lower s t
unfolding spot_cmp Lower
spot_lower s t h =
    ⊎_elim (λ l. inl (nat_lower s.pos t.pos l)) (λ a. inr (
      nat_same s.pos t.pos a.0,
      ⊎_elim (λ l. inl (nat_lower s.replica t.replica l)) (λ b. inr (
        nat_same s.replica t.replica b.0,
        ⊎_elim (λ l. inl (nat_lower s.seq t.seq l)) (λ c. inr (nat_same s.seq t.seq c.0, int_lower s.offset t.offset c.1))
            (then_less (nat_cmp s.seq t.seq) (int_cmp s.offset t.offset) b.1),
      ))
          (then_less (nat_cmp s.replica t.replica) (ordering_then (nat_cmp s.seq t.seq) (int_cmp s.offset t.offset)) a.1),
    ))
    (then_less (nat_cmp s.pos t.pos) (ordering_then (nat_cmp s.replica t.replica) (ordering_then (nat_cmp s.seq t.seq) (int_cmp s.offset t.offset))) h)

-- nothing lies between
lower_tight : (s e : Spot) (o o2 : ℤ) → o2 ≡ o +ℤ pos 1 → Lower (record s { offset = o }) e → Lower e (record s { offset = o2 }) → ⊥
unfolding Lower
lower_tight s e o o2 q (inl h) (inl k) = omega (arith, ints)
lower_tight s e o o2 q (inl h) (inr k) = omega (arith, ints)
lower_tight s e o o2 q (inr h) (inl k) = omega (arith, ints)
lower_tight s e o o2 q (inr h) (inr k) = grind (arith, ints)

spot_tight : (s e : Spot) (o o2 : ℤ) → o2 ≡ o +ℤ pos 1 → spot_cmp (record s { offset = o }) e ≡ Less → spot_cmp e (record s { offset = o2 }) ≡ Less → ⊥
spot_tight s e o o2 q h k = lower_tight s e o o2 q (spot_lower (record s { offset = o }) e h) (spot_lower e (record s { offset = o2 }) k)

at_up : (s : Spot) (o o2 : ℤ) → o2 ≡ o +ℤ pos 1 → tuple_cmp (at_offset s o) (at_offset s o2) ≡ Less
unfolding tuple_cmp
at_up s o o2 e = spot_up s o o2 e

at_tight : (s : Spot) (o o2 : ℤ) → o2 ≡ o +ℤ pos 1 → (e : Tuple) → tuple_cmp (at_offset s o) e ≡ Less → tuple_cmp e (at_offset s o2) ≡ Less → ⊥
unfolding tuple_cmp
at_tight s o o2 q Low h k = cc
at_tight s o o2 q (At p2 r2 n2 o3) h k = spot_tight s (spot p2 r2 n2 o3) o o2 q h k
at_tight s o o2 q High h k = cc

pub next : (s : Spot) (o o2 : ℤ) → o2 ≡ o +ℤ pos 1 → Step tuples (at_offset s o) (at_offset s o2)
next s o o2 e = record { less = at_up s o o2 e; tight = at_tight s o o2 e }

-- identifiers do not look at the front
words_some : (x : List Tuple) → IsIdent x → Lt tuples [] x
words_some [] i = cc
words_some (t ∷ x) i = record { less = refl }

words_add : (p x : List Tuple) → IsIdent x → IsIdent (p ++ x)
words_add [] x i = i
words_add (t ∷ []) [] i = cc
words_add (t ∷ []) (u ∷ x) i = i
words_add (t ∷ (u ∷ p)) x i = words_add (u ∷ p) x i

words_rest : (p x : List Tuple) → Lt tuples [] x → IsIdent (p ++ x) → IsIdent x
words_rest [] x l i = i
words_rest (t ∷ []) [] l i = let k = l.less in cc
words_rest (t ∷ []) (u ∷ x) l i = i
words_rest (t ∷ (u ∷ p)) x l i = words_rest (u ∷ p) x l i

pub words : Words tuples IsIdent
words = record { some = words_some; add = words_add; rest = words_rest }

-- an identifier by its last tuple
pub split_last : (b : List Tuple) → IsIdent b → (base : List Tuple) × (s : Spot) × (b ≡ base ++ (at_offset s s.offset ∷ [])) × (pred b ≡ base ++ (at_offset s (s.offset -ℤ pos 1) ∷ []))
split_last [] i = cc
split_last (Low ∷ []) i = cc
split_last (At p r n o ∷ []) i = ([], spot p r n o, refl, refl)
split_last (High ∷ []) i = cc
split_last (t ∷ (u ∷ x)) i = let r = split_last (u ∷ x) i in (t ∷ r.0, r.1, ap (λ z. t ∷ z) r.2, ap (λ z. t ∷ z) r.3)

-- ---- identifiers

pub ident_total : IsTotalOrder ident_cmp
ident_total = lists_total tuple_total

pub ident_same : (x y : List Tuple) → ident_cmp x y ≡ Equal → x ≡ y
ident_same x y e = lists_same tuples x y e

-- ---- the test of the order, and the order

pub lt_of : (x y : List Tuple) → ident_lt x y ≡ true → Lt tuples x y
lt_of x y h = record { less = less_is (ident_cmp x y) h }

pub of_lt : (x y : List Tuple) → Lt tuples x y → ident_lt x y ≡ true
of_lt x y h = ap is_lt h.less
