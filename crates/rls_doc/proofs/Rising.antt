-- Entries whose identifiers strictly increase.
use Rattle.std.proofs.Common.{◌≡◌, ℕ, zero, suc, Bool, true, List, [], ◌∷◌, ◌++◌, take, drop, ◌-◌, length, Some, slice_get, refl, sym, ap, subst, ◌∙◌, arith}
use Rattle.std.specs.Prelude.{filter}
use Rattle.std.specs.declared.cmp.Ordering.TheVariants.{Less}
use Rattle.std.specs.Ordering.{is_lt}
use Rattle.rls_ident.specs.declared.tuple.Tuple.{Tuple}
use Rattle.rls_ident.specs.Identifiers.{ident_lt, is_ident, ident_cmp}
use Rattle.std.specs.List.{list_all}
use Rattle.std.proofs.lemmas.List.{take-map, drop-map}
use Rattle.rls_ident.proofs.Members.{and_left, and_right, and_true, some_is}
use Rattle.rls_runs.specs.Runs.{is_increasing}
use Rattle.rls_runs.specs.Entries.{idents_in, with_idents}
use Rattle.rls_runs.specs.Places.{last_ident, is_above}
use Rattle.rls_runs.proofs.Sorted.{Entry, AreAbove, Rises, rises_of_increasing, increasing_of_rises, rises_filter, rises_drop}
pub use Rattle.rls_runs.proofs.Sorted.{rises_of_increasing as rising, increasing_of_rises as increasing}
use Rattle.rls_doc.specs.Documents.{KeepsOrder}

-- ---- some of the entries

pub increasing_filter : (t : Entry → Bool) (es : List Entry) → is_increasing (idents_in es) ≡ true → is_increasing (idents_in (filter t es)) ≡ true
increasing_filter t es h = increasing_of_rises (filter t es) (rises_filter t es (rises_of_increasing es h))

-- ---- other identifiers in the same order

pub increasing_mapped : (f : List Tuple → List Tuple) → KeepsOrder f → (es : List Entry) → list_all is_ident (idents_in es) ≡ true → is_increasing (idents_in es) ≡ true → is_increasing (idents_in (with_idents f es)) ≡ true
increasing_mapped f k [] i h = refl
increasing_mapped f k (x ∷ []) i h = refl
increasing_mapped f k (x ∷ (y ∷ es)) i h =
    let j = and_right (is_ident x.0) (list_all is_ident (idents_in (y ∷ es))) i in
    let l = k x.0 y.0 (and_left (is_ident x.0) (list_all is_ident (idents_in (y ∷ es))) i) (and_left (is_ident y.0) (list_all is_ident (idents_in es)) j) (and_left (ident_lt x.0 y.0) (is_increasing (idents_in (y ∷ es))) h) in
    and_true (ident_lt (f x.0) (f y.0)) (is_increasing (idents_in (with_idents f (y ∷ es)))) l (increasing_mapped f k (y ∷ es) j (and_right (ident_lt x.0 y.0) (is_increasing (idents_in (y ∷ es))) h))

-- ---- entries after the last one

pub behind_last : (es added : List Entry) (last first : Entry) → is_increasing (idents_in es) ≡ true → is_increasing (idents_in added) ≡ true → slice_get es (length es - 1) ≡ Some last → slice_get added 0 ≡ Some first → ident_cmp last.0 first.0 ≡ Less → is_increasing (idents_in (es ++ added)) ≡ true
behind_last [] added last first h a g f l = absurd (cc)
behind_last (x ∷ es) [] last first h a g f l = absurd (cc)
behind_last (x ∷ []) (y ∷ added) last first h a g f l =
    let p = some_is x last g in
    let q = some_is y first f in
    let k : ident_lt x.0 y.0 ≡ true = ap is_lt (ap (λ (z : Entry). ident_cmp z.0 y.0) p ∙ ap (λ (z : Entry). ident_cmp last.0 z.0) q ∙ l) in
    and_true (ident_lt x.0 y.0) (is_increasing (idents_in (y ∷ added))) k a
behind_last (x ∷ (y ∷ es)) (z ∷ added) last first h a g f l =
    let n : length (x ∷ (y ∷ es)) - 1 ≡ suc (length (y ∷ es) - 1) = omega arith in
    let k = ap (slice_get (x ∷ (y ∷ es))) (sym n) ∙ g in
    and_true (ident_lt x.0 y.0) (is_increasing (idents_in (y ∷ (es ++ z ∷ added)))) (and_left (ident_lt x.0 y.0) (is_increasing (idents_in (y ∷ es))) h)
    (behind_last (y ∷ es) (z ∷ added) last first (and_right (ident_lt x.0 y.0) (is_increasing (idents_in (y ∷ es))) h) a k f l)

-- ---- a part of the entries

above_take : (x : Entry) (n : ℕ) (es : List Entry) → AreAbove x es → AreAbove x (take n es)
above_take x zero es h = tt
above_take x (suc n) [] h = tt
above_take x (suc n) (y ∷ es) h = (h.0, above_take x n es h.1)

rises_take : (n : ℕ) (es : List Entry) → Rises es → Rises (take n es)
rises_take zero es h = tt
rises_take (suc n) [] h = tt
rises_take (suc n) (x ∷ es) h = (above_take x n es h.0, rises_take n es h.1)

pub increasing_part : (from count : ℕ) (es : List Entry) → is_increasing (idents_in es) ≡ true → is_increasing (idents_in (take count (drop from es))) ≡ true
increasing_part from count es h = increasing_of_rises (take count (drop from es)) (rises_take count (drop from es) (rises_drop from es (rises_of_increasing es h)))

pub idents_part : (from count : ℕ) (es : List Entry) → idents_in (take count (drop from es)) ≡ take count (drop from (idents_in es))
idents_part from count es = sym (ap (take count) (drop-map (λ e. e.0) from es) ∙ take-map (λ e. e.0) count (drop from es))

-- each identifier is above the last one before it
pub above_taken : (es : List Entry) (i : ℕ) (e : Entry) → is_increasing (idents_in es) ≡ true → slice_get es i ≡ Some e → is_above (last_ident (idents_in (take i es))) e.0 ≡ true
above_taken es zero e h g = refl
above_taken [] (suc i) e h g = absurd (cc)
above_taken (x ∷ []) (suc i) e h g = absurd (cc)
above_taken (x ∷ (y ∷ es)) (suc zero) e h g = subst (λ (z : Entry). ident_lt x.0 z.0 ≡ true) (some_is y e g) (and_left (ident_lt x.0 y.0) (is_increasing (idents_in (y ∷ es))) h)
above_taken (x ∷ (y ∷ es)) (suc (suc i)) e h g = above_taken (y ∷ es) (suc i) e (and_right (ident_lt x.0 y.0) (is_increasing (idents_in (y ∷ es))) h) g
