-- The numbers of a legal history are in range, and its text has increasing identifiers.
use Rattle.std.proofs.Common.{◌≡◌, ℕ, zero, suc, ◌^◌, ◌<◌, Bool, true, false, List, [], ◌∷◌, map, take, drop, refl, sym, ap, subst, arith, inl, inr, ◌⊎◌, ⊎_elim, nat_eq}
use Rattle.std.specs.Prelude.{◌&&◌, ◌||◌, slice_index, All}
use Rattle.std.specs.List.{list_all}
use Rattle.std.proofs.lemmas.Bool.{and_parts, eqb-true}
use Rattle.std.proofs.lemmas.Grind.{get_or_default_zero}
use Rattle.rls_ident.specs.declared.tuple.Tuple.{Tuple}
use Rattle.rls_ident.specs.declared.epoch_name.EpochName.{EpochName}
use Rattle.rls_ident.specs.declared.epoch_name.EpochName.TheVariants.{Origin, Of}
use Rattle.rls_ident.specs.Identifiers.{is_ident, IsIdent, ident_lt}
use Rattle.rls_ident.specs.Lists.{IsIn}
use Rattle.rls_ident.specs.Vectors.{raise}
use Rattle.rls_ident.proofs.Members.{and_left, and_right, and_true}
use Rattle.rls_runs.specs.Runs.{is_increasing, AreIdents}
use Rattle.rls_rename.specs.Tree.{has_node, is_kept}
use Rattle.rls_ops.specs.declared.op.Body.{Body}
use Rattle.rls_ops.specs.declared.op.Body.TheVariants.{Insert, Delete, Rename, Leave}
use Rattle.rls_model.specs.History.{Accepted, Acknowledged, History, Then, count, count_of}
use Rattle.rls_model.specs.History as history
use Rattle.rls_model.specs.Epochs.{epochs, nodes_after, greatest}
use Rattle.rls_model.specs.Document.{export, idents}
use Rattle.rls_model.specs.WellFormed.{IsSmall, IsName}
use Rattle.rls_model.specs.Legal.{IsLegal}
use Rattle.rls_model.proofs.OneTree.{history_ident}
use Rattle.rls_model.proofs.Distinct.{known}
use Rattle.rls_runs.proofs.Sorted as sorted
use Rattle.rls_runs.proofs.Sorted.{Rises}
use Rattle.rls_model.proofs.SameOps.{export_rises, in_export, live_char, top_kept}

-- ---- counts

raise_cases : (v : List ℕ) (i j : ℕ) → (slice_index (raise v i) j ≡ slice_index v j) ⊎ ((i ≡ j) × (slice_index (raise v i) j ≡ suc (slice_index v j)))
raise_cases [] i j = inl refl
raise_cases (n ∷ ns) zero zero = inr (refl, refl)
raise_cases (n ∷ ns) zero (suc j) = inl refl
raise_cases (n ∷ ns) (suc i) zero = inl refl
raise_cases (n ∷ ns) (suc i) (suc j) = ⊎_elim (λ e. inl e) (λ p. inr (ap suc p.0, p.1)) (raise_cases ns i j)

zero_small : (n a : ℕ) → slice_index (history.count (history.Fresh 0 0 n)) a ≡ 0
zero_small zero a = refl
zero_small (suc n) zero = refl
zero_small (suc n) (suc a) = zero_small n a

pub count_small : (H : History) → IsLegal H → (a : ℕ) → count_of H a < 2 ^ 32
count_small (history.Fresh group me members) l a = omega (arith, zero_small members a)
count_small (Then G (Acknowledged b v)) l a = count_small G l.0 a
count_small (Then G (Accepted o)) l a =
    ⊎_elim (λ e. omega (arith, e, count_small G l.0 a))
    (λ p. let e = ap (λ b. slice_index (count G) b) p.0 in omega (arith, p.1, e, l.2.next, l.1.seq))
    (raise_cases (count G) o.author a)

pub counts_small : (H : History) → IsLegal H → All IsSmall (count H)
counts_small H l = λ k d h. let e = get_or_default_zero (count H) k d h in let f = count_small H l k in subst IsSmall (sym e) f

-- ---- names

named_small : (H : History) → IsLegal H → (a s : ℕ) → has_node (epochs H) (Of a s) ≡ true → IsSmall a × IsSmall s
named_small (history.Fresh group me members) l a s h = absurd (cc)
named_small (Then G (Acknowledged b v)) l a s h = named_small G l.0 a s h
named_small (Then G (Accepted o)) l a s h = go o.body h (named_small G l.0 a s)
  where
    new : (c : Bool) → (nat_eq o.author a && nat_eq o.seq s) ≡ c → (c || has_node (epochs G) (Of a s)) ≡ true → (has_node (epochs G) (Of a s) ≡ true → IsSmall a × IsSmall s) → IsSmall a × IsSmall s
    new false e k ih = ih k
    new true e k ih =
        let p = and_parts (nat_eq o.author a) (nat_eq o.seq s) e in
        (subst IsSmall (eqb-true o.author a p.0) l.1.author, subst IsSmall (eqb-true o.seq s p.1) l.1.seq)

    go : (b : Body) → has_node (nodes_after (epochs G) o b) (Of a s) ≡ true → (has_node (epochs G) (Of a s) ≡ true → IsSmall a × IsSmall s) → IsSmall a × IsSmall s
    go (Insert first text) k ih = ih k
    go (Delete targets) k ih = ih k
    go (Rename xs) k ih = new (nat_eq o.author a && nat_eq o.seq s) refl k ih
    go Leave k ih = ih k

kept_small : (H : History) → IsLegal H → (e : EpochName) → is_kept Origin (epochs H) e ≡ true → IsName e
kept_small H l Origin k = tt
kept_small H l (Of a s) k = named_small H l a s k

pub greatest_small : (H : History) → IsLegal H → IsName (greatest H)
greatest_small H l = kept_small H l (greatest H) (top_kept H)

-- ---- identifiers

abbrev id_of : List Tuple × ℕ → List Tuple
id_of x = x.0

lt_test : (x y : List Tuple × ℕ) → sorted.IsBelow x y → ident_lt x.0 y.0 ≡ true
lt_test x y h = let e = h.less in rw e refl

increasing_of : (xs : List (List Tuple × ℕ)) → Rises xs → is_increasing (map id_of xs) ≡ true
increasing_of [] r = refl
increasing_of (x ∷ []) r = refl
increasing_of (x ∷ (y ∷ ys)) r = and_true (ident_lt x.0 y.0) (is_increasing (map id_of (y ∷ ys))) (lt_test x y r.0.0) (increasing_of (y ∷ ys) r.1)

idents_of : (xs : List (List Tuple × ℕ)) → ((y : List Tuple × ℕ) → IsIn y xs → IsIdent y.0) → list_all is_ident (map id_of xs) ≡ true
idents_of [] f = refl
idents_of (x ∷ xs) f = and_true (is_ident x.0) (list_all is_ident (map id_of xs)) (f x (inl refl)) (idents_of xs (λ y p. f y (inr p)))

-- each identifier of the text is well formed
pub export_ident : (H : History) → IsLegal H → (y : List Tuple × ℕ) → IsIn y (export H) → IsIdent y.0
export_ident H l y p =
    let r = in_export H y p in
    subst IsIdent (ap (λ (z : List Tuple × ℕ). z.0) r.2) (history_ident H (r.0).epoch (greatest H) (r.0).ident l (known H l r.0 (live_char H r.0 r.1)).0)

pub idents_good : (H : History) → IsLegal H → AreIdents (idents H)
unfolding idents
idents_good H l = (idents_of (export H) (export_ident H l), increasing_of (export H) (export_rises H l))

-- so are those of a part
pub good_drop : (n : ℕ) (xs : List (List Tuple)) → AreIdents xs → AreIdents (drop n xs)
good_drop zero xs h = h
good_drop (suc n) [] h = h
good_drop (suc n) (x ∷ []) h = good_drop n [] (refl, refl)
good_drop (suc n) (x ∷ (y ∷ ys)) h = good_drop n (y ∷ ys) (and_right (is_ident x) (list_all is_ident (y ∷ ys)) h.0, and_right (ident_lt x y) (is_increasing (y ∷ ys)) h.1)

pub good_take : (n : ℕ) (xs : List (List Tuple)) → AreIdents xs → AreIdents (take n xs)
good_take zero xs h = (refl, refl)
good_take (suc n) [] h = h
good_take (suc zero) (x ∷ []) h = h
good_take (suc (suc n)) (x ∷ []) h = h
good_take (suc zero) (x ∷ (y ∷ ys)) h = (and_true (is_ident x) true (and_left (is_ident x) (list_all is_ident (y ∷ ys)) h.0) refl, refl)
good_take (suc (suc n)) (x ∷ (y ∷ ys)) h =
    let r = good_take (suc n) (y ∷ ys) (and_right (is_ident x) (list_all is_ident (y ∷ ys)) h.0, and_right (ident_lt x y) (is_increasing (y ∷ ys)) h.1) in (
      and_true (is_ident x) (list_all is_ident (take (suc n) (y ∷ ys))) (and_left (is_ident x) (list_all is_ident (y ∷ ys)) h.0) r.0,
      and_true (ident_lt x y) (is_increasing (take (suc n) (y ∷ ys))) (and_left (ident_lt x y) (is_increasing (y ∷ ys)) h.1) r.1,
    )
