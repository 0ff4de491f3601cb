-- How many characters and former identifiers there are.
use Rattle.std.proofs.Common.{◌≡◌, ℕ, ◌+◌, ◌*◌, ◌^◌, ◌<◌, ◌≤◌, ◌-◌, not, nat_lt, Bool, true, false, cond, List, [], ◌∷◌, length, map, arith}
use Rattle.std.specs.Prelude.{All, filter, zip, sum, sum_by}
use Rattle.std.proofs.lemmas.List.{length-map}
use Rattle.std.proofs.lemmas.List.Sums.{sum_by-cons, sum_by-le, length-filter, count_by-le-length}
use Rattle.rls_ident.specs.declared.limits.TheConstants.{MEMBERS, CHARACTERS, IDENTIFIERS}
use Rattle.rls_ident.specs.declared.tuple.Tuple.{Tuple}
use Rattle.rls_ident.specs.Vectors.{raise}
use Rattle.rls_ident.proofs.Members.{not_lt_is}
use Rattle.rls_ident.proofs.Vectors.{sum-raise}
use Rattle.rls_runs.specs.Entries.{Entries, has_ident, with_idents}
use Rattle.rls_runs.specs.Runs.{run_idents}
use Rattle.rls_runs.proofs.Sorted.{length-put_all}
use Rattle.rls_rename.specs.Tree.{Node}
use Rattle.rls_ops.specs.declared.op.Op.{Op}
use Rattle.rls_ops.specs.declared.op.Body.{Body}
use Rattle.rls_ops.specs.declared.op.Body.TheVariants.{Insert, Delete, Rename, Leave}
use Rattle.rls_ops.specs.Shapes.{body_limit, body_len}
use Rattle.rls_model.specs.Epochs.{nodes_after, renaming_of}
use Rattle.rls_model.specs.WellFormed.{IsSmall}
use Rattle.rls_seen.specs.Seen.{Seen, vector, members}
use Rattle.rls_seen.specs.Over.{added_over, placed_over, renamed_over, is_greatest_over, text_after}

-- ---- sums

pub sum_filter : {A : Type 0} (f : A → ℕ) (p : A → Bool) (xs : List A) → sum_by f (filter p xs) ≤ sum_by f xs
sum_filter f p [] = omega arith
sum_filter {A} f p (x ∷ xs) = go (p x) (sum_filter f p xs)
  where
    go : (b : Bool) → sum_by f (filter p xs) ≤ sum_by f xs → sum_by f (cond b (x ∷ filter p xs) (filter p xs)) ≤ sum_by f (x ∷ xs)
    go true h = omega (arith, sum_by-cons f x (filter p xs), sum_by-cons f x xs)
    go false h = omega (arith, sum_by-cons f x xs)

-- ---- lengths

length-zip : {A : Type 0} (xs : List A) (cs : List ℕ) → length (zip xs cs) ≤ length cs
length-zip [] cs = omega arith
length-zip (x ∷ xs) [] = omega arith
length-zip (x ∷ xs) (c ∷ cs) = let h = length-zip xs cs in omega arith

filter_le : {A : Type 0} (p : A → Bool) (xs : List A) → length (filter p xs) ≤ length xs
filter_le p xs = omega (arith, length-filter p xs, count_by-le-length p xs)

moved : (f : List Tuple → List Tuple) (es : Entries) (c : Bool) → length (cond c (with_idents f es) es) ≤ length es + IDENTIFIERS
moved f es true = let e : length (with_idents f es) ≡ length es = length-map es (λ (y : List Tuple × ℕ). (f y.0, y.1)) in omega arith
moved f es false = omega arith

-- an operation adds at most so many characters
text_go : (s : Seen) (o : Op) (b : Body) → nat_lt (body_limit b) (body_len b) ≡ false → length (text_after s o b) ≤ length s.text + IDENTIFIERS
text_go s o (Insert first text) l =
    let a = length-put_all (added_over s o.epoch first text) s.text in
    let n = not_lt_is CHARACTERS (length text) l in
    let z = length-zip (map (placed_over s o.epoch) (run_idents first (length text))) text in
    omega arith
text_go s o (Delete targets) l = let h = filter_le (λ (y : List Tuple × ℕ). not (has_ident (map (placed_over s o.epoch) targets) y.0)) s.text in omega arith
text_go s o (Rename former) l = moved (renamed_over s o former) s.text (is_greatest_over s o)
text_go s o Leave l = omega arith

pub total_after : (s : Seen) (o : Op) → o.author < members s → nat_lt (body_limit o.body) (body_len o.body) ≡ false → length s.text ≤ 2 ^ 63 + IDENTIFIERS * sum (vector s)
    → length (text_after s o o.body) ≤ 2 ^ 63 + IDENTIFIERS * sum (raise (vector s) o.author)
total_after s o l f h = let a = text_go s o o.body f in let b = sum-raise (vector s) o.author l in omega arith

former_of : Node → ℕ
former_of n = length n.renaming.former

former_go : (s : Seen) (o : Op) (b : Body) → nat_lt (body_limit b) (body_len b) ≡ false → sum_by (λ (n : Node). length n.renaming.former) (nodes_after s.epochs.nodes o b) ≤ sum_by (λ (n : Node). length n.renaming.former) s.epochs.nodes + IDENTIFIERS
former_go s o (Insert first text) l = omega arith
former_go s o (Delete targets) l = omega arith
former_go s o (Rename former) l =
    let n = not_lt_is IDENTIFIERS (length former) l in
    omega (arith, sum_by-cons (λ (n : Node). length n.renaming.former) (record { parent = o.epoch; renaming = renaming_of o former }) s.epochs.nodes)
former_go s o Leave l = omega arith

pub former_after : (s : Seen) (o : Op) → o.author < members s → nat_lt (body_limit o.body) (body_len o.body) ≡ false → sum_by (λ (n : Node). length n.renaming.former) s.epochs.nodes ≤ 2 ^ 54 + IDENTIFIERS * sum (vector s)
    → sum_by (λ (n : Node). length n.renaming.former) (nodes_after s.epochs.nodes o o.body) ≤ 2 ^ 54 + IDENTIFIERS * sum (raise (vector s) o.author)
former_after s o l f h = let a = former_go s o o.body f in let b = sum-raise (vector s) o.author l in omega arith

-- ---- so that they fit

pub sum_small : (v : List ℕ) → length v ≤ MEMBERS → All IsSmall v → sum v < 2 ^ 38
sum_small v l h = let a = sum_by-le (λ n. n) (2 ^ 32 - 1) v (λ k d i. let x = h k d i in omega arith) in omega arith

pub total_fits : (s : Seen) → members s ≤ MEMBERS → All IsSmall (vector s) → (n : ℕ) → n ≤ 2 ^ 63 + IDENTIFIERS * sum (vector s) → n + IDENTIFIERS < 2 ^ 64
total_fits s l h n k = let a = sum_small (vector s) l h in omega arith

pub former_fits : (s : Seen) → members s ≤ MEMBERS → All IsSmall (vector s) → (n : ℕ) → n ≤ 2 ^ 54 + IDENTIFIERS * sum (vector s) → n + IDENTIFIERS < 2 ^ 64
former_fits s l h n k = let a = sum_small (vector s) l h in omega arith
