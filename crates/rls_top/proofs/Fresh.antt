-- The file of a fresh replica is short.
use Rattle.std.proofs.Common.{◌≡◌, ◌∙◌, ◌+◌, ◌*◌, ◌≤◌, ◌++◌, ◌==◌, ℕ, zero, suc, Bool, true, false, List, [], ◌∷◌, length, get_or, replicate, nat_le, flat_map, if◌then◌else◌, refl, ap, arith, lit≤, length-append}
use Rattle.std.specs.List.{concat}
use Rattle.std.proofs.lemmas.Grind.{flat_map-append}
use Rattle.std.proofs.lemmas.List.{get_or-replicate, get_or_past, length-replicate}
use Rattle.rls_ident.specs.declared.limits.TheConstants.{MEMBERS, FILE_BYTES}
use Rattle.rls_ident.specs.declared.epoch_name.EpochName.TheVariants.{Origin}
use Rattle.rls_ident.proofs.Members.{bool_cases, le_is, not_le_is}
use Rattle.rls_ops.specs.Rows.{AcksSeen, left, row_of, starting_at}
use Rattle.rls_ops.specs.Spelling.{counted, four_bytes, op_bytes, vector_bytes}
use Rattle.rls_codec.proofs.SizeLaws.{vector_length}
use Rattle.rls_rename.specs.Connected.{in_order, is_spanned, spanned}
use Rattle.rls_model.specs.Legal.{AreNumbers}
use Rattle.rls_model.specs.Parts.{epoch_parts}
use Rattle.rls_seen.specs.Kept.{left_below, needed_over, other_rows, parts_over, retained_over}
use Rattle.rls_seen.specs.Seen.{Seen, fresh, greatest_over}
use Rattle.rls_file.specs.Files.{epoch_bytes, file_bytes, head_bytes, snapshot_bytes, stem_bytes, stems_bytes, text_run_bytes}

-- ---- lists of lists

joined : {A : Type 0} (f : A → List ℕ) (xs ys : List A) → length (flat_map f (xs ++ ys)) ≡ length (flat_map f xs) + length (flat_map f ys)
joined f xs ys = ap length (flat_map-append f xs ys) ∙ length-append (flat_map f xs) (flat_map f ys)

-- nine parts that are short
nine : (a b c d e f g h i : List ℕ) → length a ≤ 21 → length b ≤ 256 → length c ≤ 16384 → length d ≤ 260 → length e ≤ 256 → length f ≤ 5 → length g ≤ 4 → length h ≤ 4 → length i ≤ 4
    → length (concat (a ∷ b ∷ c ∷ d ∷ e ∷ f ∷ g ∷ h ∷ i ∷ [])) ≤ FILE_BYTES
nine a b c d e f g h i ka kb kc kd ke kf kg kh ki =
    let wi = i ++ [] in
    let wh = h ++ wi in
    let wg = g ++ wh in
    let wf = f ++ wg in
    let we = e ++ wf in
    let wd = d ++ we in
    let wc = c ++ wd in
    let wb = b ++ wc in
    omega (arith, length-append a wb, length-append b wc, length-append c wd, length-append d we, length-append e wf, length-append f wg, length-append g wh, length-append h wi, length-append i [], ka, kb, kc, kd, ke, kf, kg, kh, ki)

-- ---- the parts

-- a row that counts nothing
abbrev zeros : ℕ → List ℕ
zeros n = replicate n 0

other_few : (k a : ℕ) → k ≤ MEMBERS → length (get_or (replicate k (zeros k)) a []) ≤ MEMBERS
other_few k a h =
    bool_cases (nat_le k a)
    (λ e. let x = le_is k a e in let y : length (replicate k (zeros k)) ≡ k = length-replicate k (zeros k) in let z : length (get_or (replicate k (zeros k)) a []) ≡ 0 = ap (λ (r : List ℕ). length r) (get_or_past (replicate k (zeros k)) a [] (omega (arith, x, y))) in omega (arith, z))
    (λ e. let y : length (zeros k) ≡ k = length-replicate {A = ℕ} k 0 in let z : length (get_or (replicate k (zeros k)) a []) ≡ length (zeros k) = ap (λ (r : List ℕ). length r) (get_or-replicate k a (zeros k) [] (not_le_is k a e)) in omega (arith, z, y, h))

row_few : (n me a : ℕ) → n ≤ MEMBERS → length (row_of (starting_at me (zeros n)) a) ≤ MEMBERS
row_few n me a h =
    let e : length (zeros n) ≡ n = length-replicate {A = ℕ} n 0 in
    let own : length (zeros n) ≤ MEMBERS = omega (arith, e, h) in
    go (a == me) own (other_few (length (zeros n)) a own)
  where
    go : (b : Bool) → length (zeros n) ≤ MEMBERS → length (get_or (replicate (length (zeros n)) (zeros (length (zeros n)))) a []) ≤ MEMBERS → length (if b then zeros n else get_or (replicate (length (zeros n)) (zeros (length (zeros n)))) a []) ≤ MEMBERS
    go true own other = own
    go false own other = other

rows_short : (acks : AcksSeen) (n : ℕ) → ((a : ℕ) → length (row_of acks a) ≤ MEMBERS) → length (flat_map vector_bytes (other_rows acks n)) ≤ 256 * n
rows_short acks zero h = lit≤ tt
rows_short acks (suc n) h = go (n == acks.me) (rows_short acks n h)
  where
    last : Bool → List (List ℕ)
    last b = if b then [] else row_of acks n ∷ []

    one : (b : Bool) → length (flat_map vector_bytes (last b)) ≤ 256
    one true = lit≤ tt
    one false = let l = h n in omega (arith, l, length-append (vector_bytes (row_of acks n)) [], vector_length (row_of acks n))

    go : (b : Bool) → length (flat_map vector_bytes (other_rows acks n)) ≤ 256 * n → length (flat_map vector_bytes (other_rows acks n ++ last b)) ≤ 256 * suc n
    go b i = let o = one b in let j = joined vector_bytes (other_rows acks n) (last b) in omega (arith, i, o, j)

left_short : (acks : AcksSeen) (n : ℕ) → length (flat_map four_bytes (left_below acks n)) ≤ 4 * n
left_short acks zero = lit≤ tt
left_short acks (suc n) = go (left acks n) (left_short acks n)
  where
    last : Bool → List ℕ
    last b = if b then n ∷ [] else []

    one : (b : Bool) → length (flat_map four_bytes (last b)) ≤ 4
    one true = lit≤ tt
    one false = lit≤ tt

    go : (b : Bool) → length (flat_map four_bytes (left_below acks n)) ≤ 4 * n → length (flat_map four_bytes (left_below acks n ++ last b)) ≤ 4 * suc n
    go b i = let o = one b in let j = joined four_bytes (left_below acks n) (last b) in omega (arith, i, o, j)

stems_short : (a n : ℕ) → length (stems_bytes 4 a n []) ≡ 4 * n
stems_short a zero = refl
stems_short a (suc n) =
    let none : length (counted (stem_bytes 4) []) ≡ 4 = refl in
    let i = stems_short (suc a) n in
    omega (arith, none, i, length-append (counted (stem_bytes 4) []) (stems_bytes 4 (suc a) n []))

epochs_short : (b : Bool) → length (counted epoch_bytes (epoch_parts [] (in_order [] (if b then Origin ∷ [] else [])))) ≤ 5
epochs_short true = lit≤ tt
epochs_short false = lit≤ tt

-- ---- the file

pub fresh_short : (group me members : ℕ) → AreNumbers group me members → length (file_bytes (parts_over (fresh group me members))) ≤ FILE_BYTES
unfolding snapshot_bytes parts_over retained_over spanned
fresh_short group me n h =
    let s : Seen = fresh group me n in
    let acks : AcksSeen = starting_at me (zeros n) in
    let k = length (zeros n) in
    let few : n ≤ MEMBERS = h.2 in
    let e : k ≡ n = length-replicate {A = ℕ} n 0 in
    let b = is_spanned [] (greatest_over s) (needed_over s) Origin in
    let rows = rows_short acks k (λ a. row_few n me a few) in
    let lefts = left_short acks k in
    let stems = stems_short 0 k in
    let vector = vector_length (zeros n) in
    let marks = length-append (four_bytes (length (left_below acks k))) (flat_map four_bytes (left_below acks k)) in
    nine (head_bytes 4 group k me) (vector_bytes (zeros n)) (flat_map vector_bytes (other_rows acks k)) (counted four_bytes (left_below acks k)) (stems_bytes 4 0 k [])
    (counted epoch_bytes (epoch_parts [] (in_order [] (if b then Origin ∷ [] else [])))) (counted text_run_bytes []) (counted op_bytes []) (counted op_bytes [])
    (lit≤ tt) (omega (arith, vector, e, few)) (omega (arith, rows, e, few)) (omega (arith, marks, lefts, e, few)) (omega (arith, stems, e, few)) (epochs_short b) (lit≤ tt) (lit≤ tt) (lit≤ tt)
