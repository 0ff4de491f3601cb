-- The formats of tuples, identifiers and runs, of names, texts and vectors.
use Rattle.std.proofs.Common.{◌≡◌, ℕ, zero, suc, ◌+◌, ◌-◌, ◌^◌, ◌<◌, true, List, [], ◌∷◌, ◌++◌, length, Option, Some, None, refl, sym, ap, subst, ◌∙◌, append_assoc, arith, lit<}
use Rattle.std.specs.Prelude.{ℤ, pos, negsuc, FitsSigned, nat_le, nat_lt, ◌==◌, encode_utf8_all}
use Rattle.std.specs.List.{flat_map, concat}
use Rattle.std.specs.Int.{w32, w64, cast_signed, cast_unsigned}
use Rattle.std.specs.Int.RustNames.{int_le}
use Rattle.std.specs.Str.{is_utf8, chars, all_scalars}
use Rattle.std.proofs.lemmas.Int.{to_z-of_z, of_z-to_z, ints}
use Rattle.std.proofs.lemmas.Str.{chars-encodes, encodes-chars, scalars-chars, IsUtf8-from_is_utf8, is_utf8-from_IsUtf8}
use Rattle.std.proofs.lemmas.List.{length-append}
use Rattle.std.proofs.lemmas.Bool.{and_parts, leb-true, eqb-true, ltb-true, lt-ltb}
use Rattle.rls_ident.specs.declared.limits.TheConstants.{OFFSETS_END}
use Rattle.rls_ident.specs.declared.tuple.Tuple.{Tuple}
use Rattle.rls_ident.specs.declared.tuple.Tuple.TheVariants.{Low, At, High}
use Rattle.rls_ident.specs.declared.epoch_name.EpochName.{EpochName}
use Rattle.rls_ident.specs.declared.epoch_name.EpochName.TheVariants.{Origin, Of}
use Rattle.rls_ident.specs.Tuples.{pos_of, replica_of, seq_of, offset_of}
use Rattle.rls_ident.specs.Identifiers.{least_offset, greatest_offset, last_of, least_inner}
use Rattle.rls_ident.proofs.Ends.{last_of_pushed}
use Rattle.rls_runs.specs.Runs.{is_apart}
use Rattle.rls_ops.specs.Spelling.{four_bytes, eight_bytes, signed_bytes, tuple_bytes, ident_bytes, run_bytes, name_bytes, text_bytes, vector_bytes}
use Rattle.rls_ops.specs.WellFormed.{IsSmall, IsLarge}
use Rattle.rls_codec.specs.Reading.{with_rule, number_at, signed_at, is_offset, spot_at, inner_of_kind, inner_at, last_at, ident_at, is_run_len, run_at, next_run_at, vector_at, name_of_kind, name_at, text_at}
use Rattle.rls_codec.specs.Spelled.{Chained, FitsAt, FitsInner, FitTuples, FitsIdent, FitsRun, FitsBehind, FitsName, FitsText, FitsVector}
use Rattle.rls_codec.proofs.Formats.{Spells, done, field, fitting, spelling, seen, ruled, byte, wide32, wide64, number, raw, chain}

-- a number of four bytes
pub small : Spells (number_at w32) four_bytes IsSmall
small = number w32 (2 ^ 32) wide32

-- a number of eight bytes
pub large : Spells (number_at w64) eight_bytes IsLarge
large = number w64 (2 ^ 64) wide64

-- a signed number in four bytes
pub signed : Spells signed_at signed_bytes (FitsSigned w32)
signed = seen (FitsSigned w32) (cast_signed w32) (cast_unsigned w32) small
    (λ n lt. (of_z-to_z w32 n lt, omega (arith, ints, lt)))
    (λ z fits. (to_z-of_z w32 z fits, omega (arith, ints, fits)))

-- offsets from this one on
pub offset : (least : ℤ) → ((z : ℤ) → is_offset least z ≡ true → FitsSigned w32 z) → Spells (with_rule (is_offset least) signed_at) signed_bytes (λ z. is_offset least z ≡ true)
offset least fits = fitting (λ z. is_offset least z ≡ true) (ruled (is_offset least) signed) (λ z f. f.1) (λ z e. (fits z e, e))

last_fits : (z : ℤ) → is_offset least_offset z ≡ true → FitsSigned w32 z
last_fits (pos n) e = let p = and_parts (int_le least_offset (pos n)) (int_le (pos n) greatest_offset) e in omega (arith, ints, leb-true _ _ p.1)
last_fits (negsuc n) e = let p = and_parts (int_le least_offset (negsuc n)) (int_le (negsuc n) greatest_offset) e in omega (arith, ints, leb-true n 1073741823 p.0)

inner_fits : (z : ℤ) → is_offset least_inner z ≡ true → FitsSigned w32 z
inner_fits (pos n) e = let p = and_parts (int_le least_inner (pos n)) (int_le (pos n) greatest_offset) e in omega (arith, ints, leb-true _ _ p.1)
inner_fits (negsuc n) e = let p = and_parts (int_le least_inner (negsuc n)) (int_le (negsuc n) greatest_offset) e in omega (arith, ints, leb-true n OFFSETS_END p.0)

-- ---- tuples

-- the fields of an `At` after its kind
abbrev at_bytes : Tuple → List ℕ
at_bytes t = concat (four_bytes (pos_of t) ∷ four_bytes (replica_of t) ∷ four_bytes (seq_of t) ∷ signed_bytes (offset_of t) ∷ [])

pub spot : (least : ℤ) → ((z : ℤ) → is_offset least z ≡ true → FitsSigned w32 z) → Spells (spot_at least) at_bytes (FitsAt least)
unfolding spot_at
spot least fits =
    fitting (FitsAt least)
    (field pos_of small (λ p hp. field replica_of small (λ r hr. field seq_of small (λ s hs. field offset_of (offset least fits) (λ o ho. done (At p r s o))
    (λ o t h f. ap offset_of f)) (λ s t h f. ap seq_of f.1)) (λ r t h f. ap replica_of f.1.1)) (λ p t h f. ap pos_of f.1.1.1))
    to from
  where
    to : (t : Tuple) → IsSmall (pos_of t) × (IsSmall (replica_of t) × (IsSmall (seq_of t) × ((is_offset least (offset_of t) ≡ true) × (t ≡ At (pos_of t) (replica_of t) (seq_of t) (offset_of t))))) → FitsAt least t
    to (At p r s o) f = (f.0, f.1.0, f.1.1.0, f.1.1.1.0)
    to Low f = absurd cc
    to High f = absurd cc

    from : (t : Tuple) → FitsAt least t → IsSmall (pos_of t) × (IsSmall (replica_of t) × (IsSmall (seq_of t) × ((is_offset least (offset_of t) ≡ true) × (t ≡ At (pos_of t) (replica_of t) (seq_of t) (offset_of t)))))
    from (At p r s o) f = (f.0, (f.1, (f.2, (f.3, refl))))
    from Low f = absurd f
    from High f = absurd f

abbrev tuple_kind : Tuple → ℕ
tuple_kind Low = 0
tuple_kind (At p r s o) = 1
tuple_kind High = 2

-- the bytes after the kind
abbrev behind_kind : Tuple → List ℕ
behind_kind Low = []
behind_kind (At p r s o) = at_bytes (At p r s o)
behind_kind High = []

inner_kinds : (k : ℕ) → nat_le k 2 ≡ true → Spells (inner_of_kind k) behind_kind (λ t. (tuple_kind t ≡ k) × FitsInner t)
inner_kinds zero h = spelling behind_kind (fitting (λ t. (tuple_kind t ≡ 0) × FitsInner t) (done Low) (λ t e. rw e (refl, tt)) is_low) (λ t f. ap behind_kind (sym (is_low t f)))
  where
    is_low : (t : Tuple) → (tuple_kind t ≡ 0) × FitsInner t → t ≡ Low
    is_low Low f = refl
    is_low (At p r s o) f = absurd (omega (arith, f.0))
    is_low High f = absurd (omega (arith, f.0))
inner_kinds (suc zero) h = spelling behind_kind (fitting (λ t. (tuple_kind t ≡ 1) × FitsInner t) (spot least_inner inner_fits) to from) same
  where
    to : (t : Tuple) → FitsAt least_inner t → (tuple_kind t ≡ 1) × FitsInner t
    to (At p r s o) f = (refl, f)
    to Low f = absurd f
    to High f = absurd f

    from : (t : Tuple) → (tuple_kind t ≡ 1) × FitsInner t → FitsAt least_inner t
    from (At p r s o) f = f.1
    from Low f = absurd (omega (arith, f.0))
    from High f = absurd (omega (arith, f.0))

    same : (t : Tuple) → (tuple_kind t ≡ 1) × FitsInner t → at_bytes t ≡ behind_kind t
    same (At p r s o) f = refl
    same Low f = absurd (omega (arith, f.0))
    same High f = absurd (omega (arith, f.0))
inner_kinds (suc (suc zero)) h = spelling behind_kind (fitting (λ t. (tuple_kind t ≡ 2) × FitsInner t) (done High) (λ t e. rw e (refl, tt)) is_high) (λ t f. ap behind_kind (sym (is_high t f)))
  where
    is_high : (t : Tuple) → (tuple_kind t ≡ 2) × FitsInner t → t ≡ High
    is_high High f = refl
    is_high (At p r s o) f = absurd (omega (arith, f.0))
    is_high Low f = absurd (omega (arith, f.0))
inner_kinds (suc (suc (suc k))) h = absurd (omega (arith, leb-true (suc (suc (suc k))) 2 h))

pub inner : Spells inner_at tuple_bytes FitsInner
unfolding inner_at
inner = spelling tuple_bytes
    (fitting FitsInner (field tuple_kind (ruled (λ k. nat_le k 2) byte) (λ k h. inner_kinds k h.1) (λ k t h f. f.0)) (λ t f. f.1.1) from) same
  where
    from : (t : Tuple) → FitsInner t → ((tuple_kind t < 256) × (nat_le (tuple_kind t) 2 ≡ true)) × ((tuple_kind t ≡ tuple_kind t) × FitsInner t)
    from Low f = ((lit< tt, refl), (refl, f))
    from (At p r s o) f = ((lit< tt, refl), (refl, f))
    from High f = ((lit< tt, refl), (refl, f))

    same : (t : Tuple) → FitsInner t → (tuple_kind t ∷ []) ++ behind_kind t ≡ tuple_bytes t
    same Low f = refl
    same (At p r s o) f = refl
    same High f = refl

pub last : Spells last_at tuple_bytes (FitsAt least_offset)
unfolding last_at
last = spelling tuple_bytes
    (fitting (FitsAt least_offset) (field tuple_kind (ruled (λ k. k == 1) byte) (λ k h. fitting (λ t. (tuple_kind t ≡ k) × FitsAt least_offset t) (spot least_offset last_fits) (λ t f. (is_one k t h.1 f, f)) (λ t f. f.1)) (λ k t h f. f.0)) (λ t f. f.1.1) from) same
  where
    is_one : (k : ℕ) (t : Tuple) → (k == 1) ≡ true → FitsAt least_offset t → tuple_kind t ≡ k
    is_one k (At p r s o) e f = sym (eqb-true k 1 e)
    is_one k Low e f = absurd f
    is_one k High e f = absurd f

    from : (t : Tuple) → FitsAt least_offset t → ((tuple_kind t < 256) × ((tuple_kind t == 1) ≡ true)) × ((tuple_kind t ≡ tuple_kind t) × FitsAt least_offset t)
    from (At p r s o) f = ((lit< tt, refl), (refl, f))
    from Low f = absurd f
    from High f = absurd f

    same : (t : Tuple) → FitsAt least_offset t → (tuple_kind t ∷ []) ++ at_bytes t ≡ tuple_bytes t
    same (At p r s o) f = refl
    same Low f = absurd f
    same High f = absurd f

-- ---- identifiers

-- all tuples but the last
abbrev front_of : List Tuple → List Tuple
front_of [] = []
front_of (t ∷ []) = []
front_of (t ∷ (u ∷ ts)) = t ∷ front_of (u ∷ ts)

front_of_pushed : (f : List Tuple) (l : Tuple) → front_of (f ++ l ∷ []) ≡ f
front_of_pushed [] l = refl
front_of_pushed (t ∷ []) l = refl
front_of_pushed (t ∷ (u ∷ f)) l = ap (λ xs. t ∷ xs) (front_of_pushed (u ∷ f) l)

length_of_front : (x : List Tuple) → FitTuples x → length x ≡ length (front_of x) + 1
length_of_front [] f = absurd f
length_of_front (t ∷ []) f = refl
length_of_front (t ∷ (u ∷ ts)) f = omega (arith, length_of_front (u ∷ ts) f.1)

is_pushed : (x : List Tuple) → FitTuples x → x ≡ front_of x ++ last_of x ∷ []
is_pushed [] f = absurd f
is_pushed (t ∷ []) f = refl
is_pushed (t ∷ (u ∷ ts)) f = ap (λ xs. t ∷ xs) (is_pushed (u ∷ ts) f.1)

parts_fit : (before : Option Tuple) (x : List Tuple) → FitTuples x → Chained (λ b. FitsInner) before (front_of x) × FitsAt least_offset (last_of x)
parts_fit before [] f = absurd f
parts_fit before (t ∷ []) f = (tt, f)
parts_fit before (t ∷ (u ∷ ts)) f = let q = parts_fit (Some t) (u ∷ ts) f.1 in ((f.0, q.0), q.1)

pub pushed_fit : (before : Option Tuple) (front : List Tuple) (l : Tuple) → Chained (λ b. FitsInner) before front → FitsAt least_offset l → FitTuples (front ++ l ∷ [])
pushed_fit before [] l c f = f
pushed_fit before (t ∷ []) l c f = (c.0, f)
pushed_fit before (t ∷ (u ∷ ts)) l c f = (c.0, pushed_fit (Some t) (u ∷ ts) l c.1 f)

front_bytes : (x : List Tuple) → FitTuples x → flat_map tuple_bytes (front_of x) ++ (tuple_bytes (last_of x) ++ []) ≡ flat_map tuple_bytes x
front_bytes [] f = absurd f
front_bytes (t ∷ []) f = refl
front_bytes (t ∷ (u ∷ ts)) f = append_assoc (tuple_bytes t) (flat_map tuple_bytes (front_of (u ∷ ts))) (tuple_bytes (last_of (u ∷ ts)) ++ []) ∙ ap (λ w. tuple_bytes t ++ w) (front_bytes (u ∷ ts) f.1)

pub ident : Spells ident_at ident_bytes FitsIdent
unfolding ident_at
ident = spelling ident_bytes
    (fitting FitsIdent
    (field length (ruled (nat_lt 0) small) (λ n hn. field front_of (chain (λ before. inner_at) tuple_bytes (λ before. FitsInner) (λ before. inner) None (n - 1)) (λ front hf. field last_of last (λ l hl. done (front ++ l ∷ []))
    (λ l x h f. ap last_of f ∙ last_of_pushed front l)) (λ front x h f. ap front_of f.1 ∙ front_of_pushed front (last_of x))) (λ n x h f. count n x h f))
    to from)
    (λ x f. ap (λ w. four_bytes (length x) ++ w) (front_bytes x f.1))
  where
    count : (n : ℕ) (x : List Tuple) → IsSmall n × (nat_lt 0 n ≡ true) → ((length (front_of x) ≡ n - 1) × Chained (λ b. FitsInner) None (front_of x)) × (FitsAt least_offset (last_of x) × (x ≡ front_of x ++ last_of x ∷ [])) → length x ≡ n
    count n x h f = omega (arith, ltb-true 0 n h.1, f.0.0, ap length f.1.1, length-append (front_of x) (last_of x ∷ []))

    to : (x : List Tuple) → (IsSmall (length x) × (nat_lt 0 (length x) ≡ true)) × (((length (front_of x) ≡ length x - 1) × Chained (λ b. FitsInner) None (front_of x)) × (FitsAt least_offset (last_of x) × (x ≡ front_of x ++ last_of x ∷ []))) → FitsIdent x
    to x f = (f.0.0, subst FitTuples (sym f.1.1.1) (pushed_fit None (front_of x) (last_of x) f.1.0.1 f.1.1.0))

    from : (x : List Tuple) → FitsIdent x → (IsSmall (length x) × (nat_lt 0 (length x) ≡ true)) × (((length (front_of x) ≡ length x - 1) × Chained (λ b. FitsInner) None (front_of x)) × (FitsAt least_offset (last_of x) × (x ≡ front_of x ++ last_of x ∷ [])))
    from x f =
        let q = parts_fit None x f.1 in
        let n = length_of_front x f.1 in
        ((f.0, lt-ltb 0 (length x) (omega (arith, n))), ((omega (arith, n), q.0), (q.1, is_pushed x f.1)))

-- ---- runs

pub run : Spells run_at run_bytes FitsRun
unfolding run_at
run = fitting FitsRun
    (field (λ r. r.0) ident (λ x hx. field (λ r. r.1) (ruled (is_run_len x) small) (λ n hn. done (x, n)) (λ n r h f. ap (λ q. q.1) f)) (λ x r h f. ap (λ q. q.0) f.1))
    (λ r f. (f.0, f.1.0.0, f.1.0.1)) (λ r f. (f.0, ((f.1, f.2), refl)))

-- a run after the run before
pub next_run : (before : Option (List Tuple × ℕ)) → Spells (next_run_at before) run_bytes (FitsBehind before)
next_run before = ruled (is_apart before) run

-- ---- vectors, names and texts

pub vector : (members : ℕ) → Spells (vector_at members) vector_bytes (FitsVector members)
vector members = chain (λ before. number_at w32) four_bytes (λ before. IsSmall) (λ before. small) None members

abbrev name_kind : EpochName → ℕ
name_kind Origin = 0
name_kind (Of r s) = 1

abbrev name_replica : EpochName → ℕ
name_replica Origin = 0
name_replica (Of r s) = r

abbrev name_seq : EpochName → ℕ
name_seq Origin = 0
name_seq (Of r s) = s

abbrev behind_name_kind : EpochName → List ℕ
behind_name_kind Origin = []
behind_name_kind (Of r s) = concat (four_bytes r ∷ four_bytes s ∷ [])

name_kinds : (k : ℕ) → nat_le k 1 ≡ true → Spells (name_of_kind k) behind_name_kind (λ e. (name_kind e ≡ k) × FitsName e)
name_kinds zero h = spelling behind_name_kind (fitting (λ e. (name_kind e ≡ 0) × FitsName e) (done Origin) (λ e q. rw q (refl, tt)) is_origin) same
  where
    is_origin : (e : EpochName) → (name_kind e ≡ 0) × FitsName e → e ≡ Origin
    is_origin Origin f = refl
    is_origin (Of r s) f = absurd (omega (arith, f.0))

    same : (e : EpochName) → (name_kind e ≡ 0) × FitsName e → [] ≡ behind_name_kind e
    same Origin f = refl
    same (Of r s) f = absurd (omega (arith, f.0))
name_kinds (suc zero) h = spelling behind_name_kind (fitting (λ e. (name_kind e ≡ 1) × FitsName e) (field name_replica small (λ r hr. field name_seq small (λ s hs. done (Of r s)) (λ s e h f. ap name_seq f)) (λ r e h f. ap name_replica f.1)) to from) same
  where
    to : (e : EpochName) → IsSmall (name_replica e) × (IsSmall (name_seq e) × (e ≡ Of (name_replica e) (name_seq e))) → (name_kind e ≡ 1) × FitsName e
    to Origin f = absurd cc
    to (Of r s) f = (refl, (f.0, f.1.0))

    from : (e : EpochName) → (name_kind e ≡ 1) × FitsName e → IsSmall (name_replica e) × (IsSmall (name_seq e) × (e ≡ Of (name_replica e) (name_seq e)))
    from Origin f = absurd (omega (arith, f.0))
    from (Of r s) f = (f.1.0, (f.1.1, refl))

    same : (e : EpochName) → (name_kind e ≡ 1) × FitsName e → four_bytes (name_replica e) ++ (four_bytes (name_seq e) ++ []) ≡ behind_name_kind e
    same Origin f = absurd (omega (arith, f.0))
    same (Of r s) f = refl
name_kinds (suc (suc k)) h = absurd (omega (arith, leb-true (suc (suc k)) 1 h))

pub name : Spells name_at name_bytes FitsName
unfolding name_at
name = spelling name_bytes (fitting FitsName (field name_kind (ruled (λ k. nat_le k 1) byte) (λ k h. name_kinds k h.1) (λ k e h f. f.0)) (λ e f. f.1.1) from) same
  where
    from : (e : EpochName) → FitsName e → ((name_kind e < 256) × (nat_le (name_kind e) 1 ≡ true)) × ((name_kind e ≡ name_kind e) × FitsName e)
    from Origin f = ((lit< tt, refl), (refl, f))
    from (Of r s) f = ((lit< tt, refl), (refl, f))

    same : (e : EpochName) → FitsName e → (name_kind e ∷ []) ++ behind_name_kind e ≡ name_bytes e
    same Origin f = refl
    same (Of r s) f = refl

pub text : Spells text_at text_bytes FitsText
unfolding text_at
text = fitting FitsText
    (field (λ cs. length (encode_utf8_all cs)) small (λ n hn. seen (λ cs. (all_scalars cs ≡ true) × (length (encode_utf8_all cs) ≡ n)) chars encode_utf8_all (ruled is_utf8 (raw n)) there back) (λ n cs h f. f.1))
    (λ cs f. (f.1.0, f.0)) (λ cs f. (f.1, (f.0, refl)))
  where
    there : {n : ℕ} (bs : List ℕ) → (length bs ≡ n) × (is_utf8 bs ≡ true) → (encode_utf8_all (chars bs) ≡ bs) × ((all_scalars (chars bs) ≡ true) × (length (encode_utf8_all (chars bs)) ≡ n))
    there bs f =
        let u = IsUtf8-from_is_utf8 bs f.1 in
        let e = encodes-chars bs u in
        (e, (scalars-chars bs u, ap length e ∙ f.0))

    back : {n : ℕ} (cs : List ℕ) → (all_scalars cs ≡ true) × (length (encode_utf8_all cs) ≡ n) → (chars (encode_utf8_all cs) ≡ cs) × ((length (encode_utf8_all cs) ≡ n) × (is_utf8 (encode_utf8_all cs) ≡ true))
    back cs f = (chars-encodes cs f.0, (f.1, is_utf8-from_IsUtf8 (encode_utf8_all cs) (cs, (f.0, refl))))
