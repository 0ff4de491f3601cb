-- The sizes are the lengths of the spellings.
use Rattle.std.proofs.Common.{◌≡◌, ℕ, ◌+◌, ◌*◌, ◌^◌, ◌<◌, ◌≤◌, List, [], ◌∷◌, ◌++◌, length, refl, arith}
use Rattle.std.specs.Prelude.{sum_by, encode_utf8_all, encode_utf8, All}
use Rattle.std.specs.List.{flat_map}
use Rattle.std.proofs.lemmas.List.{length-append}
use Rattle.std.proofs.lemmas.List.Elements.{All-cons}
use Rattle.std.proofs.lemmas.List.Sums.{sum_by-cons}
use Rattle.std.proofs.lemmas.Str.{length-encode}
use Rattle.rls_ident.specs.declared.limits.TheConstants.{INPUT_BYTES}
use Rattle.rls_ident.specs.declared.tuple.Tuple.{Tuple}
use Rattle.rls_ident.specs.declared.tuple.Tuple.TheVariants.{Low, At, High}
use Rattle.rls_ident.specs.declared.epoch_name.EpochName.{EpochName}
use Rattle.rls_ident.specs.declared.epoch_name.EpochName.TheVariants.{Origin, Of}
use Rattle.rls_runs.specs.Runs.{runs_of}
use Rattle.rls_ops.specs.declared.op.Op.{Op}
use Rattle.rls_ops.specs.declared.op.Body.{Body}
use Rattle.rls_ops.specs.declared.op.Body.TheVariants.{Insert, Delete, Rename, Leave}
use Rattle.rls_ops.specs.declared.message.Message.{Message}
use Rattle.rls_ops.specs.Spelling.{four_bytes, tuple_bytes, ident_bytes, run_bytes, runs_bytes, vector_bytes, name_bytes, text_bytes, kind_of, body_bytes, op_bytes, message_in_form, counted}
use Rattle.rls_ops.specs.Sizes.{tuple_size, ident_size, run_size, runs_size, char_size, name_size, body_size, op_size, message_size}
use Rattle.rls_ops.proofs.Sizes.{ops_within}
use Rattle.rls_codec.specs.Gives.{IsShort}

pub parts_length : {A : Type 0} (part : A → List ℕ) (size : A → ℕ) → ((x : A) → length (part x) ≡ size x) → (xs : List A) → length (flat_map part xs) ≡ sum_by size xs
parts_length part size h [] = refl
parts_length part size h (x ∷ xs) =
    let l : length (flat_map part (x ∷ xs)) ≡ length (part x) + length (flat_map part xs) = length-append (part x) (flat_map part xs) in
    omega (arith, l, sum_by-cons size x xs, h x, parts_length part size h xs)

pub counted_length : {A : Type 0} (part : A → List ℕ) (size : A → ℕ) → ((x : A) → length (part x) ≡ size x) → (xs : List A) → length (counted part xs) ≡ 4 + sum_by size xs
counted_length part size h xs = omega (arith, length-append (four_bytes (length xs)) (flat_map part xs), parts_length part size h xs)

pub tuple_length : (t : Tuple) → length (tuple_bytes t) ≡ tuple_size t
tuple_length Low = refl
tuple_length (At p r s o) = refl
tuple_length High = refl

pub ident_length : (x : List Tuple) → length (ident_bytes x) ≡ ident_size x
ident_length x = counted_length tuple_bytes tuple_size tuple_length x

pub run_length : (r : List Tuple × ℕ) → length (run_bytes r) ≡ run_size r
run_length r = omega (arith, length-append (ident_bytes r.0) (four_bytes r.1 ++ []), ident_length r.0)

pub runs_length : (xs : List (List Tuple)) → length (runs_bytes xs) ≡ runs_size xs
runs_length xs = counted_length run_bytes run_size run_length (runs_of xs)

pub vector_length : (v : List ℕ) → length (vector_bytes v) ≡ 4 * length v
vector_length [] = refl
vector_length (n ∷ v) =
    let l : length (vector_bytes (n ∷ v)) ≡ 4 + length (vector_bytes v) = length-append (four_bytes n) (vector_bytes v) in
    omega (arith, l, vector_length v)

pub name_length : (e : EpochName) → length (name_bytes e) ≡ name_size e
name_length Origin = refl
name_length (Of r s) = refl

pub chars_length : (cs : List ℕ) → length (encode_utf8_all cs) ≡ sum_by char_size cs
chars_length [] = refl
chars_length (c ∷ cs) =
    let l : length (encode_utf8_all (c ∷ cs)) ≡ length (encode_utf8 c) + length (encode_utf8_all cs) = length-append (encode_utf8 c) (encode_utf8_all cs) in
    let one : length (encode_utf8 c) ≡ char_size c = length-encode c in
    omega (arith, l, sum_by-cons char_size c cs, one, chars_length cs)

pub text_length : (cs : List ℕ) → length (text_bytes cs) ≡ 4 + sum_by char_size cs
text_length cs = omega (arith, length-append (four_bytes (length (encode_utf8_all cs))) (encode_utf8_all cs), chars_length cs)

pub body_length : (b : Body) → length (body_bytes b) ≡ body_size b
body_length (Insert first text) = omega (arith, length-append (ident_bytes first) (text_bytes text ++ []), length-append (text_bytes text) [], ident_length first, text_length text)
body_length (Delete targets) = runs_length targets
body_length (Rename former) = runs_length former
body_length Leave = refl

pub op_length : (o : Op) → length (op_bytes o) ≡ op_size o
unfolding op_bytes
op_length o =
    let body = (kind_of o.body ∷ []) ++ (body_bytes o.body ++ []) in
    omega (arith, length-append (vector_bytes o.context) (name_bytes o.epoch ++ body), length-append (name_bytes o.epoch) body, length-append (body_bytes o.body) [], vector_length o.context, name_length o.epoch, body_length o.body)

pub message_length : (form : ℕ) (m : Message) → length (message_in_form form m) ≡ message_size m
unfolding message_in_form
message_length form m =
    let ops = counted op_bytes m.ops ++ [] in
    omega (arith, length-append (vector_bytes m.vector) ops, length-append (counted op_bytes m.ops) [], vector_length m.vector, counted_length op_bytes op_size op_length m.ops)

-- ---- what is small as a whole has small numbers

some_byte : (t : Tuple) → 1 ≤ tuple_size t
some_byte Low = omega arith
some_byte (At p r s o) = omega arith
some_byte High = omega arith

tuples_within : (x : List Tuple) → length x ≤ sum_by tuple_size x
tuples_within [] = omega arith
tuples_within (t ∷ x) = omega (arith, sum_by-cons tuple_size t x, some_byte t, tuples_within x)

pub short_ident : (x : List Tuple) → ident_size x < 2 ^ 32 → length x < 2 ^ 32
short_ident x h = omega (arith, tuples_within x, h)

runs_within : (rs : List (List Tuple × ℕ)) → length rs ≤ sum_by run_size rs
runs_within [] = omega arith
runs_within (r ∷ rs) = omega (arith, sum_by-cons run_size r rs, runs_within rs)

short_idents : (rs : List (List Tuple × ℕ)) → sum_by run_size rs < 2 ^ 32 → All (λ r. length r.0 < 2 ^ 32) rs
short_idents [] h = λ k d lt. absurd (omega (arith, lt))
short_idents (r ∷ rs) h =
    let l = sum_by-cons run_size r rs in
    All-cons (λ (q : List Tuple × ℕ). length q.0 < 2 ^ 32) r rs (short_ident r.0 (omega (arith, h, l))) (short_idents rs (omega (arith, h, l)))

pub short_runs : (xs : List (List Tuple)) → runs_size xs < 2 ^ 32 → (length (runs_of xs) < 2 ^ 32) × All (λ r. length r.0 < 2 ^ 32) (runs_of xs)
short_runs xs h = (omega (arith, runs_within (runs_of xs), h), short_idents (runs_of xs) (omega (arith, h)))

pub short_body : (b : Body) → body_size b < 2 ^ 32 → IsShort b
short_body (Insert first text) h = (short_ident first (omega (arith, h)), omega (arith, chars_length text, h))
short_body (Delete targets) h = short_runs targets h
short_body (Rename former) h = short_runs former h
short_body Leave h = tt

pub short_op : (o : Op) → op_size o < 2 ^ 32 → IsShort o.body
short_op o h = short_body o.body (omega (arith, h))

-- ---- the operations of a message

small_list : (os : List Op) → sum_by op_size os < 2 ^ 32 → All (λ o. op_size o < 2 ^ 32) os
small_list [] h = λ k d lt. absurd (omega (arith, lt))
small_list (o ∷ os) h =
    let l = sum_by-cons op_size o os in
    All-cons (λ (p : Op). op_size p < 2 ^ 32) o os (omega (arith, h, l)) (small_list os (omega (arith, h, l)))

pub few_ops : (m : Message) → message_size m ≤ INPUT_BYTES → length m.ops < 2 ^ 32
few_ops m h = omega (arith, ops_within m.ops, h)

pub small_ops : (m : Message) → message_size m ≤ INPUT_BYTES → All (λ o. op_size o < 2 ^ 32) m.ops
small_ops m h = small_list m.ops (omega (arith, h))
