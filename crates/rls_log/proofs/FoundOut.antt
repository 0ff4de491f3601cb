-- What is found out of an operation without keeping it is what is known of it.
use Rattle.std.proofs.Common.{◌≡◌, ◌∙◌, ℕ, zero, suc, ◌+◌, ◌-◌, ◌<◌, ◌≤◌, Bool, true, false, not, List, [], ◌∷◌, ◌++◌, length, Option, Some, None, Ok, Err, refl, sym, ap, arith}
use Rattle.std.specs.Prelude.{nat_lt, nat_le, ◌==◌, ◌&&◌, is_some, slice_index, if◌then◌else◌}
use Rattle.std.proofs.lemmas.Bool.{le-ltb}
use Rattle.std.specs.Int.{w32}
use Rattle.rls_ident.specs.declared.limits.TheConstants.{OPERATION_BYTES}
use Rattle.rls_ident.specs.declared.tuple.Tuple.{Tuple}
use Rattle.rls_ident.specs.Identifiers.{last_of}
use Rattle.rls_ident.proofs.Ends.{last_of_pushed}
use Rattle.rls_ident.proofs.Members.{eq_refl, lt_test}
use Rattle.rls_ops.specs.declared.op.Shape.{Shape}
use Rattle.rls_ops.specs.declared.op.Shape.TheVariants.{Author, Context}
use Rattle.rls_ops.specs.declared.op.Op.{Op}
use Rattle.rls_ops.specs.declared.op.Body.{Body}
use Rattle.rls_ops.specs.declared.op.Body.TheVariants.{Insert, Delete, Rename}
use Rattle.rls_ops.specs.Shapes.{body_fault, insertion_fault, listed_fault}
use Rattle.rls_codec.specs.Reading.{◌>>=◌, Read, with_rule, byte_at, number_at, chain_at, inner_at, last_at, many_at, ident_at, text_at, run_at, runs_at, vector_at, name_at, body_of_kind, body_at, op_fields_at, op_at}
use Rattle.rls_codec.proofs.RunSteps as runs
use Rattle.rls_codec.proofs.Loop.{with_front, any_before, goes_on_many, ends, is_done}
use Rattle.rls_runs.specs.Runs.{idents_of, run_idents}
use Rattle.rls_runs.proofs.Finding.{run_length}
use Rattle.std.proofs.lemmas.List.{append-nil, length-append}
use Rattle.rls_ops.specs.Spelling.{op_bytes}
use Rattle.rls_codec.specs.CodecLaws.{IsBytes}
use Rattle.rls_codec.proofs.MessageFormats.{op_fields}
use Rattle.rls_log.specs.declared.head.OpHead.{OpHead}
use Rattle.rls_log.specs.declared.head.OpKind.{OpKind}
use Rattle.rls_log.specs.declared.head.OpKind.TheVariants as kind
use Rattle.rls_codec.proofs.Formats.{ok_is}
use Rattle.rls_codec.specs.declared.fault.ReadError.{ReadError}
use Rattle.rls_codec.specs.declared.fault.ReadError.TheVariants.{Fault, OutOfMemory}
use Rattle.rls_codec.specs.Gives.{Fails}
use Rattle.rls_ident.specs.declared.epoch_name.EpochName.{EpochName}
use Rattle.rls_log.specs.Heads.{kind_in, is_shaped, IsHeadOf}
use Rattle.rls_log.specs.Scanned.{finding, skipped_at, ident_end_at, is_len_after, run_len_at, idents_len_at, is_none, found_of_kind, body_found_at, count_at, fits_as, head_at}

-- ---- steps

same_step : {A B : Type 0} (r : Read A) (f g : A × List ℕ → Read B) → ((x : A × List ℕ) → f x ≡ g x) → (r >>= f) ≡ (r >>= g)
same_step (Ok x) f g h = h x
same_step (Err e) f g h = refl

-- what is found out at the end is found out after each step
finding_step : {A B C : Type 0} (r : Read A) (g : A × List ℕ → Read B) (h : B → C) → finding h (r >>= g) ≡ (r >>= λ x. finding h (g x))
finding_step (Ok x) g h = refl
finding_step (Err e) g h = refl

-- a step over what was found out of a value
found_step : {A B C : Type 0} (r : Read A) (f : A → B) (g : B × List ℕ → Read C) → (finding f r >>= g) ≡ (r >>= λ x. g (f x.0, x.1))
found_step (Ok x) f g = refl
found_step (Err e) f g = refl

both : {A B C : Type 0} (r : Read A) (f : A × List ℕ → Read C) (g : A × List ℕ → Read B) (h : B → C) → ((x : A × List ℕ) → f x ≡ finding h (g x)) → (r >>= f) ≡ finding h (r >>= g)
both r f g h k = same_step r f (λ x. finding h (g x)) k ∙ sym (finding_step r g h)

-- ---- identifiers

pub ident_end_is : (bytes : List ℕ) → ident_end_at bytes ≡ finding last_of (ident_at bytes)
unfolding ident_end_at ident_at
ident_end_is bytes =
    same_step (with_rule (nat_lt 0) (number_at w32) bytes) _ _
    (λ count. found_step (many_at inner_at (count.0 - 1) count.1) (λ ts. 0) (λ front. last_at front.1)
    ∙ same_step (many_at inner_at (count.0 - 1) count.1) _ _ (λ front. ending front.0 (last_at front.1))
    ∙ sym (finding_step (many_at inner_at (count.0 - 1) count.1) (λ front. last_at front.1 >>= λ last. Ok (front.0 ++ last.0 ∷ [], last.1)) last_of))
    ∙ sym (finding_step (with_rule (nat_lt 0) (number_at w32) bytes) _ last_of)
  where
    ending : (front : List Tuple) (r : Read Tuple) → r ≡ finding last_of (r >>= λ last. Ok (front ++ last.0 ∷ [], last.1))
    ending front (Ok x) = ap (λ t. Ok (t, x.1)) (sym (last_of_pushed front x.0))
    ending front (Err e) = refl

-- ---- runs

pub run_len_is : (bytes : List ℕ) → run_len_at bytes ≡ finding (λ (r : List Tuple × ℕ). r.1) (run_at bytes)
unfolding run_len_at run_at
run_len_is bytes =
    ap (λ (r : Read Tuple). r >>= λ last. with_rule (is_len_after last.0) (number_at w32) last.1) (ident_end_is bytes)
    ∙ found_step (ident_at bytes) last_of (λ last. with_rule (is_len_after last.0) (number_at w32) last.1)
    ∙ same_step (ident_at bytes) _ _ (λ first. lengths first.0 (with_rule (is_len_after (last_of first.0)) (number_at w32) first.1))
    ∙ sym (finding_step (ident_at bytes) (λ first. with_rule (is_len_after (last_of first.0)) (number_at w32) first.1 >>= λ len. Ok ((first.0, len.0), len.1)) (λ (r : List Tuple × ℕ). r.1))
  where
    lengths : (x : List Tuple) (r : Read ℕ) → r ≡ finding (λ (r : List Tuple × ℕ). r.1) (r >>= λ len. Ok ((x, len.0), len.1))
    lengths x (Ok n) = refl
    lengths x (Err e) = refl

-- ---- bodies

-- what a body does, and whether its shape is right
abbrev pub found_of : Body → OpKind × Bool
found_of b = (kind_in b, is_none (body_fault b))

found_kind : (k : ℕ) (bytes : List ℕ) → found_of_kind k bytes ≡ finding found_of (body_of_kind k bytes)
found_kind zero bytes =
    ap (λ (r : Read Tuple). r >>= λ last. text_at last.1 >>= λ text. Ok ((kind.Insert, is_none (insertion_fault last.0 (length text.0))), text.1)) (ident_end_is bytes)
    ∙ found_step (ident_at bytes) last_of (λ last. text_at last.1 >>= λ text. Ok ((kind.Insert, is_none (insertion_fault last.0 (length text.0))), text.1))
    ∙ same_step (ident_at bytes) _ _ (λ first. ended first.0 (text_at first.1))
    ∙ sym (finding_step (ident_at bytes) (λ first. text_at first.1 >>= λ text. Ok (Insert first.0 text.0, text.1)) found_of)
  where
    ended : (x : List Tuple) (r : Read (List ℕ)) → (r >>= λ cs. Ok ((kind.Insert, is_none (insertion_fault (last_of x) (length cs.0))), cs.1)) ≡ finding found_of (r >>= λ text. Ok (Insert x text.0, text.1))
    ended x (Ok cs) = refl
    ended x (Err e) = refl
found_kind (suc zero) bytes = found_step (runs_at bytes) length (λ n. Ok ((kind.Delete, is_none (listed_fault n.0)), n.1)) ∙ ended (runs_at bytes)
  where
    ended : (r : Read (List (List Tuple))) → (r >>= λ xs. Ok ((kind.Delete, is_none (listed_fault (length xs.0))), xs.1)) ≡ finding found_of (r >>= λ xs. Ok (Delete xs.0, xs.1))
    ended (Ok xs) = refl
    ended (Err e) = refl
found_kind (suc (suc zero)) bytes = found_step (runs_at bytes) length (λ n. Ok ((kind.Rename, is_none (listed_fault n.0)), n.1)) ∙ ended (runs_at bytes)
  where
    ended : (r : Read (List (List Tuple))) → (r >>= λ xs. Ok ((kind.Rename, is_none (listed_fault (length xs.0))), xs.1)) ≡ finding found_of (r >>= λ xs. Ok (Rename xs.0, xs.1))
    ended (Ok xs) = refl
    ended (Err e) = refl
found_kind (suc (suc (suc k))) bytes = refl

pub body_found_is : (bytes : List ℕ) → body_found_at bytes ≡ finding found_of (body_at bytes)
unfolding body_found_at body_at
body_found_is bytes =
    same_step (with_rule (λ k. nat_le k 3) byte_at bytes) _ _ (λ k. found_kind k.0 k.1) ∙ sym (finding_step (with_rule (λ k. nat_le k 3) byte_at bytes) (λ k. body_of_kind k.0 k.1) found_of)

-- ---- operations

no_shape_fault : (a n : Bool) (f : Option Shape) → (a && n && not (is_some f)) ≡ not (is_some (if not a then Some Author else if not n then Some Context else f))
no_shape_fault true true f = refl
no_shape_fault true false f = refl
no_shape_fault false n f = refl

regrouped : (a s c b : Bool) → (a && s && c && b) ≡ (a && (s && true && c) && b)
regrouped true true c b = refl
regrouped true false c b = refl
regrouped false s c b = refl

shape_is : (o : Op) → fits_as (length o.context) o.author o.seq (slice_index o.context o.author) (is_none (body_fault o.body)) ≡ is_shaped o
shape_is o =
    let m = length o.context in
    let a = nat_lt o.author m in
    let s = nat_lt 0 o.seq in
    let c = slice_index o.context o.author == o.seq - 1 in
    let b = is_none (body_fault o.body) in
    regrouped a s c b ∙ ap (λ t. a && (s && t && c) && b) (sym (eq_refl m)) ∙ no_shape_fault a (s && (m == m) && c) (body_fault o.body)

-- what is kept of an operation, where its context has so many counts
abbrev pub head_as : ℕ → Op → OpHead
head_as members o =
    record { author = o.author; seq = o.seq; epoch = o.epoch; members = members; kind = kind_in o.body; is_shaped = fits_as members o.author o.seq (slice_index o.context o.author) (is_none (body_fault o.body)) }

pub head_is : (members : ℕ) (bytes : List ℕ) → head_at members bytes ≡ finding (head_as members) (op_fields_at members bytes)
unfolding head_at op_fields_at
head_is members bytes =
    both (number_at w32 bytes) _ _ (head_as members) (λ author. both (number_at w32 author.1) _ _ (head_as members) (λ seq.
    found_step (vector_at members seq.1) (λ v. slice_index v author.0) _
    ∙ both (vector_at members seq.1) _ _ (head_as members) (λ context. both (name_at context.1) _ _ (head_as members) (λ epoch.
    ap (λ (r : Read (OpKind × Bool)). r >>= λ found. Ok (record { author = author.0; seq = seq.0; epoch = epoch.0; members = members; kind = found.0.0; is_shaped = fits_as members author.0 seq.0 (slice_index context.0 author.0) found.0.1 }, found.1)) (body_found_is epoch.1)
    ∙ ended author.0 seq.0 context.0 epoch.0 (body_at epoch.1)))))
  where
    ended : (author seq : ℕ) (context : List ℕ) (epoch : EpochName) (r : Read Body)
        → (finding found_of r >>= λ found. Ok (record { author = author; seq = seq; epoch = epoch; members = members; kind = found.0.0; is_shaped = fits_as members author seq (slice_index context author) found.0.1 }, found.1))
        ≡ finding (head_as members) (r >>= λ body. Ok (record { author = author; seq = seq; context = context; epoch = epoch; body = body.0 }, body.1))
    ended author seq context epoch (Ok b) = refl
    ended author seq context epoch (Err e) = refl

found_ok : {A B : Type 0} (f : A → B) (r : Read A) (y : B) (rest : List ℕ) → finding f r ≡ Ok (y, rest) → (x : A) × (r ≡ Ok (x, rest)) × (y ≡ f x)
found_ok {B = B} f (Ok x) y rest e =
    let is = ok_is (f x.0, x.1) (y, rest) e in
    (x.0, ap (λ (t : List ℕ). Ok (x.0, t)) (ap (λ (q : B × List ℕ). q.1) is), sym (ap (λ (q : B × List ℕ). q.0) is))
found_ok f (Err d) y rest e = absurd cc

abbrev fail_place : {A : Type 0} → Read A → ℕ
fail_place (Ok x) = 0
fail_place (Err d) = d

abbrev fail : {A : Type 0} → ℕ → Read A
fail d = Err d

found_err : {A B : Type 0} (f : A → B) (r : Read A) (left : ℕ) → finding f r ≡ Err left → r ≡ Err left
found_err f (Ok x) left e = absurd cc
found_err {A = A} f (Err d) left e = ap (fail {A = A}) (ap fail_place e)

-- what is found out of an operation that is read
pub head_found : (members : ℕ) (bytes : List ℕ) (h : OpHead) (rest : List ℕ) → head_at members bytes ≡ Ok (h, rest) → (o : Op) × (op_fields_at members bytes ≡ Ok (o, rest)) × (h ≡ head_as members o)
head_found members bytes h rest e = found_ok (head_as members) (op_fields_at members bytes) h rest (sym (head_is members bytes) ∙ e)

pub head_tells : (members : ℕ) (o : Op) (h : OpHead) → h ≡ head_as members o → length o.context ≡ members → IsHeadOf h o
head_tells members o h e l = record {
  author = ap (λ (x : OpHead). x.author) e;
  seq = ap (λ (x : OpHead). x.seq) e;
  epoch = ap (λ (x : OpHead). x.epoch) e;
  members = ap (λ (x : OpHead). x.members) e ∙ sym l;
  kind = ap (λ (x : OpHead). x.kind) e;
  shaped = ap (λ (x : OpHead). x.is_shaped) e ∙ ap (λ n. fits_as n o.author o.seq (slice_index o.context o.author) (is_none (body_fault o.body))) (sym l) ∙ shape_is o;
}

-- and why it isn't read
pub head_fails : (members : ℕ) (bytes : List ℕ) (f : ReadError) → Fails f (head_at members bytes) → Fails f (op_fields_at members bytes)
head_fails members bytes OutOfMemory e = tt
head_fails members bytes (Fault left) e = found_err (head_as members) (op_fields_at members bytes) left (sym (head_is members bytes) ∙ e)

-- ---- what the code reads

-- a value that isn't read
pub found_fails : {A B : Type 0} (f : A → B) (e : ReadError) (r : Read A) → Fails e r → Fails e (finding f r)
found_fails f OutOfMemory r h = tt
found_fails f (Fault left) r h = ap (finding f) h

-- a list of runs whose number isn't read
pub idents_len_fails : (e : ReadError) (bytes : List ℕ) → Fails e (number_at w32 bytes) → Fails e (idents_len_at bytes)
idents_len_fails e bytes h = found_fails length e (runs_at bytes) (runs.count_fails e bytes h)

-- a single run is its own list
one_run : (bytes rest after : List ℕ) (r : List Tuple × ℕ) → number_at w32 bytes ≡ Ok (1, rest) → run_at rest ≡ Ok (r, after) → runs_at bytes ≡ Ok (idents_of (r ∷ []), after)
unfolding runs_at chain_at
one_run bytes rest after r e f = rw (e, f) refl

pub one_run_len : (bytes rest after : List ℕ) (n : ℕ) → number_at w32 bytes ≡ Ok (1, rest) → run_len_at rest ≡ Ok (n, after) → idents_len_at bytes ≡ Ok (n, after)
one_run_len bytes rest after n e f =
    let r = found_ok (λ (r : List Tuple × ℕ). r.1) (run_at rest) n after (sym (run_len_is rest) ∙ f) in
    ap (finding length) (one_run bytes rest after r.0 e r.1) ∙ ap (λ k. Ok (k, after)) (one_length r.0 ∙ sym r.2)
  where
    one_length : (r : List Tuple × ℕ) → length (idents_of (r ∷ [])) ≡ r.1
    one_length r = ap length (append-nil (run_idents r.0 r.1)) ∙ run_length r.0 r.1

one_run_err : (bytes rest : List ℕ) (left : ℕ) → number_at w32 bytes ≡ Ok (1, rest) → run_at rest ≡ Err left → runs_at bytes ≡ Err left
unfolding runs_at chain_at
one_run_err bytes rest left e f = rw (e, f) refl

pub one_run_fails : (bytes rest : List ℕ) (f : ReadError) → number_at w32 bytes ≡ Ok (1, rest) → Fails f (run_len_at rest) → Fails f (idents_len_at bytes)
one_run_fails bytes rest OutOfMemory e h = tt
one_run_fails bytes rest (Fault left) e h = ap (finding length) (one_run_err bytes rest left e (found_err (λ (r : List Tuple × ℕ). r.1) (run_at rest) left (sym (run_len_is rest) ∙ h)))

-- tuples that are passed over one by one
pub skips_on : (count i : ℕ) (bytes after : List ℕ) (t : Tuple) (total : Read ℕ) → i < count → inner_at bytes ≡ Ok (t, after) → skipped_at (count - i) bytes ≡ total → skipped_at (count - (i + 1)) after ≡ total
unfolding chain_at
skips_on count i bytes after t total l h so_far =
    let k : count - i ≡ suc (count - (i + 1)) = omega arith in
    let one : skipped_at (count - i) bytes ≡ skipped_at (count - (i + 1)) after =
    rw (k, h) (again (chain_at (λ before. inner_at) (Some t) (count - (i + 1)) after) ∙ ap (finding {B = ℕ} (λ ts. 0)) (sym (any_before inner_at None (Some t) (count - (i + 1)) after))) in
    sym one ∙ so_far
  where
    again : (r : Read (List Tuple)) → finding {B = ℕ} (λ ts. 0) (r >>= λ others. Ok (t ∷ others.0, others.1)) ≡ finding {B = ℕ} (λ ts. 0) r
    again (Ok x) = refl
    again (Err e) = refl

pub skip_ends : (f : ReadError) (count i : ℕ) (bytes : List ℕ) (total : Read ℕ) → i < count → Fails f (inner_at bytes) → skipped_at (count - i) bytes ≡ total → Fails f total
unfolding chain_at
skip_ends OutOfMemory count i bytes total l h so_far = tt
skip_ends (Fault left) count i bytes total l h so_far =
    let k : count - i ≡ suc (count - (i + 1)) = omega arith in
    let one : skipped_at (count - i) bytes ≡ Err left = rw (k, h) refl in
    sym so_far ∙ one

pub skip_done : (count i : ℕ) (bytes : List ℕ) (total : Read ℕ) → count ≤ i → skipped_at (count - i) bytes ≡ total → total ≡ Ok (0, bytes)
unfolding chain_at
skip_done count i bytes total l so_far =
    let k : count - i ≡ 0 = omega arith in
    let one : skipped_at (count - i) bytes ≡ Ok (0, bytes) = rw k refl in
    sym so_far ∙ one

-- ---- the limit of an operation

pub limit_kept : (members : ℕ) (bytes : List ℕ) (o : Op) (rest : List ℕ) → op_fields_at members bytes ≡ Ok (o, rest) → length bytes - length rest ≤ OPERATION_BYTES → op_at members bytes ≡ Ok (o, rest)
unfolding op_at
limit_kept members bytes o rest e l =
    let short : nat_lt (length rest + OPERATION_BYTES) (length bytes) ≡ false = le-ltb (length rest + OPERATION_BYTES) (length bytes) (omega (arith, l)) in
    rw (e, short) refl

pub limit_broken : (members : ℕ) (bytes : List ℕ) (o : Op) (rest : List ℕ) → op_fields_at members bytes ≡ Ok (o, rest) → OPERATION_BYTES < length bytes - length rest → op_at members bytes ≡ Err (length bytes)
unfolding op_at
limit_broken members bytes o rest e l =
    let long : nat_lt (length rest + OPERATION_BYTES) (length bytes) ≡ true = lt_test (length rest + OPERATION_BYTES) (length bytes) (omega (arith, l)) in
    rw (e, long) refl

pub op_fails : (members : ℕ) (bytes : List ℕ) (f : ReadError) → Fails f (op_fields_at members bytes) → Fails f (op_at members bytes)
unfolding op_at
op_fails members bytes OutOfMemory h = tt
op_fails members bytes (Fault left) h = rw h refl

-- an operation that keeps the limit
abbrev found : Op × List ℕ → Read Op
found x = Ok x

abbrev limited : ℕ → Op × List ℕ → Bool → Read Op
limited n x b = if b then Err n else Ok x

pub fields_of : (members : ℕ) (bytes : List ℕ) (o : Op) (rest : List ℕ) → op_at members bytes ≡ found (o, rest) → op_fields_at members bytes ≡ found (o, rest)
unfolding op_at
fields_of members bytes o rest e = go (op_fields_at members bytes) e
  where
    pick : (x : Op × List ℕ) (b : Bool) → limited (length bytes) x b ≡ found (o, rest) → found x ≡ found (o, rest)
    pick x true h = absurd cc
    pick x false h = h

    go : (r : Read Op) → (r >>= λ x. limited (length bytes) x (nat_lt (length x.1 + OPERATION_BYTES) (length bytes))) ≡ found (o, rest) → r ≡ found (o, rest)
    go (Ok x) h = pick x (nat_lt (length x.1 + OPERATION_BYTES) (length bytes)) h
    go (Err left) h = absurd cc

-- what is left is no more than there was
pub head_within : (members : ℕ) (bytes : List ℕ) (h : OpHead) (rest : List ℕ) → IsBytes bytes → head_at members bytes ≡ Ok (h, rest) → length rest ≤ length bytes
head_within members bytes h rest small e =
    let f = head_found members bytes h rest e in
    let t = (op_fields members).takes bytes f.0 rest small f.1 in
    omega (arith, ap length t.0.parts, length-append (op_bytes f.0) rest)

pub head_members : (members : ℕ) (bytes : List ℕ) (o : Op) (rest : List ℕ) → IsBytes bytes → op_fields_at members bytes ≡ Ok (o, rest) → length o.context ≡ members
head_members members bytes o rest small e = ((op_fields members).takes bytes o rest small e).1.2.0

-- ---- the count of one member

-- the counts so far, and what is still to be read
pub record CountedSoFar (bytes : List ℕ) (members author i found : ℕ) (rest : List ℕ) : Type 0 where
  pub front : List ℕ
  pub read : with_front front (many_at (number_at w32) (members - i) rest) ≡ vector_at members bytes
  pub place : length front ≡ i
  pub found_is : found ≡ slice_index front author

pub no_count_yet : (bytes : List ℕ) (members author : ℕ) → CountedSoFar bytes members author 0 0 bytes
no_count_yet bytes members author = record { front = []; read = (let n : members - 0 ≡ members = omega arith in ap (λ k. with_front [] (many_at (number_at w32) k bytes)) n ∙ alone (vector_at members bytes)); place = refl; found_is = refl }
  where
    alone : (r : Read (List ℕ)) → with_front [] r ≡ r
    alone (Ok x) = refl
    alone (Err e) = refl

last_at_place : (front : List ℕ) (n : ℕ) → slice_index (front ++ n ∷ []) (length front) ≡ n
last_at_place [] n = refl
last_at_place (x ∷ front) n = last_at_place front n

other_at_place : (front : List ℕ) (n a : ℕ) → (a ≡ length front → ⊥) → slice_index (front ++ n ∷ []) a ≡ slice_index front a
other_at_place [] n zero d = absurd (d refl)
other_at_place [] n (suc a) d = refl
other_at_place (x ∷ front) n zero d = refl
other_at_place (x ∷ front) n (suc a) d = other_at_place front n a (λ e. d (ap suc e))

count_on : (bytes : List ℕ) (members author i found n : ℕ) (rest after : List ℕ) (next : ℕ) → i < members → number_at w32 rest ≡ Ok (n, after) → (h : CountedSoFar bytes members author i found rest) → next ≡ slice_index (h.front ++ n ∷ []) author
    → CountedSoFar bytes members author (i + 1) next after
count_on bytes members author i found n rest after next l e h k = record {
  front = h.front ++ n ∷ [];
  read = goes_on_many (number_at w32) h.front members i rest n after (vector_at members bytes) l e h.read;
  place = omega (arith, length-append h.front (n ∷ []), h.place);
  found_is = k;
}

pub count_found : (bytes : List ℕ) (members author i found n : ℕ) (rest after : List ℕ) → i < members → number_at w32 rest ≡ Ok (n, after) → CountedSoFar bytes members author i found rest → i ≡ author → CountedSoFar bytes members author (i + 1) n after
count_found bytes members author i found n rest after l e h k = count_on bytes members author i found n rest after n l e h (sym (last_at_place h.front n) ∙ ap (slice_index (h.front ++ n ∷ [])) (h.place ∙ k))

pub count_passed : (bytes : List ℕ) (members author i found n : ℕ) (rest after : List ℕ) → i < members → number_at w32 rest ≡ Ok (n, after) → CountedSoFar bytes members author i found rest → (i ≡ author → ⊥) → CountedSoFar bytes members author (i + 1) found after
count_passed bytes members author i found n rest after l e h k = count_on bytes members author i found n rest after found l e h (h.found_is ∙ sym (other_at_place h.front n author (λ d. k (sym h.place ∙ sym d))))

pub count_read : (bytes : List ℕ) (members author i found : ℕ) (rest : List ℕ) → members ≤ i → CountedSoFar bytes members author i found rest → count_at members author bytes ≡ Ok (found, rest)
count_read bytes members author i found rest l h =
    ap (finding (λ v. slice_index v author)) (is_done (λ before. number_at w32) h.front None members i rest (vector_at members bytes) l h.read) ∙ ap (λ n. Ok (n, rest)) (sym h.found_is)

pub count_fails : (bytes : List ℕ) (members author i found : ℕ) (rest : List ℕ) (f : ReadError) → i < members → Fails f (number_at w32 rest) → CountedSoFar bytes members author i found rest → Fails f (count_at members author bytes)
count_fails bytes members author i found rest OutOfMemory l e h = tt
count_fails bytes members author i found rest (Fault left) l e h = ap (finding (λ v. slice_index v author)) (ends (λ before. number_at w32) (Fault left) h.front None members i rest (vector_at members bytes) l e h.read)
