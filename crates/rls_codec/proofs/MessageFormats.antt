-- The formats of operations and messages.
use Rattle.std.proofs.Common.{◌≡◌, ℕ, zero, suc, ◌+◌, ◌-◌, ◌<◌, ◌≤◌, true, false, cond, List, [], ◌∷◌, ◌++◌, length, drop, Option, Some, None, Result, Ok, Err, refl, sym, ap, subst, ◌∙◌, arith, lit<}
use Rattle.std.specs.Prelude.{nat_le, nat_lt, pos, ◌+ℤ◌, ◌&&◌, IsTrue, codes, bytes_eq}
use Rattle.std.proofs.lemmas.Slice.Eq.{bytes_eq-Decides}
use Rattle.rls_ident.specs.declared.limits.TheConstants.{OPERATION_BYTES, OFFSETS_END}
use Rattle.rls_ops.specs.declared.message.Message.{Message}
use Rattle.std.specs.List.{flat_map, concat}
use Rattle.std.specs.Int.{w32, to_be_bytes}
use Rattle.std.proofs.lemmas.List.{length-append, length-drop, append-nil}
use Rattle.std.proofs.lemmas.Bool.{and_parts, and_from, leb-true, ltb-true, lt-ltb, ltb-false, le-ltb}
use Rattle.rls_ident.specs.declared.tuple.Tuple.{Tuple}
use Rattle.rls_runs.specs.Runs.{runs_of, idents_of, is_apart, are_apart}
use Rattle.rls_ident.specs.Tuples.{offset_of}
use Rattle.rls_ident.specs.Identifiers.{last_of}
use Rattle.std.specs.Int.RustNames.{int_le}
use Rattle.rls_ops.specs.declared.op.Op.{Op}
use Rattle.rls_ops.specs.declared.op.Body.{Body}
use Rattle.rls_ops.specs.declared.op.Body.TheVariants.{Insert, Delete, Rename, Leave}
use Rattle.rls_ops.specs.Spelling.{runs_bytes, run_bytes, kind_of, name_bytes, body_bytes, op_bytes, ident_bytes, text_bytes, message_in_form}
use Rattle.rls_codec.specs.Reading.{◌>>=◌, Read, runs_at, body_of_kind, body_at, op_fields_at, op_at, next_run_at, magic_at, is_message_form, is_member_count, message_and_form_at, message_at, message_of, whole, placed, op_from}
use Rattle.rls_codec.specs.Spelled.{Chained, FitsIdent, FitsBehind, FitRuns, FitsText, FitsBody, FieldsFit, IsSpelled, IsSpelledMessage}
use Rattle.rls_codec.specs.CodecLaws.{IsBytes, IsMessage, BeginsAt}
use Rattle.rls_codec.proofs.Formats.{IsBytes-drop, Takes, Spells, only_one, done, field, fitting, spelling, seen, ruled, byte, bind_ok, kept_false, ok_is, counted_parts, raw, small_count, small_from}
use Rattle.rls_codec.proofs.PartFormats.{small, large, ident, next_run, vector, name, text}
use Rattle.rls_runs.proofs.RunsOf.{runs_of_idents}

-- runs that fit one after the other are apart
pub apart_from : (before : Option (List Tuple × ℕ)) (rs : List (List Tuple × ℕ)) → Chained FitsBehind before rs → are_apart before rs ≡ true
apart_from before [] c = refl
apart_from before (r ∷ rs) c = and_from (nat_lt 0 r.1 && is_apart before r) (are_apart (Some r) rs) (and_from (nat_lt 0 r.1) (is_apart before r) (and_parts (nat_lt 0 r.1) (int_le (offset_of (last_of r.0) +ℤ pos r.1) (pos OFFSETS_END)) c.0.0.2).0 c.0.1) (apart_from (Some r) rs c.1)

pub runs : Spells runs_at runs_bytes FitRuns
unfolding runs_at
runs = seen FitRuns idents_of runs_of (counted_parts next_run_at run_bytes FitsBehind next_run)
    (λ rs f. let e = runs_of_idents None rs (apart_from None rs f.1) in (e, (rw e f.0, rw e f.1, rw e refl)))
    (λ xs f. (f.2, (f.0, f.1)))

-- ---- bodies

abbrev first_of : Body → List Tuple
first_of (Insert first _) = first
first_of _ = []

abbrev chars_of : Body → List ℕ
chars_of (Insert _ cs) = cs
chars_of _ = []

abbrev targets_of : Body → List (List Tuple)
targets_of (Delete targets) = targets
targets_of (Rename former) = former
targets_of _ = []

abbrev OfKind : ℕ → Body → Type 0
OfKind k b = (kind_of b ≡ k) × FitsBody b

-- the body of a kind that has runs alone, over these runs
abbrev with_runs : ℕ → List (List Tuple) → Body
with_runs (suc zero) xs = Delete xs
with_runs _ xs = Rename xs

over_runs : (b : Body) (k : ℕ) → OfKind k b → IsTrue (nat_le 1 k && nat_le k 2) → (with_runs k (targets_of b) ≡ b) × FitRuns (targets_of b)
over_runs (Delete xs) k f h = rw (sym f.0) (refl, f.1)
over_runs (Rename xs) k f h = rw (sym f.0) (refl, f.1)
over_runs (Insert x cs) k f h = let e = rw (sym f.0) at h in absurd cc
over_runs Leave k f h = let e = rw (sym f.0) at h in absurd cc

body_kinds : (k : ℕ) → nat_le k 3 ≡ true → Spells (body_of_kind k) body_bytes (OfKind k)
body_kinds zero h = spelling body_bytes (fitting (OfKind 0) (field first_of ident (λ x hx. field chars_of text (λ cs hc. done (Insert x cs)) (λ cs b h f. ap chars_of f)) (λ x b h f. ap first_of f.1)) to from) same
  where
    to : (b : Body) → FitsIdent (first_of b) × (FitsText (chars_of b) × (b ≡ Insert (first_of b) (chars_of b))) → OfKind 0 b
    to (Insert x cs) f = (refl, (f.0, f.1.0))
    to (Delete xs) f = absurd cc
    to (Rename xs) f = absurd cc
    to Leave f = absurd cc

    from : (b : Body) → OfKind 0 b → FitsIdent (first_of b) × (FitsText (chars_of b) × (b ≡ Insert (first_of b) (chars_of b)))
    from (Insert x cs) f = (f.1.0, (f.1.1, refl))
    from (Delete xs) f = absurd (omega (arith, f.0))
    from (Rename xs) f = absurd (omega (arith, f.0))
    from Leave f = absurd (omega (arith, f.0))

    same : (b : Body) → OfKind 0 b → ident_bytes (first_of b) ++ (text_bytes (chars_of b) ++ []) ≡ body_bytes b
    same (Insert x cs) f = refl
    same (Delete xs) f = absurd (omega (arith, f.0))
    same (Rename xs) f = absurd (omega (arith, f.0))
    same Leave f = absurd (omega (arith, f.0))
body_kinds (suc zero) h = spelling body_bytes (seen (OfKind 1) Delete targets_of runs (λ xs f. (refl, (refl, f))) (λ b f. over_runs b 1 f refl)) (λ b f. ap body_bytes (over_runs b 1 f refl).0)
body_kinds (suc (suc zero)) h = spelling body_bytes (seen (OfKind 2) Rename targets_of runs (λ xs f. (refl, (refl, f))) (λ b f. over_runs b 2 f refl)) (λ b f. ap body_bytes (over_runs b 2 f refl).0)
body_kinds (suc (suc (suc zero))) h = spelling body_bytes (fitting (OfKind 3) (done Leave) (λ b e. rw e (refl, tt)) is_leave) (λ b f. ap body_bytes (sym (is_leave b f)))
  where
    is_leave : (b : Body) → OfKind 3 b → b ≡ Leave
    is_leave Leave f = refl
    is_leave (Insert x cs) f = absurd (omega (arith, f.0))
    is_leave (Delete xs) f = absurd (omega (arith, f.0))
    is_leave (Rename xs) f = absurd (omega (arith, f.0))
body_kinds (suc (suc (suc (suc k)))) h = absurd (omega (arith, leb-true (suc (suc (suc (suc k)))) 3 h))

pub body : Spells body_at (λ b. concat ((kind_of b ∷ []) ∷ body_bytes b ∷ [])) FitsBody
unfolding body_at
body = spelling (λ b. concat ((kind_of b ∷ []) ∷ body_bytes b ∷ [])) (fitting FitsBody (field kind_of (ruled (λ k. nat_le k 3) byte) (λ k h. body_kinds k h.1) (λ k b h f. f.0)) (λ b f. f.1.1) from) same
  where
    from : (b : Body) → FitsBody b → ((kind_of b < 256) × (nat_le (kind_of b) 3 ≡ true)) × ((kind_of b ≡ kind_of b) × FitsBody b)
    from (Insert x cs) f = ((lit< tt, refl), (refl, f))
    from (Delete xs) f = ((lit< tt, refl), (refl, f))
    from (Rename xs) f = ((lit< tt, refl), (refl, f))
    from Leave f = ((lit< tt, refl), (refl, f))

    same : (b : Body) → FitsBody b → (kind_of b ∷ []) ++ body_bytes b ≡ concat ((kind_of b ∷ []) ∷ body_bytes b ∷ [])
    same b f = ap (λ w. kind_of b ∷ w) (sym (append-nil (body_bytes b)))

-- ---- operations

-- a part that as a whole has at most so many bytes
limited : {A : Type 0} {r : List ℕ → Read A} {s : A → List ℕ} {F : A → Type 0} (most : ℕ) → Spells r s F
    → Spells (λ bytes. r bytes >>= λ x. cond (nat_lt (length x.1 + most) (length bytes)) (Err (length bytes)) (Ok x)) s (λ x. F x × (length (s x) ≤ most))
limited {r = r} {s = s} {F = F} most one = record {
  again = λ x rest fits.
      let short : nat_lt (length rest + most) (length (s x ++ rest)) ≡ false = le-ltb _ _ (omega (arith, fits.1, length-append (s x) rest)) in
      rw (one.again x rest fits.0, short) refl;
  takes = λ bytes x rest h e.
      let b = bind_ok (r bytes) (λ y. cond (nat_lt (length y.1 + most) (length bytes)) (Err (length bytes)) (Ok y)) (x, rest) e in
      let g = kept_false (nat_lt (length b.0.1 + most) (length bytes)) (length bytes) b.0 (x, rest) b.2 in
      let t = one.takes bytes b.0.0 b.0.1 h b.1 in
      let short : length (s b.0.0) ≤ most = omega (arith, ltb-false _ _ g.0, ap length t.0.parts, length-append (s b.0.0) b.0.1) in
      subst (λ q. Takes bytes (s q.0) q.1 × (F q.0 × (length (s q.0) ≤ most))) g.1 (t.0, (t.1, short));
}

pub op_fields : (members : ℕ) → Spells (op_fields_at members) op_bytes (FieldsFit members)
unfolding op_fields_at op_bytes
op_fields members = spelling op_bytes
    (fitting (FieldsFit members)
    (field (λ o. o.author) small (λ author h0. field (λ o. o.seq) small (λ seq h1. field (λ o. o.context) (vector members) (λ context h2. field (λ o. o.epoch) name (λ epoch h3. field (λ o. o.body) body (λ b h4. done (record { author = author; seq = seq; context = context; epoch = epoch; body = b }))
    (λ b o h f. ap (λ (p : Op). p.body) f)) (λ epoch o h f. ap (λ (p : Op). p.epoch) f.1)) (λ context o h f. ap (λ (p : Op). p.context) f.1.1)) (λ seq o h f. ap (λ (p : Op). p.seq) f.1.1.1)) (λ author o h f. ap (λ (p : Op). p.author) f.1.1.1.1))
    (λ o f. (f.0, f.1.0, f.1.1.0, f.1.1.1.0, f.1.1.1.1.0)) (λ o f. (f.0, (f.1, (f.2, (f.3, (f.4, refl)))))))
    (λ o f. ap (λ w. to_be_bytes w32 o.author ++ (to_be_bytes w32 o.seq ++ (flat_map (to_be_bytes w32) o.context ++ (name_bytes o.epoch ++ w)))) (append-nil (kind_of o.body ∷ (body_bytes o.body ++ []))))

pub op : (members : ℕ) → Spells (op_at members) op_bytes (IsSpelled members)
unfolding op_at
op members = fitting (IsSpelled members) (limited OPERATION_BYTES (op_fields members))
    (λ o f. record { author = f.0.0; seq = f.0.1; context = f.0.2; epoch = f.0.3; body = f.0.4; limit = f.1 })
    (λ o f. ((f.author, f.seq, f.context, f.epoch, f.body), f.limit))

-- ---- messages

pub magic_is : (magic found : List ℕ) → bytes_eq found magic ≡ true → found ≡ magic
magic_is magic found e = (bytes_eq-Decides found magic).0 e

-- these bytes, whatever value they stand in
abbrev pub HasMagic : List ℕ → List ℕ → Type 0
HasMagic magic found = (length found ≡ length magic) × (bytes_eq found magic ≡ true)

pub magic : (bytes : List ℕ) → Spells (magic_at bytes) (λ found. found) (HasMagic bytes)
magic bytes = ruled (λ found. bytes_eq found bytes) (raw (length bytes))

abbrev Form : ℕ × Message → Type 0
Form x = IsTrue (is_message_form x.0) × IsSpelledMessage x.1

pub message_and_form : Spells message_and_form_at (λ x. message_in_form x.0 x.1) Form
unfolding message_and_form_at message_in_form
message_and_form = spelling (λ x. message_in_form x.0 x.1)
    (fitting Form
    (field (λ x. codes "RLSM") (magic (codes "RLSM")) (λ m hm. field (λ x. x.0) (ruled is_message_form byte) (λ form hf. field (λ x. x.1.group) large (λ group hg. field (λ x. x.1.members) (ruled is_member_count small) (λ members hc. field (λ x. x.1.from) (ruled (λ n. nat_lt n members) small) (λ from h1. field (λ x. x.1.vector) (vector members) (λ v hv. field (λ x. x.1.ops) (counted_parts (λ before. op_at members) op_bytes (λ before. IsSpelled members) (λ before. op members)) (λ os ho. done (form, record { group = group; members = members; from = from; vector = v; ops = os }))
    (λ os x h f. ap (λ (y : ℕ × Message). y.1.ops) f)) (λ v x h f. ap (λ (y : ℕ × Message). y.1.vector) f.1)) (λ from x h f. ap (λ (y : ℕ × Message). y.1.from) f.1.1)) (λ members x h f. ap (λ (y : ℕ × Message). y.1.members) f.1.1.1)) (λ group x h f. ap (λ (y : ℕ × Message). y.1.group) f.1.1.1.1)) (λ form x h f. ap (λ (y : ℕ × Message). y.0) f.1.1.1.1.1)) (λ m x h f. sym (magic_is (codes "RLSM") m h.1)))
    (λ x f. (f.1.0.1, record { group = f.1.1.0; members = f.1.1.1.0.1; from = ltb-true x.1.from x.1.members f.1.1.1.1.0.1; vector = f.1.1.1.1.1.0; count = f.1.1.1.1.1.1.0.0; ops = f.1.1.1.1.1.1.0.1 }))
    (λ x f. ((refl, refl), ((form_byte x.0 f.0, f.0), (f.1.group, ((small_count x.1.members f.1.members, f.1.members), ((small_from x.1.from x.1.members f.1.members f.1.from, lt-ltb x.1.from x.1.members f.1.from), (f.1.vector, ((f.1.count, f.1.ops), refl)))))))))
    (λ x f. refl)
  where
    form_byte : (n : ℕ) → is_message_form n ≡ true → n < 256
    form_byte n e = omega (arith, leb-true n 3 (and_parts (nat_lt 0 n) (nat_le n 3) e).1)

-- ---- the laws

-- an operation that is spelled is read, with what follows it
pub op_again : (members : ℕ) (o : Op) (rest : List ℕ) → IsSpelled members o → op_at members (op_bytes o ++ rest) ≡ Ok (o, rest)
op_again members o rest h = (op members).again o rest h

-- an operation that is read is spelled so
pub op_takes : (members : ℕ) (bytes : List ℕ) (o : Op) (rest : List ℕ) → IsBytes bytes → op_at members bytes ≡ Ok (o, rest) → (bytes ≡ op_bytes o ++ rest) × IsSpelled members o
op_takes members bytes o rest h e = let t = (op members).takes bytes o rest h e in (t.0.parts, t.1)

-- no spelling of an operation is a proper prefix of another's
pub op_alone : (members : ℕ) (o p : Op) (rest : List ℕ) → IsSpelled members o → IsSpelled members p → op_bytes o ++ rest ≡ op_bytes p → (o ≡ p) × (rest ≡ [])
op_alone members o p rest f g e = only_one (op members) o p rest f g e

pub whole_ok : {A : Type 0} (bytes : List ℕ) (x : A) (r : Result (A × List ℕ) ℕ) → whole bytes r ≡ Ok x → r ≡ Ok (x, [])
whole_ok bytes x (Ok (y, [])) e = cc
whole_ok bytes x (Ok (y, b ∷ rest)) e = absurd cc
whole_ok bytes x (Err left) e = absurd cc

pub message_takes : (bytes : List ℕ) (m : Message) → IsBytes bytes → message_of bytes ≡ Ok m → IsMessage bytes m
unfolding message_of message_at
message_takes bytes m h e =
    let w = whole_ok bytes m (message_and_form_at bytes >>= λ x. Ok (x.0.1, x.1)) e in
    let b = bind_ok (message_and_form_at bytes) (λ x. Ok (x.0.1, x.1)) (m, []) w in
    let t = message_and_form.takes bytes b.0.0 b.0.1 h b.1 in
    let p = ok_is (b.0.0.1, b.0.1) (m, []) b.2 in
    let W : Message × List ℕ → Type 0 = λ q. (form : ℕ) × IsTrue (is_message_form form) × IsSpelledMessage q.0 × (bytes ≡ message_in_form form q.0 ++ q.1) in
    let got : W (m, []) = subst W p (b.0.0.0, t.1.0, t.1.1, t.0.parts) in
    (got.0, got.1, got.2, got.3 ∙ append-nil (message_in_form got.0 m))

pub message_again : (bytes : List ℕ) (m : Message) → IsMessage bytes m → message_of bytes ≡ Ok m
unfolding message_of message_at
message_again bytes m h =
    let read : message_and_form_at bytes ≡ Ok ((h.0, m), []) = ap message_and_form_at (h.3 ∙ sym (append-nil (message_in_form h.0 m))) ∙ message_and_form.again (h.0, m) [] (h.1, h.2) in
    ap (λ r. whole bytes (r >>= λ x. Ok (x.0.1, x.1))) read

-- ---- an operation in a longer list of bytes

placed_ok : {A : Type 0} (total : ℕ) (r : Read A) (x : A) (next : ℕ) → placed total r ≡ Ok (x, next) → (rest : List ℕ) × (r ≡ Ok (x, rest)) × (next ≡ total - length rest)
placed_ok {A = A} total (Ok (y, rest)) x next e =
    let q = ok_is (y, total - length rest) (x, next) e in
    (rest, ap (λ z. Ok (z, rest)) (ap (λ (w : A × ℕ). w.0) q), sym (ap (λ (w : A × ℕ). w.1) q))
placed_ok total (Err left) x next e = absurd cc

-- where an operation is read, a spelled one begins, and it ends at the place that is answered
pub op_from_takes : (members : ℕ) (bytes : List ℕ) (from : ℕ) (o : Op) (next : ℕ) → from ≤ length bytes → IsBytes bytes → op_from members bytes from ≡ Ok (o, next) → BeginsAt members bytes from o next
unfolding op_from
op_from_takes members bytes from o next le h e =
    let p = placed_ok (length bytes) (op_at members (drop from bytes)) o next e in
    let t = (op members).takes (drop from bytes) o p.0 (IsBytes-drop from bytes h) p.1 in
    (p.0, t.1, t.0.parts, omega (arith, le, p.2, ap length t.0.parts, length-append (op_bytes o) p.0, length-drop from bytes))

-- where a spelled operation begins, it is read
pub op_from_again : (members : ℕ) (bytes : List ℕ) (from : ℕ) (o : Op) (next : ℕ) → from ≤ length bytes → BeginsAt members bytes from o next → op_from members bytes from ≡ Ok (o, next)
unfolding op_from
op_from_again members bytes from o next le b =
    let after : length bytes - length b.0 ≡ next = omega (arith, le, b.3, ap length b.2, length-append (op_bytes o) b.0, length-drop from bytes) in
    ap (λ bs. placed (length bytes) (op_at members bs)) b.2 ∙ ap (placed (length bytes)) ((op members).again o b.0 b.1) ∙ ap (λ n. Ok (o, n)) after
