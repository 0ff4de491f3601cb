-- A fault lies within the bytes that were read, and so does what is left.
use Rattle.std.proofs.Common.{◌≡◌, ℕ, zero, suc, ◌+◌, ◌≤◌, Bool, true, false, cond, List, [], ◌∷◌, length, take, drop, Option, Some, None, Result, Ok, Err, refl, ap, arith, inl, inr, ◌⊎◌}
use Rattle.std.specs.Prelude.{nat_lt, ℤ}
use Rattle.std.specs.Int.{Width, w32, w64, byte_len}
use Rattle.std.proofs.lemmas.List.{length-drop}
use Rattle.rls_ident.specs.declared.limits.TheConstants.{OPERATION_BYTES}
use Rattle.rls_ident.specs.declared.epoch_name.EpochName.TheVariants.{Origin}
use Rattle.rls_ident.specs.declared.tuple.Tuple.TheVariants.{Low, High}
use Rattle.rls_ops.specs.declared.op.Body.TheVariants.{Leave}
use Rattle.rls_codec.specs.Reading.{◌>>=◌, Read, with_rule, byte_at, number_at, bytes_at, signed_at, chain_at, spot_at, inner_of_kind, inner_at, last_at, ident_at, run_at, next_run_at, runs_at, name_of_kind, name_at, text_at, body_of_kind, body_at, op_fields_at, op_at, message_and_form_at, message_at}
use Rattle.rls_codec.proofs.Formats.{bind_ok, ok_is}

pub record Within {A : Type 0} (read : List ℕ → Read A) : Type 0 where
  pub rest : (bytes : List ℕ) (x : A) (rest : List ℕ) → read bytes ≡ Ok (x, rest) → length rest ≤ length bytes
  pub left : (bytes : List ℕ) (left : ℕ) → read bytes ≡ Err left → left ≤ length bytes

bind_err : {A B : Type 0} (r : Result A ℕ) (f : A → Result B ℕ) (e : ℕ) → (r >>= f) ≡ Err e → (r ≡ Err e) ⊎ ((x : A) × (r ≡ Ok x) × (f x ≡ Err e))
bind_err (Ok x) f e h = inr (x, refl, h)
bind_err (Err d) f e h = inl cc

abbrev ok : {A : Type 0} → A → Result A ℕ
ok x = Ok x

abbrev err : {A : Type 0} → A → ℕ → Result A ℕ
err x e = Err e

by_test : {A : Type 0} (b : Bool) (x : A) (d : ℕ) (y : A) → cond b (ok x) (Err d) ≡ Ok y → x ≡ y
by_test true x d y h = cc
by_test false x d y h = absurd cc

by_test_err : {A : Type 0} (b : Bool) (x : A) (d e : ℕ) → cond b (ok x) (Err d) ≡ Err e → d ≡ e
by_test_err true x d e h = absurd cc
by_test_err false x d e h = cc

err_is : {A : Type 0} (x : A) (d e : ℕ) → err x d ≡ err x e → d ≡ e
err_is x d e h = cc

pub as_is : {A : Type 0} (v : A) → Within (λ bytes. Ok (v, bytes))
as_is v = record { rest = λ bytes x rest e. omega (arith, ap (λ q. length q.1) (ok_is (v, bytes) (x, rest) e)); left = λ bytes left e. absurd cc }

pub then : {A B : Type 0} {r : List ℕ → Read A} (f : A × List ℕ → Read B) → Within r → ((x : A) → Within (λ bytes. f (x, bytes))) → Within (λ bytes. r bytes >>= f)
then {r = r} f one two = record {
  rest = λ bytes y rest e.
      let b = bind_ok (r bytes) f (y, rest) e in
      omega (arith, one.rest bytes b.0.0 b.0.1 b.1, (two b.0.0).rest b.0.1 y rest b.2);
  left = λ bytes left e.
      elim (bind_err (r bytes) f left e) [
        | inl h ↦ one.left bytes left h
        | inr h ↦ omega (arith, one.rest bytes h.0.0 h.0.1 h.1, (two h.0.0).left h.0.1 left h.2)
      ];
}

pub ruled : {A : Type 0} {r : List ℕ → Read A} (rule : A → Bool) → Within r → Within (with_rule rule r)
ruled {r = r} rule one = record {
  rest = λ bytes x rest e.
      let b = bind_ok (r bytes) (λ y. cond (rule y.0) (Ok y) (Err (length bytes))) (x, rest) e in
      let p = by_test (rule b.0.0) b.0 (length bytes) (x, rest) b.2 in
      omega (arith, one.rest bytes b.0.0 b.0.1 b.1, ap (λ q. length q.1) p);
  left = λ bytes left e.
      elim (bind_err (r bytes) (λ y. cond (rule y.0) (Ok y) (Err (length bytes))) left e) [
        | inl h ↦ one.left bytes left h
        | inr h ↦ omega (arith, by_test_err (rule h.0.0) h.0 (length bytes) left h.2)
      ];
}

byte_rest : (bytes : List ℕ) (x : ℕ) (rest : List ℕ) → byte_at bytes ≡ Ok (x, rest) → length rest ≤ length bytes
byte_rest [] x rest e = absurd cc
byte_rest (b ∷ bs) x rest e = omega (arith, ap (λ q. length q.1) (ok_is (b, bs) (x, rest) e))

byte_left : (bytes : List ℕ) (left : ℕ) → byte_at bytes ≡ Err left → left ≤ length bytes
byte_left [] left e = omega (arith, err_is (0, []) 0 left e)
byte_left (b ∷ bs) left e = absurd cc

pub byte : Within byte_at
byte = record { rest = byte_rest; left = byte_left }

abbrev taken : {A : Type 0} → A → ℕ → List ℕ → Read A
taken x n bytes = Ok (x, drop n bytes)

test_rest : {A : Type 0} (b : Bool) (x : A) (n : ℕ) (bytes : List ℕ) (y : A) (rest : List ℕ) → cond b (Err (length bytes)) (taken x n bytes) ≡ Ok (y, rest) → length rest ≤ length bytes
test_rest true x n bytes y rest e = absurd cc
test_rest false x n bytes y rest e = omega (arith, ap (λ q. length q.1) (ok_is (x, drop n bytes) (y, rest) e), length-drop n bytes)

test_left : {A : Type 0} (b : Bool) (x : A) (n left : ℕ) → cond b (Err n) (ok x) ≡ Err left → left ≤ n
test_left true x n left e = omega (arith, err_is x n left e)
test_left false x n left e = absurd cc

pub number : (w : Width) → Within (number_at w)
number w = record {
  rest = λ bytes x rest e. test_rest (nat_lt (length bytes) (byte_len w)) _ (byte_len w) bytes x rest e;
  left = λ bytes left e. test_left (nat_lt (length bytes) (byte_len w)) _ (length bytes) left e;
}

pub raw : (n : ℕ) → Within (bytes_at n)
raw n = record {
  rest = λ bytes x rest e. test_rest (nat_lt (length bytes) n) (take n bytes) n bytes x rest e;
  left = λ bytes left e. test_left (nat_lt (length bytes) n) (take n bytes, drop n bytes) (length bytes) left e;
}

pub chain : {A : Type 0} (part : Option A → List ℕ → Read A) → ((before : Option A) → Within (part before)) → (before : Option A) (n : ℕ) → Within (chain_at part before n)
unfolding chain_at
chain part one before zero = as_is []
chain part one before (suc n) = then _ (one before) (λ x. then _ (chain part one (Some x) n) (λ xs. as_is (x ∷ xs)))

pub limited : {A : Type 0} {r : List ℕ → Read A} (most : ℕ) → Within r → Within (λ bytes. r bytes >>= λ x. cond (nat_lt (length x.1 + most) (length bytes)) (Err (length bytes)) (Ok x))
limited {r = r} most one = record {
  rest = λ bytes x rest e.
      let b = bind_ok (r bytes) (λ y. cond (nat_lt (length y.1 + most) (length bytes)) (Err (length bytes)) (Ok y)) (x, rest) e in
      let p = not_test (nat_lt (length b.0.1 + most) (length bytes)) b.0 (length bytes) (x, rest) b.2 in
      omega (arith, one.rest bytes b.0.0 b.0.1 b.1, ap (λ q. length q.1) p);
  left = λ bytes left e.
      elim (bind_err (r bytes) (λ y. cond (nat_lt (length y.1 + most) (length bytes)) (Err (length bytes)) (Ok y)) left e) [
        | inl h ↦ one.left bytes left h
        | inr h ↦ test_left (nat_lt (length h.0.1 + most) (length bytes)) h.0 (length bytes) left h.2
      ];
} where
  not_test : {A : Type 0} (b : Bool) (x : A) (d : ℕ) (y : A) → cond b (Err d) (ok x) ≡ Ok y → x ≡ y
  not_test true x d y h = absurd cc
  not_test false x d y h = cc

-- ---- the readers of operations

signed : Within signed_at
signed = then _ (number w32) (λ n. as_is _)

spot : (least : ℤ) → Within (spot_at least)
unfolding spot_at
spot least = then _ (number w32) (λ p. then _ (number w32) (λ r. then _ (number w32) (λ s. then _ (ruled _ signed) (λ o. as_is _))))

inner_kinds : (k : ℕ) → Within (inner_of_kind k)
inner_kinds zero = as_is Low
inner_kinds (suc zero) = spot _
inner_kinds (suc (suc k)) = as_is High

inner : Within inner_at
unfolding inner_at
inner = then _ (ruled _ byte) inner_kinds

last : Within last_at
unfolding last_at
last = then _ (ruled _ byte) (λ k. spot _)

ident : Within ident_at
unfolding ident_at
ident = then _ (ruled _ (number w32)) (λ n. then _ (chain (λ before. inner_at) (λ before. inner) None _) (λ front. then _ last (λ l. as_is _)))

run : Within run_at
unfolding run_at
run = then _ ident (λ x. then _ (ruled _ (number w32)) (λ n. as_is _))

runs : Within runs_at
unfolding runs_at
runs = then _ (then _ (number w32) (λ n. chain next_run_at (λ before. ruled _ run) None n)) (λ rs. as_is _)

name_kinds : (k : ℕ) → Within (name_of_kind k)
name_kinds zero = as_is Origin
name_kinds (suc k) = then _ (number w32) (λ r. then _ (number w32) (λ s. as_is _))

name : Within name_at
unfolding name_at
name = then _ (ruled _ byte) name_kinds

text : Within text_at
unfolding text_at
text = then _ (number w32) (λ n. then _ (ruled _ (raw n)) (λ bs. as_is _))

body_kinds : (k : ℕ) → Within (body_of_kind k)
body_kinds zero = then _ ident (λ x. then _ text (λ cs. as_is _))
body_kinds (suc zero) = then _ runs (λ xs. as_is _)
body_kinds (suc (suc zero)) = then _ runs (λ xs. as_is _)
body_kinds (suc (suc (suc k))) = as_is Leave

body : Within body_at
unfolding body_at
body = then _ (ruled _ byte) body_kinds

op_fields : (members : ℕ) → Within (op_fields_at members)
unfolding op_fields_at
op_fields members = then _ (number w32) (λ a. then _ (number w32) (λ s. then _ (chain (λ before. number_at w32) (λ before. number w32) None members) (λ c. then _ name (λ e. then _ body (λ b. as_is _)))))

pub op : (members : ℕ) → Within (op_at members)
unfolding op_at
op members = limited OPERATION_BYTES (op_fields members)

message_and_form : Within message_and_form_at
unfolding message_and_form_at
message_and_form =
    then _ (ruled _ (raw _)) (λ m. then _ (ruled _ byte) (λ form. then _ (number w64) (λ group. then _ (ruled _ (number w32)) (λ members. then _ (ruled _ (number w32)) (λ from.
    then _ (chain (λ before. number_at w32) (λ before. number w32) None members) (λ v. then _ (then _ (number w32) (λ n. chain (λ before. op_at members) (λ before. op members) None n)) (λ os. as_is _)))))))

pub message : Within message_at
unfolding message_at
message = then _ message_and_form (λ m. as_is _)
