-- The test of operations says that they are equal.
use Rattle.std.proofs.Common.{◌≡◌, ℕ, true, List, refl, ap, ◌∙◌, subst}
use Rattle.std.specs.Prelude.{◌&&◌, ◌==◌}
use Rattle.std.specs.Ordering.{is_eq, nat_cmp}
use Rattle.std.specs.Cmp.Lexicographic.{slice_cmp}
use Rattle.std.proofs.lemmas.Cmp.{nat_cmp_total, lists_total, tied_itself}
use Rattle.std.specs.FinMap.{nat_cmp-IsAntisymmetric}
use Rattle.rls_ident.specs.declared.tuple.Tuple.{Tuple}
use Rattle.rls_ident.specs.declared.epoch_name.EpochName.{EpochName}
use Rattle.rls_ident.specs.EpochNames.{name_eq}
use Rattle.rls_ident.specs.Identifiers.{ident_eq}
use Rattle.rls_ident.proofs.Lists.{Letters, lists_same}
use Rattle.rls_ident.proofs.Tuples.{tuples, tuple_total}
use Rattle.rls_ident.proofs.Members.{and_left, and_right, and_true, eq_is, eq_test, equal_is}
use Rattle.rls_ident.proofs.Named.{name_eq_is, name_eq_refl}
use Rattle.rls_ident.proofs.Ends.{eq_same, ident_eq_refl}
use Rattle.rls_ops.specs.declared.op.Op.{Op}
use Rattle.rls_ops.specs.declared.op.Body.{Body}
use Rattle.rls_ops.specs.declared.op.Body.TheVariants.{Insert, Delete, Rename, Leave}
use Rattle.rls_ops.specs.Same.{numbers_eq, idents_eq, body_eq, op_eq, TestsEqual}

pub numbers_same : (v : List ℕ) → numbers_eq v v ≡ true
numbers_same v = ap is_eq (tied_itself (lists_total nat_cmp_total) v)

pub idents_same : (xs : List (List Tuple)) → idents_eq xs xs ≡ true
idents_same xs = ap is_eq (tied_itself (lists_total (lists_total tuple_total)) xs)

body_same : (b : Body) → body_eq b b ≡ true
body_same (Insert x text) = and_true (ident_eq x x) (numbers_eq text text) (ident_eq_refl x) (numbers_same text)
body_same (Delete xs) = idents_same xs
body_same (Rename xs) = idents_same xs
body_same Leave = refl

-- an operation passes the test with itself
pub op_same : (o : Op) → op_eq o o ≡ true
op_same o =
    let a = and_true (o.author == o.author) (o.seq == o.seq) (eq_test o.author o.author refl) (eq_test o.seq o.seq refl) in
    let b = and_true ((o.author == o.author) && (o.seq == o.seq)) (numbers_eq o.context o.context) a (numbers_same o.context) in
    let c = and_true ((o.author == o.author) && (o.seq == o.seq) && numbers_eq o.context o.context) (name_eq o.epoch o.epoch) b (name_eq_refl o.epoch) in
    and_true ((o.author == o.author) && (o.seq == o.seq) && numbers_eq o.context o.context && name_eq o.epoch o.epoch) (body_eq o.body o.body) c (body_same o.body)

-- ---- and with no other

abbrev numbers : Letters ℕ
numbers = record { cmp = nat_cmp; total = nat_cmp_total; same = nat_cmp-IsAntisymmetric }

abbrev idents : Letters (List Tuple)
idents = record { cmp = slice_cmp tuples.cmp; total = lists_total tuple_total; same = lists_same tuples }

pub numbers_are : (v w : List ℕ) → numbers_eq v w ≡ true → v ≡ w
numbers_are v w h = lists_same numbers v w (equal_is (slice_cmp nat_cmp v w) h)

pub idents_are : (xs ys : List (List Tuple)) → idents_eq xs ys ≡ true → xs ≡ ys
idents_are xs ys h = lists_same idents xs ys (equal_is (slice_cmp idents.cmp xs ys) h)

body_is : (b c : Body) → body_eq b c ≡ true → b ≡ c
body_is (Insert x s) (Insert y t) h =
    let e = eq_same x y (and_left (ident_eq x y) (numbers_eq s t) h) in
    let f = numbers_are s t (and_right (ident_eq x y) (numbers_eq s t) h) in
    cc
body_is (Insert x s) (Delete ys) h = absurd (cc)
body_is (Insert x s) (Rename ys) h = absurd (cc)
body_is (Insert x s) Leave h = absurd (cc)
body_is (Delete xs) (Insert y t) h = absurd (cc)
body_is (Delete xs) (Delete ys) h = ap Delete (idents_are xs ys h)
body_is (Delete xs) (Rename ys) h = absurd (cc)
body_is (Delete xs) Leave h = absurd (cc)
body_is (Rename xs) (Insert y t) h = absurd (cc)
body_is (Rename xs) (Delete ys) h = absurd (cc)
body_is (Rename xs) (Rename ys) h = ap Rename (idents_are xs ys h)
body_is (Rename xs) Leave h = absurd (cc)
body_is Leave (Insert y t) h = absurd (cc)
body_is Leave (Delete ys) h = absurd (cc)
body_is Leave (Rename ys) h = absurd (cc)
body_is Leave Leave h = refl

abbrev op_of : ℕ → ℕ → List ℕ → EpochName → Body → Op
op_of a s v e b = record { author = a; seq = s; context = v; epoch = e; body = b }

-- operations that pass the test are one
pub op_is : (o p : Op) → op_eq o p ≡ true → o ≡ p
op_is o p h =
    let a = (o.author == p.author) in
    let s = (o.seq == p.seq) in
    let v = numbers_eq o.context p.context in
    let e = name_eq o.epoch p.epoch in
    let b = body_eq o.body p.body in
    let h1 = and_left (a && s && v && e) b h in
    let h2 = and_left (a && s && v) e h1 in
    let h3 = and_left (a && s) v h2 in
    let ea = eq_is o.author p.author (and_left a s h3) in
    let es = eq_is o.seq p.seq (and_right a s h3) in
    let ev = numbers_are o.context p.context (and_right (a && s) v h2) in
    let ee = name_eq_is o.epoch p.epoch (and_right (a && s && v) e h1) in
    let eb = body_is o.body p.body (and_right (a && s && v && e) b h) in
    ap (λ n. op_of n o.seq o.context o.epoch o.body) ea
    ∙ (ap (λ n. op_of p.author n o.context o.epoch o.body) es
    ∙ (ap (λ w. op_of p.author p.seq w o.epoch o.body) ev ∙ (ap (λ f. op_of p.author p.seq p.context f o.body) ee ∙ ap (λ c. op_of p.author p.seq p.context p.epoch c) eb)))

pub tests_equal : TestsEqual
tests_equal o p = (op_is o p, λ e. subst (λ q. op_eq o q ≡ true) e (op_same o))
