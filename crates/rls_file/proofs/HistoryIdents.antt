-- Where each accepted operation has a spelling, the numbers and offsets in the identifiers of the text are in the range of the format.
use Rattle.std.proofs.Common.{◌≡◌, ℕ, zero, suc, ◌+◌, ◌^◌, ◌<◌, ◌≤◌, true, false, Bool, List, [], ◌∷◌, ◌++◌, length, refl, sym, ap, subst, ◌∙◌, arith, inl, inr, ⊎_elim}
use Rattle.std.specs.Prelude.{pos, ◌+ℤ◌, ◌≤ℤ◌, ◌&&◌, All, nat_lt, if◌then◌else◌}
use Rattle.std.specs.Int.RustNames.{int_le}
use Rattle.std.specs.List.{list_all}
use Rattle.std.proofs.lemmas.Int.{ints}
use Rattle.std.proofs.lemmas.List.Elements.{All-cons, All-head, All-nil, All-tail}
use Rattle.std.proofs.lemmas.List.Folds.{list_all-append}
use Rattle.rls_ident.specs.declared.limits.TheConstants.{IDENTIFIERS, OFFSETS_END}
use Rattle.rls_ident.specs.declared.tuple.Tuple.{Tuple}
use Rattle.rls_ident.specs.Identifiers.{IsIdent, follows, is_ident, last_of, shifted}
use Rattle.rls_ident.specs.Lists.{IsIn}
use Rattle.rls_ident.specs.Tuples.{offset_of}
use Rattle.rls_ident.proofs.Members.{and_left, and_right, and_true, in_map, int_le_test, lt_test, not_lt_is}
use Rattle.rls_ident.proofs.Shifted.{ident_shifted, last_offset, shifted_none, shifted_shifted}
use Rattle.rls_runs.specs.Runs.{AreIdents, idents_of, put_run, run_idents, runs_of}
use Rattle.rls_runs.proofs.RunsOf.{idents_of_runs}
use Rattle.rls_rename.proofs.Paths.{IsAmong}
use Rattle.rls_ops.specs.declared.op.Op.{Op}
use Rattle.rls_ops.specs.declared.op.Body.{Body}
use Rattle.rls_ops.specs.declared.op.Body.TheVariants.{Insert, Delete, Rename, Leave}
use Rattle.rls_ops.specs.Shapes.{body_len, body_limit, passes_end}
use Rattle.rls_ops.proofs.Shaped.{shaped}
use Rattle.rls_codec.specs.Spelled.{FitsBody, FitsRun}
use Rattle.rls_codec.proofs.Ranged.{AllRanged, IsRanged, last_least, last_most, next_ranged, ranged_tuples, runs_ranged, tuples_ranged}
use Rattle.rls_codec.proofs.SpelledSound.{tuples_ident}
use Rattle.rls_model.specs.Document.{Character, chars, chars_from, chars_of, export, idents}
use Rattle.rls_model.specs.Epochs.{epochs, greatest, nodes_after, renaming_of, translate}
use Rattle.rls_model.specs.History.{Accepted, Acknowledged, Fresh, History, Then, members_of}
use Rattle.rls_model.specs.Legal.{IsLegal}
use Rattle.rls_model.proofs.Distinct.{char_split}
use Rattle.rls_model.proofs.SameOps.{in_export, live_char}
use Rattle.rls_file.specs.FileLaws.{AreSpelled}
use Rattle.rls_file.proofs.RangedIdents.{AreRangedNodes, IsRangedRenaming, translate_ranged}

-- ---- the epochs and the characters of a history

few_of : (b : Body) (xs : List (List Tuple)) → b ≡ Rename xs → nat_lt (body_limit b) (body_len b) ≡ false → length xs ≤ IDENTIFIERS
few_of b xs e h = not_lt_is IDENTIFIERS (length xs) (subst (λ c. nat_lt (body_limit c) (body_len c) ≡ false) e h)

nodes_ranged : (H : History) → IsLegal H → AreSpelled H → AreRangedNodes (epochs H)
nodes_ranged (Fresh group me members) l s R p = absurd p
nodes_ranged (Then G (Acknowledged a v)) l s R p = nodes_ranged G l.0 s R p
nodes_ranged (Then G (Accepted o)) l s R p = go o.body refl p (nodes_ranged G l.0 s.0 R)
  where
    new : (xs : List (List Tuple)) → o.body ≡ Rename xs → IsRangedRenaming (renaming_of o xs)
    new xs e =
        let few = few_of o.body xs e (shaped (members_of G) o l.2.shape).few in
        record { replica = s.1.author; seq = s.1.seq; few = omega arith; former = runs_ranged xs (subst FitsBody e s.1.body) }

    go : (b : Body) → o.body ≡ b → IsAmong (nodes_after (epochs G) o b) R → (IsAmong (epochs G) R → IsRangedRenaming R) → IsRangedRenaming R
    go (Insert first text) e q ih = ih q
    go (Delete targets) e q ih = ih q
    go (Rename xs) e (inl f) ih = subst IsRangedRenaming f (new xs e)
    go (Rename xs) e (inr q) ih = ih q
    go Leave e q ih = ih q

from_ranged : (o : Op) (i : ℕ) (x : List Tuple) (cs : List ℕ) → IsIdent x → IsRanged x → (offset_of (last_of x) +ℤ pos (length cs)) ≤ℤ pos OFFSETS_END → (c : Character) → IsIn c (chars_from o i x cs) → IsRanged c.ident
from_ranged o i x [] d h m c p = absurd p
from_ranged o i x (k ∷ ks) d h m c (inl e) = subst (λ (y : Character). IsRanged y.ident) e h
from_ranged o i x (k ∷ []) d h m c (inr p) = absurd p
from_ranged o i x (k ∷ (j ∷ ks)) d h m c (inr p) =
    let e = last_offset (pos 1) x d in
    from_ranged o (suc i) (shifted (pos 1) x) (j ∷ ks) (ident_shifted (pos 1) x d) (next_ranged x h (omega (arith, ints))) (omega (arith, ints)) c p

room_of : (first : List Tuple) (text : List ℕ) → passes_end (Insert first text) ≡ false → (offset_of (last_of first) +ℤ pos (length text)) ≤ℤ pos OFFSETS_END
room_of first text h = omega (arith, ints)

no_chars : (group me members : ℕ) (c : Character) → IsIn c (chars (Fresh group me members)) → ⊥
unfolding chars
no_chars group me members c p = p

same_chars : (G : History) (a : ℕ) (v : List ℕ) (c : Character) → IsIn c (chars (Then G (Acknowledged a v))) → IsIn c (chars G)
unfolding chars
same_chars G a v c p = p

char_ranged : (H : History) → IsLegal H → AreSpelled H → (c : Character) → IsIn c (chars H) → IsRanged c.ident
char_ranged (Fresh group me members) l s c p = absurd (no_chars group me members c p)
char_ranged (Then G (Acknowledged a v)) l s c p = char_ranged G l.0 s c (same_chars G a v c p)
char_ranged (Then G (Accepted o)) l s c p = ⊎_elim (λ q. char_ranged G l.0 s.0 c q) (λ q. go o.body s.1.body (shaped (members_of G) o l.2.shape).room q) (char_split G o c p)
  where
    go : (b : Body) → FitsBody b → passes_end b ≡ false → IsIn c (chars_of o b) → IsRanged c.ident
    go (Insert first text) f r q = from_ranged o 0 first text (tuples_ident first f.0.1) (tuples_ranged first f.0.1) (room_of first text r) c q
    go (Delete targets) f r q = absurd q
    go (Rename former) f r q = absurd q
    go Leave f r q = absurd q

-- each identifier of the text
pub idents_ranged : (H : History) → IsLegal H → AreSpelled H → (x : List Tuple) → IsIn x (idents H) → IsRanged x
unfolding idents translate
idents_ranged H l s x p =
    let r = in_map (λ (y : List Tuple × ℕ). y.0) x (export H) p in
    let q = in_export H r.0 r.1 in
    let c = q.0 in
    subst IsRanged (ap (λ (y : List Tuple × ℕ). y.0) q.2 ∙ r.2) (translate_ranged (epochs H) c.epoch (greatest H) c.ident (nodes_ranged H l s) (char_ranged H l s c (live_char H c q.1)))

-- ---- runs of identifiers in range

pub all_ranged : (xs : List (List Tuple)) → ((x : List Tuple) → IsIn x xs → IsRanged x) → AllRanged xs
all_ranged [] f = tt
all_ranged (x ∷ xs) f = (f x (inl refl), all_ranged xs (λ y p. f y (inr p)))

all_left : (xs ys : List (List Tuple)) → AllRanged (xs ++ ys) → AllRanged xs
all_left [] ys a = tt
all_left (x ∷ xs) ys a = (a.0, all_left xs ys a.1)

all_right : (xs ys : List (List Tuple)) → AllRanged (xs ++ ys) → AllRanged ys
all_right [] ys a = a
all_right (x ∷ xs) ys a = all_right xs ys a.1

last_ranged : (n : ℕ) (x : List Tuple) → AllRanged (run_idents x (suc n)) → IsRanged (shifted (pos n) x)
last_ranged zero x a = subst IsRanged (sym (shifted_none x)) a.0
last_ranged (suc n) x a =
    let e : pos 1 +ℤ pos n ≡ pos (suc n) = omega (arith, ints) in
    subst IsRanged (shifted_shifted (pos n) (pos 1) x ∙ ap (λ k. shifted k x) e) (last_ranged n (shifted (pos 1) x) a.1)

one_fits : (x : List Tuple) (n : ℕ) → IsIdent x → length x < 2 ^ 32 → AllRanged (run_idents x (suc n)) → FitsRun (x, suc n)
one_fits x n i few a =
    let least = last_least x a.0 in
    let most = last_most (shifted (pos n) x) (last_ranged n x a) in
    let e = last_offset (pos n) x i in
    let end = int_le (offset_of (last_of x) +ℤ pos (suc n)) (pos OFFSETS_END) in
    ((few, ranged_tuples x i a.0), omega (arith, ints), and_true (nat_lt 0 (suc n)) end (lt_test 0 (suc n) (omega arith)) (int_le_test (offset_of (last_of x) +ℤ pos (suc n)) (pos OFFSETS_END) (omega (arith, ints))))

-- each run has a length
abbrev AreSome : List (List Tuple × ℕ) → Type 0
AreSome [] = Unit {0}
AreSome (r ∷ rs) = (0 < r.1) × AreSome rs

put_some : (x : List Tuple) (rs : List (List Tuple × ℕ)) → AreSome rs → AreSome (put_run x rs)
put_some x [] h = (omega arith, tt)
put_some x ((y, n) ∷ rs) h = go (follows y x)
  where
    go : (b : Bool) → AreSome (if b then (x, n + 1) ∷ rs else (x, 1) ∷ (y, n) ∷ rs)
    go true = (omega arith, h.1)
    go false = (omega arith, h)

some_runs : (xs : List (List Tuple)) → AreSome (runs_of xs)
some_runs [] = tt
some_runs (x ∷ xs) = put_some x (runs_of xs) (some_runs xs)

-- a run that begins with few tuples
abbrev pub IsShortRun : List Tuple × ℕ → Type 0
IsShortRun r = length r.0 < 2 ^ 32

each_fits : (rs : List (List Tuple × ℕ)) → AreSome rs → list_all is_ident (idents_of rs) ≡ true → AllRanged (idents_of rs) → All IsShortRun rs → All FitsRun rs
each_fits [] h i a short = All-nil FitsRun
each_fits ((x, zero) ∷ rs) h i a short = absurd (omega (arith, h.0))
each_fits ((x, suc n) ∷ rs) h i a short =
    let run = run_idents x (suc n) in
    let rest = idents_of rs in
    let j : (list_all is_ident run && list_all is_ident rest) ≡ true = sym (list_all-append is_ident run rest) ∙ i in
    All-cons FitsRun (x, suc n) rs
    (one_fits x n (and_left (is_ident x) (list_all is_ident (run_idents (shifted (pos 1) x) n)) (and_left (list_all is_ident run) (list_all is_ident rest) j)) (All-head IsShortRun (x, suc n) rs short) (all_left run rest a))
    (each_fits rs h.1 (and_right (list_all is_ident run) (list_all is_ident rest) j) (all_right run rest a) (All-tail IsShortRun (x, suc n) rs short))

pub ranged_runs_fit : (xs : List (List Tuple)) → AreIdents xs → AllRanged xs → All IsShortRun (runs_of xs) → All FitsRun (runs_of xs)
ranged_runs_fit xs i a short =
    let e = sym (idents_of_runs xs) in
    each_fits (runs_of xs) (some_runs xs) (subst (λ ys. list_all is_ident ys ≡ true) e i.0) (subst AllRanged e a) short
