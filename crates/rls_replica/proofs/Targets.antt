-- How the targets of a deletion are looked up.
use Rattle.std.proofs.Common.{◌≡◌, ◌∙◌, ◌⊎◌, ℕ, zero, suc, ◌+◌, ◌<◌, ◌≤◌, ◌||◌, ◌&&◌, not, Bool, true, false, List, [], ◌∷◌, length, map, drop, get_or, Some, None, refl, sym, ap, subst, inl, inr, arith}
use Rattle.std.proofs.lemmas.Option.{slice_get_cases}
use Rattle.std.specs.Prelude.{pos, slice_get, if◌then◌else◌}
use Rattle.std.specs.List.{list_any}
use Rattle.std.specs.Ordering.{is_eq}
use Rattle.rls_ident.specs.declared.tuple.Tuple.{Tuple}
use Rattle.rls_ident.specs.declared.epoch_name.EpochName.{EpochName}
use Rattle.rls_ident.specs.Identifiers.{IsIdent, ident_eq, shifted}
use Rattle.rls_ident.specs.Lists.{IsIn}
use Rattle.rls_ident.proofs.Loops.{drop_reads}
use Rattle.rls_ident.proofs.Ends.{same_eq}
use Rattle.rls_ident.proofs.Members.{any_in, filter_in, or_right, some_is}
use Rattle.rls_ident.proofs.Agreeing.{any_same}
use Rattle.rls_runs.specs.Runs.{AreIdents}
use Rattle.rls_runs.specs.Entries.{Entries, has_ident, idents_in}
use Rattle.rls_rename.specs.Tree.{AreNodes, translate}
use Rattle.rls_rename.proofs.Growth.{translate_back}
use Rattle.rls_rename.proofs.Paths.{translate_ident, translate_order}
use Rattle.rls_ops.specs.declared.op.Op.{Op}
use Rattle.rls_ops.specs.declared.op.Body.{Body}
use Rattle.rls_ops.specs.declared.op.Body.TheVariants.{Delete}
use Rattle.rls_ops.specs.Rows.{is_covered, missing_for}
use Rattle.rls_model.specs.Answers.{UnknownTarget}
use Rattle.rls_model.specs.Document.{targets_of}
use Rattle.rls_seen.specs.Seen.{Seen, stable_over, unstable_over, translate_over, greatest_over}
use Rattle.rls_seen.specs.Over.{is_known_over, first_unknown_over}
use Rattle.rls_seen.proofs.TextLists.{ident_in}
use Rattle.rls_replica.specs.Lookups.{is_named_by, is_named_over}

-- ---- in the text

-- whether an identifier is one of the text's
text_has : (x : List Tuple) (es : Entries) → has_ident (idents_in es) x ≡ list_any (λ y. ident_eq y.0 x) es
text_has x [] = refl
text_has x (y ∷ es) = ap (λ b. ident_eq y.0 x || b) (text_has x es)

-- the two places at which a target is looked for
pub known_here : (s : Seen) (e : EpochName) (x : List Tuple) → is_known_over s e x ≡ (has_ident (idents_in s.text) (translate_over s e (greatest_over s) x) || is_named_over s e x s.log)
unfolding is_known_over
known_here s e x = ap (λ b. b || is_named_over s e x s.log) (sym (text_has (translate_over s e (greatest_over s) x) s.text))

pub known_in_text : (s : Seen) (e : EpochName) (x : List Tuple) → has_ident (idents_in s.text) (translate_over s e (greatest_over s) x) ≡ true → is_known_over s e x ≡ true
known_in_text s e x h = known_here s e x ∙ ap (λ b. b || is_named_over s e x s.log) h

known_by_name : (s : Seen) (e : EpochName) (x : List Tuple) → has_ident (idents_in s.text) (translate_over s e (greatest_over s) x) ≡ false → is_known_over s e x ≡ is_named_over s e x s.log
known_by_name s e x h = known_here s e x ∙ ap (λ b. b || is_named_over s e x s.log) h

-- ---- among targets

-- translated the one way a target is x just where x translated the other way is the target
pub named_there : (s : Seen) (e : EpochName) (x : List Tuple) (d : Op) (ts : List (List Tuple)) → AreNodes s.epochs.nodes → IsIdent x → AreIdents ts → d.body ≡ Delete ts
    → has_ident ts (translate s.epochs.nodes e d.epoch x) ≡ is_named_by s e x d
named_there s e x d ts n i ids b =
    any_same (λ t. ident_eq t (translate s.epochs.nodes e d.epoch x)) (λ t. ident_eq (translate s.epochs.nodes d.epoch e t) x) ts
    (λ t p. ap is_eq (sym (translate_order s.epochs.nodes d.epoch e t (translate s.epochs.nodes e d.epoch x) n (ident_in ts ids t p) (translate_ident s.epochs.nodes e d.epoch x n i)))
    ∙ ap (λ y. ident_eq (translate s.epochs.nodes d.epoch e t) y) (translate_back s.epochs.nodes e d.epoch x n i))
    ∙ ap (λ (c : Body). list_any (λ t. ident_eq (translate_over s d.epoch e t) x) (targets_of c)) (sym b)

-- ---- unstable operations

-- one that isn't covered
pub unstable_of : (s : Seen) (o : Op) → IsIn o s.log → is_covered (stable_over s) o ≡ false → IsIn o (unstable_over s)
unstable_of s o p h = filter_in (λ x. not (is_covered (stable_over s) x)) o s.log p (ap not h)

pub unstable_seen : {i s : Seen} (o : Op) → i ≡ s → IsIn o s.log → is_covered (stable_over s) o ≡ false → IsIn o (unstable_over i)
unstable_seen {i} {s} o e p h = unstable_of i o (subst (λ (u : Seen). IsIn o u.log) (sym e) p) (subst (λ (u : Seen). is_covered (stable_over u) o ≡ false) (sym e) h)

-- what an unstable deletion names is known
pub known_if_named : (s : Seen) (e : EpochName) (x : List Tuple) → is_named_over s e x s.log ≡ true → is_known_over s e x ≡ true
known_if_named s e x h = known_here s e x ∙ or_right (has_ident (idents_in s.text) (translate_over s e (greatest_over s) x)) (is_named_over s e x s.log) h

-- what is among its targets in its epoch is known
pub known_there : (s : Seen) (e : EpochName) (x : List Tuple) (d : Op) (ts : List (List Tuple)) → AreNodes s.epochs.nodes → IsIdent x → AreIdents ts → IsIn d (unstable_over s) → d.body ≡ Delete ts
    → IsIn (translate s.epochs.nodes e d.epoch x) ts → is_known_over s e x ≡ true
known_there s e x d ts n i ids p b q =
    let y = translate s.epochs.nodes e d.epoch x in
    known_if_named s e x (any_in (is_named_by s e x) d (unstable_over s) p (sym (named_there s e x d ts n i ids b) ∙ any_in (λ t. ident_eq t y) y ts q (same_eq y y refl)))

-- ---- one after another

-- the operations of the log from a place on
pub named_more : (s : Seen) (e : EpochName) (x : List Tuple) (os : List Op) (i : ℕ) (o : Op) → slice_get os i ≡ Some o
    → is_named_over s e x (drop i os) ≡ ((not (is_covered (stable_over s) o) && is_named_by s e x o) || is_named_over s e x (drop (i + 1) os))
named_more s e x os i o h = ap (is_named_over s e x) (drop_reads os i o h) ∙ go (is_covered (stable_over s) o)
  where
    rest : List Op
    rest = drop (i + 1) os

    go : (b : Bool) → list_any (is_named_by s e x) (if not b then o ∷ missing_for (stable_over s) rest else missing_for (stable_over s) rest)
        ≡ ((not b && is_named_by s e x o) || list_any (is_named_by s e x) (missing_for (stable_over s) rest))
    go true = refl
    go false = refl

-- the first of them, as it is tested
pub named_at : {i s : Seen} (e : EpochName) (x : List Tuple) (k : ℕ) (o : Op) {b r : Bool} → i ≡ s → slice_get i.log k ≡ Some o → b ≡ (not (is_covered (stable_over s) o) && is_named_by s e x o) → b ≡ r
    → is_named_over s e x (drop k s.log) ≡ is_named_over s e x s.log → (r || is_named_over s e x (drop (k + 1) s.log)) ≡ is_named_over s e x s.log
named_at {i} {s} e x k o v g n h inv =
    ap (λ b. b || is_named_over s e x (drop (k + 1) s.log)) (sym h ∙ n) ∙ (sym (named_more s e x s.log k o (subst (λ (u : Seen). slice_get u.log k ≡ Some o) v g)) ∙ inv)

-- the targets from a place on
unknown_more : (s : Seen) (e : EpochName) (xs : List (List Tuple)) (i : ℕ) (x : List Tuple) (b : Bool) → slice_get xs i ≡ Some x → is_known_over s e x ≡ b
    → first_unknown_over s e (drop i xs) ≡ (if b then first_unknown_over s e (drop (i + 1) xs) else Some (UnknownTarget x))
unknown_more s e xs i x b h k = ap (first_unknown_over s e) (drop_reads xs i x h) ∙ ap (λ c. if c then first_unknown_over s e (drop (i + 1) xs) else Some (UnknownTarget x)) k

-- one that isn't known
pub unknown_at : (s : Seen) (e : EpochName) (xs : List (List Tuple)) (i : ℕ) (x : List Tuple) → slice_get xs i ≡ Some x → is_known_over s e x ≡ false → first_unknown_over s e (drop i xs) ≡ Some (UnknownTarget x)
unknown_at s e xs i x h k = unknown_more s e xs i x false h k

-- one that is known
pub known_one : (s : Seen) (e : EpochName) (xs : List (List Tuple)) (i : ℕ) (x : List Tuple) → slice_get xs i ≡ Some x → is_known_over s e x ≡ true → first_unknown_over s e (drop (i + 1) xs) ≡ first_unknown_over s e (drop i xs)
known_one s e xs i x h k = sym (unknown_more s e xs i x true h k)

-- so many that are known
pub known_many : (s : Seen) (e : EpochName) (xs : List (List Tuple)) (i n : ℕ) → i + n ≤ length xs → ((k : ℕ) (x : List Tuple) → k < n → slice_get xs (i + k) ≡ Some x → is_known_over s e x ≡ true)
    → first_unknown_over s e (drop (i + n) xs) ≡ first_unknown_over s e (drop i xs)
known_many s e xs i zero h f = ap (λ k. first_unknown_over s e (drop k xs)) (omega arith)
known_many s e xs i (suc n) h f = go (slice_get_cases xs i).1 (known_many s e xs (i + 1) n (omega (arith, h)) later)
  where
    later : (k : ℕ) (x : List Tuple) → k < n → slice_get xs (i + 1 + k) ≡ Some x → is_known_over s e x ≡ true
    later k x l g = let same : i + 1 + k ≡ i + suc k = omega arith in f (suc k) x (omega (arith, l)) (ap (slice_get xs) (sym same) ∙ g)

    go : ((x : List Tuple) × (i < length xs) × (slice_get xs i ≡ Some x) × (get_or xs i x ≡ x)) ⊎ ((length xs ≤ i) × (slice_get xs i ≡ None))
        → first_unknown_over s e (drop (i + 1 + n) xs) ≡ first_unknown_over s e (drop (i + 1) xs) → first_unknown_over s e (drop (i + suc n) xs) ≡ first_unknown_over s e (drop i xs)
    go (inl p) more =
        let none : i + 0 ≡ i = omega arith in
        let same : i + suc n ≡ i + 1 + n = omega arith in
        ap (λ k. first_unknown_over s e (drop k xs)) same ∙ more ∙ known_one s e xs i p.0 p.2 (f 0 p.0 (omega arith) (ap (slice_get xs) none ∙ p.2))
    go (inr q) more = absurd (omega (arith, h, q.0))

-- what stands at a place, mapped
pub got_mapped : {A B : Type 0} (f : A → B) (xs : List A) (i : ℕ) (x : A) (y : B) → slice_get xs i ≡ Some x → slice_get (map f xs) i ≡ Some y → y ≡ f x
got_mapped f [] i x y h k = absurd (cc)
got_mapped f (z ∷ xs) zero x y h k = sym (some_is (f z) y k) ∙ ap f (some_is z x h)
got_mapped f (z ∷ xs) (suc i) x y h k = got_mapped f xs i x y h k

-- a target whose identifier of the greatest epoch, the one of a run at a place, isn't in the text
pub out_of_text : (s : Seen) (e : EpochName) (xs images : List (List Tuple)) (i from : ℕ) (first x : List Tuple) → images ≡ map (translate_over s e (greatest_over s)) xs
    → slice_get images (i + 0) ≡ Some (shifted (pos (from + 0)) first) → has_ident (idents_in s.text) (shifted (pos from) first) ≡ false → slice_get xs i ≡ Some x → is_known_over s e x ≡ is_named_over s e x s.log
out_of_text s e xs images i from first x m g h t =
    let here : i + 0 ≡ i = omega arith in
    let none : from + 0 ≡ from = omega arith in
    let image : slice_get (map (translate_over s e (greatest_over s)) xs) i ≡ Some (shifted (pos from) first) =
    ap (λ ys. slice_get ys i) (sym m) ∙ ap (slice_get images) (sym here) ∙ g ∙ ap (λ k. Some (shifted (pos k) first)) none in
    known_by_name s e x (ap (has_ident (idents_in s.text)) (sym (got_mapped (translate_over s e (greatest_over s)) xs i x (shifted (pos from) first) t image)) ∙ h)
