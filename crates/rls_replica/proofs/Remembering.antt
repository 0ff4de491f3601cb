-- What is remembered of the identifiers that are known stays right, and what is among them is known.
use Rattle.std.proofs.Common.{◌≡◌, ◌∙◌, ◌⊎◌, ℕ, zero, suc, ◌+◌, ◌<◌, ◌≤◌, ◌||◌, not, Bool, true, false, List, [], ◌∷◌, length, map, drop, get_or, Option, Some, None, refl, sym, ap, subst, inl, inr, arith}
use Rattle.std.specs.Prelude.{IfSome, slice_get, if◌then◌else◌}
use Rattle.std.specs.Ordering.{is_eq, is_lt}
use Rattle.std.proofs.lemmas.Option.{slice_get_cases, slice_get_within}
use Rattle.rls_ident.specs.declared.tuple.Tuple.{Tuple}
use Rattle.rls_ident.specs.declared.epoch_name.EpochName.{EpochName}
use Rattle.rls_ident.specs.EpochNames.{name_eq}
use Rattle.rls_ident.specs.Identifiers.{IsIdent, ident_cmp, ident_eq, ident_lt}
use Rattle.rls_ident.specs.Lists.{IsIn}
use Rattle.rls_ident.specs.Vectors.{at_most, raise}
use Rattle.rls_ident.proofs.Agreeing.{any_same}
use Rattle.rls_ident.proofs.Members.{bool_cases, equal_is, get_in, in_filter, in_left, in_map, in_right, some_is, true_false}
use Rattle.rls_ident.proofs.Ends.{same_eq}
use Rattle.rls_ident.proofs.Named.{name_eq_is}
use Rattle.rls_runs.specs.Entries.{has_ident, idents_in}
use Rattle.rls_runs.specs.Runs.{AreIdents, joined}
use Rattle.rls_runs.proofs.RunOrder.{rising_of}
use Rattle.rls_rename.specs.Tree.{is_kept}
use Rattle.rls_rename.proofs.Kept.{greatest_within_kept}
use Rattle.rls_rename.proofs.Paths.{translate_ident, translate_order, translate_translate}
use Rattle.rls_ops.specs.declared.op.Op.{Op}
use Rattle.rls_ops.specs.declared.op.Body.{Body}
use Rattle.rls_ops.specs.declared.op.Body.TheVariants.{Insert, Delete, Rename, Leave}
use Rattle.rls_ops.specs.Rows.{is_covered, row_of, left}
use Rattle.rls_ops.specs.WellFormed.{IsOp, IsBody}
use Rattle.rls_model.specs.Answers.{Reason, Backward, Left, WrongEpoch, UnknownTarget}
use Rattle.rls_model.specs.Document.{targets_of}
use Rattle.rls_model.proofs.OneTree.{not_not}
use Rattle.rls_seen.specs.Sane.{IsSane, Follow}
use Rattle.rls_seen.specs.Seen.{Seen, vector, members, stable_over, unstable_over, count_over, due_over, greatest_over, translate_over}
use Rattle.rls_seen.specs.Over.{is_known_over, first_unknown_over, body_refusal_over, refusal_over, holding}
use Rattle.rls_seen.proofs.TextLists.{ident_in}
use Rattle.rls_replica.specs.declared.known.Known.{Known}
use Rattle.rls_replica.specs.Known.{AllKnown, FrontKnown, IsKnown}
use Rattle.rls_replica.specs.Lookups.{is_named_by, is_named_over}
use Rattle.rls_replica.proofs.Merges.{earlier}
use Rattle.rls_replica.proofs.Targets.{known_here, known_many, known_one, unknown_at}

-- ---- in the greatest epoch

-- each operation of a log is well formed
op_of : (n : ℕ) (from : List ℕ) (os : List Op) (to : List ℕ) → Follow n from os to → (d : Op) → IsIn d os → IsOp d
op_of n from [] to h d p = absurd p
op_of n from (o ∷ os) to h d (inl e) = subst IsOp e h.0
op_of n from (o ∷ os) to h d (inr p) = op_of n (raise from o.author) os to h.4 d p

target_of : (b : Body) → IsBody b → (u : List Tuple) → IsIn u (targets_of b) → IsIdent u
target_of (Insert first text) w u p = absurd p
target_of (Delete targets) w u p = ident_in targets w u p
target_of (Rename former) w u p = absurd p
target_of Leave w u p = absurd p

-- an operation names it by either of its names
named_across : (s : Seen) (sane : IsSane s) (e : EpochName) (x : List Tuple) → IsIdent x → (d : Op) → IsIn d (unstable_over s) → is_named_by s e x d ≡ is_named_by s (greatest_over s) (translate_over s e (greatest_over s) x) d
named_across s sane e x i d p =
    let g = greatest_over s in
    let y = translate_over s e g x in
    let n = sane.epochs.nodes in
    let log = in_filter (λ o. not (is_covered (stable_over s) o)) d s.log p in
    let whole = op_of (members s) sane.log.0 s.log (vector s) sane.log.1.follow d log.0 in
    any_same (λ t. ident_eq (translate_over s d.epoch e t) x) (λ t. ident_eq (translate_over s d.epoch g t) y) (targets_of d.body)
    (λ u q.
    let j = target_of d.body whole.body u q in
    ap is_eq (sym (translate_order s.epochs.nodes e g (translate_over s d.epoch e u) x n (translate_ident s.epochs.nodes d.epoch e u n j) i))
    ∙ ap (λ z. ident_eq z y) (translate_translate s.epochs.nodes d.epoch e g u n j))

-- it is known by either of its names
known_across : (s : Seen) (sane : IsSane s) (e : EpochName) (x : List Tuple) → IsIdent x → is_known_over s e x ≡ is_known_over s (greatest_over s) (translate_over s e (greatest_over s) x)
known_across s sane e x i =
    let g = greatest_over s in
    let y = translate_over s e g x in
    let here : translate_over s g g y ≡ y = translate_translate s.epochs.nodes e g g x sane.epochs.nodes i in
    known_here s e x
    ∙ (ap (λ b. has_ident (idents_in s.text) y || b) (any_same (is_named_by s e x) (is_named_by s g y) (unstable_over s) (named_across s sane e x i))
    ∙ (ap (λ z. has_ident (idents_in s.text) z || is_named_over s g y s.log) (sym here) ∙ sym (known_here s g y)))

-- ---- what is among them

pub in_joined : (ls : List (List (List Tuple))) (k : ℕ) (l : List (List Tuple)) (x : List Tuple) → slice_get ls k ≡ Some l → IsIn x l → IsIn x (joined ls)
in_joined [] k l x h p = absurd (cc)
in_joined (m ∷ ls) zero l x h p = in_left x m (joined ls) (subst (IsIn x) (sym (some_is m l h)) p)
in_joined (m ∷ ls) (suc k) l x h p = in_right x m (joined ls) (in_joined ls k l x h p)

-- targets whose identifiers of the greatest epoch are remembered and weren't lost
pub remembered_known : (s : Seen) (k : Known) (e : EpochName) (xs images : List (List Tuple)) (i n : ℕ) → IsSane s → IsKnown s k → AreIdents xs → images ≡ map (translate_over s e (greatest_over s)) xs → i + n ≤ length xs
    → ((j : ℕ) (y : List Tuple) → j < n → slice_get images (i + j) ≡ Some y → IsIn y (joined k.lists.items)) → ((j : ℕ) (y : List Tuple) → j < n → slice_get images (i + j) ≡ Some y → IsIn y (joined k.lost.items) → ⊥)
    → first_unknown_over s e (drop (i + n) xs) ≡ first_unknown_over s e (drop i xs)
remembered_known s k e xs images i n sane h are m l f out = known_many s e xs i n l (λ j x q g.
    let to = translate_over s e (greatest_over s) in
    let there : slice_get images (i + j) ≡ Some (to x) = ap (λ ys. slice_get ys (i + j)) m ∙ mapped to xs (i + j) x g in
    known_across s sane e x (ident_in xs are x (get_in xs (i + j) x g)) ∙ (h (to x) (f j (to x) q there) (out j (to x) q there)).1)
  where
    mapped : (to : List Tuple → List Tuple) (zs : List (List Tuple)) (j : ℕ) (x : List Tuple) → slice_get zs j ≡ Some x → slice_get (map to zs) j ≡ Some (to x)
    mapped to [] j x q = absurd (cc)
    mapped to (z ∷ zs) zero x q = ap (λ w. Some (to w)) (some_is z x q)
    mapped to (z ∷ zs) (suc j) x q = mapped to zs j x q

-- ---- what is put there

-- the targets before the first that isn't known
pub before_unknown : (s : Seen) (e : EpochName) (xs : List (List Tuple)) (i : ℕ) (x : List Tuple) → AreIdents xs → first_unknown_over s e xs ≡ Some (UnknownTarget x) → slice_get xs i ≡ Some x → FrontKnown s e xs i
before_unknown s e xs i x are h g = λ k y l q. known k y l q (up k (omega (arith, l)))
  where
    target : Reason → List Tuple
    target (UnknownTarget y) = y
    target _ = []

    known : (k : ℕ) (y : List Tuple) → k < i → slice_get xs k ≡ Some y → first_unknown_over s e (drop k xs) ≡ Some (UnknownTarget x) → is_known_over s e y ≡ true
    known k y l q u = bool_cases (is_known_over s e y) (λ t. t) (λ f.
        let same : y ≡ x = ap target (some_is (UnknownTarget y) (UnknownTarget x) (sym (unknown_at s e xs k y q f) ∙ u)) in
        let less : ident_lt x x ≡ true = subst (λ z. ident_lt z x ≡ true) same (earlier xs k i y x (rising_of xs are.1) q g l) in
        absurd (true_false (ident_lt x x) less (ap is_lt (equal_is (ident_cmp x x) (same_eq x x refl)))))

    up : (k : ℕ) → k ≤ i → first_unknown_over s e (drop k xs) ≡ Some (UnknownTarget x)
    up zero l = h
    up (suc k) l = go (slice_get_cases xs k).1 (up k (omega (arith, l)))
      where
        go : ((z : List Tuple) × (k < length xs) × (slice_get xs k ≡ Some z) × (get_or xs k z ≡ z)) ⊎ ((length xs ≤ k) × (slice_get xs k ≡ None)) → first_unknown_over s e (drop k xs) ≡ Some (UnknownTarget x)
            → first_unknown_over s e (drop (suc k) xs) ≡ Some (UnknownTarget x)
        go (inl p) u =
            let m : suc k ≡ k + 1 = omega arith in
            ap (λ j. first_unknown_over s e (drop j xs)) m ∙ (known_one s e xs k p.0 p.2 (known k p.0 (omega (arith, l)) p.2 u) ∙ u)
        go (inr p) u = let w = slice_get_within xs i x g in absurd (omega (arith, l, p.0, w))

-- an operation that is refused for a target
pub unknown_refused : (s : Seen) (o : Op) (x : List Tuple) → refusal_over s o ≡ Some (UnknownTarget x) → (is_kept s.epochs.top s.epochs.nodes o.epoch ≡ true) × (body_refusal_over s o o.body ≡ Some (UnknownTarget x))
unfolding refusal_over
unknown_refused s o x h =
    let p = past (left s.acks o.author) (Left (count_over s o.author)) _ (λ q. absurd (cc)) h in
    let q = past (not (at_most (row_of s.acks o.author) o.context)) (Backward (row_of s.acks o.author)) _ (λ q. absurd (cc)) p.1 in
    let r = past (not (name_eq o.epoch (due_over s o.context))) (WrongEpoch (due_over s o.context)) _ (λ q. absurd (cc)) q.1 in
    let e = name_eq_is o.epoch (due_over s o.context) (not_not (name_eq o.epoch (due_over s o.context)) r.0) in
    (ap (is_kept s.epochs.top s.epochs.nodes) e ∙ greatest_within_kept s.epochs.top s.epochs.nodes o.context, r.1)
  where
    past : (b : Bool) (r : Reason) (rest : Option Reason) → (r ≡ UnknownTarget x → ⊥) → (if b then Some r else rest) ≡ Some (UnknownTarget x) → (b ≡ false) × (rest ≡ Some (UnknownTarget x))
    past true r rest none k = absurd (none (some_is r (UnknownTarget x) k))
    past false r rest none k = (refl, k)

-- their images are known
pub images_known : (s : Seen) (e : EpochName) (xs images : List (List Tuple)) → IsSane s → AreIdents xs → images ≡ map (translate_over s e (greatest_over s)) xs → ((x : List Tuple) → IsIn x xs → is_known_over s e x ≡ true) → AllKnown s images
images_known s e xs images sane are m f y p =
    let r = in_map (translate_over s e (greatest_over s)) y xs (subst (IsIn y) m p) in
    let i = ident_in xs are r.0 r.1 in
    subst (λ z. IsIdent z × (is_known_over s (greatest_over s) z ≡ true)) r.2
    (translate_ident s.epochs.nodes e (greatest_over s) r.0 sane.epochs.nodes i, sym (known_across s sane e r.0 i) ∙ f r.0 r.1)

-- ---- a step of the replica

pub if_known : (s r : Seen) (k : Option Known) → ((x : Known) → IsKnown s x → IsKnown r x) → IfSome k (λ x. IsKnown s x) → IfSome k (λ x. IsKnown r x)
if_known s r None f h = h
if_known s r (Some k) f h = f k h

-- what waits is no part of it
pub known_holding : (s : Seen) (W : List Op) (k : Known) → IsKnown s k → IsKnown (holding s W) k
unfolding holding is_known_over
known_holding s W k h = λ x p q. h x p q
