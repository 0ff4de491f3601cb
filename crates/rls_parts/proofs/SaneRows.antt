-- The rows of a sane replica pass their rule, and what is stable among its parts is what is stable there.
use Rattle.std.proofs.Common.{◌≡◌, ℕ, suc, ◌+◌, ◌<◌, ◌==◌, ◌||◌, not, slice_index, true, List, [], ◌∷◌, length, get_or, replicate, refl, sym, ap, ◌∙◌, subst, arith, None, Some, if◌then◌else◌}
use Rattle.rls_ident.specs.Vectors.{at_most}
use Rattle.rls_ident.proofs.Members.{bool_cases, eq_not, le_test}
use Rattle.rls_ident.proofs.Vectors.{at_most_antisym}
use Rattle.rls_ops.specs.Rows.{AcksSeen, AreRows, row_of, left, awaits, stable_of}
use Rattle.rls_model.specs.declared.parts.Parts.{Parts}
use Rattle.rls_seen.proofs.StableRows.{stable_mine, stable_row, stable_most}
use Rattle.rls_seen.specs.Kept.{other_rows, left_below, parts_over}
use Rattle.rls_seen.specs.Sane.{IsSane}
use Rattle.rls_seen.specs.Seen.{Seen, vector, members, stable_over}
use Rattle.rls_parts.specs.Reading.{member_at, has_member, stable_of_parts}
use Rattle.rls_parts.specs.Restored.{with_own, acks_of}
use Rattle.rls_parts.specs.Rules.{row_fault, is_row_of}
use Rattle.rls_parts.proofs.LeftMarks.{marked_at, mark_at}
use Rattle.rls_parts.proofs.OwnRows.{rows_below, others_are, own_other, row_below, length-without_at, length-rows_below}
use Rattle.rls_parts.proofs.RestoredParts.{rows_are, left_are}
use Rattle.rls_parts.proofs.RestoredRows.{if_other, row_at, member_below, stable_fits}

-- ---- the rows and marks of the parts

rows_same : (s : Seen) (a : ℕ) → a < members s → row_of (acks_of (parts_over s)) a ≡ row_of s.acks a
unfolding parts_over
rows_same s a l =
    let acks = s.acks in
    let n = members s in
    let z : List ℕ = replicate n 0 in
    bool_cases (a == acks.me)
    (λ e. ap (λ b. if b then vector s else get_or (with_own acks.me z (other_rows acks n)) a []) e ∙ sym (ap (λ b. if b then acks.mine else get_or acks.others a []) e))
    (λ e. if_other (a == acks.me) (vector s) (get_or (with_own acks.me z (other_rows acks n)) a []) e
    ∙ (ap (λ rs. get_or (with_own acks.me z rs) a []) (rows_are acks n ∙ others_are (row_of acks) acks.me n)
    ∙ (own_other acks.me z (rows_below (row_of acks) n) a (eq_not a acks.me e) ∙ row_below (row_of acks) n a l)))

pub left_same : (s : Seen) (a : ℕ) → a < members s → has_member (left_below s.acks (members s)) a ≡ left s.acks a
left_same s a l = ap (λ ms. has_member ms a) (left_are s.acks (members s)) ∙ marked_at (left s.acks) (members s) a l

marks_same : (s : Seen) (a : ℕ) → a < members s → left (acks_of (parts_over s)) a ≡ left s.acks a
unfolding parts_over
marks_same s a l = mark_at (left_below s.acks (members s)) (members s) a l ∙ left_same s a l

pub length-others : (acks : AcksSeen) → AreRows acks → length (other_rows acks (length acks.mine)) + 1 ≡ length acks.mine
length-others acks w =
    let n = length acks.mine in
    let m = w.member in
    let e = ap length (rows_are acks n ∙ others_are (row_of acks) acks.me n) in
    let k = length-rows_below (row_of acks) n in
    let d : acks.me < length (rows_below (row_of acks) n) = omega arith in
    let c = length-without_at acks.me (rows_below (row_of acks) n) d in
    omega arith

-- ---- what is stable

below : (a b : AcksSeen) → a.mine ≡ b.mine → ((i : ℕ) → i < length a.mine → row_of a i ≡ row_of b i) → ((i : ℕ) → i < length a.mine → awaits a i ≡ awaits b i) → at_most (stable_of a) (stable_of b) ≡ true
below a b m r w =
    let e = ap length m in
    stable_most (stable_of a) b (subst (λ v. at_most (stable_of a) v ≡ true) m (stable_mine a))
    (λ i l h. let k : i < length a.mine = omega arith in subst (λ v. at_most (stable_of a) v ≡ true) (r i k) (stable_row a i k (w i k ∙ h)))

same_stable : (a b : AcksSeen) → a.mine ≡ b.mine → ((i : ℕ) → i < length a.mine → row_of a i ≡ row_of b i) → ((i : ℕ) → i < length a.mine → awaits a i ≡ awaits b i) → stable_of a ≡ stable_of b
same_stable a b m r w =
    let e = ap length m in
    at_most_antisym (stable_of a) (stable_of b) (below a b m r w)
    (below b a (sym m) (λ i l. let k : i < length a.mine = omega arith in sym (r i k)) (λ i l. let k : i < length a.mine = omega arith in sym (w i k)))

pub stable_parts : (s : Seen) → IsSane s → stable_of_parts (parts_over s) ≡ stable_over s
unfolding parts_over
stable_parts s h =
    let p = parts_over s in
    let acks = s.acks in
    sym (stable_fits p h.rows.member refl (length-others acks h.rows))
    ∙ same_stable (acks_of p) acks refl (rows_same s) (λ a l. ap (λ b. (a == acks.me) || not b) (marks_same s a l))

-- ---- the rule

row_pass : (p : Parts) (i : ℕ) (rows : List (List ℕ)) → ((k : ℕ) → k < length rows → is_row_of p.vector (member_at p.me (i + k)) (get_or rows k []) ≡ true) → row_fault p i rows ≡ None
row_pass p i [] f = refl
row_pass p i (row ∷ rows) f =
    let e : i + 0 ≡ i = omega arith in
    let g : is_row_of p.vector (member_at p.me i) row ≡ true = ap (λ j. is_row_of p.vector (member_at p.me j) row) (sym e) ∙ f 0 (omega arith) in
    ap (λ b. if b then row_fault p (suc i) rows else Some i) g
    ∙ row_pass p (suc i) rows (λ k l. let d : suc i + k ≡ i + suc k = omega arith in ap (λ j. is_row_of p.vector (member_at p.me j) (get_or rows k [])) d ∙ f (suc k) (omega arith))

pub rows_pass : (s : Seen) → IsSane s → row_fault (parts_over s) 0 (parts_over s).rows ≡ None
unfolding parts_over
rows_pass s h =
    let p = parts_over s in
    let acks = s.acks in
    let n = length-others acks h.rows in
    row_pass p 0 p.rows
    (λ k l. let e : 0 + k ≡ k = omega arith in
    let a = member_at p.me k in
    let m : a < members s = member_below p.me (members s) k (omega arith) h.rows.member in
    let r : get_or p.rows k [] ≡ row_of acks a = sym (row_at p k) ∙ rows_same s a m in
    ap (λ j. is_row_of p.vector (member_at p.me j) (get_or p.rows k [])) e
    ∙ (ap (is_row_of p.vector a) r ∙ le_test (slice_index (row_of acks a) a) (slice_index (vector s) a) (h.own a m)))
