-- The replica that has given parts, piece by piece.
use Rattle.std.proofs.Common.{append_assoc, append-nil, ◌≡◌, ℕ, zero, suc, ◌+◌, ◌<◌, true, List, [], ◌∷◌, ◌++◌, length, map, get_or, take, refl, sym, ap, ◌∙◌, subst, arith, inl, inr, None, if◌then◌else◌}
use Rattle.std.specs.Prelude.{zip, IfOk, Result, Ok, Err}
use Rattle.std.specs.List.{list_all}
use Rattle.rls_ident.specs.Lists.{IsIn}
use Rattle.rls_ident.proofs.Members.{and_left, and_right, in_all, none_found}
use Rattle.rls_runs.specs.Entries.{Entries}
use Rattle.rls_runs.specs.Runs.{run_idents}
use Rattle.rls_ops.specs.declared.op.Op.{Op}
use Rattle.rls_ops.specs.Waiting.{comes_before, is_in_order, is_numbered, waiting_under, with_waiting}
use Rattle.rls_model.specs.declared.parts.TextRun.{TextRun}
use Rattle.rls_causal.specs.Putting.{put_beside, put_in}
use Rattle.rls_blocks.specs.Trees.{Piece, Tree, entries_of, runs_in}
use Rattle.rls_parts.specs.Given.{HaveTexts}
use Rattle.rls_parts.specs.Reading.{epochs_of}
use Rattle.rls_parts.specs.Restored.{acks_of, seen_of}
use Rattle.rls_parts.specs.Restored as parts
use Rattle.rls_rename.specs.Tree.{Epochs}
use Rattle.rls_runs.specs.Runs.{AreIdents}
use Rattle.rls_ops.specs.Rows.{AcksSeen}
use Rattle.rls_ops.specs.WellFormed.{IsInRange, IsOp}
use Rattle.rls_ops.proofs.Waiting.{before_other}
use Rattle.rls_model.specs.declared.parts.EpochPart.{EpochPart}
use Rattle.rls_model.specs.declared.parts.Parts.{Parts}
use Rattle.rls_model.specs.declared.parts.Stem.{Stem}
use Rattle.rls_seen.specs.Seen.{Seen}
use Rattle.rls_replica.specs.Fitting.{HaveFormer, AreFit}

-- ---- lists so far

pub take_more : {A : Type 0} (xs : List A) (i : ℕ) (d : A) → i < length xs → take (i + 1) xs ≡ take i xs ++ get_or xs i d ∷ []
take_more {A = A} xs i d l = let one : i + 1 ≡ suc i = omega arith in ap (λ k. take k xs) one ∙ go xs i l
  where
    go : (ys : List A) (i : ℕ) → i < length ys → take (suc i) ys ≡ take i ys ++ get_or ys i d ∷ []
    go [] i l = absurd (omega arith)
    go (y ∷ ys) zero l = refl
    go (y ∷ ys) (suc i) l = ap (λ zs. y ∷ zs) (go ys i (omega arith))

-- ---- text

abbrev pub piece_of : TextRun → Piece
piece_of r = (r.run, r.text)

pub pieces_entries : (rs : List TextRun) → entries_of (map piece_of rs) ≡ parts.entries_of rs
pieces_entries [] = refl
pieces_entries (r ∷ rs) = ap (λ es. zip (run_idents r.run.0 r.run.1) r.text ++ es) (pieces_entries rs)

pub pieces_runs : (rs : List TextRun) → runs_in (map piece_of rs) ≡ map (λ (r : TextRun). r.run) rs
pieces_runs [] = refl
pieces_runs (r ∷ rs) = ap (λ xs. r.run ∷ xs) (pieces_runs rs)

-- one more of those that are moved, and all of them
pub pieces_moved : (bs new : List Piece) (r : TextRun) (rest all : List TextRun) → bs ++ map piece_of (r ∷ rest) ≡ map piece_of all → new ≡ bs ++ piece_of r ∷ [] → new ++ map piece_of rest ≡ map piece_of all
pieces_moved bs new r rest all h e = ap (λ xs. xs ++ map piece_of rest) e ∙ (append_assoc bs (piece_of r ∷ []) (map piece_of rest) ∙ h)

pub all_moved : (bs : List Piece) (left all : List TextRun) → bs ++ map piece_of left ≡ map piece_of all → length left ≡ 0 → bs ≡ map piece_of all
all_moved bs [] all h l = sym (append-nil bs) ∙ h
all_moved bs (r ∷ rs) all h l = absurd (omega arith)

pub texts_first : (r : TextRun) (rest : List TextRun) → HaveTexts (r ∷ rest) → length r.text ≡ r.run.1
texts_first r rest h = h.0

pub texts_rest : (r : TextRun) (rest : List TextRun) → HaveTexts (r ∷ rest) → HaveTexts rest
texts_rest r rest h = h.1

-- ---- waiting operations

with_last : (o : Op) (ws : List Op) → ((w : Op) → IsIn w ws → comes_before w o ≡ true) → with_waiting o ws ≡ ws ++ o ∷ []
with_last o [] h = refl
with_last o (w ∷ ws) h = ap (λ b. if b then w ∷ with_waiting o ws else o ∷ w ∷ ws) (h w (inl refl)) ∙ ap (λ xs. w ∷ xs) (with_last o ws (λ x q. h x (inr q)))

pub put_last : (o : Op) (ws : List Op) → ((w : Op) → IsIn w ws → comes_before w o ≡ true) → put_in o ws ≡ ws ++ o ∷ []
put_last o ws h =
    let none : waiting_under ws o.author o.seq ≡ None = none_found (is_numbered o.author o.seq) ws (λ w q. before_other w o (h w q)) in
    ap (λ x. put_beside x o ws) none ∙ with_last o ws h

in_order_at : (ws : List Op) (i : ℕ) (d : Op) → is_in_order ws ≡ true → i < length ws → (w : Op) → IsIn w (take i ws) → comes_before w (get_or ws i d) ≡ true
in_order_at [] i d h l w q = absurd (omega arith)
in_order_at (x ∷ ws) zero d h l w q = absurd q
in_order_at (x ∷ ws) (suc i) d h l w (inl e) = subst (λ y. comes_before y (get_or ws i d) ≡ true) e (in_all (comes_before x) (get_or ws i d) ws (and_left (list_all (comes_before x) ws) (is_in_order ws) h) (there ws i (omega arith)))
  where
    there : (ys : List Op) (i : ℕ) → i < length ys → IsIn (get_or ys i d) ys
    there [] i l = absurd (omega arith)
    there (y ∷ ys) zero l = inl refl
    there (y ∷ ys) (suc i) l = inr (there ys i (omega arith))
in_order_at (x ∷ ws) (suc i) d h l w (inr q) = in_order_at ws i d (and_right (list_all (comes_before x) ws) (is_in_order ws) h) (omega arith) w q

-- the next one goes behind those so far
pub held_more : (ws so_far new : List Op) (i : ℕ) (d o : Op) → is_in_order ws ≡ true → i < length ws → so_far ≡ take i ws → o ≡ get_or ws i d → new ≡ put_in o so_far → new ≡ take (i + 1) ws
held_more ws so_far new i d o h l f e n =
    n
    ∙ (ap (λ x. put_in x so_far) e
    ∙ (ap (put_in (get_or ws i d)) f ∙ (put_last (get_or ws i d) (take i ws) (in_order_at ws i d h l) ∙ sym (take_more ws i d l))))

-- ---- the tree

pub tree_so : {E : Type 0} (r : Result Tree E) (items : List Piece) (rs : List TextRun) → IfOk r (λ tree. tree.blocks ≡ items) → items ≡ map piece_of rs → IfOk r (λ tree. entries_of tree.blocks ≡ parts.entries_of rs)
tree_so (Ok t) items rs h e = ap entries_of (h ∙ e) ∙ pieces_entries rs
tree_so (Err x) items rs h e = tt

-- ---- all pieces

abbrev seen_with : ℕ → AcksSeen → List Stem → Epochs → Entries → List Op → List Op → Seen
seen_with g acks stems E text waiting log = record { group = g; acks = acks; stems = stems; epochs = E; text = text; waiting = waiting; log = log }

pub seen_so : (p : Parts) (acks : AcksSeen) (stems : List Stem) (E : Epochs) (text : Entries) (waiting log : List Op) → acks ≡ acks_of p → stems ≡ p.stems → E ≡ epochs_of p → text ≡ parts.entries_of p.text → waiting ≡ p.held → log ≡ p.log
    → record { group = p.group; acks = acks; stems = stems; epochs = E; text = text; waiting = waiting; log = log } ≡ seen_of p
unfolding seen_of
seen_so p acks stems E text waiting log a b c d e f =
    ap (λ x. seen_with p.group x stems E text waiting log) a
    ∙ (ap (λ x. seen_with p.group (acks_of p) x E text waiting log) b
    ∙ (ap (λ x. seen_with p.group (acks_of p) p.stems x text waiting log) c
    ∙ (ap (λ x. seen_with p.group (acks_of p) p.stems (epochs_of p) x waiting log) d
    ∙ (ap (λ x. seen_with p.group (acks_of p) p.stems (epochs_of p) (parts.entries_of p.text) x log) e ∙ ap (seen_with p.group (acks_of p) p.stems (epochs_of p) (parts.entries_of p.text) p.held) f))))

pub former_each : (es : List EpochPart) → HaveFormer es → (e : EpochPart) → IsIn e es → AreIdents e.former
former_each [] h e q = absurd q
former_each (x ∷ es) h e (inl d) = subst (λ (y : EpochPart). AreIdents y.former) d h.0
former_each (x ∷ es) h e (inr q) = former_each es h.1 e q

pub fit_each : (os : List Op) → AreFit os → (o : Op) → IsIn o os → IsOp o × IsInRange o.body
fit_each [] h o q = absurd q
fit_each (x ∷ os) h o (inl d) = subst (λ (y : Op). IsOp y × IsInRange y.body) d (h.0, h.1)
fit_each (x ∷ os) h o (inr q) = fit_each os h.2 o q
