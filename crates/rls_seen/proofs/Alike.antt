-- What a replica reads of itself is what the history says that it stands for.
use Rattle.std.proofs.Common.{◌≡◌, ℕ, zero, suc, ◌<◌, ◌≤◌, ◌==◌, ◌||◌, ◌++◌, not, slice_index, Bool, true, false, List, [], ◌∷◌, length, refl, sym, ap, ◌∙◌, subst, arith, Option, Some, None, if◌then◌else◌}
use Rattle.std.specs.List.{list_any, list_all}
use Rattle.rls_ident.specs.declared.tuple.Tuple.{Tuple}
use Rattle.rls_ident.specs.declared.epoch_name.EpochName.{EpochName}
use Rattle.rls_ident.specs.declared.epoch_name.EpochName.TheVariants.{Origin}
use Rattle.rls_ident.specs.EpochNames.{name_eq}
use Rattle.rls_ident.specs.Identifiers.{IsIdent, is_ident, ident_eq, last_of}
use Rattle.rls_ident.specs.Vectors.{at_most}
use Rattle.rls_ident.proofs.Members.{and_left, and_right}
use Rattle.rls_ident.proofs.Vectors.{at_most_trans}
use Rattle.rls_rename.specs.Tree.{Epochs, is_kept}
use Rattle.rls_rename.specs.Tree as tree
use Rattle.rls_rename.proofs.Paths.{name_eq_is}
use Rattle.rls_rename.proofs.Windows.{window_of, of_window}
use Rattle.rls_ops.specs.declared.op.Op.{Op}
use Rattle.rls_ops.specs.declared.op.Shape.{Shape}
use Rattle.rls_ops.specs.declared.op.Body.{Body}
use Rattle.rls_ops.specs.declared.op.Body.TheVariants.{Insert, Delete, Rename, Leave}
use Rattle.rls_ops.specs.Rows.{AcksSeen, row_of, left, awaits, awaited, least_of, stable_of, missing_for}
use Rattle.rls_ops.specs.Shapes.{shape_fault}
use Rattle.rls_model.specs.Answers.{Reason, Left, Backward, WrongEpoch, WrongStem, UnknownTarget}
use Rattle.rls_model.specs.Document.{targets_of, export}
use Rattle.rls_model.specs.Epochs.{epochs, greatest, greatest_within}
use Rattle.rls_model.specs.Fitting.{is_known, first_unknown, body_refusal, refusal}
use Rattle.rls_model.specs.History.{History, me_of, members_of, count, count_of, has_left, row}
use Rattle.rls_model.specs.Laws.{KeepsRetained}
use Rattle.rls_model.specs.Legal.{IsLegal}
use Rattle.rls_model.specs.Receiving.{State, answer, answer_by}
use Rattle.rls_model.specs.Stability.{is_awaited, awaited_rows, stable, unstable}
use Rattle.rls_model.specs.Stems.{may_use, due_offset}
use Rattle.rls_model.specs.WellFormed.{IsOp, IsBody}
use Rattle.rls_model.proofs.Dropping.{Keeps, greatest_same, within_same, threshold_retained}
use Rattle.rls_model.proofs.Later.{log_unstable}
use Rattle.rls_model.proofs.OneTree as one_tree
use Rattle.rls_model.proofs.OneTree.{author_below}
use Rattle.rls_model.proofs.Stable.{stable_row, length-count}
use Rattle.rls_model.proofs.WindowAnswers.{known_window}
use Rattle.rls_seen.specs.Seen.{Seen, members, stable_over, unstable_over, greatest_over, due_over}
use Rattle.rls_seen.specs.Over.{is_known_over, first_unknown_over, body_refusal_over, refusal_over, answer_over}
use Rattle.rls_seen.specs.Stands.{StandsFor}

-- ---- members, rows, what is stable

pub members_alike : (s : Seen) (t : State) → StandsFor s t → members s ≡ members_of t.history
members_alike s t h = ap length h.vector ∙ length-count t.history

module _ (acks : AcksSeen) (H : History) (me : acks.me ≡ me_of H) (vector : acks.mine ≡ count H) (rows : (a : ℕ) → a < members_of H → row_of acks a ≡ row H a) (marks : (a : ℕ) → a < members_of H → left acks a ≡ has_left H a) where
  awaited_alike : (n : ℕ) → n ≤ members_of H → awaited acks n ≡ awaited_rows H n
  awaited_alike zero l = refl
  awaited_alike (suc n) l =
      let m : n < members_of H = omega arith in
      let a : awaits acks n ≡ is_awaited H n = ap (λ me. (n == me) || not (left acks n)) me ∙ ap (λ b. (n == me_of H) || not b) (marks n m) in
      ap (λ rs. rs ++ (if awaits acks n then row_of acks n ∷ [] else [])) (awaited_alike n (omega arith))
      ∙ (ap (λ b. awaited_rows H n ++ (if b then row_of acks n ∷ [] else [])) a
      ∙ ap (λ r. awaited_rows H n ++ (if is_awaited H n then r ∷ [] else [])) (rows n m))

  -- where rows and marks are those of a history, the same is stable
  pub stable_by_rows : stable_of acks ≡ stable H
  unfolding stable_of stable
  stable_by_rows =
      let n : length acks.mine ≡ members_of H = ap length vector ∙ length-count H in
      ap (λ v. least_of v (awaited acks (length acks.mine))) vector
      ∙ (ap (λ n. least_of (count H) (awaited acks n)) n
      ∙ ap (least_of (count H)) (awaited_alike (members_of H) (omega arith)))

pub stable_alike : (s : Seen) (t : State) → StandsFor s t → stable_over s ≡ stable t.history
stable_alike s t h = stable_by_rows s.acks t.history h.me h.vector h.rows h.left

pub unstable_alike : (s : Seen) (t : State) → StandsFor s t → unstable_over s ≡ unstable t.history
unstable_alike s t h = ap (λ v. missing_for v s.log) (stable_alike s t h) ∙ log_unstable t.history h.log.0 s.log h.log.1.stable h.log.1.kept

-- ---- epochs

pub keeps : (E : Epochs) (H : History) → IsLegal H → KeepsRetained H E → Keeps H E.top E.nodes
keeps E H l k = record { window = window_of E (record { top = Origin; nodes = epochs H }) (one_tree.law H l) k.0; keeps = k.1 }

pub keeps_back : (E : Epochs) (H : History) → Keeps H E.top E.nodes → KeepsRetained H E
keeps_back E H k = (of_window E (record { top = Origin; nodes = epochs H }) k.window, k.keeps)

pub keeping : (s : Seen) (t : State) → StandsFor s t → Keeps t.history s.epochs.top s.epochs.nodes
keeping s t h = keeps s.epochs t.history h.legal h.epochs

pub greatest_alike : (s : Seen) (t : State) → StandsFor s t → greatest_over s ≡ greatest t.history
greatest_alike s t h = greatest_same t.history s.epochs.top s.epochs.nodes h.legal (keeping s t h)

-- the greatest epoch within a vector that is at least the stable one
pub due_alike : (s : Seen) (t : State) → StandsFor s t → (v : List ℕ) → at_most (stable t.history) v ≡ true → due_over s v ≡ greatest_within t.history v
due_alike s t h v l = within_same t.history s.epochs.top s.epochs.nodes v h.legal (keeping s t h) l

-- ---- why an operation is refused

known_alike : (s : Seen) (t : State) → StandsFor s t → (e : EpochName) (x : List Tuple) → is_kept s.epochs.top s.epochs.nodes e ≡ true → IsIdent x → is_known_over s e x ≡ is_known t.history e x
unfolding is_known_over
known_alike s t h e x k i =
    let A = s.epochs.nodes in
    let f : List Op → Bool = λ os. list_any (λ d. list_any (λ u. ident_eq (tree.translate A d.epoch e u) x) (targets_of d.body)) os in
    ap (λ g. list_any (λ y. ident_eq y.0 (tree.translate A e g x)) s.text || f (unstable_over s)) (greatest_alike s t h)
    ∙ (ap (λ es. list_any (λ y. ident_eq y.0 (tree.translate A e (greatest t.history) x)) es || f (unstable_over s)) h.text
    ∙ (ap (λ os. list_any (λ y. ident_eq y.0 (tree.translate A e (greatest t.history) x)) (export t.history) || f os) (unstable_alike s t h)
    ∙ sym (known_window t.history s.epochs.top A h.legal (keeping s t h) e x k i)))

-- each is an identifier
abbrev AreAll : List (List Tuple) → Type 0
AreAll [] = Unit {0}
AreAll (x ∷ xs) = IsIdent x × AreAll xs

all_of : (xs : List (List Tuple)) → list_all is_ident xs ≡ true → AreAll xs
all_of [] h = tt
all_of (x ∷ xs) h = (and_left (is_ident x) (list_all is_ident xs) h, all_of xs (and_right (is_ident x) (list_all is_ident xs) h))

unknown_alike : (s : Seen) (t : State) → StandsFor s t → (e : EpochName) (xs : List (List Tuple)) → is_kept s.epochs.top s.epochs.nodes e ≡ true → AreAll xs → first_unknown_over s e xs ≡ first_unknown t.history e xs
unknown_alike s t h e [] k i = refl
unknown_alike s t h e (x ∷ xs) k i =
    ap (λ b. if b then first_unknown_over s e xs else Some (UnknownTarget x)) (known_alike s t h e x k i.0)
    ∙ ap (λ r. if is_known t.history e x then r else Some (UnknownTarget x)) (unknown_alike s t h e xs k i.1)

body_alike : (s : Seen) (t : State) → StandsFor s t → (o : Op) (b : Body) → IsBody b → is_kept s.epochs.top s.epochs.nodes o.epoch ≡ true → body_refusal_over s o b ≡ body_refusal t.history o b
body_alike s t h o (Insert first text) w k =
    ap (λ ss. if may_use ss o.author o.seq (last_of first) (length text) then None else Some (WrongStem (due_offset ss o.author o.seq (last_of first)))) h.stems
body_alike s t h o (Delete targets) w k = unknown_alike s t h o.epoch targets k (all_of targets w.0)
body_alike s t h o (Rename former) w k = refl
body_alike s t h o Leave w k = refl

behind_one : (b : Bool) (x p q : Option Reason) → (b ≡ true → p ≡ q) → (if not b then x else p) ≡ (if not b then x else q)
behind_one true x p q f = f refl
behind_one false x p q f = refl

behind_two : (b c : Bool) (x y p q : Option Reason) → (b ≡ false → c ≡ true → p ≡ q) → (if b then x else if not c then y else p) ≡ (if b then x else if not c then y else q)
behind_two true c x y p q f = refl
behind_two false true x y p q f = f refl refl
behind_two false false x y p q f = refl

-- the same reason, for an operation of a member
pub refusal_alike : (s : Seen) (t : State) (o : Op) → IsOp o → o.author < members_of t.history → StandsFor s t → refusal_over s o ≡ refusal t.history o
unfolding refusal_over refusal
refusal_alike s t o w m h =
    let H = t.history in
    let rest : Option Reason = if not (name_eq o.epoch (due_over s o.context)) then Some (WrongEpoch (due_over s o.context)) else body_refusal_over s o o.body in
    let due = greatest_within H o.context in
    ap (λ b. if b then Some (Left (slice_index s.acks.mine o.author)) else if not (at_most (row_of s.acks o.author) o.context) then Some (Backward (row_of s.acks o.author)) else rest) (h.left o.author m)
    ∙ (ap (λ v. if has_left H o.author then Some (Left (slice_index v o.author)) else if not (at_most (row_of s.acks o.author) o.context) then Some (Backward (row_of s.acks o.author)) else rest) h.vector
    ∙ (ap (λ r. if has_left H o.author then Some (Left (count_of H o.author)) else if not (at_most r o.context) then Some (Backward r) else rest) (h.rows o.author m)
    ∙ behind_two (has_left H o.author) (at_most (row H o.author) o.context) (Some (Left (count_of H o.author))) (Some (Backward (row H o.author))) rest
    (if not (name_eq o.epoch due) then Some (WrongEpoch due) else body_refusal H o o.body)
    (λ a b. let c : at_most (stable H) o.context ≡ true = at_most_trans (stable H) (row H o.author) o.context (stable_row H o.author m a) b in
    ap (λ e. if not (name_eq o.epoch e) then Some (WrongEpoch e) else body_refusal_over s o o.body) (due_alike s t h o.context c)
    ∙ behind_one (name_eq o.epoch due) (Some (WrongEpoch due)) (body_refusal_over s o o.body) (body_refusal H o o.body)
    (λ e. body_alike s t h o o.body w.body
    (subst (λ f. is_kept s.epochs.top s.epochs.nodes f ≡ true) (sym (name_eq_is o.epoch due e)) ((keeping s t h).keeps due (threshold_retained H h.legal o.context c)))))))

-- ---- the answer

answer_is : (own : Bool) (H : History) (W : List Op) (o : Op) → answer own H W o ≡ answer_by own (count H) (me_of H) W (refusal H o) o (shape_fault (members_of H) o)
unfolding answer
answer_is own H W o = refl

reason_same : (own : Bool) (v : List ℕ) (me : ℕ) (W : List Op) (r q : Option Reason) (o : Op) (f : Option Shape) → (f ≡ None → r ≡ q) → answer_by own v me W r o f ≡ answer_by own v me W q o f
reason_same own v me W r q o (Some f) e = refl
reason_same own v me W r q o None e = ap (λ x. answer_by own v me W x o None) (e refl)

-- the same answer, whether or not own operations are taken
pub answers_alike : (own : Bool) (s : Seen) (t : State) (o : Op) → IsOp o → StandsFor s t → answer_over own s o ≡ answer own t.history t.waiting o
unfolding answer_over
answers_alike own s t o w h =
    let H = t.history in
    let f = shape_fault (members_of H) o in
    ap (λ n. answer_by own s.acks.mine s.acks.me s.waiting (refusal_over s o) o (shape_fault n o)) (members_alike s t h)
    ∙ (ap (λ v. answer_by own v s.acks.me s.waiting (refusal_over s o) o f) h.vector
    ∙ (ap (λ m. answer_by own (count H) m s.waiting (refusal_over s o) o f) h.me
    ∙ (ap (λ W. answer_by own (count H) (me_of H) W (refusal_over s o) o f) h.waiting
    ∙ (reason_same own (count H) (me_of H) t.waiting (refusal_over s o) (refusal H o) o f (λ e. refusal_alike s t o w (author_below (members_of H) o e) h)
    ∙ sym (answer_is own H t.waiting o)))))
