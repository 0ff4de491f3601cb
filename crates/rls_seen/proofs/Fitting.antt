-- What is known of an operation that may be applied.
use Rattle.std.proofs.Common.{◌≡◌, ℕ, ◌+◌, ◌<◌, not, nat_lt, Bool, true, false, List, length, refl, sym, ap, ◌∙◌, arith, Some, None, IsTrue, if◌then◌else◌}
use Rattle.std.specs.Prelude.{pos, ◌+ℤ◌}
use Rattle.rls_ident.specs.declared.limits.TheConstants.{CHARACTERS, IDENTIFIERS}
use Rattle.rls_ident.specs.declared.tuple.Tuple.{Tuple}
use Rattle.rls_ident.specs.declared.epoch_name.EpochName.TheVariants.{Of}
use Rattle.rls_ident.specs.EpochNames.{name_eq}
use Rattle.rls_ident.specs.Identifiers.{last_of, greatest_offset}
use Rattle.rls_ident.specs.Tuples.{offset_of}
use Rattle.rls_ident.specs.Vectors.{at_most, raise}
use Rattle.rls_ident.proofs.Members.{bool_cases, eq_not, not_lt_is, not_int_lt_is}
use Rattle.rls_rename.specs.Tree.{is_kept}
use Rattle.rls_rename.proofs.Kept.{greatest_within_kept}
use Rattle.rls_rename.proofs.Paths.{name_eq_is}
use Rattle.rls_ops.specs.declared.op.Op.{Op}
use Rattle.rls_ops.specs.declared.op.Body.{Body}
use Rattle.rls_ops.specs.declared.op.Body.TheVariants.{Insert, Delete, Rename, Leave}
use Rattle.rls_ops.specs.Rows.{row_of, left}
use Rattle.rls_ops.specs.Shapes.{is_empty, body_limit, body_len, passes_end}
use Rattle.rls_ops.proofs.Shaped.{IsShaped, shaped, next_of}
use Rattle.rls_model.specs.Answers.{Left, Backward, WrongEpoch, WrongStem}
use Rattle.rls_model.specs.Stems.{may_use, due_offset, new_stem, stems_after}
use Rattle.rls_model.proofs.Fresh.{Change, change_of}
use Rattle.rls_model.proofs.OneTree.{none_else, not_not}
use Rattle.rls_seen.specs.Seen.{Seen, vector, members, count_over, due_over}
use Rattle.rls_seen.specs.Over.{body_refusal_over, refusal_over}
use Rattle.rls_seen.specs.Sane.{IsSane, IsInRange, AreStems, MayApply}
use Rattle.rls_seen.proofs.StemNumbers.{earlier, stems_with, stems_raised, stems_inserted, new_in_range}

pub record Facts (s : Seen) (o : Op) : Type 0 where
  pub shaped : IsShaped (members s) o
  pub next : o.seq ≡ count_over s o.author + 1
  pub stays : left s.acks o.author ≡ false
  pub row : at_most (row_of s.acks o.author) o.context ≡ true
  pub due : o.epoch ≡ due_over s o.context
  pub kept : is_kept s.epochs.top s.epochs.nodes o.epoch ≡ true
  pub body : body_refusal_over s o o.body ≡ None

pub facts : (s : Seen) (o : Op) → MayApply s o → Facts s o
unfolding refusal_over
facts s o m =
    let p = none_else (left s.acks o.author) (Left (count_over s o.author)) _ m.fits in
    let q = none_else (not (at_most (row_of s.acks o.author) o.context)) (Backward (row_of s.acks o.author)) _ p.1 in
    let r = none_else (not (name_eq o.epoch (due_over s o.context))) (WrongEpoch (due_over s o.context)) _ q.1 in
    let e = name_eq_is o.epoch (due_over s o.context) (not_not (name_eq o.epoch (due_over s o.context)) r.0) in
    record {
      shaped = shaped (members s) o m.shape;
      next = next_of (members s) (vector s) o m.shape m.above m.causes;
      stays = p.0;
      row = not_not (at_most (row_of s.acks o.author) o.context) q.0;
      due = e;
      kept = ap (is_kept s.epochs.top s.epochs.nodes) e ∙ greatest_within_kept s.epochs.top s.epochs.nodes o.context;
      body = r.1;
    }

-- ---- stems

may_go : (s : Seen) (o : Op) (first : List Tuple) (text : List ℕ) (b : Bool) → may_use s.stems o.author o.seq (last_of first) (length text) ≡ b
    → body_refusal_over s o (Insert first text) ≡ None → b ≡ true
may_go s o first text true e h = refl
may_go s o first text false e h =
    let f = sym (ap (λ c. if c then None else Some (WrongStem (due_offset s.stems o.author o.seq (last_of first)))) e) ∙ h in absurd (cc)

pub may_begin : (s : Seen) (o : Op) → Facts s o → (first : List Tuple) (text : List ℕ) → o.body ≡ Insert first text → IsTrue (may_use s.stems o.author o.seq (last_of first) (length text))
may_begin s o f first text e =
    may_go s o first text (may_use s.stems o.author o.seq (last_of first) (length text)) refl (ap (body_refusal_over s o) (sym e) ∙ f.body)

-- what it does to its author's stems
pub change : (s : Seen) (o : Op) → IsSane s → Facts s o → Change s.stems o o.body
change s o sane f =
    let n = f.next in
    change_of s.stems o o.body (earlier (vector s) s.stems o.author o.seq sane.stems f.next) (omega arith) (may_begin s o f)

stems_go : (s : Seen) (o : Op) (b : Body) → IsSane s → Facts s o → o.body ≡ b → IsInRange b → AreStems (raise (vector s) o.author) (stems_after s.stems o.author o.seq b)
stems_go s o (Insert first text) sane f e r =
    let h = f.shaped in
    let z : is_empty (Insert first text) ≡ false = ap is_empty (sym e) ∙ h.some in
    let w : 0 < length text = let k = eq_not (length text) 0 z in omega arith in
    let l : nat_lt CHARACTERS (length text) ≡ false = ap (λ b. nat_lt (body_limit b) (body_len b)) (sym e) ∙ h.few in
    let p : passes_end (Insert first text) ≡ false = ap passes_end (sym e) ∙ h.room in
    stems_inserted (vector s) s.stems o.author o.seq (last_of first) (length text) sane.stems h.author f.next (may_begin s o f first text e) w (not_lt_is CHARACTERS (length text) l) r
    (not_int_lt_is (greatest_offset +ℤ pos 1) (offset_of (last_of first) +ℤ pos (length text)) p)
stems_go s o (Delete targets) sane f e r = stems_raised (vector s) o.author s.stems sane.stems
stems_go s o (Rename former) sane f e r =
    let h = f.shaped in
    let z : is_empty (Rename former) ≡ false = ap is_empty (sym e) ∙ h.some in
    let w : 0 < length former = let k = eq_not (length former) 0 z in omega arith in
    let l : nat_lt IDENTIFIERS (length former) ≡ false = ap (λ b. nat_lt (body_limit b) (body_len b)) (sym e) ∙ h.few in
    let m = not_lt_is IDENTIFIERS (length former) l in
    stems_with (raise (vector s) o.author) (new_stem o.author o.seq (length former)) s.stems (new_in_range (vector s) o.author o.seq (length former) h.author f.next w (omega arith)) (stems_raised (vector s) o.author s.stems sane.stems)
stems_go s o Leave sane f e r = stems_raised (vector s) o.author s.stems sane.stems

pub stems_accepted : (s : Seen) (o : Op) → IsSane s → Facts s o → IsInRange o.body → AreStems (raise (vector s) o.author) (stems_after s.stems o.author o.seq o.body)
stems_accepted s o sane f r = stems_go s o o.body sane f refl r

-- ---- the name of a new epoch

-- it isn't kept yet
pub name_new : (s : Seen) (o : Op) → IsSane s → Facts s o → is_kept s.epochs.top s.epochs.nodes (Of o.author o.seq) ≡ false
name_new s o sane f =
    bool_cases (is_kept s.epochs.top s.epochs.nodes (Of o.author o.seq))
    (λ e. let c = sane.epochs.counted (Of o.author o.seq) e in let n = f.next in let k = c.2 in absurd (omega arith))
    (λ e. e)
