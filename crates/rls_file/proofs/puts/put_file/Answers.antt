use Rattle.std.proofs.Common.{◌≡◌, ◌++◌, ◌∙◌, ℕ, true, List, length, sum_by, sym, ap, subst, arith}
use Rattle.std.specs.Prelude.{All}
use Rattle.std.specs.List.{flat_map}
use Rattle.rls_ident.specs.declared.epoch_name.EpochName.{EpochName}
use Rattle.rls_rename.specs.Tree.{Epochs, is_kept}
use Rattle.rls_ops.specs.declared.op.Op.{Op}
use Rattle.rls_ops.specs.Rows.{AcksSeen, stable_of, missing_for}
use Rattle.rls_ops.specs.Sizes.{op_size}
use Rattle.rls_ops.specs.Spelling.{four_bytes, counted, vector_bytes, op_bytes}
use Rattle.rls_codec.specs.Spelled.{IsSpelledIfFit}
use Rattle.rls_model.specs.declared.parts.Stem.{Stem}
use Rattle.rls_model.specs.Parts.{epoch_parts, text_runs}
use Rattle.rls_seen.specs.Seen.{members, vector, stable_over, unstable_over}
use Rattle.rls_seen.specs.Kept.{retained_over, other_rows, left_below}
use Rattle.rls_replica.proofs.Marking.{retained_kept}
use Rattle.rls_fields.specs.Fields.{head_bytes, stems_bytes, epoch_bytes, text_run_bytes}
use Rattle.rls_fields.specs.FieldSizes.{epoch_size, text_run_size}
use Rattle.rls_fields.specs.Written.{FitsRow, FitsFormer, FitsChars}
use Rattle.rls_file.proofs.Stored.{few_stems, fields_fit, nine_puts, file_is}
use Rattle.rls_file.proofs.puts.put_file.Goals as goal

pub put_rows-requires : goal.put_rows-requires
put_rows-requires c = record { members = c.members-members.ensures.members ∙ sym (ap (λ (a : AcksSeen). length a.mine) c.acks-acks.ensures.acks) }

pub put_left-requires : goal.put_left-requires
put_left-requires c = record { members = c.members-members.ensures.members ∙ sym (ap (λ (a : AcksSeen). length a.mine) c.acks-acks.ensures.acks) }

pub put_stems-requires : goal.put_stems-requires
put_stems-requires c = record {
  members = c.members-members.ensures.members ∙ sym c.stems.ensures.members;
  few = omega (arith, ap (λ (ss : List Stem). length ss) c.stems.ensures.stems, few_stems c.args.replica.now c.sane.ensures.sane c.requires.small);
}

pub put_epochs-requires : goal.put_epochs-requires
put_epochs-requires c =
    let s = c.args.replica.now in
    let epochs = ap (λ (E : Epochs). epoch_parts E.nodes c.args.places.now) c.epochs.ensures.epochs ∙ ap (λ (es : List EpochName). epoch_parts s.epochs.nodes es) c.requires.names in
    record {
      kept = λ e p. subst (λ (E : Epochs). is_kept E.top E.nodes e ≡ true) (sym c.epochs.ensures.epochs) (retained_kept s c.args.places.now c.requires.names e p);
      small = omega (arith, ap (sum_by epoch_size) epochs, c.requires.small);
    }

pub put_text_runs-requires : goal.put_text_runs-requires
put_text_runs-requires c = record { small = omega (arith, ap (λ es. sum_by text_run_size (text_runs es)) c.tree.ensures.text, c.requires.small) }

pub put_missing-requires : goal.put_missing-requires
put_missing-requires c =
    let s = c.args.replica.now in
    let log = ap (λ (v : List ℕ). missing_for v c.logged.result.now) (c.stable.ensures.stable ∙ ap (λ (a : AcksSeen). stable_of a) c.acks-acks.ensures.acks) ∙ ap (λ (os : List Op). missing_for (stable_over s) os) c.logged.ensures.log in
    record { small = omega (arith, ap (sum_by op_size) log, c.requires.small) }

pub put_waiting-requires : goal.put_waiting-requires
put_waiting-requires c = record { small = omega (arith, ap (sum_by op_size) c.held.ensures.held, c.requires.small) }

pub returns : goal.returns
returns c =
    let s = c.args.replica.now in
    let n = c.members-members.result in
    let o = c.args.out.now.items in
    let p1 = c.put_head.new.out.items in
    let p2 = c.put_vector.new.out.items in
    let p3 = c.put_rows.new.out.items in
    let p4 = c.put_left.new.out.items in
    let p5 = c.put_stems.new.out.items in
    let p6 = c.put_epochs.new.out.items in
    let p7 = c.put_text_runs.new.out.items in
    let p8 = c.put_missing.new.out.items in
    let p9 = c.put_waiting.new.out.items in
    let epochs = ap (λ (E : Epochs). epoch_parts E.nodes c.args.places.now) c.epochs.ensures.epochs ∙ ap (λ (es : List EpochName). epoch_parts s.epochs.nodes es) c.requires.names in
    let log = ap (λ (v : List ℕ). missing_for v c.logged.result.now) (c.stable.ensures.stable ∙ ap (λ (a : AcksSeen). stable_of a) c.acks-acks.ensures.acks) ∙ ap (λ (os : List Op). missing_for (stable_over s) os) c.logged.ensures.log in
    let head : head_bytes 4 c.group.result n c.me.result ≡ head_bytes 4 s.group (members s) s.acks.me =
    ap (λ g. head_bytes 4 g n c.me.result) c.group.ensures.group ∙ ap (λ m. head_bytes 4 s.group m c.me.result) c.members-members.ensures.members ∙ ap (λ a. head_bytes 4 s.group (members s) a) c.me.ensures.me in
    let mine = c.mine.ensures.mine ∙ ap (λ (a : AcksSeen). a.mine) c.acks-acks.ensures.acks in
    let rows = ap (λ (a : AcksSeen). flat_map vector_bytes (other_rows a n)) c.acks-acks.ensures.acks ∙ ap (λ m. flat_map vector_bytes (other_rows s.acks m)) c.members-members.ensures.members in
    let left = ap (λ (a : AcksSeen). counted four_bytes (left_below a n)) c.acks-acks.ensures.acks ∙ ap (λ m. counted four_bytes (left_below s.acks m)) c.members-members.ensures.members in
    let stems = ap (λ m. stems_bytes 4 0 m c.stems.result.now.stems) c.members-members.ensures.members ∙ ap (λ (ss : List Stem). stems_bytes 4 0 (members s) ss) c.stems.ensures.stems in
    record {
      ok = nine_puts o p1 p2 p3 p4 p5 p6 p7 p8 p9 (head_bytes 4 s.group (members s) s.acks.me) (vector_bytes (vector s)) (flat_map vector_bytes (other_rows s.acks (members s))) (counted four_bytes (left_below s.acks (members s)))
          (stems_bytes 4 0 (members s) s.stems) (counted epoch_bytes (epoch_parts s.epochs.nodes (retained_over s))) (counted text_run_bytes (text_runs s.text)) (counted op_bytes (unstable_over s)) (counted op_bytes s.waiting)
          (c.in_ok-put_head.ensures.ok ∙ ap (λ w. o ++ w) head)
          (c.in_ok-put_vector.ensures.ok ∙ ap (λ v. p1 ++ vector_bytes v) mine)
          (c.in_ok-put_rows.ensures.ok ∙ ap (λ w. p2 ++ w) rows)
          (c.in_ok-put_left.ensures.ok ∙ ap (λ w. p3 ++ w) left)
          (c.in_ok-put_stems.ensures.ok ∙ ap (λ w. p4 ++ w) stems)
          (c.in_ok-put_epochs.ensures.ok ∙ ap (λ es. p5 ++ counted epoch_bytes es) epochs)
          (c.in_ok-put_text_runs.ensures.ok ∙ ap (λ es. p6 ++ counted text_run_bytes (text_runs es)) c.tree.ensures.text)
          (c.in_ok-put_missing.ensures.ok ∙ ap (λ os. p7 ++ counted op_bytes os) log)
          (c.in_ok-put_waiting.ensures.ok ∙ ap (λ os. p8 ++ counted op_bytes os) c.held.ensures.held)
          ∙ ap (λ w. o ++ w) (sym (file_is s));
      fits = fields_fit s
          (subst (All FitsRow) (ap (λ (a : AcksSeen). other_rows a n) c.acks-acks.ensures.acks ∙ ap (λ m. other_rows s.acks m) c.members-members.ensures.members) c.in_ok-put_rows.ensures.fits)
          (subst (All FitsFormer) epochs c.in_ok-put_epochs.ensures.fits)
          (subst (λ es. All FitsChars (text_runs es)) c.tree.ensures.text c.in_ok-put_text_runs.ensures.fits)
          (subst (All IsSpelledIfFit) log c.in_ok-put_missing.ensures.fits)
          (subst (All IsSpelledIfFit) c.held.ensures.held c.in_ok-put_waiting.ensures.fits);
    }
