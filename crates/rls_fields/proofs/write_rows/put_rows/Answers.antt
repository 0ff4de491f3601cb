use Rattle.std.proofs.Common.{◌∙◌, ◌+◌, ◌++◌, sym, ap, subst}
use Rattle.std.specs.Prelude.{All}
use Rattle.std.proofs.lemmas.List.Elements.{All-push}
use Rattle.rls_ops.specs.Rows.{row_of}
use Rattle.rls_ops.specs.Spelling.{vector_bytes}
use Rattle.rls_seen.specs.Kept.{other_rows}
use Rattle.rls_fields.specs.Written.{FitsRow}
use Rattle.rls_fields.proofs.Puts.{put_one, row_more}
use Rattle.rls_fields.proofs.write_rows.put_rows.Goals as goal

pub loop-member-preserved : goal.loop-member-preserved
loop-member-preserved c =
    let acks = c.args.acks.now in
    let n = c.loop-member.member in
    let more = row_more acks n (λ e. c.if-member-me.false (e ∙ sym c.me.ensures.me)) in
    record {
      bytes = put_one vector_bytes (other_rows acks n) (other_rows acks (n + 1)) (row_of acks n) c.args.out.now.items c.loop-member.out.items c.put_vector.new.out.items more c.loop-member.invariant.bytes (c.in_ok-put_vector.ensures.ok ∙ ap (λ v. c.loop-member.out.items ++ vector_bytes v) c.row.ensures.row);
      fits = subst (All FitsRow) (sym more) (All-push FitsRow (other_rows acks n) (row_of acks n) c.loop-member.invariant.fits (subst FitsRow c.row.ensures.row c.in_ok-put_vector.ensures.small));
    }
