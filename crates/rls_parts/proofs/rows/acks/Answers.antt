use Rattle.std.proofs.Common.{sym, ap, ◌∙◌, subst}
use Rattle.rls_ops.specs.Rows.{AreRows}
use Rattle.rls_parts.specs.Restored.{acks_of}
use Rattle.rls_parts.proofs.RestoredRows.{rows_given}
use Rattle.rls_parts.proofs.rows.acks.Goals as goal

pub given-requires : goal.given-requires
given-requires c =
    let p = c.args.parts.now in
    record {
      rows = subst AreRows
          (ap (λ v. record { me = p.me; mine = v; others = (acks_of p).others; left = (acks_of p).left }) (sym c.in_ok-copy.ensures.copy)
          ∙ (ap (λ vs. record { me = p.me; mine = c.in_ok-copy.field-0; others = vs; left = (acks_of p).left }) (sym c.in_ok-rows.ensures.rows)
          ∙ ap (λ ms. record { me = p.me; mine = c.in_ok-copy.field-0; others = c.in_ok-rows.rows.items; left = ms }) (sym c.in_ok-left.ensures.marks)))
          (rows_given p c.requires.given);
    }
