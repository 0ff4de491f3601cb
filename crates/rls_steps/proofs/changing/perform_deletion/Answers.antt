use Rattle.std.proofs.Common.{◌++◌, ◌∙◌, ap}
use Rattle.rls_seen.specs.Seen.{Seen}
use Rattle.rls_seen.proofs.EditedText.{delete_place}
use Rattle.rls_steps.specs.Marks.{Piece}
use Rattle.rls_steps.specs.Labelled.{Labelled, cut_over, cut_piece}
use Rattle.rls_steps.specs.Parts.{parts}
use Rattle.rls_steps.specs.Recorded.{held_by, steps_of}
use Rattle.rls_steps.proofs.changing.perform_deletion.Goals as goal

pub ready-requires : goal.ready-requires
ready-requires c = record { places = (delete_place c.args.replica.now c.args.at c.args.count c.requires.fits).0 }

pub returns-clause-held : goal.returns-clause-held
returns-clause-held c =
    ap (λ (s : Seen). held_by s c.ready.new.next c.ready.new.names) c.in_ok-seq.ensures.after ∙ ap (λ (h : Labelled). cut_over h c.args.at c.args.count) c.in_ok-piece.ensures.ok

pub returns-clause-stack : goal.returns-clause-stack
returns-clause-stack c =
    c.in_ok-push_parts.ensures.stack
    ∙ ap (λ (p : Piece). c.args.stack.now.items ++ steps_of c.args.group (parts p)) (c.in_ok-piece.ensures.piece ∙ ap (λ (h : Labelled). cut_piece h c.args.at c.args.count) c.in_ok-piece.ensures.ok)
