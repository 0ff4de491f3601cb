use Rattle.std.proofs.Common.{codes}
use Rattle.rls_report.specs.Texts.{name_text, ident_text}
use Rattle.rls_report.proofs.Joined.{two_pieces}
use Rattle.rls_report.proofs.refusals.put_reason.Goals as goal

pub returns-in_ok-put_name-in-WrongEpoch : goal.returns-in_ok-put_name-in-WrongEpoch
returns-in_ok-put_name-in-WrongEpoch c = record { ok = rw c.in-WrongEpoch.is (two_pieces _ (codes "wrong epoch ") (name_text c.in-WrongEpoch.due) _ _ c.in_ok-push_str-in-WrongEpoch.ensures.bytes c.in_ok-put_name-in-WrongEpoch.ensures.ok) }

pub returns-in_ok-put_ident-in-UnknownTarget : goal.returns-in_ok-put_ident-in-UnknownTarget
returns-in_ok-put_ident-in-UnknownTarget c = record { ok = rw c.in-UnknownTarget.is (two_pieces _ (codes "unknown target ") (ident_text c.in-UnknownTarget.id) _ _ c.in_ok-push_str-in-UnknownTarget.ensures.bytes c.in_ok-put_ident-in-UnknownTarget.ensures.ok) }
