use Rattle.std.proofs.Common.{subst, sym}
use Rattle.rls_seen.specs.Seen.{Seen}
use Rattle.rls_file.specs.Stored.{AreWritable}
use Rattle.rls_session.specs.Answers.{Sitting}
use Rattle.rls_session.proofs.serving.answer_on.Goals as goal

pub serve_desk-requires : goal.serve_desk-requires
serve_desk-requires g c = record {
  writable = subst (λ (d : Sitting Seen). AreWritable d.state) (sym c.new-desk.ensures.sitting) c.requires.writable;
}

pub returns : goal.returns
returns g c = record { ends = rw c.new-desk.ensures.sitting at c.serve_desk.ensures.ends; as_told = rw c.new-desk.ensures.sitting at c.serve_desk.ensures.as_told }
