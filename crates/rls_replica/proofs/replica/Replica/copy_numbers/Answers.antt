use Rattle.std.proofs.Common.{◌∙◌, ap}
use Rattle.rls_seen.specs.Seen.{Seen}
use Rattle.rls_seen.specs.Kept.{other_rows, left_below}
use Rattle.rls_replica.proofs.replica.Replica.copy_numbers.Goals as goal

pub returns : goal.returns
returns c = record {
  vector = c.in_ok-vector.ensures.copy ∙ (c.mine.ensures.mine ∙ ap (λ (u : Seen). u.acks.mine) c.self.view_is);
  rows = c.in_ok-rows.ensures.rows ∙ ap (λ (u : Seen). other_rows u.acks c.args.count) c.self.view_is;
  stems = c.in_ok-stems.ensures.stems ∙ ap (λ (u : Seen). u.stems) c.self.view_is;
  left = c.in_ok-left.ensures.left ∙ ap (λ (u : Seen). left_below u.acks c.args.count) c.self.view_is;
}
