use Rattle.std.proofs.Common.{ap, ◌∙◌, sym}
use Rattle.rls_ident.specs.Identifiers.{last_of}
use Rattle.rls_ident.specs.Tuples.{at_spot}
use Rattle.rls_model.specs.Stems.{stem_of}
use Rattle.rls_runs.proofs.RunOrder.{run_ident, run_some}
use Rattle.rls_parts.specs.Used.{covers}
use Rattle.rls_parts.proofs.UsedRuns.{run_so}
use Rattle.rls_parts.proofs.text.is_used_run.Goals as goal

pub returns : goal.returns
returns c = record {
  used = λ p e.
      let run = c.args.run.now in
      let last = c.last-last.result in
      let first = c.first.ensures.first in
      run_so p run.0 run.1 (at_spot last) c.covers.result (run_ident run c.len-len.ensures.run) (run_some run c.len-len.ensures.run) (ap last_of (sym first) ∙ c.last-last.ensures.last)
      (c.covers.ensures.covers ∙ (ap (λ o. covers o last.offset c.len-len.result) (c.get.ensures.stem ∙ ap (λ ss. stem_of ss last.replica last.seq) (sym e)) ∙ ap (covers (stem_of p.stems last.replica last.seq) last.offset) c.len-len.ensures.len));
}
