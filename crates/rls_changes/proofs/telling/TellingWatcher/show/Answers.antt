use Rattle.std.proofs.Common.{◌∙◌, refl}
use Rattle.rls_changes.proofs.Calls.{cut_back}
use Rattle.rls_changes.proofs.telling.TellingWatcher.show.Goals as goal

pub returns-clause-before : goal.returns-clause-before
returns-clause-before c =
    cut_back c.args.self.now.changes.items c.in_ok-fresh.fresh.items c.push_all.new.changes.items _ c.len-self.result (c.len-self.ensures ∙ c.args.self.now.changes.ok.0) c.in_ok-push_all.ensures.ok refl
