use Rattle.std.proofs.Common.{◌≡◌, List, ℕ, sym, ap, ◌∙◌, subst}
use Rattle.std.specs.Prelude.{IfOk}
use Rattle.rls_ident.specs.declared.tuple.Tuple.{Tuple}
use Rattle.rls_ident.specs.Lists.{IsIn}
use Rattle.rls_runs.specs.Runs.{run_idents}
use Rattle.rls_parts.specs.Reading.{names_of}
use Rattle.rls_parts.proofs.Faults.{kept_at}
use Rattle.rls_parts.proofs.TextEpochs.{text_of, text_there}
use Rattle.rls_parts.proofs.text.is_text_of.Goals as goal

pub returns-then-are_all_used : goal.returns-then-are_all_used
returns-then-are_all_used c =
    let p = c.args.parts.now in
    let r = c.requires in
    record {
      used = text_there p c.args.epochs.now.epochs c.args.run.now c.is_used_run.result c.args.are_all_used r.given.epochs r.rule r.epochs_are c.count-count.ensures.tree.0 c.len-len.ensures.run r.all c.if-are_all_used.true (c.is_used_run.ensures.used p (sym r.stems_are));
    }

pub are_used_everywhere-requires : goal.are_used_everywhere-requires
are_used_everywhere-requires c =
    let r = c.requires in
    record { kept = λ f q. kept_at c.args.parts.now c.args.epochs.now.epochs r.given.epochs r.rule r.epochs_are f (subst (λ es. IsIn f (names_of es)) c.as_slice.ensures.items q) }

pub returns : goal.returns
returns c =
    let p = c.args.parts.now in
    let r = c.requires in
    let ids = c.in_ok-ids.ensures.idents ∙ ap (λ (q : List Tuple × ℕ). run_idents q.0 q.1) c.in_ok-copy.ensures.copy in
    record {
      used = subst (λ used. IfOk c.are_used_everywhere.result (λ b. b ≡ used)) (text_of p c.args.run.now _ c.as_slice.result.now ids c.as_slice.ensures.items)
          (c.are_used_everywhere.ensures.used p (sym r.stems_are) (sym r.epochs_are));
    }
