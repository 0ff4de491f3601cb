use Rattle.std.proofs.Common.{arith, ◌≡◌, ◌∷◌, [], List, ℕ, map, ap, sym, ◌∙◌, subst}
use Rattle.rls_ident.specs.declared.tuple.Tuple.{Tuple}
use Rattle.rls_runs.specs.Runs.{IsImage, run_idents, runs_of}
use Rattle.rls_epoch.specs.declared.ways.Step.{Step}
use Rattle.rls_epoch.specs.Ways.{led}
use Rattle.rls_epoch.proofs.Sorting.{nothing}
use Rattle.rls_epoch.proofs.Moving.{image_none, image_maximal, if_ok}
use Rattle.rls_epoch.proofs.nodes.Nodes.run_led.Goals as goal

pub returns-in-empty : goal.returns-in-empty
returns-in-empty c =
    let ps = c.args.self.now.placed in
    let run = c.args.run.now in
    let none = nothing c.args.steps.now (omega arith) in
    record {
      led = if_ok (λ runs. runs ≡ run ∷ []) (λ runs. IsImage (led ps c.args.steps.now) run runs)
          (λ runs e. subst (λ (ss : List Step). IsImage (led ps ss) run runs) (sym none) (subst (λ (rs : List (List Tuple × ℕ)). IsImage (led ps []) run rs) (sym e) (image_none ps run c.len-len.ensures.run)))
          c.listed.result c.listed.ensures.listed;
    }

pub returns-in_ok-runs_led-in_default : goal.returns-in_ok-runs_led-in_default
returns-in_ok-runs_led-in_default c =
    let f = led c.args.self.now.placed c.args.steps.now in
    let run = c.args.run.now in
    let xs = c.in_ok-runs_led-in_default.field-0 in
    let e = c.in_ok-runs_led-in_default.ensures.led ∙ ap (map f) (c.in_ok-from_run-in_default.ensures.idents ∙ ap (λ (r : List Tuple × ℕ). run_idents r.0 r.1) c.in_ok-copy-in_default.ensures.copy) in
    record {
      led = if_ok (λ runs. runs ≡ runs_of xs) (λ runs. IsImage f run runs)
          (λ runs h. subst (λ (rs : List (List Tuple × ℕ)). IsImage f run rs) (sym h) (image_maximal f run xs e c.maximal-in_default.ensures.increasing))
          c.maximal-in_default.result c.maximal-in_default.ensures.maximal;
    }
