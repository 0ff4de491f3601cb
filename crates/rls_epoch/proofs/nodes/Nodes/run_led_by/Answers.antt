use Rattle.std.proofs.Common.{◌≡◌, ◌∙◌, List, ℕ, map, ap, sym, subst}
use Rattle.rls_ident.specs.declared.tuple.Tuple.{Tuple}
use Rattle.rls_rename.specs.Renaming.{forward}
use Rattle.rls_runs.specs.Runs.{IsImage, run_idents, runs_of}
use Rattle.rls_epoch.specs.Ways.{led}
use Rattle.rls_epoch.proofs.Moving.{image_maximal, if_ok, map_then}
use Rattle.rls_epoch.proofs.nodes.Nodes.run_led_by.Goals as goal

pub returns : goal.returns
returns c =
    let f = led c.args.self.now.placed c.args.steps.now in
    let g = forward c.args.renaming.now in
    let run = c.args.run.now in
    let xs = c.in_ok-runs_renamed.field-0 in
    let e : xs ≡ map (λ x. g (f x)) (run_idents run.0 run.1) =
    c.in_ok-runs_renamed.ensures.renamed ∙ (ap (map g) (c.in_ok-ids.ensures.led ∙ ap (map f) (c.in_ok-from_run.ensures.idents ∙ ap (λ (r : List Tuple × ℕ). run_idents r.0 r.1) c.in_ok-copy.ensures.copy)) ∙ map_then f g (run_idents run.0 run.1)) in
    record {
      led = if_ok (λ runs. runs ≡ runs_of xs) (λ runs. IsImage (λ x. g (f x)) run runs)
          (λ runs h. subst (λ (rs : List (List Tuple × ℕ)). IsImage (λ x. g (f x)) run rs) (sym h) (image_maximal (λ x. g (f x)) run xs e c.maximal-2.ensures.increasing))
          c.maximal-2.result c.maximal-2.ensures.maximal;
    }
