use Rattle.std.proofs.Common.{◌≡◌, ℕ, ◌<◌, ◌≤◌, ◌++◌, ◌-◌, List, length, sym, ap, ◌∙◌, subst, arith}
use Rattle.rls_ident.specs.declared.tuple.Tuple.{Tuple}
use Rattle.rls_steps.specs.NameRuns.{Stretch, IsStretch, name_at, names_by, names_of}
use Rattle.rls_steps.proofs.CutRuns.{cut_names, cut_fewer, cut_sound}
use Rattle.rls_steps.proofs.name_run.NameRun.cut.Goals as goal

-- what is said of the run holds of its fields
module _ (r q : Stretch) (n m : ℕ) (y : List Tuple) (is : r ≡ q) where
  rest_sound : IsStretch r.first r.label r.down r.len → y ≡ (name_at q n).0 → m ≡ (name_at q n).1 → n < r.len → IsStretch y m r.down (r.len - n)
  rest_sound s x l h = cut_sound r n m y s (x ∙ ap (λ (p : Stretch). (name_at p n).0) (sym is)) (l ∙ ap (λ (p : Stretch). (name_at p n).1) (sym is)) h

  rest_names : y ≡ (name_at q n).0 → m ≡ (name_at q n).1 → n ≤ r.len → names_of q ≡ names_by r.down r.first r.label 0 n ++ names_by r.down y m 0 (r.len - n)
  rest_names x l h = ap names_of (sym is) ∙ cut_names r n m y (x ∙ ap (λ (p : Stretch). (name_at p n).0) (sym is)) (l ∙ ap (λ (p : Stretch). (name_at p n).1) (sym is)) h

  rest_fewer : 0 < n → n < r.len → length (names_by r.down y m 0 (r.len - n)) < q.len
  rest_fewer some h = subst (λ k. length (names_by r.down y m 0 (r.len - n)) < k) (ap (λ (p : Stretch). p.len) is) (cut_fewer r n m y some h)

pub invariant_of-rest : goal.invariant_of-rest
invariant_of-rest c =
    let size = ap (λ (r : Stretch). r.len) c.self.view_is in
    rest_sound _ _ c.args.count _ _ c.self.view_is c.self.invariant c.in_ok-ident.ensures.ident c.label.ensures.label (omega (arith, c.requires.most, size, c.if-count-self.false))

pub returns-clause-names : goal.returns-clause-names
returns-clause-names c =
    let size = ap (λ (r : Stretch). r.len) c.self.view_is in
    rest_names _ _ c.args.count _ _ c.self.view_is c.in_ok-ident.ensures.ident c.label.ensures.label (omega (arith, c.requires.most, size))

pub returns-clause-fewer : goal.returns-clause-fewer
returns-clause-fewer c =
    let size = ap (λ (r : Stretch). r.len) c.self.view_is in
    rest_fewer _ _ c.args.count c.label.result c.in_ok-ident.field-0 c.self.view_is c.requires.some (omega (arith, c.requires.most, size, c.if-count-self.false))
