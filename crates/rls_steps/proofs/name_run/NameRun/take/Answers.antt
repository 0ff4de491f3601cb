use Rattle.std.proofs.Common.{◌≡◌, ℕ, ◌+◌, ◌<◌, ◌^◌, ◌∷◌, [], ◌++◌, Bool, true, false, List, refl, sym, ap, ◌∙◌, subst, arith}
use Rattle.std.specs.Prelude.{pos}
use Rattle.rls_ident.specs.declared.tuple.Tuple.{Tuple}
use Rattle.rls_ident.specs.Identifiers.{IsIdent, shifted, is_last_bounded, last_of}
use Rattle.rls_steps.specs.NameRuns.{Stretch, IsStretch, names_of, names_by}
use Rattle.rls_steps.proofs.Stretches.{taken_up, taken_down, up_within, down_within}
use Rattle.rls_steps.proofs.name_run.NameRun.take.Goals as goal

-- what is said of the run holds of its fields, of which one is greater now
grown : (d : Bool) (r q : Stretch) (n : ℕ) → r ≡ q → r.len + 1 ≡ n → IsIdent r.first → (IsIdent q.first → IsStretch q.first q.label d (q.len + 1)) → IsStretch r.first r.label d n
grown d r q n e more i h =
    let whole = h (subst (λ (s : Stretch). IsIdent s.first) e i) in
    subst (λ m. IsStretch r.first r.label d m) more (subst (λ (s : Stretch). IsStretch s.first s.label d (s.len + 1)) (sym e) whole)

grown_up : (r q : Stretch) (x : List Tuple) (l n : ℕ) → r ≡ q → r.len + 1 ≡ n → IsIdent r.first → x ≡ shifted (pos q.len) q.first → is_last_bounded (last_of x) ≡ true → l ≡ q.label + q.len → l < 2 ^ 64 → IsStretch r.first r.label false n
grown_up r q x l n e more i f b g h = grown false r q n e more i (λ j. up_within q.first x q.label l q.len j f b g h)

grown_down : (r q : Stretch) (x : List Tuple) (l n : ℕ) → r ≡ q → r.len + 1 ≡ n → IsIdent r.first → IsIdent x → q.first ≡ shifted (pos q.len) x → is_last_bounded (last_of x) ≡ true → l + q.len ≡ q.label → IsStretch r.first r.label true n
grown_down r q x l n e more i own f b g = grown true r q n e more i (λ j. down_within q.first x q.label l q.len j own f b g)

more_names : (d : Bool) (r q : Stretch) (n : ℕ) (x : List Tuple) (l : ℕ) → r ≡ q → r.len + 1 ≡ n → names_by d q.first q.label 0 (q.len + 1) ≡ names_of q ++ (x, l) ∷ [] → names_by d r.first r.label 0 n ≡ names_of q ++ (x, l) ∷ []
more_names d r q n x l e more h = ap (names_by d r.first r.label 0) (sym more) ∙ (ap (λ (s : Stretch). names_by d s.first s.label 0 (s.len + 1)) e ∙ h)

pub invariant_of-self : goal.invariant_of-self
invariant_of-self c =
    grown_up _ _ c.args.ident.now c.args.label _ c.self.view_is (omega (arith, c.in-Some.ensures)) c.self.invariant.ident (c.if-goes_up.ensures.ident refl) (ap is_last_bounded c.last-last.ensures.last ∙ c.last-last.ensures.last_bounded) (c.if-goes_up.ensures.label refl) c.ranges.label.fits

pub returns-then-goes_up-clause-more : goal.returns-then-goes_up-clause-more
returns-then-goes_up-clause-more c = λ t.
    more_names false _ _ _ _ _ c.self.view_is (omega (arith, c.in-Some.ensures)) (taken_up _ _ _ _ _ _ (c.if-goes_up.ensures.names refl) (c.if-goes_up.ensures.ident refl) (c.if-goes_up.ensures.label refl))

pub returns-then-goes_up-clause-sound : goal.returns-then-goes_up-clause-sound
returns-then-goes_up-clause-sound c =
    grown_up _ _ c.args.ident.now c.args.label _ c.self.view_is (omega (arith, c.in-Some.ensures)) c.self.invariant.ident (c.if-goes_up.ensures.ident refl) (ap is_last_bounded c.last-last.ensures.last ∙ c.last-last.ensures.last_bounded) (c.if-goes_up.ensures.label refl) c.ranges.label.fits

pub invariant_of-self-then-goes_down : goal.invariant_of-self-then-goes_down
invariant_of-self-then-goes_down c =
    grown_down _ _ c.args.ident.now c.args.label _ c.self.view_is (omega (arith, c.in-Some.ensures)) c.self.invariant.ident c.last-last.ensures.ident (c.if-goes_down.ensures.ident refl) (ap is_last_bounded c.last-last.ensures.last ∙ c.last-last.ensures.last_bounded) (c.if-goes_down.ensures.label refl)

pub returns-then-goes_down-clause-more : goal.returns-then-goes_down-clause-more
returns-then-goes_down-clause-more c = λ t.
    more_names true _ _ _ _ _ c.self.view_is (omega (arith, c.in-Some.ensures)) (taken_down _ _ _ _ _ _ (c.if-goes_down.ensures.names refl) (c.if-goes_down.ensures.ident refl) (c.if-goes_down.ensures.label refl))

pub returns-then-goes_down-clause-sound : goal.returns-then-goes_down-clause-sound
returns-then-goes_down-clause-sound c =
    grown_down _ _ c.args.ident.now c.args.label _ c.self.view_is (omega (arith, c.in-Some.ensures)) c.self.invariant.ident c.last-last.ensures.ident (c.if-goes_down.ensures.ident refl) (ap is_last_bounded c.last-last.ensures.last ∙ c.last-last.ensures.last_bounded) (c.if-goes_down.ensures.label refl)
