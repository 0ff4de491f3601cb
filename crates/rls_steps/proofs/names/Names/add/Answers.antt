use Rattle.std.proofs.Common.{◌≡◌, List, ◌∷◌, [], ◌++◌, length, sym, ap, ◌∙◌, arith}
use Rattle.std.specs.Prelude.{reverse}
use Rattle.rls_ident.specs.declared.tuple.Tuple.{Tuple}
use Rattle.rls_steps.specs.Labelled.{Names, label_of}
use Rattle.rls_steps.specs.NameRuns.{names_in, names_of}
use Rattle.rls_steps.proofs.Stretches.{names_long}
use Rattle.rls_steps.proofs.FreeRuns.{all_pushed, one_fresh}
use Rattle.rls_steps.proofs.names.Names.add.Goals as goal

pub add_front-requires : goal.add_front-requires
add_front-requires c =
    let x = c.args.ident.now in
    let same = c.extend.ensures.stay c.if-extend.false in
    let named : names_of c.of.result ≡ (x, c.args.label) ∷ [] = c.of.ensures.names ∙ ap (λ (y : List Tuple). (y, c.args.label) ∷ []) c.in_ok-copy.ensures.copy in
    record { fresh = one_fresh c.of.result x c.args.label (reverse c.extend.new.self) named (ap (λ (ks : Names). label_of (reverse ks) x) same ∙ c.requires.fresh) }

pub returns-clause-names : goal.returns-clause-names
returns-clause-names c =
    let r = c.of.result in
    let name = (c.args.ident.now, c.args.label) ∷ [] in
    let rest = names_in c.in_ok-_rest._rest in
    let same = c.extend.ensures.stay c.if-extend.false in
    let named : names_of r ≡ name = c.of.ensures.names ∙ ap (λ (y : List Tuple). (y, c.args.label) ∷ []) c.in_ok-copy.ensures.copy in
    let all = ap (λ (ks : Names). ks ++ name) (sym same) ∙ (ap (λ (ks : Names). c.extend.new.self ++ ks) (sym named) ∙ c.in_ok-_rest.ensures.names) in
    let long = names_long r.down r.first r.label 0 r.len in
    let one = ap length named in
    let fewer = c.in_ok-_rest.ensures.fewer in
    all_pushed c.args.self.now c.add_front.new.self name rest all (omega (arith, long, one, fewer))
