use Rattle.std.proofs.Common.{◌≡◌, take, sym, ◌∙◌, subst, arith}
use Rattle.std.specs.Prelude.{slice_index}
use Rattle.std.proofs.lemmas.List.{take_all}
use Rattle.rls_steps.specs.Marks.{numbers_from}
use Rattle.rls_steps.proofs.inserting.rising_from.Goals as goal

pub returns : goal.returns
returns c =
    let ls = c.args.labels.now in
    let all : c.rising.result ≡ c.args.count = omega arith in
    record { rising = sym (take_all c.args.count ls (omega arith)) ∙ subst (λ n. take n ls ≡ numbers_from (slice_index ls 0) n) all c.rising.ensures.rising }
