use Rattle.std.proofs.Common.{Err, sym, ap, ◌∙◌, ⊎_elim, arith}
use Rattle.std.proofs.lemmas.Int.{ints}
use Rattle.rls_runs.proofs.Finding.{place_before, place_behind, place_longer, place_alone}
use Rattle.rls_runs.proofs.run.find_by_offset.Goals as goal

pub returns-in-Err : goal.returns-in-Err
returns-in-Err c =
    record {
      find = λ p r q rest l. ⊎_elim (λ h. ap (λ k. Err k) h.0 ∙ sym (place_before p r q c.args.offset c.args.first c.args.len rest (omega (arith, ints, h.1))))
          (λ h. ap (λ k. Err k) h.0 ∙ sym (place_behind p r q c.args.offset c.args.first c.args.len rest (omega (arith, ints, h.1)))) c.in-Err.ensures.not_there;
    }

pub returns-then-longer : goal.returns-then-longer
returns-then-longer c = let h = c.in-Ok.ensures.there in
    record { find = λ p r q rest l. sym (place_longer p r q c.args.offset c.args.first c.args.len c.in-Ok.place rest (l.0 c.if-longer.true) (omega (arith, ints, h.1)) h.0) }

pub returns-else-longer : goal.returns-else-longer
returns-else-longer c = let h = c.in-Ok.ensures.there in
    record { find = λ p r q rest l. sym (place_alone p r q c.args.offset c.args.first c.args.len c.in-Ok.place rest (λ k. cc (l.1 k, c.if-longer.false)) (omega (arith, ints, h.1)) h.0) }
