use Rattle.std.proofs.Common.{◌≡◌, ◌∷◌, [], sym, ap, ◌∙◌}
use Rattle.std.specs.declared.cmp.Ordering.TheVariants.{Less, Greater}
use Rattle.rls_ident.specs.Tuples.{at_spot}
use Rattle.rls_runs.specs.Runs.{run_idents}
use Rattle.rls_runs.specs.Places.{find_ident}
use Rattle.rls_runs.proofs.Finding.{base_cmp, base_less, base_greater, find_low, find_high}
use Rattle.rls_runs.proofs.run.find_by_tuple.Goals as goal

pub returns-in-Low : goal.returns-in-Low
returns-in-Low c = let s = c.args.first in let xs = run_idents (at_spot s ∷ []) c.args.len in
    record { find = λ rest l. sym (ap (λ t. find_ident xs (t ∷ rest)) c.in-Low.is ∙ find_low s.pos s.replica s.seq c.args.len s.offset rest) }

pub returns-in-High : goal.returns-in-High
returns-in-High c = let s = c.args.first in let xs = run_idents (at_spot s ∷ []) c.args.len in
    record { find = λ rest l. sym (ap (λ t. find_ident xs (t ∷ rest)) c.in-High.is ∙ find_high s.pos s.replica s.seq c.args.len s.offset rest) }

pub returns-in-Less : goal.returns-in-Less
returns-in-Less c = let s = c.args.first in let t = c.in-At in let xs = run_idents (at_spot s ∷ []) c.args.len in
    let e : base_cmp t.pos t.replica t.seq s.pos s.replica s.seq ≡ Less = cc in
    record { find = λ rest l. sym (ap (λ u. find_ident xs (u ∷ rest)) t.is ∙ base_less t.pos t.replica t.seq s.pos s.replica s.seq c.args.len t.offset s.offset rest e) }

pub returns-in-Greater : goal.returns-in-Greater
returns-in-Greater c = let s = c.args.first in let t = c.in-At in let xs = run_idents (at_spot s ∷ []) c.args.len in
    let e : base_cmp t.pos t.replica t.seq s.pos s.replica s.seq ≡ Greater = cc in
    record { find = λ rest l. sym (ap (λ u. find_ident xs (u ∷ rest)) t.is ∙ base_greater t.pos t.replica t.seq s.pos s.replica s.seq c.args.len t.offset s.offset rest e) }
