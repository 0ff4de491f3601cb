use Rattle.std.proofs.Common.{◌∙◌, sym}
use Rattle.rls_journal.specs.Calls.{Renew}
use Rattle.rls_journal.proofs.Called.{did_done, did_not_open, renew_made, renew_none, renew_unmade}
use Rattle.rls_journal.proofs.files.AreaFiles.renew_gate.Goals as goal

pub returns-in_err-found : goal.returns-in_err-found
returns-in_err-found g c =
    let gives = g.C.AreaCalls.gives in
    record { did = did_done gives _ c.from_residual.result Renew c.args.self.now c.open.new.self c.from_residual.ensures.1 (did_not_open gives Renew c.args.self.now c.open.new.self c.in_err-found.ensures.opens) }

pub returns-then-is_read_only : goal.returns-then-is_read_only
returns-then-is_read_only g c = record { did = renew_none g.C.AreaCalls.gives c.in_ok-found.found c.args.self.now c.open.new.self c.in_ok-found.ensures.opens (sym c.is_read_only.ensures.any ∙ c.if-is_read_only.true) }

pub returns-in_err-make : goal.returns-in_err-make
returns-in_err-make g c =
    let gives = g.C.AreaCalls.gives in
    record {
      did = did_done gives _ c.from_residual-in_err-make.result Renew c.args.self.now c.make.new.self c.from_residual-in_err-make.ensures.1
          (renew_unmade gives c.in_ok-found.found c.args.self.now c.open.new.self c.in_ok-found.ensures.opens c.make.new.self (sym c.is_read_only.ensures.any ∙ c.if-is_read_only.false) c.in_err-make.ensures.made);
    }

pub returns : goal.returns
returns g c = record { did = renew_made g.C.AreaCalls.gives c.in_ok-found.found c.args.self.now c.open.new.self c.in_ok-found.ensures.opens c.write.result c.make.new.self c.write.new.self (sym c.is_read_only.ensures.any ∙ c.if-is_read_only.false) c.in_ok-make.ensures.made c.write.ensures.gives }
