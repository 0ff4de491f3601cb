use Rattle.std.proofs.Common.{◌∙◌, sym}
use Rattle.rls_journal.specs.Calls.{Write}
use Rattle.rls_journal.proofs.Called.{did_done, did_not_open, no_bytes, some_bytes, write_made, write_none, write_refused, write_unmade}
use Rattle.rls_journal.proofs.files.AreaFiles.write.Goals as goal

pub returns-in_err-found : goal.returns-in_err-found
returns-in_err-found g c =
    let gives = g.C.AreaCalls.gives in
    let call = Write c.args.area c.args.at c.args.bytes.now in
    record { did = did_done gives _ c.from_residual.result call c.args.self.now c.open.new.self c.from_residual.ensures.1 (did_not_open gives call c.args.self.now c.open.new.self c.in_err-found.ensures.opens) }

pub returns-then-is_empty : goal.returns-then-is_empty
returns-then-is_empty g c = record { did = write_none g.C.AreaCalls.gives c.in_ok-found.found c.args.self.now c.open.new.self c.in_ok-found.ensures.opens c.args.area c.args.at c.args.bytes.now (no_bytes c.args.bytes.now (sym c.is_empty.ensures ∙ c.if-is_empty.true)) }

pub returns-then-is_read_only : goal.returns-then-is_read_only
returns-then-is_read_only g c = record { did = write_refused g.C.AreaCalls.gives c.in_ok-found.found c.args.self.now c.open.new.self c.in_ok-found.ensures.opens c.args.area c.args.at c.args.bytes.now (sym c.is_read_only.ensures.any ∙ c.if-is_read_only.true) (some_bytes c.args.bytes.now (sym c.is_empty.ensures ∙ c.if-is_empty.false)) }

pub returns-in_err-make : goal.returns-in_err-make
returns-in_err-make g c =
    let gives = g.C.AreaCalls.gives in
    record {
      did = did_done gives _ c.from_residual-in_err-make.result (Write c.args.area c.args.at c.args.bytes.now) c.args.self.now c.make.new.self c.from_residual-in_err-make.ensures.1
          (write_unmade gives c.in_ok-found.found c.args.self.now c.open.new.self c.in_ok-found.ensures.opens c.args.area c.args.at c.args.bytes.now c.make.new.self (some_bytes c.args.bytes.now (sym c.is_empty.ensures ∙ c.if-is_empty.false)) c.in_err-make.ensures.made);
    }

pub returns : goal.returns
returns g c = record { did = write_made g.C.AreaCalls.gives c.in_ok-found.found c.args.self.now c.open.new.self c.in_ok-found.ensures.opens c.args.area c.args.at c.args.bytes.now c.write.result c.make.new.self c.write.new.self (some_bytes c.args.bytes.now (sym c.is_empty.ensures ∙ c.if-is_empty.false)) c.in_ok-make.ensures.made c.write.ensures.gives }
