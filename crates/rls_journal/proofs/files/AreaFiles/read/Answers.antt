use Rattle.std.proofs.Common.{◌≡◌, ◌∙◌, ap, length, sym, true, false}
use Rattle.rls_journal.specs.Calls.{Read}
use Rattle.rls_journal.specs.Files.{found_at}
use Rattle.rls_journal.specs.declared.files.Presence.{Presence}
use Rattle.rls_journal.proofs.Called.{did_gave, did_not_open, no_bytes, read_none, read_refused, read_there, some_bytes}
use Rattle.rls_journal.proofs.files.AreaFiles.read.Goals as goal

pub returns-in_err-found : goal.returns-in_err-found
returns-in_err-found g c =
    let gives = g.C.AreaCalls.gives in
    let call = Read c.args.area c.args.at (length c.args.buf.now) in
    record { did = did_gave gives _ c.from_residual.result c.args.buf.now call c.args.self.now c.open.new.self c.from_residual.ensures.1 (did_not_open gives call c.args.self.now c.open.new.self c.in_err-found.ensures.opens) }

pub returns-then-of : goal.returns-then-of
returns-then-of g c =
    let there : (found_at c.in_ok-found.found c.args.area).is_there ≡ true = ap (λ (p : Presence). p.is_there) (sym c.of.ensures.found) ∙ c.if-of.true in
    record { did = read_there g.C.AreaCalls.gives c.in_ok-found.found c.args.self.now c.open.new.self c.in_ok-found.ensures.opens c.args.area c.args.at (length c.args.buf.now) c.read.new.buf c.read.result c.read.new.self there c.read.ensures.gives }

pub returns-then-is_empty : goal.returns-then-is_empty
returns-then-is_empty g c =
    let missing : (found_at c.in_ok-found.found c.args.area).is_there ≡ false = ap (λ (p : Presence). p.is_there) (sym c.of.ensures.found) ∙ c.if-of.false in
    record { did = read_none g.C.AreaCalls.gives c.in_ok-found.found c.args.self.now c.open.new.self c.in_ok-found.ensures.opens c.args.area c.args.at (length c.args.buf.now) c.args.buf.now missing (no_bytes c.args.buf.now (sym c.is_empty.ensures ∙ c.if-is_empty.true)) }

pub returns : goal.returns
returns g c =
    let missing : (found_at c.in_ok-found.found c.args.area).is_there ≡ false = ap (λ (p : Presence). p.is_there) (sym c.of.ensures.found) ∙ c.if-of.false in
    record { did = read_refused g.C.AreaCalls.gives c.in_ok-found.found c.args.self.now c.open.new.self c.in_ok-found.ensures.opens c.args.area c.args.at (length c.args.buf.now) missing (some_bytes c.args.buf.now (sym c.is_empty.ensures ∙ c.if-is_empty.false)) }
