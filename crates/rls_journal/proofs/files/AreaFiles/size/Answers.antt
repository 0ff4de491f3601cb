use Rattle.std.proofs.Common.{◌≡◌, ◌∙◌, ap, sym, true, false}
use Rattle.rls_journal.specs.Calls.{Size}
use Rattle.rls_journal.specs.Files.{found_at}
use Rattle.rls_journal.specs.declared.files.Presence.{Presence}
use Rattle.rls_journal.proofs.Called.{did_not_open, did_told, gate_size, size_fails, size_none, size_there, slot_size}
use Rattle.rls_journal.proofs.files.AreaFiles.size.Goals as goal

pub returns-in_err-found : goal.returns-in_err-found
returns-in_err-found g c =
    let gives = g.C.AreaCalls.gives in
    record { did = did_told gives _ c.from_residual.result (Size c.args.area) c.args.self.now c.open.new.self c.from_residual.ensures.1 (did_not_open gives (Size c.args.area) c.args.self.now c.open.new.self c.in_err-found.ensures.opens) }

pub returns-then-not-of : goal.returns-then-not-of
returns-then-not-of g c =
    let missing : (found_at c.in_ok-found.found c.args.area).is_there ≡ false = ap (λ (p : Presence). p.is_there) (sym c.of.ensures.found) ∙ c.if-not-of.true in
    record { did = size_none g.C.AreaCalls.gives c.in_ok-found.found c.args.self.now c.open.new.self c.in_ok-found.ensures.opens c.args.area missing }

pub returns-in_err-len : goal.returns-in_err-len
returns-in_err-len g c =
    let there : (found_at c.in_ok-found.found c.args.area).is_there ≡ true = ap (λ (p : Presence). p.is_there) (sym c.of.ensures.found) ∙ c.if-not-of.false in
    let failed = size_fails g.C.AreaCalls.gives c.in_ok-found.found c.args.self.now c.open.new.self c.in_ok-found.ensures.opens c.args.area c.size.new.self there c.in_err-len.ensures.gives in
    record { did = did_told g.C.AreaCalls.gives _ c.from_residual-in_err-len.result (Size c.args.area) c.args.self.now _ c.from_residual-in_err-len.ensures.1 failed }

pub returns-then-area-eq-GATE : goal.returns-then-area-eq-GATE
returns-then-area-eq-GATE g c =
    let there : (found_at c.in_ok-found.found c.args.area).is_there ≡ true = ap (λ (p : Presence). p.is_there) (sym c.of.ensures.found) ∙ c.if-not-of.false in
    record { did = size_there g.C.AreaCalls.gives c.in_ok-found.found c.args.self.now c.open.new.self c.in_ok-found.ensures.opens c.args.area c.in_ok-len.len c.min.result c.size.new.self there (gate_size c.args.area c.in_ok-len.len c.min.result c.if-area-eq-GATE.true c.min.ensures) c.in_ok-len.ensures.gives }

pub returns-else-area-eq-GATE : goal.returns-else-area-eq-GATE
returns-else-area-eq-GATE g c =
    let there : (found_at c.in_ok-found.found c.args.area).is_there ≡ true = ap (λ (p : Presence). p.is_there) (sym c.of.ensures.found) ∙ c.if-not-of.false in
    record { did = size_there g.C.AreaCalls.gives c.in_ok-found.found c.args.self.now c.open.new.self c.in_ok-found.ensures.opens c.args.area c.in_ok-len.len c.in_ok-len.len c.size.new.self there (slot_size c.args.area c.in_ok-len.len c.requires.area c.if-area-eq-GATE.false) c.in_ok-len.ensures.gives }
