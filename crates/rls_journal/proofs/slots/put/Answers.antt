use Rattle.std.proofs.Common.{◌≡◌, ◌<◌, ◌^◌, length, ◌∙◌, ap, arith, [], ◌∷◌, inl, is_ok, refl}
use Rattle.std.specs.Int.{w64, from_be_bytes, to_be_bytes}
use Rattle.std.proofs.lemmas.Result.{on_ok_weaker}
use Rattle.std.proofs.lemmas.Nat.{from_be_bytes-to_be_bytes_8}
use Rattle.rls_journal.proofs.Parts.{put_done}
use Rattle.rls_io.specs.Calls.{Done}
use Rattle.rls_io.proofs.Runs.{runs_last, runs_not, runs_on}
use Rattle.rls_journal.specs.Calls.{Write, put_steps}
use Rattle.rls_journal.proofs.slots.put.Goals as goal

pub returns-clause-put : goal.returns-clause-put
returns-clause-put g c =
    let number = c.to_be_bytes-number.result in
    let bytes = c.args.bytes.now in
    let few : length bytes < 2 ^ 64 = omega arith in
    let eight : length number ≡ 8 = ap length c.to_be_bytes-number.ensures in
    let counts : from_be_bytes w64 number ≡ length bytes = ap (from_be_bytes w64) c.to_be_bytes-number.ensures ∙ from_be_bytes-to_be_bytes_8 (length bytes) few in
    on_ok_weaker c.write-2.result (put_done (g.D.Disk.seen c.args.disk.now) (g.D.Disk.seen c.write.new.self) (g.D.Disk.seen c.write-2.new.self) c.args.slot number bytes c.requires.slot eight counts c.in_ok-write.ensures.written) c.write-2.ensures.written

pub returns-in_err-write-clause-calls : goal.returns-in_err-write-clause-calls
returns-in_err-write-clause-calls g c =
    let answers = g.D.Disk.answers in
    runs_not answers _ (put_steps c.args.slot c.args.bytes.now) c.from_residual.result c.args.disk.now c.write.new.self c.from_residual.ensures.1 (inl (rw c.to_be_bytes-number.ensures at c.in_err-write.ensures.answers))

pub returns-clause-calls : goal.returns-clause-calls
returns-clause-calls g c =
    let answers = g.D.Disk.answers in
    let number = to_be_bytes w64 (length c.args.bytes.now) in
    runs_on answers ((Write c.args.slot 0 number, Done) ∷ []) ((Write c.args.slot 8 c.args.bytes.now, Done) ∷ []) (is_ok c.write-2.result) c.args.disk.now c.write.new.self c.write-2.new.self
    (c.write.new.self, rw c.to_be_bytes-number.ensures at c.in_ok-write.ensures.answers, refl)
    (runs_last answers (Write c.args.slot 8 c.args.bytes.now) c.write-2.result c.write.new.self c.write-2.new.self c.write-2.ensures.answers)
