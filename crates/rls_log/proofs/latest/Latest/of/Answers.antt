use Rattle.std.proofs.Common.{◌∙◌, ℕ, ◌+◌, ◌<◌, List, ◌++◌, ◌∷◌, [], length, take, ap, arith}
use Rattle.std.specs.Prelude.{get_or}
use Rattle.std.proofs.lemmas.List.{map-append}
use Rattle.std.proofs.lemmas.Option.{slice_get-get_or}
use Rattle.rls_log.specs.declared.entry.Entry.{Entry}
use Rattle.rls_log.specs.declared.latest.Latest.{Latest}
use Rattle.rls_log.specs.Encoded.{op_in, ops_in}
use Rattle.rls_log.specs.Latest.{Bounds}
use Rattle.rls_log.proofs.Bounds.{bounds_same}
use Rattle.rls_log.proofs.Steps.{take_reads}
use Rattle.rls_log.proofs.latest.Latest.of.Goals as goal

-- one entry more
one_noted : (bytes : List ℕ) (es : List Entry) (i : ℕ) (d : Entry) (latest : Latest) → i < length es → Bounds latest (ops_in bytes (take i es) ++ op_in bytes (get_or es i d) ∷ []) → Bounds latest (ops_in bytes (take (i + 1) es))
one_noted bytes es i d latest l b =
    let e = get_or es i d in
    bounds_same latest (ops_in bytes (take i es) ++ op_in bytes e ∷ []) (ops_in bytes (take (i + 1) es)) (ap (ops_in bytes) (take_reads es i e (slice_get-get_or es i d l)) ∙ map-append (op_in bytes) (take i es) (e ∷ [])) b

pub loop-entry-preserved : goal.loop-entry-preserved
loop-entry-preserved c bytes are =
    let es = c.args.entries.now in
    let i = c.loop-entry.entry-index in
    let lt : i < length es = omega (arith, c.loop-entry-test.true) in
    let room = c.reserve.ensures.same (ops_in bytes (take i es)) (c.loop-entry.invariant bytes are) in
    one_noted bytes es i _ c.note.new.self lt (c.note.ensures.noted (ops_in bytes (take i es)) (op_in bytes (get_or es i _)) (are i _ lt).head room)
