use Rattle.std.proofs.Common.{◌≡◌, ◌<◌, ◌≤◌, ◌+◌, ◌++◌, length, take, drop, ◌∙◌, refl, arith, length-append, length-take, ap, sym, subst, ℕ, List}
use Rattle.std.proofs.lemmas.List.{take-append-le}
use Rattle.rls_io.specs.Device.{Passes}
use Rattle.rls_io.proofs.Told.{Took, took_more, took_count, on_err_holds, passes_more}
use Rattle.rls_io.proofs.reading.read_all.Goals as goal

-- one byte more than were wanted was taken
pub returns-then-len-n-clause-too_large : goal.returns-then-len-n-clause-too_large
returns-then-len-n-clause-too_large g c =
    let bytes = c.loop-bytes.bytes.items in
    let n = c.in_ok-n.n in
    let old = g.S.Source.left c.args.source.now in
    let mid = g.S.Source.left c.loop-bytes.source in
    let new = g.S.Source.left c.read.new.self in
    let counts : length (bytes ++ take n c.read.new.buf) ≡ c.args.limit + 1 = omega (arith, length-append bytes (take n c.read.new.buf), length-take n c.read.new.buf, length-take c.min-step.result c.loop-bytes.buffer, c.in_ok-n.ensures.fits) in
    λ told. took_count old new (bytes ++ take n c.read.new.buf) _ counts (took_more old mid new bytes c.read.new.buf n c.loop-bytes.invariant.taken c.in_ok-n.ensures.next)

-- those that no memory was found for were taken
pub returns-in_err-extend_from_slice-clause-err : goal.returns-in_err-extend_from_slice-clause-err
returns-in_err-extend_from_slice-clause-err g c =
    let bytes = c.loop-bytes.bytes.items in
    let n = c.in_ok-n.n in
    let old = g.S.Source.left c.args.source.now in
    let mid = g.S.Source.left c.loop-bytes.source in
    let new = g.S.Source.left c.read.new.self in
    let taken = bytes ++ take n c.read.new.buf in
    let counts : length taken ≤ c.args.limit = omega (arith, length-append bytes (take n c.read.new.buf), length-take n c.read.new.buf, c.in_ok-n.ensures.fits) in
    let took = took_more old mid new bytes c.read.new.buf n c.loop-bytes.invariant.taken c.in_ok-n.ensures.next in
    on_err_holds c.from_residual-in_err-extend_from_slice.result _ (λ other. (length taken, counts, took_count old new taken _ refl took))

-- a read that failed came after those that gave what was read
pub returns-in_err-n-clause-gives_part : goal.returns-in_err-n-clause-gives_part
returns-in_err-n-clause-gives_part g c = λ is. (c.loop-bytes.bytes.items, c.loop-bytes.invariant.within, (c.loop-bytes.source, c.loop-bytes.invariant.gave, c.in_err-n.ensures.gives))

-- the last read gave none
pub returns-then-n-eq0-clause-gives : goal.returns-then-n-eq0-clause-gives
returns-then-n-eq0-clause-gives g c = (c.loop-bytes.source, c.loop-bytes.invariant.gave, (rw (c.if-n-eq0.true) at c.in_ok-n.ensures.gives))

pub returns-then-len-n-clause-gives_more : goal.returns-then-len-n-clause-gives_more
returns-then-len-n-clause-gives_more g c =
    let bytes = c.loop-bytes.bytes.items in
    let n = c.in_ok-n.n in
    let piece = take n c.read.new.buf in
    let size : length piece ≡ n = omega (arith, length-take n c.read.new.buf, c.in_ok-n.ensures.fits, c.read.auto.buf) in
    let some : 0 < length piece = omega (arith, size, c.if-n-eq0.false) in
    let counts : length (bytes ++ piece) ≡ c.args.limit + 1 = omega (arith, length-append bytes piece, length-take n c.read.new.buf, length-take c.min-step.result c.loop-bytes.buffer, c.in_ok-n.ensures.fits) in
    λ is. (bytes ++ piece, counts, passes_more g.S.Source.read_gives bytes piece c.args.source.now c.loop-bytes.source c.read.new.self c.loop-bytes.invariant.gave some c.in_ok-n.ensures.gives)

pub returns-in_err-extend_from_slice-clause-gives_some : goal.returns-in_err-extend_from_slice-clause-gives_some
returns-in_err-extend_from_slice-clause-gives_some g c =
    let bytes = c.loop-bytes.bytes.items in
    let n = c.in_ok-n.n in
    let piece = take n c.read.new.buf in
    let size : length piece ≡ n = omega (arith, length-take n c.read.new.buf, c.in_ok-n.ensures.fits, c.read.auto.buf) in
    let some : 0 < length piece = omega (arith, size, c.if-n-eq0.false) in
    let counts : length (bytes ++ piece) ≤ c.args.limit = omega (arith, length-append bytes piece, length-take n c.read.new.buf, c.in_ok-n.ensures.fits) in
    λ is. (bytes ++ piece, counts, passes_more g.S.Source.read_gives bytes piece c.args.source.now c.loop-bytes.source c.read.new.self c.loop-bytes.invariant.gave some c.in_ok-n.ensures.gives)

pub loop-bytes-preserved : goal.loop-bytes-preserved
loop-bytes-preserved g c =
    let bytes = c.loop-bytes.bytes.items in
    let n = c.in_ok-n.n in
    let piece = take n c.read.new.buf in
    let some : 0 < length piece = omega (arith, length-take n c.read.new.buf, c.in_ok-n.ensures.fits, c.read.auto.buf, c.if-n-eq0.false) in
    let items : c.extend_from_slice.new.self.items ≡ bytes ++ piece = c.in_ok-extend_from_slice.ensures.items ∙ ap (λ (l : List ℕ). bytes ++ l) (take-append-le n c.read.new.buf (drop c.min-step.result c.loop-bytes.buffer) (omega (arith, c.in_ok-n.ensures.fits, c.read.auto.buf))) in
    let old = g.S.Source.left c.args.source.now in
    let mid = g.S.Source.left c.loop-bytes.source in
    let new = g.S.Source.left c.read.new.self in
    let Gave : List ℕ → Type 0 = λ l. Passes g.S.Source.read_gives l c.args.source.now c.read.new.self in
    let Taken : List ℕ → Type 0 = λ l. Took old new l in
    record {
      within = omega (arith, ap length items, length-append bytes piece, length-take n c.read.new.buf, c.in_ok-n.ensures.fits);
      taken = subst Taken (sym items) (took_more old mid new bytes c.read.new.buf n c.loop-bytes.invariant.taken c.in_ok-n.ensures.next);
      gave = subst Gave (sym items) (passes_more g.S.Source.read_gives bytes piece c.args.source.now c.loop-bytes.source c.read.new.self c.loop-bytes.invariant.gave some c.in_ok-n.ensures.gives);
      never_falls = omega arith;
    }
