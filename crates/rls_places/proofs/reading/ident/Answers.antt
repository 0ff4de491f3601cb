use Rattle.std.proofs.Common.{◌∙◌, Err, Some, ap}
use Rattle.rls_places.proofs.Pieces.{out_of_place}
use Rattle.rls_places.proofs.reading.ident.Goals as goal

pub returns : goal.returns
returns c =
    let fault = (c.from_tuples.ensures.shape c.in-Err-Shape.field-0-0).0 (c.in-Err-Shape.is ∙ ap Err c.in-Err-Shape.field-0-is) in
    record { ident = out_of_place c.args.word.now c.deref.result.now c.in-Err-Shape.field-0-0 (ap (λ x. Some x) c.deref.ensures.value ∙ (rw c.in-Some.is at c.in_ok-tuples.ensures.tuples)) fault }
