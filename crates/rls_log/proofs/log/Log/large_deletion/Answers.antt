use Rattle.std.proofs.Common.{◌≡◌, ◌∙◌, ◌<◌, Option, Some, None, length, refl, ap, sym, subst, arith}
use Rattle.std.specs.Prelude.{IfSome, slice_get}
use Rattle.std.proofs.lemmas.Option.{slice_get_read}
use Rattle.std.proofs.lemmas.List.{length-map}
use Rattle.rls_log.specs.Encoded.{op_in}
use Rattle.rls_log.specs.Large.{AreLarge}
use Rattle.rls_log.proofs.Entries.{at_place}
use Rattle.rls_log.proofs.log.Log.large_deletion.Goals as goal

-- what holds of a value, if there is one, and what follows from it
follows : {A : Type 0} (P Q : A → Type 0) (r : Option A) → ((x : A) → P x → Q x) → IfSome r P → IfSome r Q
follows P Q None f h = h
follows P Q (Some x) f h = f x h

pub returns : goal.returns
returns c =
    let bytes = c.self.inside.bytes.items in
    let es = c.self.inside.entries.items in
    let i = c.args.i in
    let e = c.index.result.now in
    let lt : i < length es = omega (arith, c.requires.place, ap length c.self.view_is, length-map es (op_in bytes)) in
    let got : slice_get es i ≡ Some e = slice_get_read es (length es) i e refl lt c.index.ensures in
    let at : slice_get c.args.self.now i ≡ Some (op_in bytes e) = ap (λ os. slice_get os i) (sym c.self.view_is) ∙ at_place bytes es i e got in
    record { op = follows _ _ c.value_of.result (λ x is. at ∙ ap Some (sym is)) (c.value_of.ensures.value bytes (subst (AreLarge bytes) (sym c.deref.ensures.value) c.self.invariant.values)) }
