use Rattle.std.proofs.Common.{◌≡◌, ◌∷◌, [], ◌++◌, List, Some, take, get_or, sym, ap, ◌∙◌, arith}
use Rattle.std.specs.Prelude.{slice_get}
use Rattle.std.proofs.lemmas.Option.{slice_get-get_or}
use Rattle.rls_ident.specs.declared.epoch_name.EpochName.{EpochName}
use Rattle.rls_ident.proofs.Members.{lt_is, not_lt_is}
use Rattle.rls_epoch.specs.Marks.{kept_names}
use Rattle.rls_epoch.proofs.Compacting.{names_left_out, names_taken}
use Rattle.rls_epoch.proofs.Found.{read_in}
use Rattle.rls_epoch.proofs.tree.Tree.list_kept.Goals as goal

pub overflow_add-place : goal.overflow_add-place
overflow_add-place c =
    let places = c.deref-place-items.result.now in
    let i = c.loop-place.place-index in
    let w = c.args.self.now.order_is.within (get_or places i 0) (rw (← c.deref-place-items.ensures.value) (read_in places i (omega arith))) in
    omega (arith, w)

pub mark_of-requires : goal.mark_of-requires
mark_of-requires c =
    let places = c.deref-place-items.result.now in
    let i = c.loop-place.place-index in
    let w = c.args.self.now.order_is.within (get_or places i 0) (rw (← c.deref-place-items.ensures.value) (read_in places i (omega arith))) in
    let h = c.requires.whole in
    record { within = omega arith }

pub loop-place-preserved-then-not-has_place : goal.loop-place-preserved-then-not-has_place
loop-place-preserved-then-not-has_place c =
    let ks = c.args.self.now.order.items in
    let i = c.loop-place.place-index in
    let k = get_or c.deref-place-items.result.now i 0 in
    let read : slice_get ks i ≡ Some k = rw (← c.deref-place-items.ensures.value) (slice_get-get_or c.deref-place-items.result.now i 0 (omega arith)) in
    let most = not_lt_is 1 c.mark_of.result (sym c.has_place.ensures.place ∙ c.if-not-has_place.true) in
    c.loop-place.invariant ∙ ap (λ (xs : List EpochName). c.args.first ∷ xs) (names_left_out c.args.self.now.nodes.placed c.args.marks.now ks i k c.mark_of.result read c.mark_of.ensures.mark (omega arith))

pub loop-place-preserved : goal.loop-place-preserved
loop-place-preserved c =
    let ps = c.args.self.now.nodes.placed in
    let ms = c.args.marks.now in
    let ks = c.args.self.now.order.items in
    let i = c.loop-place.place-index in
    let k = get_or c.deref-place-items.result.now i 0 in
    let read : slice_get ks i ≡ Some k = rw (← c.deref-place-items.ensures.value) (slice_get-get_or c.deref-place-items.result.now i 0 (omega arith)) in
    let some = lt_is 1 c.mark_of.result (sym c.has_place.ensures.place ∙ c.if-not-has_place.false) in
    c.in_ok-push-2.ensures.items
    ∙ (ap (λ (xs : List EpochName). xs ++ (c.name_of.result ∷ [])) c.loop-place.invariant
    ∙ ap (λ (xs : List EpochName). c.args.first ∷ xs)
    (ap (λ (f : EpochName). kept_names ps ms (take i ks) ++ (f ∷ [])) c.name_of.ensures.name ∙ names_taken ps ms ks i k c.mark_of.result read c.mark_of.ensures.mark (omega arith)))
