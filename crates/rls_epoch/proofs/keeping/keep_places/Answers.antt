use Rattle.std.proofs.Common.{◌≡◌, ◌+◌, ◌-◌, ◌<◌, ◌∷◌, [], ◌++◌, ℕ, suc, Bool, Some, length, take, get_or, refl, sym, ap, ◌∙◌, arith, append-nil}
use Rattle.std.specs.Prelude.{if◌then◌else◌, slice_get}
use Rattle.std.proofs.Math.ListN.{length-set}
use Rattle.std.proofs.lemmas.Grind.{drop_more_same}
use Rattle.std.proofs.lemmas.Option.{slice_get_read}
use Rattle.rls_ident.proofs.Members.{lt_test}
use Rattle.rls_epoch.specs.Marks.{kept_places}
use Rattle.rls_epoch.proofs.Compacting.{at_most_one, kept_places_more, put_front, put_rest, read_rest, rest_in}
use Rattle.rls_epoch.proofs.keeping.keep_places.Goals as goal

pub overflow_add-index : goal.overflow_add-index
overflow_add-index c =
    let v = c.loop-i.invariant in
    let k = c.index.result.now in
    let w = c.requires.within k (rest_in c.loop-i.places.items c.args.places.now.items c.loop-i.i k v.same (omega arith) v.rest c.index.ensures) in
    omega (arith, w)

pub mark_of-requires : goal.mark_of-requires
mark_of-requires c =
    let k = c.index.result.now in
    let v = c.loop-i.invariant in
    let w = c.requires.within k (rest_in c.loop-i.places.items c.args.places.now.items c.loop-i.i k v.same (omega arith) v.rest c.index.ensures) in
    record { within = omega (arith, w) }

pub loop-i-preserved-in_default : goal.loop-i-preserved-in_default
loop-i-preserved-in_default c =
    let v = c.loop-i.invariant in
    let ms = c.args.marks.now in
    let old = c.args.places.now.items in
    let i = c.loop-i.i in
    let k = c.index.result.now in
    let g : slice_get old i ≡ Some k = slice_get_read old (length old) i k refl (omega arith) (c.index.ensures ∙ read_rest c.loop-i.places.items old i k v.same (omega arith) v.rest) in
    let next : i + 1 ≡ suc i = omega arith in
    let up : k + 1 ≡ suc k = omega arith in
    let e = c.mark_of.ensures.mark ∙ ap (λ (j : ℕ). get_or ms j 0) up in
    let most = c.in_default.ensures.none in
    let m = kept_places_more ms old i k g in
    let none = ap (λ (b : Bool). kept_places ms (take i old) ++ (if b then (get_or ms (suc k) 0 - 2) ∷ [] else [])) (at_most_one (get_or ms (suc k) 0) (omega (arith, most, e))) in
    record {
      fewer = let f = v.fewer in omega arith;
      same = v.same;
      front = v.front ∙ (sym (append-nil (kept_places ms (take i old))) ∙ (sym none ∙ (sym m ∙ ap (λ (j : ℕ). kept_places ms (take j old)) (sym next))));
      rest = drop_more_same c.loop-i.places.items old i v.rest;
    }

pub loop-i-preserved : goal.loop-i-preserved
loop-i-preserved c =
    let v = c.loop-i.invariant in
    let ms = c.args.marks.now in
    let xs = c.loop-i.places.items in
    let old = c.args.places.now.items in
    let i = c.loop-i.i in
    let n = c.loop-i.count in
    let k = c.index.result.now in
    let w : i < length old = omega arith in
    let g : slice_get old i ≡ Some k = slice_get_read old (length old) i k refl w (c.index.ensures ∙ read_rest xs old i k v.same w v.rest) in
    let next : i + 1 ≡ suc i = omega arith in
    let up : k + 1 ≡ suc k = omega arith in
    let e = c.mark_of.ensures.mark ∙ ap (λ (j : ℕ). get_or ms j 0) up in
    let placed = c.in-Some.ensures.some in
    let m = kept_places_more ms old i k g in
    let y = c.in-Some.place in
    let is : y ≡ get_or ms (suc k) 0 - 2 = omega (arith, placed, e) in
    let some = ap (λ (b : Bool). kept_places ms (take i old) ++ (if b then (get_or ms (suc k) 0 - 2) ∷ [] else [])) (lt_test 1 (get_or ms (suc k) 0) (omega (arith, placed, e))) in
    record {
      fewer = let f = v.fewer in omega arith;
      same = length-set xs n y ∙ v.same;
      front = put_front xs old (kept_places ms (take i old)) n i v.fewer v.same w v.front v.rest y
          ∙ (ap (λ (j : ℕ). kept_places ms (take i old) ++ (j ∷ [])) is ∙ (sym some ∙ (sym m ∙ ap (λ (j : ℕ). kept_places ms (take j old)) (sym next))));
      rest = put_rest xs old (kept_places ms (take i old)) n i v.fewer v.same w v.front v.rest y;
    }
