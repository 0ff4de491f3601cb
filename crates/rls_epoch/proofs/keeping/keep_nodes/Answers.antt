use Rattle.std.proofs.Common.{◌≡◌, ◌+◌, ◌-◌, ◌<◌, ◌∷◌, [], ◌++◌, ℕ, suc, Bool, Some, length, take, drop, set, get_or, nat_lt, refl, sym, ap, ◌∙◌, arith, append-nil}
use Rattle.std.specs.Prelude.{if◌then◌else◌, slice_get}
use Rattle.std.proofs.Math.ListN.{length-set}
use Rattle.std.proofs.lemmas.Grind.{drop_more_same}
use Rattle.std.proofs.lemmas.List.Edits.{length-swap}
use Rattle.std.proofs.lemmas.Option.{slice_get_read}
use Rattle.rls_ident.proofs.Members.{lt_is, some_is}
use Rattle.rls_ident.proofs.Positions.{get_of}
use Rattle.rls_epoch.specs.declared.placed.Placed.{Placed}
use Rattle.rls_epoch.specs.Marks.{kept_placed, moved}
use Rattle.rls_epoch.proofs.Compacting.{dropped_get, kept_placed_more, kept_placed_none, read_rest, swap_front, swap_rest}
use Rattle.rls_epoch.proofs.keeping.keep_nodes.Goals as goal

pub loop-i-init : goal.loop-i-init
loop-i-init c = record { fewer = omega arith; same = refl; front = sym (kept_placed_none c.args.marks.now (drop 1 c.args.marks.now)); rest = refl }

pub loop-i-preserved-then-not-has_place : goal.loop-i-preserved-then-not-has_place
loop-i-preserved-then-not-has_place c =
    let v = c.loop-i.invariant in
    let all = c.args.marks.now in
    let ms = drop 1 all in
    let old = c.args.nodes.now.items in
    let i = c.loop-i.i in
    let w : i < length old = omega arith in
    let h = c.requires.whole in
    let p = get_of old i w in
    let not = ap (nat_lt 1) (sym c.mark_of.ensures.mark) ∙ (sym c.has_place.ensures.place ∙ c.if-not-has_place.true) in
    let next : i + 1 ≡ suc i = omega arith in
    let m = kept_placed_more all ms old i (get_or all (i + 1) 0) p.0 p.1 (dropped_get all i (omega arith)) in
    let none = ap (λ (b : Bool). kept_placed all ms (take i old) ++ (if b then moved all p.0 ∷ [] else [])) not in
    record {
      fewer = let f = v.fewer in omega arith;
      same = v.same;
      front = v.front ∙ (sym (append-nil (kept_placed all ms (take i old))) ∙ (sym none ∙ (sym m ∙ ap (λ (j : ℕ). kept_placed all ms (take j old)) (sym next))));
      rest = drop_more_same c.loop-i.nodes.items old i v.rest;
    }

pub mark_of-requires-in-loop-i : goal.mark_of-requires-in-loop-i
mark_of-requires-in-loop-i c =
    let v = c.loop-i.invariant in
    let old = c.args.nodes.now.items in
    let i = c.loop-i.i in
    let w : i < length old = omega arith in
    let p = c.index.result.now in
    let g : slice_get old i ≡ Some p = slice_get_read old (length old) i p refl w (c.index.ensures ∙ read_rest c.loop-i.nodes.items old i p v.same w v.rest) in
    let b = c.requires.parents i p g in
    let h = c.requires.whole in
    record { within = omega arith }

pub new_number-requires : goal.new_number-requires
new_number-requires c =
    let v = c.loop-i.invariant in
    let all = c.args.marks.now in
    let old = c.args.nodes.now.items in
    let i = c.loop-i.i in
    let w : i < length old = omega arith in
    let p = c.index.result.now in
    let g : slice_get old i ≡ Some p = slice_get_read old (length old) i p refl w (c.index.ensures ∙ read_rest c.loop-i.nodes.items old i p v.same w v.rest) in
    let next : i + 1 ≡ suc i = omega arith in
    let e = c.mark_of.ensures.mark ∙ ap (λ (j : ℕ). get_or all j 0) next in
    let some = lt_is 1 c.mark_of.result (sym c.has_place.ensures.place ∙ c.if-not-has_place.false) in
    let b = c.requires.marked i p g (omega arith) in
    let f = c.mark_of-in-loop-i.ensures.mark in
    record { kept = omega arith }

pub loop-i-preserved : goal.loop-i-preserved
loop-i-preserved c =
    let v = c.loop-i.invariant in
    let all = c.args.marks.now in
    let ms = drop 1 all in
    let xs = c.loop-i.nodes.items in
    let old = c.args.nodes.now.items in
    let i = c.loop-i.i in
    let n = c.loop-i.count in
    let w : i < length old = omega arith in
    let h = c.requires.whole in
    let p = c.index.result.now in
    let q = c.index_mut.result.now in
    let g : slice_get old i ≡ Some p = slice_get_read old (length old) i p refl w (c.index.ensures ∙ read_rest xs old i p v.same w v.rest) in
    let f : slice_get old i ≡ Some q = slice_get_read old (length old) i q refl w (c.index_mut.ensures.value ∙ read_rest xs old i q v.same w v.rest) in
    let same : q ≡ p = some_is q p (sym f ∙ g) in
    let next : i + 1 ≡ suc i = omega arith in
    let up : c.new_number.result ≡ get_or all p.up 0 - 1 = let n = c.new_number.ensures.number in let r = c.mark_of-in-loop-i.ensures.mark in omega arith in
    let m = kept_placed_more all ms old i (get_or all (i + 1) 0) p g (dropped_get all i (omega arith)) in
    let y : Placed = record { parent = q.parent; up = c.new_number.result; renaming = q.renaming } in
    let is : y ≡ moved all p = ap (λ (z : Placed). record { parent = z.parent; up = c.new_number.result; renaming = z.renaming }) same ∙ ap (λ (j : ℕ). record { parent = p.parent; up = j; renaming = p.renaming }) up in
    let some = ap (λ (b : Bool). kept_placed all ms (take i old) ++ (if b then moved all p ∷ [] else [])) (ap (nat_lt 1) (sym c.mark_of.ensures.mark) ∙ (sym c.has_place.ensures.place ∙ c.if-not-has_place.false)) in
    let new = c.swap.ensures.items in
    record {
      fewer = let f = v.fewer in omega arith;
      same = ap length new ∙ (length-swap (set xs i y) n i ∙ (length-set xs i y ∙ v.same));
      front = ap (take (n + 1)) new
          ∙ (swap_front xs old (kept_placed all ms (take i old)) n i v.fewer v.same w v.front v.rest y
          ∙ (ap (λ (z : Placed). kept_placed all ms (take i old) ++ (z ∷ [])) is ∙ (sym some ∙ (sym m ∙ ap (λ (j : ℕ). kept_placed all ms (take j old)) (sym next)))));
      rest = ap (drop (i + 1)) new ∙ swap_rest xs old (kept_placed all ms (take i old)) n i v.fewer v.same w v.front v.rest y;
    }
