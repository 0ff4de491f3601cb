-- A stem that stands after all others.
use Rattle.std.proofs.Common.{◌≡◌, ℕ, ◌<◌, ◌&&◌, ◌||◌, true, false, List, [], ◌∷◌, ◌++◌, refl, ap, ◌∙◌, arith, inl, inr, ⊎_elim}
use Rattle.std.specs.Prelude.{◌==◌, nat_lt, if◌then◌else◌}
use Rattle.rls_ident.specs.Lists.{IsIn}
use Rattle.rls_ident.proofs.Members.{and_left, and_right, eq_is, lt_is, not_true, or_split}
use Rattle.rls_model.specs.declared.parts.Stem.{Stem}
use Rattle.rls_model.specs.Stems.{is_stem, stands_before, with_stem}

pub newest_of : (new t : Stem) → stands_before new.author new.s0 t ≡ true → t.author ≡ new.author → t.s0 < new.s0
newest_of new t h e =
    ⊎_elim (λ q. let l = lt_is t.author new.author q in absurd (omega arith)) (λ q. lt_is t.s0 new.s0 (and_right (t.author == new.author) (nat_lt t.s0 new.s0) q))
    (or_split (nat_lt t.author new.author) ((t.author == new.author) && nat_lt t.s0 new.s0) h)

other_than : (new t : Stem) → stands_before new.author new.s0 t ≡ true → is_stem new.author new.s0 t ≡ false
other_than new t h =
    not_true (is_stem new.author new.s0 t)
    (λ q. let e = eq_is t.author new.author (and_left (t.author == new.author) (t.s0 == new.s0) q) in
    let f = eq_is t.s0 new.s0 (and_right (t.author == new.author) (t.s0 == new.s0) q) in
    let l = newest_of new t h e in
    absurd (omega arith))

pub put_behind : (new : Stem) (ts : List Stem) → ((t : Stem) → IsIn t ts → stands_before new.author new.s0 t ≡ true) → with_stem new ts ≡ ts ++ new ∷ []
put_behind new [] h = refl
put_behind new (t ∷ ts) h =
    let b = h t (inl refl) in
    ap (λ x. if x then new ∷ ts else if stands_before new.author new.s0 t then t ∷ with_stem new ts else new ∷ t ∷ ts) (other_than new t b)
    ∙ (ap (λ x. if x then t ∷ with_stem new ts else new ∷ t ∷ ts) b ∙ ap (λ us. t ∷ us) (put_behind new ts (λ u q. h u (inr q))))
