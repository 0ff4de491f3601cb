-- Words of places that are worked out.
use Rattle.std.specs.Prelude.{◌≡◌, pos, ◌-ℤ◌, List, [], ◌∷◌, map, refl, Some, None, codes}
use Rattle.rls_ident.specs.declared.tuple.Tuple.{Tuple}
use Rattle.rls_ident.specs.declared.tuple.Tuple.TheVariants.{At, High}
use Rattle.rls_ident.specs.declared.epoch_name.EpochName.TheVariants.{Origin, Of}
use Rattle.rls_anchor.specs.declared.anchor.Anchor.TheVariants.{Beginning, After, Before}
use Rattle.rls_places.specs.Computing.{computing}
use Rattle.rls_places.specs.Words.{place_of, place_word}

abbrev one : List Tuple
one = At 5 1 1 (pos 0) ∷ []

abbrev two : List Tuple
two = At 5 1 1 (pos 0 -ℤ pos 3) ∷ High ∷ At 7 2 1 (pos 2) ∷ []

written : place_word Beginning ∷ place_word (After Origin one) ∷ place_word (Before (Of 0 2) two) ∷ []
    ≡ codes "beginning" ∷ codes "after:origin:5.1.1.0" ∷ codes "before:0.2:5.1.1.-3/high/7.2.1.2" ∷ []
unfolding computing
written = refl

read : map (λ (w : List _). place_of w) (codes "beginning" ∷ codes "after:origin:5.1.1.0" ∷ codes "before:0.2:5.1.1.-3/high/7.2.1.2" ∷ [])
    ≡ Some Beginning ∷ Some (After Origin one) ∷ Some (Before (Of 0 2) two) ∷ []
unfolding computing
read = refl

-- a space, no side, another side, no epoch, an epoch without its number, no identifier, an end that may not stand there, three numbers,
-- five, a minus before 0, a leading zero, a number of more than 32 bits, an offset out of range, and an empty tuple
unread : map (λ (w : List _). place_of w)
    ([] ∷ codes " beginning" ∷ codes "5.1.1.0" ∷ codes "at:origin:5.1.1.0" ∷ codes "after:5.1.1.0" ∷ codes "after:0:5.1.1.0" ∷ codes "after:origin:" ∷ codes "after:origin:low" ∷ codes "after:origin:5.1.1"
    ∷ codes "after:origin:5.1.1.0.0" ∷ codes "after:origin:5.1.1.-0" ∷ codes "after:origin:05.1.1.0" ∷ codes "after:origin:4294967296.1.1.0" ∷ codes "after:origin:5.1.1.1073741824" ∷ codes "after:origin:/5.1.1.0" ∷ [])
    ≡ None ∷ None ∷ None ∷ None ∷ None ∷ None ∷ None ∷ None ∷ None ∷ None ∷ None ∷ None ∷ None ∷ None ∷ None ∷ []
unfolding computing
unread = refl
