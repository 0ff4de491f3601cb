-- The stems of one author are those of its line.
use Rattle.std.proofs.Common.{◌≡◌, ℕ, zero, suc, ◌+◌, ◌<◌, false, List, [], ◌∷◌, ◌++◌, map, length, get_or, refl, sym, ap, ◌∙◌, arith, Some}
use Rattle.std.specs.Prelude.{◌==◌, slice_get}
use Rattle.rls_ident.proofs.Members.{eq_refl, neq_test}
use Rattle.rls_model.specs.declared.parts.Stem.{Stem}
use Rattle.rls_parts.specs.declared.line.Reach.{Reach}
use Rattle.rls_parts.specs.Lines.{LineSeen}
use Rattle.rls_parts.specs.Own.{own_of}
use Rattle.rls_parts.specs.Reaches.{stem_at}
use Rattle.rls_parts.specs.Seen.{StemsSeen}
use Rattle.rls_parts.specs.Tables.{stems_from, seen_of}
use Rattle.rls_parts.proofs.Tabled.{reaches_at, reaches_read}

-- after the stems of another author
skipped : (b a : ℕ) (rs : List Reach) (ss : List Stem) → (b == a) ≡ false → own_of a (map (stem_at b) rs ++ ss) ≡ own_of a ss
skipped b a [] ss n = refl
skipped b a (r ∷ rs) ss n = rw n (skipped b a rs ss n)

-- no stem of a lesser author
none_later : (k a : ℕ) (ls : List LineSeen) → a < k → own_of a (stems_from k ls) ≡ []
none_later k a [] l = refl
none_later k a (m ∷ ls) l = skipped k a m.reaches (stems_from (suc k) ls) (neq_test k a (λ e. absurd (omega arith))) ∙ none_later (suc k) a ls (omega arith)

-- the author's own, and then those of others
own : (a : ℕ) (rs : List Reach) (ss : List Stem) → own_of a ss ≡ [] → own_of a (map (stem_at a) rs ++ ss) ≡ map (stem_at a) rs
own a [] ss n = n
own a (r ∷ rs) ss n = rw (eq_refl a) (ap (λ xs. stem_at a r ∷ xs) (own a rs ss n))

found : (k a i : ℕ) (ls : List LineSeen) → a ≡ k + i → own_of a (stems_from k ls) ≡ map (stem_at a) (reaches_at ls i)
found k a i [] e = refl
found k a zero (l ∷ ls) e =
    let f : k ≡ a = omega arith in
    ap (λ b. own_of a (map (stem_at b) l.reaches ++ stems_from (suc k) ls)) f ∙ own a l.reaches (stems_from (suc k) ls) (none_later (suc k) a ls (omega arith))
found k a (suc i) (l ∷ ls) e =
    skipped k a l.reaches (stems_from (suc k) ls) (neq_test k a (λ f. absurd (omega arith))) ∙ found (suc k) a i ls (omega arith)

pub own_read : (ls : List LineSeen) (t : StemsSeen) (a : ℕ) (l : LineSeen) → seen_of ls ≡ t → a < length ls → l ≡ get_or ls a l → own_of a t.stems ≡ map (stem_at a) l.reaches
own_read ls t a l v h e =
    ap (λ (u : StemsSeen). own_of a u.stems) (sym v) ∙ found 0 a a ls (omega arith) ∙ ap (λ rs. map (stem_at a) rs) (reaches_read ls a l h e)

-- what is read at a place of the line
pub nth_is : (a : ℕ) (rs : List Reach) (i : ℕ) (x : Stem) → i < length rs → ((r : Reach) → slice_get rs i ≡ Some r → x ≡ stem_at a r) → slice_get (map (stem_at a) rs) i ≡ Some x
nth_is a [] i x h f = absurd (omega arith)
nth_is a (q ∷ rs) zero x h f = ap (λ y. Some y) (sym (f q refl))
nth_is a (q ∷ rs) (suc i) x h f = nth_is a rs i x (omega arith) f

pub map_count : (a : ℕ) (rs : List Reach) → length (map (stem_at a) rs) ≡ length rs
map_count a [] = refl
map_count a (q ∷ rs) = ap suc (map_count a rs)
