-- That pieces, taken back one after another, lead back through texts.
use Rattle.std.specs.Prelude.{◌≡◌, ◌<◌, ℕ, List, [], ◌∷◌, ◌++◌, length, Option, Some, None}
use Rattle.rls_ident.specs.Lists.{IsIn}
use Rattle.rls_steps.specs.Marks.{Mark, Known, Marked, marks, chars, known, Piece, Put, Cut}

-- no mark stands there twice
abbrev pub AreDistinct : List Mark → Type 0
AreDistinct [] = Unit {0}
AreDistinct (m ∷ ms) = (IsIn m ms → ⊥) × AreDistinct ms

-- the characters with these labels stand in the text one right after another
pub record IsPut (m : Marked) (labels : List ℕ) (front : Marked) (cs : List ℕ) (rest : Marked) : Type 0 where
  pub is : m ≡ front ++ (known labels cs ++ rest)
  pub fit : length labels ≡ length cs
  pub some : 0 < length cs
  pub distinct : AreDistinct (marks m)

-- the front ends in the character with this label, or is empty
abbrev pub EndsIn : Marked → Option ℕ → Type 0
EndsIn front None = front ≡ []
EndsIn front (Some l) = (more : Marked) × (c : ℕ) × (front ≡ more ++ (Known l, c) ∷ [])

-- characters with these labels are missing after this front
pub record IsCut (m : Marked) (labels : List ℕ) (cs : List ℕ) (left : Option ℕ) (front : Marked) (rest : Marked) : Type 0 where
  pub is : m ≡ front ++ rest
  pub fit : length labels ≡ length cs
  pub some : 0 < length cs
  pub left_is : EndsIn front left
  pub distinct : AreDistinct (marks (front ++ (known labels cs ++ rest)))

-- the pieces, taken back one after another from the first of them on, lead back through these texts
abbrev pub LeadBack : Marked → List Piece → List (List ℕ) → Type 0
LeadBack m [] ts = ts ≡ []
LeadBack m (p ∷ ps) [] = ⊥
LeadBack m (Put labels ∷ ps) (t ∷ ts) =
    (front : Marked) × (cs : List ℕ) × (rest : Marked) × IsPut m labels front cs rest × (chars (front ++ rest) ≡ t) × LeadBack (front ++ rest) ps ts
LeadBack m (Cut labels cs left right ∷ ps) (t ∷ ts) =
    (front : Marked) × (rest : Marked) × IsCut m labels cs left front rest
    × (chars (front ++ (known labels cs ++ rest)) ≡ t) × LeadBack (front ++ (known labels cs ++ rest)) ps ts

-- ---- labels that were given

-- each is below the next one
abbrev pub AreGiven : ℕ → List ℕ → Type 0
AreGiven next [] = Unit {0}
AreGiven next (n ∷ ns) = (n < next) × AreGiven next ns

abbrev pub IsGiven : ℕ → Option ℕ → Type 0
IsGiven next None = Unit {0}
IsGiven next (Some n) = n < next

-- so is each that the pieces name
abbrev pub ArePieces : ℕ → List Piece → Type 0
ArePieces next [] = Unit {0}
ArePieces next (Put labels ∷ ps) = AreGiven next labels × ArePieces next ps
ArePieces next (Cut labels cs left right ∷ ps) = AreGiven next labels × IsGiven next left × ArePieces next ps

-- these marks may be exchanged by f, which leaves the labels below the next one
pub record Exchanges (next : ℕ) (Among : Mark → Type 0) (f : Mark → Mark) : Type 0 where
  pub apart : (a b : Mark) → Among a → Among b → f a ≡ f b → a ≡ b
  pub given : (n : ℕ) → n < next → Among (Known n)
  pub same : (n : ℕ) → n < next → f (Known n) ≡ Known n
