-- What a renaming keeps, and what translation keeps.
use Rattle.std.specs.Prelude.{ℕ, List, [], ◌∷◌, ◌++◌, length, ◌≡◌, IsTrue}
use Rattle.rls_ident.specs.declared.tuple.Tuple.{Tuple}
use Rattle.rls_ident.specs.declared.epoch_name.EpochName.{EpochName}
use Rattle.rls_ident.specs.Identifiers.{IsIdent, ident_cmp, last_of}
use Rattle.rls_rename.specs.Renaming.{Renaming, IsFormer, IsNoneOf, new_spot, new_at, new_idents, old_below, new_below, old_between, new_between, old_above, new_above, forward, back}
use Rattle.rls_ident.specs.Lists.{AreIn}
use Rattle.rls_rename.specs.Tree.{Node, Epochs, is_kept, AreNodes, IsTree, IsWindow, epoch_cmp, greatest, greatest_within, translate}
use Rattle.rls_rename.specs.Connected.{spanned, AreKept, AreConnected, AreRising}

-- a renaming takes a former identifier to the new one at its place, and what the old map of a gap gives to what the new map gives
abbrev pub Meaning : Type 0
Meaning = (R : Renaming) (before : List (List Tuple)) (a b : List Tuple) (after : List (List Tuple)) (y : List Tuple) → IsFormer R.former → IsIdent y →
    (R.former ≡ before ++ (a ∷ after) → forward R a ≡ new_at (new_spot R) (length before))
    × (R.former ≡ a ∷ after → forward R (old_below a y) ≡ new_below (new_spot R) y)
    × (R.former ≡ before ++ (a ∷ (b ∷ after)) → forward R (old_between a b y) ≡ new_between (new_spot R) (length before) y)
    × (R.former ≡ before ++ (a ∷ []) → forward R (old_above a y) ≡ new_above (new_spot R) (length before) y)

-- each direction keeps the order of all identifiers
abbrev pub OrderKept : Type 0
OrderKept = (R : Renaming) (x y : List Tuple) → IsFormer R.former → IsIdent x → IsIdent y →
    (ident_cmp (forward R x) (forward R y) ≡ ident_cmp x y) × (ident_cmp (back R x) (back R y) ≡ ident_cmp x y)

-- each direction takes identifiers to identifiers and undoes the other
abbrev pub Inverse : Type 0
Inverse = (R : Renaming) (x : List Tuple) → IsFormer R.former → IsIdent x →
    IsIdent (forward R x) × IsIdent (back R x) × (back R (forward R x) ≡ x) × (forward R (back R x) ≡ x)

-- each direction keeps the last tuple of what it doesn't rename
abbrev pub LastKept : Type 0
LastKept = (R : Renaming) (x : List Tuple) → IsFormer R.former → IsIdent x →
    (IsNoneOf x R.former → last_of (forward R x) ≡ last_of x) × (IsNoneOf x (new_idents R) → last_of (back R x) ≡ last_of x)

-- translation takes identifiers to identifiers, does not depend on the way and keeps the order
abbrev pub PathFree : Type 0
PathFree = (nodes : List Node) (e f g : EpochName) (x y : List Tuple) → AreNodes nodes → IsIdent x → IsIdent y →
    IsIdent (translate nodes e f x)
    × (translate nodes f g (translate nodes e f x) ≡ translate nodes e g x)
    × (ident_cmp (translate nodes e f x) (translate nodes e f y) ≡ ident_cmp x y)

-- what is spanned is connected, holds the given epochs, lies within each connected part that holds them, and rises
abbrev pub Spanned : Type 0
Spanned = (E : Epochs) (e : EpochName) (es : List EpochName) → IsTree E → AreKept E (e ∷ es) →
    ((u : EpochName) × AreConnected E u (spanned E.top E.nodes e es))
    × AreIn (e ∷ es) (spanned E.top E.nodes e es)
    × ((u : EpochName) (fs : List EpochName) → AreConnected E u fs → AreIn (e ∷ es) fs → AreIn (spanned E.top E.nodes e es) fs)
    × AreRising E.nodes (spanned E.top E.nodes e es)

-- a window computes over its own epochs what the whole computes
abbrev pub WindowSame : Type 0
WindowSame = (M E : Epochs) → IsTree E → IsWindow M E →
    ((e f : EpochName) (x : List Tuple) → AreKept M (e ∷ (f ∷ [])) → translate M.nodes e f x ≡ translate E.nodes e f x)
    × ((e f : EpochName) → AreKept M (e ∷ (f ∷ [])) → epoch_cmp M.nodes e f ≡ epoch_cmp E.nodes e f)
    × (IsTrue (is_kept M.top M.nodes (greatest E.top E.nodes)) → greatest M.top M.nodes ≡ greatest E.top E.nodes)
    × ((v : List ℕ) → IsTrue (is_kept M.top M.nodes (greatest_within E.top E.nodes v)) → greatest_within M.top M.nodes v ≡ greatest_within E.top E.nodes v)
    × ((e : EpochName) (es : List EpochName) → AreKept M (e ∷ es) → spanned M.top M.nodes e es ≡ spanned E.top E.nodes e es)
