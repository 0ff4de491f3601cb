-- Worked examples of a renaming, by computation.
use Rattle.std.specs.Prelude.{◌≡◌, ℕ, pos, negsuc, List, [], ◌∷◌, refl}
use Rattle.rls_ident.specs.declared.tuple.Tuple.{Tuple}
use Rattle.rls_ident.specs.declared.tuple.Tuple.TheVariants.{Low, At, High}
use Rattle.rls_ident.specs.declared.epoch_name.EpochName.TheVariants.{Origin, Of}
use Rattle.rls_rename.specs.Renaming.{Renaming, forward, back}
use Rattle.rls_rename.specs.Tree.{Node, greatest, greatest_within, translate}
use Rattle.rls_rename.specs.Connected.{spanned}
use Rattle.rls_rename.specs.Computing.{computing}

-- the middle position
abbrev mid : ℕ
mid = 2147483647

abbrev char_at : ℕ → List Tuple
char_at k = At mid 0 1 (pos k) ∷ []

-- five characters, renamed by member 0 with its number 2
abbrev R : Renaming
R = record { former = char_at 0 ∷ char_at 1 ∷ char_at 2 ∷ char_at 3 ∷ char_at 4 ∷ []; replica = 0; seq = 2 }

forward_former : forward R (char_at 3) ≡ At mid 0 2 (pos 3) ∷ []
unfolding computing
forward_former = refl

forward_before_first : forward R (At mid 0 1 (negsuc 0) ∷ High ∷ At mid 0 3 (pos 0) ∷ []) ≡ At mid 0 2 (negsuc 0) ∷ At mid 0 3 (pos 0) ∷ []
unfolding computing
forward_before_first = refl

forward_far_below : forward R (At 1073741823 1 1 (pos 0) ∷ []) ≡ At 1073741823 1 1 (pos 0) ∷ []
unfolding computing
forward_far_below = refl

-- a character in front of the first one
forward_prepended : forward R (At mid 0 1 (negsuc 0) ∷ []) ≡ At mid 0 1 (negsuc 0) ∷ []
unfolding computing
forward_prepended = refl

forward_behind_last : forward R (At mid 0 1 (pos 4) ∷ At mid 1 1 (pos 0) ∷ []) ≡ At mid 0 2 (pos 4) ∷ At mid 0 1 (pos 4) ∷ At mid 1 1 (pos 0) ∷ []
unfolding computing
forward_behind_last = refl

forward_repeated : forward R (At mid 0 1 (pos 1) ∷ Low ∷ At mid 0 1 (pos 1) ∷ Low ∷ At 5 0 9 (pos 0) ∷ []) ≡ At mid 0 2 (pos 1) ∷ At mid 0 1 (pos 1) ∷ Low ∷ At 5 0 9 (pos 0) ∷ []
unfolding computing
forward_repeated = refl

back_high : back R (At mid 0 2 (pos 1) ∷ At mid 0 3 (pos 0) ∷ []) ≡ At mid 0 1 (pos 1) ∷ High ∷ At mid 0 3 (pos 0) ∷ []
unfolding computing
back_high = refl

back_low : back R (At mid 0 2 (pos 1) ∷ At 1073741823 0 4 (pos 0) ∷ []) ≡ At mid 0 1 (pos 1) ∷ Low ∷ At 1073741823 0 4 (pos 0) ∷ []
unfolding computing
back_low = refl

back_behind_last : back R (At mid 0 2 (pos 5) ∷ []) ≡ At mid 0 2 (pos 5) ∷ []
unfolding computing
back_behind_last = refl

-- the same along a tree of one node
abbrev one_node : List Node
one_node = record { parent = Origin; renaming = R } ∷ []

translated : translate one_node Origin (Of 0 2) (char_at 3) ≡ At mid 0 2 (pos 3) ∷ []
unfolding computing
translated = refl

-- two epochs opened side by side: member 1's is the greater
abbrev two_nodes : List Node
two_nodes = record { parent = Origin; renaming = record R { replica = 1; seq = 1 } } ∷ one_node

greatest_of_two : greatest Origin two_nodes ≡ Of 1 1
unfolding computing
greatest_of_two = refl

greatest_without_it : greatest_within Origin two_nodes (2 ∷ 0 ∷ []) ≡ Of 0 2
unfolding computing
greatest_without_it = refl

spans_one : spanned Origin two_nodes (Of 1 1) (Of 1 1 ∷ []) ≡ Of 1 1 ∷ []
unfolding computing
spans_one = refl

spans_all : spanned Origin two_nodes (Of 1 1) (Of 0 2 ∷ []) ≡ Origin ∷ Of 0 2 ∷ Of 1 1 ∷ []
unfolding computing
spans_all = refl
