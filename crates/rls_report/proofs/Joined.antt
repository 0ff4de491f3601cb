-- Texts of lists, piece by piece.
use Rattle.std.proofs.Common.{◌≡◌, ℕ, List, [], ◌∷◌, ◌++◌, map, refl, sym, ap, ◌∙◌, append_assoc, ◌+◌, ◌<◌, ◌≤◌, length, get_or, take, take_all, drop, add-one, drop-cons}
use Rattle.std.proofs.lemmas.List.{append-nil, drop_all}
use Rattle.std.specs.List.{flat_map, join_with_byte}
use Rattle.rls_report.specs.Reports.{member_line, member_lines}

-- a piece after another
pub two_pieces : (before first second middle after : List ℕ) → middle ≡ before ++ first → after ≡ middle ++ second → after ≡ before ++ (first ++ second)
two_pieces before first second middle after h k = k ∙ ap (λ (bytes : List ℕ). bytes ++ second) h ∙ append_assoc before first second

-- parts of a list, with a byte between two: those but the last each have it behind them
module _ {X : Type 0} (text_of : X → List ℕ) (byte : ℕ) where
  abbrev pub with_byte : X → List ℕ
  with_byte x = text_of x ++ byte ∷ []

  pub joined_pushed : (front : List X) (last : X) → join_with_byte byte (map text_of (front ++ last ∷ [])) ≡ flat_map with_byte front ++ text_of last
  joined_pushed [] last = refl
  joined_pushed (x ∷ []) last = simp (append-nil, append_assoc) refl
  joined_pushed (x ∷ y ∷ front) last =
      ap (λ (bytes : List ℕ). text_of x ++ (byte ∷ bytes)) (joined_pushed (y ∷ front) last)
      ∙ sym (append_assoc (with_byte x) (flat_map with_byte (y ∷ front)) (text_of last) ∙ append_assoc (text_of x) (byte ∷ []) (flat_map with_byte (y ∷ front) ++ text_of last))

  -- the parts with their bytes were put after what stood there, and then the last
  pub last_joined : (front : List X) (last found : X) (all : List X) (i : ℕ) (before middle after : List ℕ) → all ≡ front ++ found ∷ [] → found ≡ last → length front ≤ i
      → middle ≡ before ++ flat_map with_byte (take i front) → after ≡ middle ++ text_of last → after ≡ before ++ join_with_byte byte (map text_of all)
  last_joined front last found all i before middle after is found_is past so_far put =
      rw (is, found_is, joined_pushed front last) (two_pieces before (flat_map with_byte front) (text_of last) middle after (rw (take_all i front past) at so_far) put)

-- ---- lines of members

pub next_member : (members : List (ℕ × ℕ)) (i : ℕ) (d : ℕ × ℕ) → i < length members → member_lines i (drop i members) ≡ member_line i (get_or members i d).0 (get_or members i d).1 ++ member_lines (i + 1) (drop (i + 1) members)
next_member members i d h =
    let cut : drop i members ≡ get_or members i d ∷ drop (i + 1) members = rw add-one (drop-cons members i d h) in
    ap (member_lines i) cut

pub no_member : (members : List (ℕ × ℕ)) (i : ℕ) → length members ≤ i → member_lines i (drop i members) ≡ []
no_member members i h = ap (member_lines i) (drop_all i members h)
