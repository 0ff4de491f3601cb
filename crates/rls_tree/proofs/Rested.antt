-- A block of which targets go, among others of which none go.
use Rattle.std.proofs.Common.{◌≡◌, ℕ, ◌+◌, ◌-◌, ◌<◌, ◌≤◌, true, false, List, [], ◌∷◌, ◌++◌, length, take, drop, Some, None, refl, sym, ap, ◌∙◌, subst, arith, length-append, length-drop, append_assoc}
use Rattle.std.proofs.lemmas.List.{take-append-le, drop-append-le, take_all, drop-drop, append-nil}
use Rattle.std.proofs.Math.Seq.{take-append_seam, drop-append_seam}
use Rattle.rls_ident.specs.declared.tuple.Tuple.{Tuple}
use Rattle.rls_runs.specs.Runs.{are_apart}
use Rattle.rls_runs.specs.Entries.{Entries, idents_in, without_all}
use Rattle.rls_blocks.specs.declared.rest.Part.{Part}
use Rattle.rls_blocks.specs.declared.rest.Rest.{Rest}
use Rattle.rls_blocks.specs.Trees.{Piece, IsPiece, ArePieces, piece_entries, entries_of, runs_in}
use Rattle.rls_blocks.specs.Edits.{located, are_loose, Shows}
use Rattle.rls_blocks.specs.Patches.{before, IsBetween}
use Rattle.rls_blocks.specs.Rests.{parts_of, parts_in, AreParts, rest_of, rested}
use Rattle.rls_tree.specs.Targets.{AreMembers}
use Rattle.rls_blocks.proofs.Pieces.{piece_length, piece_some, entries_append}
use Rattle.rls_blocks.proofs.Cases.{own_length}
use Rattle.rls_blocks.proofs.Placed.{made_own, there_own}
use Rattle.rls_blocks.proofs.Patches.{seam}
use Rattle.rls_blocks.proofs.Rests.{parted_loose}
use Rattle.rls_blocks.proofs.Splits.{are_left}
use Rattle.rls_tree.proofs.Kept.{without_more}
use Rattle.rls_tree.proofs.Puts.{part_taken}
use Rattle.rls_tree.proofs.Starts.{begins}
use Rattle.rls_tree.proofs.Targets.{part_stays, part_goes}
use Rattle.rls_tree.proofs.Without.{without_append}

-- ---- one part more

parts_wider : (ps : List Part) (from end to : ℕ) → end ≤ to → AreParts from ps end → AreParts from ps to
parts_wider [] from end to l h = tt
parts_wider (p ∷ ps) from end to l h = let m = h.2 in (h.0, h.1, omega (arith, l, m), parts_wider ps (p.at + p.len + 1) end to l h.3)

parts_more : (ps : List Part) (p : Part) (from to : ℕ) → AreParts from ps (p.at - 1) → from ≤ p.at → 0 < p.len → p.at + p.len ≤ to → AreParts from (ps ++ p ∷ []) to
parts_more [] p from to h l s m = (l, s, m, tt)
parts_more (q ∷ ps) p from to h l s m =
    let a = h.1 in
    let b = h.2 in
    (h.0, h.1, omega (arith, a, b, m), parts_more ps p (q.at + q.len + 1) to h.3 (omega (arith, a, b)) s m)

in_more : (ps : List Part) (p : Part) (es : Entries) → parts_in (ps ++ p ∷ []) es ≡ parts_in ps es ++ take p.len (drop p.at es)
in_more [] p es = append-nil (take p.len (drop p.at es))
in_more (q ∷ ps) p es = ap (λ zs. take q.len (drop q.at es) ++ zs) (in_more ps p es) ∙ sym (append_assoc (take q.len (drop q.at es)) (parts_in ps es) (take p.len (drop p.at es)))

-- the parts that stay of the characters from one place to another, as far as a third; if that isn't the last place, the character in front of it goes
pub record Left (ts : List (List Tuple)) (es : Entries) (start end : ℕ) (ps : List Part) (at : ℕ) : Type 0 where
  pub low : start ≤ at
  pub high : at ≤ end
  pub parts : AreParts 0 ps (at - start)
  pub apart : at < end → AreParts 0 ps (at - start - 1)
  pub stay : parts_in ps (drop start es) ≡ without_all ts (take (at - start) (drop start es))

pub left_none : (ts : List (List Tuple)) (es : Entries) (start end : ℕ) → start ≤ end → Left ts es start end [] start
left_none ts es start end l =
    let n : 0 ≡ start - start = omega arith in
    record { low = omega arith; high = l; parts = tt; apart = λ h. tt; stay = ap (λ k. without_all ts (take k (drop start es))) n }

-- up to the place behind the next targets
module _ (ts : List (List Tuple)) (es : Entries) (start end : ℕ) (ps : List Part) (at next behind : ℕ) (was : Left ts es start end ps at) (inside : at < end) (order : at ≤ next) (last : next ≤ behind) (within : behind ≤ end) (some : next < end → next < behind)
    (stay : AreMembers false ts (idents_in es) at next) (gone : AreMembers true ts (idents_in es) next behind) where
  abbrev kept : ℕ → Entries
  kept to = without_all ts (take (to - start) (drop start es))

  next_kept : kept at ++ take (next - at) (drop at es) ≡ kept next
  next_kept =
      let n : at + (next - at) ≡ next = omega (arith, order) in
      ap (λ zs. kept at ++ zs) (sym (part_stays ts es at (next - at) (subst (AreMembers false ts (idents_in es) at) (sym n) stay))) ∙ without_more ts es start at next was.low order

  behind_kept : kept next ≡ kept behind
  behind_kept =
      let n : next + (behind - next) ≡ behind = omega (arith, last) in
      let l = was.low in
      sym (append-nil (kept next)) ∙ ap (λ zs. kept next ++ zs) (sym (part_goes ts es next (behind - next) (subst (AreMembers true ts (idents_in es) next) (sym n) gone))) ∙ without_more ts es start next behind (omega (arith, l, order)) last

  -- with a part in front of them
  pub left_part : (p : Part) → p.at ≡ at - start → p.len ≡ next - at → at < next → Left ts es start end (ps ++ p ∷ []) behind
  left_part p a n l =
      let o = was.low in
      let more = parts_more ps p 0 (next - start) (subst (λ k. AreParts 0 ps (k - 1)) (sym a) (was.apart inside)) (omega arith) (omega (arith, n, l)) (omega (arith, a, n, o, l)) in
      let from : start + (at - start) ≡ at = omega (arith, o) in
      let own : take p.len (drop p.at (drop start es)) ≡ take (next - at) (drop at es) = ap (λ k. take k (drop p.at (drop start es))) n ∙ ap (λ k. take (next - at) (drop k (drop start es))) a ∙ ap (take (next - at)) (drop-drop (at - start) start es ∙ ap (λ k. drop k es) from) in
      record {
        low = omega (arith, o, order, last);
        high = within;
        parts = parts_wider (ps ++ p ∷ []) 0 (next - start) (behind - start) (omega (arith, last)) more;
        apart = λ h. let s = some (omega (arith, h, last)) in parts_wider (ps ++ p ∷ []) 0 (next - start) (behind - start - 1) (omega (arith, s)) more;
        stay = in_more ps p (drop start es) ∙ ap (λ zs. zs ++ take p.len (drop p.at (drop start es))) was.stay ∙ ap (λ zs. kept at ++ zs) own ∙ next_kept ∙ behind_kept;
      }

  -- where they begin at once
  pub left_same : next ≤ at → Left ts es start end ps behind
  left_same l =
      let o = was.low in
      let e : at ≡ next = omega (arith, l, order) in
      record {
        low = omega (arith, o, order, last);
        high = within;
        parts = parts_wider ps 0 (at - start) (behind - start) (omega (arith, order, last)) was.parts;
        apart = λ h. parts_wider ps 0 (at - start - 1) (behind - start - 1) (omega (arith, order, last)) (was.apart inside);
        stay = was.stay ∙ ap kept e ∙ behind_kept;
      }

-- ---- parts of a block

parts_entries : (b : Piece) (rest : Entries) (ps : List Part) (from : ℕ) → length b.1 ≡ b.0.1 → AreParts from ps b.0.1 → entries_of (parts_of ps b) ≡ parts_in ps (piece_entries b ++ rest)
parts_entries b rest [] from m h = refl
parts_entries b rest (p ∷ ps) from m h =
    let w = h.2 in
    let n = own_length b m in
    let l = length-drop p.at (piece_entries b) in
    let own = part_taken b p.at p.len m w ∙ sym (ap (take p.len) (drop-append-le p.at (piece_entries b) rest (omega (arith, w, n))) ∙ take-append-le p.len (drop p.at (piece_entries b)) rest (omega (arith, w, n, l))) in
    ap (λ zs. zs ++ entries_of (parts_of ps b)) own ∙ ap (λ zs. take p.len (drop p.at (piece_entries b ++ rest)) ++ zs) (parts_entries b rest ps (p.at + p.len + 1) m h.3)

-- ---- all blocks

module _ (bs : List Piece) (i at : ℕ) (b : Piece) (are : ArePieces bs) (within : i < length (entries_of bs)) (there : located bs i ≡ Some (b, at)) where
  abbrev start : ℕ
  start = i - at

  abbrev f : List Piece
  f = before start bs

  abbrev g : List Piece
  g = (begins bs i at b are within there).behind

  pub low : at ≤ i
  low = (begins bs i at b are within there).within

  pub between : IsBetween start bs
  between = (begins bs i at b are within there).between

  is : bs ≡ f ++ b ∷ g
  is = sym (seam start bs) ∙ ap (λ xs. f ++ xs) (begins bs i at b are within there).after_is

  front_are : ArePieces f
  front_are = are_left f (b ∷ g) (subst ArePieces is are)

  entries : entries_of bs ≡ entries_of f ++ (piece_entries b ++ entries_of g)
  entries = ap entries_of is ∙ entries_append f (b ∷ g)

  front_is : take start (entries_of bs) ≡ entries_of f
  front_is = ap (take start) entries ∙ ap (λ n. take n (entries_of f ++ (piece_entries b ++ entries_of g))) (sym between) ∙ take-append_seam (entries_of f) (piece_entries b ++ entries_of g)

  rest_is : drop start (entries_of bs) ≡ piece_entries b ++ entries_of g
  rest_is = ap (drop start) entries ∙ ap (λ n. drop n (entries_of f ++ (piece_entries b ++ entries_of g))) (sym between) ∙ drop-append_seam (entries_of f) (piece_entries b ++ entries_of g)

  module _ (own : IsPiece b.0 b.1) where
    pub here : located bs start ≡ Some (b, 0)
    here = sym (there_own b f g bs start is front_are own 0 (omega (arith, between)) (piece_some b own))

    own_is : take (length b.1) (drop start (entries_of bs)) ≡ piece_entries b
    own_is = ap (take (length b.1)) rest_is ∙ ap (λ n. take n (piece_entries b ++ entries_of g)) (sym (piece_length b own)) ∙ take-append_seam (piece_entries b) (entries_of g)

    behind_is : drop (start + length b.1) (entries_of bs) ≡ entries_of g
    behind_is = sym (drop-drop (length b.1) start (entries_of bs)) ∙ ap (drop (length b.1)) rest_is ∙ ap (λ n. drop n (piece_entries b ++ entries_of g)) (sym (piece_length b own)) ∙ drop-append_seam (piece_entries b) (entries_of g)

    pub end_most : start + length b.1 ≤ length (entries_of bs)
    end_most =
        let e = ap length entries in
        let n = length-append (entries_of f) (piece_entries b ++ entries_of g) in
        let m = length-append (piece_entries b) (entries_of g) in
        let p = piece_length b own in
        let w = between in
        omega (arith, e, n, m, p, w)

    -- the block keeps these parts
    module _ (ts : List (List Tuple)) (ps : List Part) (r : Rest) (parts : AreParts 0 ps b.0.1) (some : 0 < length ps) (same : rest_of r b ≡ parts_of ps b) (stay : parts_in ps (drop start (entries_of bs)) ≡ without_all ts (take (length b.1) (drop start (entries_of bs))))
        (apart : are_apart None (runs_in bs) ≡ true) (front : AreMembers false ts (idents_in (entries_of bs)) 0 start) (behind : AreMembers false ts (idents_in (entries_of bs)) (start + length b.1) (length (entries_of bs))) where
      rested_is : rested r bs start ≡ f ++ (parts_of ps b ++ g)
      rested_is = sym (made_own b f g bs start is front_are own (λ c at. rest_of r c) 0 (omega (arith, between)) (piece_some b own)) ∙ ap (λ xs. f ++ (xs ++ g)) same

      front_stays : without_all ts (entries_of f) ≡ entries_of f
      front_stays = let n : start ≡ 0 + start = omega arith in ap (without_all ts) (sym front_is) ∙ part_stays ts (entries_of bs) 0 start (subst (AreMembers false ts (idents_in (entries_of bs)) 0) n front) ∙ front_is

      behind_stays : without_all ts (entries_of g) ≡ entries_of g
      behind_stays =
          let end = start + length b.1 in
          let n = length (entries_of bs) - end in
          let m : end + n ≡ length (entries_of bs) = let w = end_most in omega (arith, w) in
          let k = length-drop end (entries_of bs) in
          let all : take n (drop end (entries_of bs)) ≡ entries_of g = take_all n (drop end (entries_of bs)) (omega (arith, k)) ∙ behind_is in
          ap (without_all ts) (sym all) ∙ part_stays ts (entries_of bs) end n (subst (AreMembers false ts (idents_in (entries_of bs)) end) (sym m) behind) ∙ all

      pub rested_shows : Shows (without_all ts (entries_of bs)) (rested r bs start)
      rested_shows =
          let own_stays : entries_of (parts_of ps b) ≡ without_all ts (piece_entries b) = parts_entries b (entries_of g) ps 0 own.as_many parts ∙ ap (parts_in ps) (sym rest_is) ∙ stay ∙ ap (without_all ts) own_is in
          let loose = parted_loose f g b own.sound (subst (λ xs. are_apart None (runs_in xs) ≡ true) (is ∙ sym (append_assoc f (b ∷ []) g)) apart) ps parts some in
          record {
            entries_are =
                ap entries_of rested_is ∙ entries_append f (parts_of ps b ++ g) ∙ ap (λ zs. entries_of f ++ zs) (entries_append (parts_of ps b) g ∙ ap (λ zs. zs ++ entries_of g) own_stays)
                ∙ sym (ap (without_all ts) entries ∙ without_append ts (entries_of f) (piece_entries b ++ entries_of g) ∙ ap (λ zs. zs ++ without_all ts (piece_entries b ++ entries_of g)) front_stays
                ∙ ap (λ zs. entries_of f ++ zs) (without_append ts (piece_entries b) (entries_of g) ∙ ap (λ zs. without_all ts (piece_entries b) ++ zs) behind_stays));
            loose = ap (λ xs. are_loose None (runs_in xs)) (rested_is ∙ sym (append_assoc f (parts_of ps b) g)) ∙ loose;
          }
