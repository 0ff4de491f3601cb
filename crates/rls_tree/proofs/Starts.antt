-- Where the block of a place begins.
use Rattle.std.proofs.Common.{◌≡◌, ℕ, zero, suc, ◌+◌, ◌-◌, ◌<◌, ◌≤◌, Bool, true, false, List, [], ◌∷◌, ◌++◌, length, Option, Some, None, slice_get, refl, sym, ap, ◌∙◌, subst, arith, append_assoc}
use Rattle.std.specs.Prelude.{pos, nat_lt, if◌then◌else◌, IfSome}
use Rattle.std.specs.Option.{option_map}
use Rattle.std.proofs.lemmas.List.{length-map}
use Rattle.std.proofs.lemmas.Option.{slice_get_past}
use Rattle.rls_ident.proofs.Members.{lt_is, not_lt_is}
use Rattle.rls_blocks.specs.Trees.{Piece, IsPiece, ArePieces, entries_of, runs_in}
use Rattle.rls_blocks.specs.Patches.{before, after, IsBetween}
use Rattle.rls_blocks.specs.Edits.{located, goes_on, leads_to}
use Rattle.rls_blocks.specs.Beside.{located_before, ident_there}
use Rattle.rls_blocks.proofs.Loose.{last_run, last_append}
use Rattle.rls_blocks.proofs.Cases.{single_chars}
use Rattle.rls_runs.specs.Entries.{idents_in}
use Rattle.rls_ident.specs.declared.tuple.Tuple.{Tuple}
use Rattle.rls_ident.specs.Identifiers.{shifted}
use Rattle.rls_blocks.proofs.AtPlaces.{entry_located, located_none}
use Rattle.rls_tree.proofs.Located.{mapped_at, entry_at}
use Rattle.rls_blocks.proofs.Placed.{around}
use Rattle.rls_blocks.proofs.Pieces.{chars_append}
use Rattle.rls_blocks.proofs.Splits.{are_left}
use Rattle.rls_blocks.proofs.Patches.{before_seam, after_seam, before_within, all_before}

pub record Begins (bs : List Piece) (i at : ℕ) (b : Piece) : Type 0 where
  pub within : at ≤ i
  pub between : IsBetween (i - at) bs
  pub last : (j : ℕ) → IsBetween j bs → j ≤ i → j ≤ i - at
  pub behind : List Piece
  pub after_is : after (i - at) bs ≡ b ∷ behind

abbrev own_of : Option (Piece × ℕ) → Piece → Piece
own_of None b = b
own_of (Some p) b = p.0

abbrev place_of : Option (Piece × ℕ) → ℕ → ℕ
place_of None k = k
place_of (Some p) k = p.1

pub begins : (bs : List Piece) (i at : ℕ) (b : Piece) → ArePieces bs → i < length (entries_of bs) → located bs i ≡ Some (b, at) → Begins bs i at b
begins bs i at b h l e =
    let r = around bs i h l in
    let own : r.own ≡ b = ap (λ o. own_of o b) (sym r.there ∙ e) in
    let place : r.at ≡ at = ap (λ o. place_of o at) (sym r.there ∙ e) in
    let p = r.place_is in
    let w = r.within in
    let g : ArePieces (r.own ∷ r.behind) = (r.own_is, r.behind_are) in
    let n : length (entries_of r.front) ≡ i - at = omega (arith, p, place) in
    let f : before (i - at) bs ≡ r.front = ap (before (i - at)) r.blocks_are ∙ before_seam r.front (r.own ∷ r.behind) (i - at) r.front_are g n in
    record {
      within = omega (arith, p, place);
      between = ap (λ xs. length (entries_of xs)) f ∙ n;
      last = λ j t u. go j t u (nat_lt (length (entries_of r.front)) j) refl n r.place_is place r.within;
      behind = r.behind;
      after_is = ap (after (i - at)) r.blocks_are ∙ after_seam r.front (r.own ∷ r.behind) (i - at) r.front_are g n ∙ ap (λ c. c ∷ r.behind) own;
    }
  where
    go : (j : ℕ) → IsBetween j bs → j ≤ i → (t : Bool) → nat_lt (length (entries_of (around bs i h l).front)) j ≡ t → length (entries_of (around bs i h l).front) ≡ i - at → length (entries_of (around bs i h l).front) + (around bs i h l).at ≡ i → (around bs i h l).at ≡ at → (around bs i h l).at < length (around bs i h l).own.1 → j ≤ i - at
    go j t u true q n p place w =
        let r = around bs i h l in
        let m = lt_is (length (entries_of r.front)) j q in
        let f : before j bs ≡ r.front = ap (before j) r.blocks_are ∙ before_within r.front r.behind r.own j r.front_are (omega (arith, m)) (omega (arith, u, p, w)) in
        let k = ap (λ xs. length (entries_of xs)) f in
        absurd (omega (arith, k, t, m))
    go j t u false q n p place w = let m = not_lt_is (length (entries_of (around bs i h l).front)) j q in omega (arith, m, n)

-- at the end of all blocks
pub end_between : (bs : List Piece) (i : ℕ) → ArePieces bs → i ≡ length (entries_of bs) → IsBetween i bs
end_between bs i h e = ap (λ cs. length (entries_of cs)) (all_before bs i h e).0 ∙ sym e

pub end_apart : (bs : List Piece) (i : ℕ) (last : Option (List Tuple × ℕ)) → ArePieces bs → i ≡ length (entries_of bs) → leads_to last (runs_in (after i bs)) ≡ false
end_apart bs i last h e = ap (λ cs. leads_to last (runs_in cs)) (all_before bs i h e).1

-- at the first place of a block
module _ (bs : List Piece) (i at : ℕ) (b : Piece) (are : ArePieces bs) (within : i < length (entries_of bs)) (there : located bs i ≡ Some (b, at)) (first : at ≡ 0) where
  same : i - at ≡ i
  same = omega (arith, first)

  pub first_between : IsBetween i bs
  first_between = subst (λ k. IsBetween k bs) same (begins bs i at b are within there).between

  pub first_leads : (last : Option (List Tuple × ℕ)) → leads_to last (runs_in (after i bs)) ≡ goes_on last b.0.0
  first_leads last = ap (λ k. leads_to last (runs_in (after k bs))) (sym same) ∙ ap (λ cs. leads_to last (runs_in cs)) (begins bs i at b are within there).after_is

-- after the last character of a block another one begins
pub next_between : (bs : List Piece) (i at : ℕ) (b : Piece) → ArePieces bs → i < length (entries_of bs) → located bs i ≡ Some (b, at) → at + 1 ≡ length b.1 → IsBetween (i + 1) bs × (last_run (before (i + 1) bs) ≡ Some b.0)
next_between bs i at b h l e m =
    let r = around bs i h l in
    let own : r.own ≡ b = ap (λ o. own_of o b) (sym r.there ∙ e) in
    let place : r.at ≡ at = ap (λ o. place_of o at) (sym r.there ∙ e) in
    let p = r.place_is in
    let f = r.front ++ r.own ∷ [] in
    let all : bs ≡ f ++ r.behind = r.blocks_are ∙ sym (append_assoc r.front (r.own ∷ []) r.behind) in
    let c = chars_append r.front (r.own ∷ []) in
    let k = single_chars r.own r.own_is in
    let o = ap (λ (q : Piece). length q.1) own in
    let n : length (entries_of f) ≡ i + 1 = omega (arith, p, place, c, k, o, m) in
    let s : before (i + 1) bs ≡ f = ap (before (i + 1)) all ∙ before_seam f r.behind (i + 1) (are_left f r.behind (subst ArePieces all h)) r.behind_are n in
    (ap (λ xs. length (entries_of xs)) s ∙ n, ap last_run s ∙ last_append r.front r.own ∙ ap (λ (q : Piece). Some q.0) own)

pub ident_located : (bs : List Piece) (i at : ℕ) (b : Piece) → ArePieces bs → located bs i ≡ Some (b, at) → IsPiece b.0 b.1 → at < length b.1 → slice_get (idents_in (entries_of bs)) i ≡ Some (shifted (pos at) b.0.0)
ident_located bs i at b h e p l = mapped_at (λ u. u.0) (entries_of bs) i _ (entry_located bs i at b h e ∙ entry_at b at p l)

-- the identifier at a place, if there is one
pub ident_at : (bs : List Piece) (i : ℕ) → ArePieces bs → option_map ident_there (located bs i) ≡ slice_get (idents_in (entries_of bs)) i
ident_at bs i h = go (nat_lt i (length (entries_of bs))) refl
  where
    go : (t : Bool) → nat_lt i (length (entries_of bs)) ≡ t → option_map ident_there (located bs i) ≡ slice_get (idents_in (entries_of bs)) i
    go true t =
        let r = around bs i h (lt_is i (length (entries_of bs)) t) in
        ap (option_map ident_there) r.there ∙ sym (ident_located bs i r.at r.own h r.there r.own_is r.within)
    go false t =
        let w = not_lt_is i (length (entries_of bs)) t in
        let l = length-map (entries_of bs) (λ e. e.0) in
        ap (option_map ident_there) (located_none bs i h w) ∙ sym (slice_get_past (idents_in (entries_of bs)) i (omega (arith, l, w)))

-- and the one right before it
pub ident_before : (bs : List Piece) (i : ℕ) → ArePieces bs → 0 < i → option_map ident_there (located_before None bs i) ≡ slice_get (idents_in (entries_of bs)) (i - 1)
ident_before bs zero h s = absurd (omega (arith, s))
ident_before bs (suc i) h s = let e : i ≡ suc i - 1 = omega arith in ident_at bs i h ∙ ap (slice_get (idents_in (entries_of bs))) e

-- the place within a block
place_within : (bs : List Piece) (i : ℕ) → IfSome (located bs i) (λ p. p.1 < length p.0.1)
place_within [] i = tt
place_within (b ∷ bs) i = go (nat_lt i (length b.1)) refl (place_within bs (i - length b.1))
  where
    go : (t : Bool) → nat_lt i (length b.1) ≡ t → IfSome (located bs (i - length b.1)) (λ p. p.1 < length p.0.1) → IfSome (if t then Some (b, i) else located bs (i - length b.1)) (λ p. p.1 < length p.0.1)
    go true t h = lt_is i (length b.1) t
    go false t h = h

pub within_at : (bs : List Piece) (i : ℕ) (o : Option (Piece × ℕ)) → o ≡ located bs i → IfSome o (λ p. p.1 < length p.0.1)
within_at bs i o e = subst (λ q. IfSome q (λ p. p.1 < length p.0.1)) (sym e) (place_within bs i)

pub within_before : (bs : List Piece) (i : ℕ) (o : Option (Piece × ℕ)) → o ≡ located_before None bs i → IfSome o (λ p. p.1 < length p.0.1)
within_before bs zero o e = subst (λ q. IfSome q (λ p. p.1 < length p.0.1)) (sym e) tt
within_before bs (suc i) o e = within_at bs i o e
