-- What is left of blocks where some that stand one behind another go out.
use Rattle.std.proofs.Common.{◌≡◌, ℕ, suc, ◌+◌, ◌-◌, ◌<◌, ◌≤◌, true, false, List, [], ◌∷◌, ◌++◌, length, take, drop, Option, Some, None, refl, sym, ap, ◌∙◌, subst, ⊎_elim, arith, length-append, append_assoc}
use Rattle.std.specs.Prelude.{pos, not}
use Rattle.std.specs.List.{list_all}
use Rattle.std.proofs.lemmas.Int.{ints}
use Rattle.std.proofs.lemmas.List.{append-nil, take-append-le}
use Rattle.std.proofs.Math.Nat.{eq-or-lt_of_le}
use Rattle.std.proofs.Math.Seq.{take-append_seam, drop-append_seam}
use Rattle.rls_ident.specs.declared.tuple.Tuple.{Tuple}
use Rattle.rls_ident.specs.Identifiers.{shifted, follows}
use Rattle.rls_ident.proofs.Lists.{Lt, lt_irrefl, lt_trans}
use Rattle.rls_ident.proofs.Members.{and_true, not_true}
use Rattle.rls_ident.proofs.Shifted.{shifted_none, shifted_less}
use Rattle.rls_ident.proofs.Tuples.{tuples}
use Rattle.rls_runs.specs.Runs.{run_last, is_run, are_apart}
use Rattle.rls_runs.proofs.RunOrder.{less_shifted, run_ident, run_some, apart_rest}
use Rattle.rls_runs.proofs.RunsApart.{apart_right, ahead}
use Rattle.rls_blocks.specs.Splits.{IsBetweenLists, IsWithin}
use Rattle.rls_blocks.specs.Trees.{Piece, IsPiece, runs_in, piece_entries, entries_of}
use Rattle.rls_blocks.specs.Edits.{part_of, joined, goes_on, leads_to, are_loose, removed, Shows}
use Rattle.rls_blocks.proofs.Pieces.{entries_append, runs_sound}
use Rattle.rls_blocks.proofs.Loose.{last_run, last_append, runs_append, replaced, loose_of}
use Rattle.rls_blocks.proofs.Changes.{follows_is, back, halves}
use Rattle.rls_blocks.proofs.Cases.{middle_entries, after_last, two_entries, joined_entries, part_last, touch, joined_last, leads_alike, last_more, one_replaced, own_loose, both_loose, middle_shows}
use Rattle.rls_blocks.proofs.AtPlaces.{part_exact, taken_within}

-- ---- what doesn't go on with a run

-- what stands behind a run doesn't go on with a front part of it
not_with_part : (b : Piece) (a : ℕ) (z : List Tuple) → is_run b.0 ≡ true → 0 < a → a < b.0.1 → Lt tuples (run_last b.0) z → follows z (run_last (part_of 0 a b).0) ≡ false
not_with_part b a z s h l m = not_true (follows z (run_last (part_of 0 a b).0)) (λ t.
    let e = touch (part_of 0 a b).0 (z, 0) h t ∙ ap (shifted (pos a)) (shifted_none b.0.0) in
    let n : Lt tuples (run_last b.0) (shifted (pos a) b.0.0) = subst (λ y. Lt tuples (run_last b.0) y) e m in
    ⊎_elim (λ d. lt_irrefl (subst (λ j. Lt tuples (run_last b.0) (shifted (pos j) b.0.0)) d n)) (λ d. lt_irrefl (lt_trans n (shifted_less (pos a) (pos (b.0.1 - 1)) b.0.0 (run_ident b.0 s) (omega (arith, ints))))) (eq-or-lt_of_le (let n : a ≤ b.0.1 - 1 = omega arith in n)))

-- nor a later part of a run with what ends in front of the run
part_not_with : (r : List Tuple × ℕ) (b : Piece) (k : ℕ) → is_run b.0 ≡ true → 0 < k → Lt tuples (run_last r) b.0.0 → follows (shifted (pos k) b.0.0) (run_last r) ≡ false
part_not_with r b k s h l = not_true (follows (shifted (pos k) b.0.0) (run_last r)) (λ t.
    let e = follows_is (run_last r) (shifted (pos k) b.0.0) t in
    let j : suc (k - 1) ≡ k = omega arith in
    let d = back (k - 1) b.0.0 (run_last r) (ap (λ i. shifted (pos i) b.0.0) j ∙ e) in
    lt_irrefl (subst (λ z. Lt tuples (run_last r) z) d (less_shifted (run_last r) b.0.0 (k - 1) (run_ident b.0 s) l)))

-- ---- whole blocks

pub gone_shows : (f m g : List Piece) → are_apart None (runs_in (f ++ m ++ g)) ≡ true → leads_to (last_run f) (runs_in g) ≡ false → Shows (entries_of f ++ entries_of g) (f ++ g)
gone_shows f m g apart n =
    record {
      entries_are = entries_append f g;
      loose =
          ap (λ xs. are_loose None (runs_in (xs ++ g))) (sym (append-nil f))
          ∙ replaced f m [] g (loose_of None (runs_in (f ++ m ++ g)) apart) refl (ap (λ xs. leads_to (last_run xs) (runs_in g)) (append-nil f) ∙ n);
    }

-- and what stood on their sides is one
pub merged_shows : (rest m far : List Piece) (p s : Piece) → are_apart None (runs_in (rest ++ (p ∷ []) ++ (m ++ (s ∷ []) ++ far))) ≡ true → length p.1 ≡ p.0.1 → 0 < p.0.1 → 0 < s.0.1 → follows s.0.0 (run_last p.0) ≡ true
    → Shows (entries_of (rest ++ p ∷ []) ++ entries_of (s ∷ far)) (rest ++ (joined p s ∷ []) ++ far)
merged_shows rest m far p s apart n k l t =
    record {
      entries_are = joined_entries rest far p s n k t ∙ after_last rest p (piece_entries s) (entries_of far) ∙ append_assoc (entries_of (rest ++ p ∷ [])) (piece_entries s) (entries_of far);
      loose = both_loose rest far p s (joined p s) m (loose_of None (runs_in (rest ++ (p ∷ []) ++ (m ++ (s ∷ []) ++ far))) apart) refl (joined_last p.0 s.0 k l t);
    }

-- ---- the blocks at the ends keep a part

-- what stands behind a block
behind : (f h : List Piece) (b : Piece) → are_apart None (runs_in (f ++ (b ∷ []) ++ h)) ≡ true → are_apart (Some b.0) (runs_in h) ≡ true
behind f h b apart =
    let all = apart_right None (runs_in f) (runs_in (b ∷ h)) (ap (are_apart None) (sym (ap runs_in (append_assoc f (b ∷ []) h) ∙ runs_append f (b ∷ h))) ∙ apart) in
    apart_rest (last_run f) b.0 (runs_in h) all

module _ (f m g : List Piece) (b : Piece) (sound : is_run b.0 ≡ true) (between : list_all is_run (runs_in m) ≡ true) where
  -- the block in front of the others keeps its front
  pub back_shows : are_apart None (runs_in (f ++ (b ∷ []) ++ m ++ g)) ≡ true → (a : ℕ) → 0 < a → a < b.0.1 → Shows (entries_of f ++ piece_entries (part_of 0 a b) ++ entries_of g) (f ++ (part_of 0 a b ∷ []) ++ g)
  back_shows apart a h l =
      let x = part_of 0 a b in
      let all : are_apart None (runs_in (f ++ (b ∷ []) ++ (m ++ g))) ≡ true = ap (λ bs. are_apart None (runs_in bs)) (sym (append_assoc (f ++ b ∷ []) m g)) ∙ apart in
      let old : are_loose None (runs_in (f ++ ((b ∷ []) ++ m) ++ g)) ≡ true = loose_of None (runs_in (f ++ ((b ∷ []) ++ m) ++ g)) (ap (λ bs. are_apart None (runs_in (bs ++ g))) (sym (append_assoc f (b ∷ []) m)) ∙ apart) in
      let own = own_loose f (m ++ g) b (loose_of None (runs_in (f ++ (b ∷ []) ++ (m ++ g))) all) in
      record {
        entries_are = middle_entries f g x;
        loose = one_replaced f ((b ∷ []) ++ m) g x old (ap (goes_on (last_run f)) (shifted_none b.0.0) ∙ own.0) (go g (ap (are_apart (Some b.0)) (sym (runs_append m g)) ∙ behind f (m ++ g) b all));
      }
    where
      go : (g : List Piece) → are_apart (Some b.0) (runs_in m ++ runs_in g) ≡ true → leads_to (Some (part_of 0 a b).0) (runs_in g) ≡ false
      go [] q = refl
      go (s ∷ g) q = not_with_part b a s.0.0 sound h l (ahead b.0 (runs_in m) s.0 (runs_in g) between q)

  -- the block behind the others keeps its back
  pub front_shows : are_apart None (runs_in (f ++ m ++ (b ∷ []) ++ g)) ≡ true → (k : ℕ) → 0 < k → k < b.0.1 → Shows (entries_of f ++ (piece_entries (part_of k (b.0.1 - k) b) ++ entries_of g)) (f ++ (part_of k (b.0.1 - k) b ∷ []) ++ g)
  front_shows apart k h l =
      let y = part_of k (b.0.1 - k) b in
      let e : run_last y.0 ≡ run_last b.0 = part_last b.0.0 k (b.0.1 - k) (omega arith) ∙ ap (λ j. shifted (pos j) b.0.0) (omega arith) in
      let old : are_loose None (runs_in (f ++ (m ++ b ∷ []) ++ g)) ≡ true = loose_of None (runs_in (f ++ (m ++ b ∷ []) ++ g)) (ap (λ bs. are_apart None (runs_in (bs ++ g))) (sym (append_assoc f m (b ∷ []))) ∙ apart) in
      let own = own_loose (f ++ m) g b (loose_of None (runs_in (f ++ m ++ (b ∷ []) ++ g)) apart) in
      let all : f ++ m ++ (b ∷ []) ++ g ≡ f ++ (m ++ b ∷ g) = append_assoc (f ++ m) (b ∷ []) g ∙ append_assoc f m (b ∷ g) in
      let rest : are_apart (last_run f) (runs_in m ++ b.0 ∷ runs_in g) ≡ true = ap (are_apart (last_run f)) (sym (runs_append m (b ∷ g))) ∙ apart_right None (runs_in f) (runs_in (m ++ b ∷ g)) (ap (are_apart None) (sym (ap runs_in all ∙ runs_append f (m ++ b ∷ g))) ∙ apart) in
      record {
        entries_are = middle_entries f g y ∙ append_assoc (entries_of f) (piece_entries y) (entries_of g);
        loose = one_replaced f (m ++ b ∷ []) g y old (go (last_run f) rest) (leads_alike y.0 b.0 (runs_in g) e ∙ own.1);
      }
    where
      go : (a : Option (List Tuple × ℕ)) → are_apart a (runs_in m ++ b.0 ∷ runs_in g) ≡ true → goes_on a (shifted (pos k) b.0.0) ≡ false
      go None q = refl
      go (Some c) q = part_not_with c b k sound h (ahead c (runs_in m) b.0 (runs_in g) between q)

  -- both
  pub ends_shows : (d : Piece) → is_run d.0 ≡ true → are_apart None (runs_in (f ++ (b ∷ []) ++ m ++ (d ∷ []) ++ g)) ≡ true → (a k : ℕ) → 0 < a → a < b.0.1 → 0 < k → k < d.0.1
      → Shows (entries_of f ++ piece_entries (part_of 0 a b) ++ (piece_entries (part_of k (d.0.1 - k) d) ++ entries_of g)) (f ++ (part_of 0 a b ∷ part_of k (d.0.1 - k) d ∷ []) ++ g)
  ends_shows d other apart a k h l i j =
      let x = part_of 0 a b in
      let y = part_of k (d.0.1 - k) d in
      let e : run_last y.0 ≡ run_last d.0 = part_last d.0.0 k (d.0.1 - k) (omega arith) ∙ ap (λ j. shifted (pos j) d.0.0) (omega arith) in
      let all : f ++ (b ∷ []) ++ m ++ (d ∷ []) ++ g ≡ f ++ (b ∷ []) ++ (m ++ d ∷ g) = append_assoc (f ++ (b ∷ []) ++ m) (d ∷ []) g ∙ append_assoc (f ++ b ∷ []) m (d ∷ g) in
      let whole : are_apart None (runs_in (f ++ (b ∷ []) ++ (m ++ d ∷ g))) ≡ true = ap (λ bs. are_apart None (runs_in bs)) (sym all) ∙ apart in
      let old : f ++ ((b ∷ []) ++ (m ++ d ∷ [])) ++ g ≡ f ++ (b ∷ []) ++ m ++ (d ∷ []) ++ g = ap (λ bs. bs ++ g) (sym (append_assoc f (b ∷ []) (m ++ d ∷ [])) ∙ sym (append_assoc (f ++ b ∷ []) m (d ∷ []))) in
      let first = own_loose f (m ++ d ∷ g) b (loose_of None (runs_in (f ++ (b ∷ []) ++ (m ++ d ∷ g))) whole) in
      let last = own_loose (f ++ (b ∷ []) ++ m) g d (loose_of None (runs_in (f ++ (b ∷ []) ++ m ++ (d ∷ []) ++ g)) apart) in
      let p : goes_on (last_run f) x.0.0 ≡ false = ap (goes_on (last_run f)) (shifted_none b.0.0) ∙ first.0 in
      let o = ahead b.0 (runs_in m) d.0 (runs_in g) between (ap (are_apart (Some b.0)) (sym (runs_append m (d ∷ g))) ∙ behind f (m ++ d ∷ g) b whole) in
      let q : goes_on (Some x.0) y.0.0 ≡ false = not_with_part b a y.0.0 sound h l (less_shifted (run_last b.0) d.0.0 k (run_ident d.0 other) o) in
      record {
        entries_are = two_entries f g x y;
        loose = replaced f ((b ∷ []) ++ (m ++ d ∷ [])) (x ∷ y ∷ []) g (loose_of None (runs_in (f ++ ((b ∷ []) ++ (m ++ d ∷ [])) ++ g)) (ap (λ bs. are_apart None (runs_in bs)) old ∙ apart))
            (and_true (not (goes_on (last_run f) x.0.0)) (are_loose (Some x.0) (runs_in (y ∷ []))) (ap not p) (and_true (not (goes_on (Some x.0) y.0.0)) true (ap not q) refl))
            (ap (λ r. leads_to r (runs_in g)) (last_more f (x ∷ y ∷ [])) ∙ leads_alike y.0 d.0 (runs_in g) e ∙ last.1);
      }

-- ---- the entries in front of a place, and those behind it

pub taken_between : (f m : List Piece) (i : ℕ) → length (entries_of f) ≡ i → take i (entries_of (f ++ m)) ≡ entries_of f
taken_between f m i h = ap (take i) (entries_append f m) ∙ ap (λ k. take k (entries_of f ++ entries_of m)) (sym h) ∙ take-append_seam (entries_of f) (entries_of m)

pub taken_in : (f m : List Piece) (b : Piece) (at i : ℕ) → length b.1 ≡ b.0.1 → at ≤ b.0.1 → length (entries_of f) + at ≡ i → take i (entries_of (f ++ (b ∷ []) ++ m)) ≡ entries_of f ++ piece_entries (part_of 0 at b)
taken_in f m b at i n h e =
    let x = piece_entries (part_of 0 at b) in
    let y = piece_entries (part_of at (b.0.1 - at) b) in
    let l = length-append (entries_of f) x in
    let p = part_exact b 0 at n (omega arith) in
    let all : entries_of (f ++ (b ∷ []) ++ m) ≡ (entries_of f ++ x) ++ (y ++ entries_of m) =
    middle_entries f m b ∙ ap (λ es. entries_of f ++ es ++ entries_of m) (halves b at n h) ∙ ap (λ es. es ++ entries_of m) (sym (append_assoc (entries_of f) x y)) ∙ append_assoc (entries_of f ++ x) y (entries_of m) in
    let k : i ≡ length (entries_of f ++ x) = omega (arith, l, p, e) in
    ap (take i) all ∙ ap (λ j. take j ((entries_of f ++ x) ++ (y ++ entries_of m))) k ∙ take-append_seam (entries_of f ++ x) (y ++ entries_of m)

-- from a place of some blocks on, up to their end
pub end_out : (f g : List Piece) (i k : ℕ) → length (entries_of f) ≡ i + k → take i (entries_of f) ++ entries_of g ≡ removed i k (entries_of (f ++ g))
end_out f g i k h =
    let e = entries_append f g in
    ap (λ es. es ++ entries_of g) (sym (take-append-le i (entries_of f) (entries_of g) (omega (arith, h))) ∙ ap (take i) (sym e))
    ∙ ap (λ es. take i (entries_of (f ++ g)) ++ es) (sym (drop-append_seam (entries_of f) (entries_of g)) ∙ ap (λ j. drop j (entries_of f ++ entries_of g)) h ∙ ap (drop (i + k)) (sym e))

-- and into the next block
pub into_out : (f g : List Piece) (b : Piece) (at i k : ℕ) → length b.1 ≡ b.0.1 → at ≤ b.0.1 → i ≤ length (entries_of f) → length (entries_of f) + at ≡ i + k
    → take i (entries_of f) ++ (piece_entries (part_of at (b.0.1 - at) b) ++ entries_of g) ≡ removed i k (entries_of (f ++ (b ∷ []) ++ g))
into_out f g b at i k n h l e =
    let x = piece_entries (part_of 0 at b) in
    let y = piece_entries (part_of at (b.0.1 - at) b) in
    let o = length-append (entries_of f) x in
    let p = part_exact b 0 at n (omega arith) in
    let q : length (entries_of f ++ x) ≡ i + k = omega (arith, o, p, e) in
    let all : entries_of (f ++ (b ∷ []) ++ g) ≡ (entries_of f ++ x) ++ (y ++ entries_of g) =
    middle_entries f g b ∙ ap (λ es. entries_of f ++ es ++ entries_of g) (halves b at n h) ∙ ap (λ es. es ++ entries_of g) (sym (append_assoc (entries_of f) x y)) ∙ append_assoc (entries_of f ++ x) y (entries_of g) in
    let front : take i ((entries_of f ++ x) ++ (y ++ entries_of g)) ≡ take i (entries_of f) = ap (take i) (append_assoc (entries_of f) x (y ++ entries_of g)) ∙ take-append-le i (entries_of f) (x ++ (y ++ entries_of g)) l in
    ap (λ es. es ++ (y ++ entries_of g)) (sym front ∙ ap (take i) (sym all))
    ∙ ap (λ es. take i (entries_of (f ++ (b ∷ []) ++ g)) ++ es) (sym (drop-append_seam (entries_of f ++ x) (y ++ entries_of g)) ∙ ap (λ j. drop j ((entries_of f ++ x) ++ (y ++ entries_of g))) q ∙ ap (drop (i + k)) (sym all))

-- ---- a range taken out of split trees

-- the blocks from which the range goes are split at its end and at its start
module _ (link near f m g : List Piece) (i n : ℕ) where
  -- whole blocks go
  pub gap_out : IsBetweenLists link (i + n) near g → IsBetweenLists near i f m → entries_of f ++ entries_of g ≡ removed i n (entries_of link)
  gap_out h k =
      ap (λ es. es ++ entries_of g) (sym (taken_between f m i k.place) ∙ ap (λ bs. take i (entries_of bs)) (sym k.blocks))
      ∙ end_out near g i n h.place ∙ ap (λ bs. removed i n (entries_of bs)) (sym h.blocks)

  -- the first block keeps its front
  pub back_out : (b : Piece) (at : ℕ) → IsBetweenLists link (i + n) near g → IsWithin near i f b at m → are_apart None (runs_in link) ≡ true → Shows (removed i n (entries_of link)) (f ++ part_of 0 at b ∷ g)
  back_out b at h k apart =
      let many = k.piece.as_many in
      let own : near ≡ f ++ (b ∷ []) ++ m = k.blocks ∙ sym (append_assoc f (b ∷ []) m) in
      let all : link ≡ f ++ (b ∷ []) ++ m ++ g = h.blocks ∙ ap (λ bs. bs ++ g) own in
      let between = runs_sound m k.behind_are in
      let shows = back_shows f m g b k.piece.sound between (subst (λ bs. are_apart None (runs_in bs) ≡ true) all apart) at k.some (omega (arith, k.within, many)) in
      let out = ap (λ es. es ++ entries_of g) (sym (taken_in f m b at i many (omega (arith, k.within, many)) k.place) ∙ ap (λ bs. take i (entries_of bs)) (sym own))
      ∙ end_out near g i n h.place ∙ ap (λ bs. removed i n (entries_of bs)) (sym h.blocks) in
      subst (Shows (removed i n (entries_of link))) (append_assoc f (part_of 0 at b ∷ []) g) (subst (λ es. Shows es (f ++ (part_of 0 at b ∷ []) ++ g)) out shows)

  -- the last block keeps its back
  pub front_out : (d : Piece) (end : ℕ) → IsWithin link (i + n) near d end g → IsBetweenLists near i f m → are_apart None (runs_in link) ≡ true → Shows (removed i n (entries_of link)) (f ++ part_of end (d.0.1 - end) d ∷ g)
  front_out d end h k apart =
      let many = h.piece.as_many in
      let own : link ≡ near ++ (d ∷ []) ++ g = h.blocks ∙ sym (append_assoc near (d ∷ []) g) in
      let all : link ≡ f ++ m ++ (d ∷ []) ++ g = own ∙ ap (λ bs. bs ++ (d ∷ []) ++ g) k.blocks in
      let between = runs_sound m k.behind_are in
      let shows = front_shows f m g d h.piece.sound between (subst (λ bs. are_apart None (runs_in bs) ≡ true) all apart) end h.some (omega (arith, h.within, many)) in
      let y = piece_entries (part_of end (d.0.1 - end) d) in
      let out = ap (λ es. es ++ (y ++ entries_of g)) (sym (taken_between f m i k.place) ∙ ap (λ bs. take i (entries_of bs)) (sym k.blocks))
      ∙ into_out near g d end i n many (omega (arith, h.within, many)) (omega (arith, k.place, k.chars)) h.place ∙ ap (λ bs. removed i n (entries_of bs)) (sym own) in
      subst (Shows (removed i n (entries_of link))) (append_assoc f (part_of end (d.0.1 - end) d ∷ []) g) (subst (λ es. Shows es (f ++ (part_of end (d.0.1 - end) d ∷ []) ++ g)) out shows)

  -- both
  pub ends_out : (b d : Piece) (at end : ℕ) → IsWithin link (i + n) near d end g → IsWithin near i f b at m → are_apart None (runs_in link) ≡ true
      → Shows (removed i n (entries_of link)) (f ++ part_of 0 at b ∷ part_of end (d.0.1 - end) d ∷ g)
  ends_out b d at end h k apart =
      let many = k.piece.as_many in
      let other = h.piece.as_many in
      let first : near ≡ f ++ (b ∷ []) ++ m = k.blocks ∙ sym (append_assoc f (b ∷ []) m) in
      let last : link ≡ near ++ (d ∷ []) ++ g = h.blocks ∙ sym (append_assoc near (d ∷ []) g) in
      let all : link ≡ f ++ (b ∷ []) ++ m ++ (d ∷ []) ++ g = last ∙ ap (λ bs. bs ++ (d ∷ []) ++ g) first in
      let between = runs_sound m k.behind_are in
      let shows = ends_shows f m g b k.piece.sound between d h.piece.sound (subst (λ bs. are_apart None (runs_in bs) ≡ true) all apart) at end k.some (omega (arith, k.within, many)) h.some (omega (arith, h.within, other)) in
      let x = part_of 0 at b in
      let y = part_of end (d.0.1 - end) d in
      let out = ap (λ es. es ++ (piece_entries y ++ entries_of g)) (sym (taken_in f m b at i many (omega (arith, k.within, many)) k.place) ∙ ap (λ bs. take i (entries_of bs)) (sym first))
      ∙ into_out near g d end i n other (omega (arith, h.within, other)) (omega (arith, k.place, k.chars, k.within)) h.place ∙ ap (λ bs. removed i n (entries_of bs)) (sym last) in
      subst (Shows (removed i n (entries_of link))) (append_assoc f (x ∷ y ∷ []) g) (subst (λ es. Shows es (f ++ (x ∷ y ∷ []) ++ g)) out shows)

-- characters go out of the middle of one block
pub middle_out : (link f g : List Piece) (b : Piece) (at end i n : ℕ) → IsWithin link (i + n) f b end g → 0 < at → 0 < n → length (entries_of f) + at ≡ i → are_apart None (runs_in link) ≡ true
    → Shows (removed i n (entries_of link)) (f ++ part_of 0 at b ∷ part_of end (b.0.1 - end) b ∷ g)
middle_out link f g b at end i n h o p e apart =
    let many = h.piece.as_many in
    let x = part_of 0 at b in
    let y = part_of end (b.0.1 - end) b in
    let all : link ≡ f ++ (b ∷ []) ++ g = h.blocks ∙ sym (append_assoc f (b ∷ []) g) in
    let k : at + n ≡ end = omega (arith, h.place, e) in
    let shows = middle_shows f g b h.piece.sound (subst (λ bs. are_apart None (runs_in bs) ≡ true) all apart) at end o (omega (arith, k, p)) (omega (arith, h.within, many)) in
    let out = ap (λ j. entries_of f ++ piece_entries x ++ (piece_entries (part_of j (b.0.1 - j) b) ++ entries_of g)) (sym k)
    ∙ taken_within f g b at n i many (omega (arith, k, h.within, many)) e ∙ ap (λ bs. removed i n (entries_of bs)) (sym all) in
    subst (Shows (removed i n (entries_of link))) (append_assoc f (x ∷ y ∷ []) g) (subst (λ es. Shows es (f ++ (x ∷ y ∷ []) ++ g)) out shows)

-- ---- what stood on both sides of blocks that go

-- nothing stands after them
pub gap_last : (f m g : List Piece) → g ≡ [] → are_apart None (runs_in (f ++ m ++ g)) ≡ true → Shows (entries_of f ++ entries_of g) f
gap_last f m g e apart =
    subst (λ bs. Shows (entries_of f ++ entries_of g) bs) (ap (λ bs. f ++ bs) e ∙ append-nil f) (gone_shows f m g apart (ap (λ bs. leads_to (last_run f) (runs_in bs)) e))

-- it doesn't touch
pub gap_free : (f m g far : List Piece) (s : Piece) → g ≡ s ∷ far → are_apart None (runs_in (f ++ m ++ g)) ≡ true → goes_on (last_run f) s.0.0 ≡ false → Shows (entries_of f ++ entries_of g) (f ++ s ∷ far)
gap_free f m g far s e apart n =
    subst (λ bs. Shows (entries_of f ++ entries_of g) (f ++ bs)) e (gone_shows f m g apart (ap (λ bs. leads_to (last_run f) (runs_in bs)) e ∙ n))

-- it is one block then
pub gap_merged : (f m g rest far : List Piece) (p s : Piece) → f ≡ rest ++ p ∷ [] → g ≡ s ∷ far → are_apart None (runs_in (f ++ m ++ g)) ≡ true → IsPiece p.0 p.1 → IsPiece s.0 s.1 → follows s.0.0 (run_last p.0) ≡ true → Shows (entries_of f ++ entries_of g) (rest ++ joined p s ∷ far)
gap_merged f m g rest far p s e d apart x y t =
    let parted : are_apart None (runs_in (rest ++ (p ∷ []) ++ (m ++ (s ∷ []) ++ far))) ≡ true =
    subst (λ bs. are_apart None (runs_in bs) ≡ true)
    (ap (λ bs. bs ++ m ++ g) e ∙ ap (λ bs. (rest ++ p ∷ []) ++ m ++ bs) d ∙ append_assoc (rest ++ p ∷ []) m (s ∷ far) ∙ ap (λ bs. (rest ++ p ∷ []) ++ bs) (sym (append_assoc m (s ∷ []) far))) apart in
    let shows = merged_shows rest m far p s parted x.as_many (run_some p.0 x.sound) (run_some s.0 y.sound) t in
    subst (λ bs. Shows (entries_of bs ++ entries_of g) (rest ++ joined p s ∷ far)) (sym e)
    (subst (λ bs. Shows (entries_of (rest ++ p ∷ []) ++ entries_of bs) (rest ++ joined p s ∷ far)) (sym d)
    (subst (Shows (entries_of (rest ++ p ∷ []) ++ entries_of (s ∷ far))) (append_assoc rest (joined p s ∷ []) far) shows))

-- whether the block after some blocks goes on with the last of them
pub last_touches : (f rest : List Piece) (p : Piece) (x : List Tuple) → f ≡ rest ++ p ∷ [] → goes_on (last_run f) x ≡ follows x (run_last p.0)
last_touches f rest p x e = ap (λ bs. goes_on (last_run bs) x) e ∙ ap (λ r. goes_on r x) (last_append rest p)
