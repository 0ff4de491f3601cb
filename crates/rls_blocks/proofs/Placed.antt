-- A run put in on a side of a character, among blocks.
use Rattle.std.proofs.Common.{◌≡◌, ℕ, ◌+◌, ◌-◌, ◌<◌, Bool, true, false, List, [], ◌∷◌, ◌++◌, length, Some, refl, sym, ap, ◌∙◌, arith, length-append, append_assoc}
use Rattle.std.specs.Prelude.{nat_lt, nat_eq, ◌&&◌, if◌then◌else◌}
use Rattle.rls_ident.specs.declared.tuple.Tuple.{Tuple}
use Rattle.rls_ident.specs.Identifiers.{follows}
use Rattle.rls_ident.proofs.Members.{and_left, and_right, eq_is, eq_test, lt_is, lt_test, not_lt_is, not_true}
use Rattle.rls_runs.specs.Runs.{run_last}
use Rattle.rls_blocks.specs.declared.change.Change.{Change}
use Rattle.rls_blocks.specs.Trees.{Piece, IsPiece, ArePieces, piece_entries, entries_of, runs_in}
use Rattle.rls_blocks.specs.Edits.{located, put_in, put_among, among, changed, changed_at, begins_with, ends_with, goes_on, leads_to}
use Rattle.rls_blocks.proofs.Pieces.{piece_length, piece_some}
use Rattle.rls_blocks.proofs.Loose.{last_run}
use Rattle.rls_blocks.proofs.AtPlaces.{located_front, located_behind, located_here}
use Rattle.rls_blocks.proofs.Cases.{single_chars}

-- blocks, of which the one that has a place is replaced
module _ (made : Piece → ℕ → List Piece) where
  pub among_front : (f g : List Piece) (i : ℕ) → ArePieces f → i < length (entries_of f) → among made (f ++ g) i ≡ among made f i ++ g
  among_front [] g i h k = absurd (omega arith)
  among_front (b ∷ f) g i h k = go (nat_lt i (length b.1)) refl (λ l. among_front f g (i - length b.1) h.1 l)
    where
      go : (t : Bool) → nat_lt i (length b.1) ≡ t → (i - length b.1 < length (entries_of f) → among made (f ++ g) (i - length b.1) ≡ among made f (i - length b.1) ++ g) → among made (b ∷ (f ++ g)) i ≡ among made (b ∷ f) i ++ g
      go true e ih =
          ap (λ t. if t then made b i ++ (f ++ g) else b ∷ among made (f ++ g) (i - length b.1)) e
          ∙ sym (append_assoc (made b i) f g)
          ∙ sym (ap (λ t. (if t then made b i ++ f else b ∷ among made f (i - length b.1)) ++ g) e)
      go false e ih =
          let l = length-append (piece_entries b) (entries_of f) in
          let p = piece_length b h.0 in
          let m = not_lt_is i (length b.1) e in
          ap (λ t. if t then made b i ++ (f ++ g) else b ∷ among made (f ++ g) (i - length b.1)) e
          ∙ ap (λ bs. b ∷ bs) (ih (omega (arith, k, l, p, m)))
          ∙ sym (ap (λ t. (if t then made b i ++ f else b ∷ among made f (i - length b.1)) ++ g) e)

  pub among_behind : (f g : List Piece) (i j : ℕ) → ArePieces f → i ≡ length (entries_of f) + j → among made (f ++ g) i ≡ f ++ among made g j
  among_behind [] g i j h e = ap (among made g) (omega arith)
  among_behind (b ∷ f) g i j h e =
      let l = length-append (piece_entries b) (entries_of f) in
      let p = piece_length b h.0 in
      let m : nat_lt i (length b.1) ≡ false = not_true (nat_lt i (length b.1)) (λ t. let k = lt_is i (length b.1) t in omega (arith, e, l, p, k)) in
      ap (λ t. if t then made b i ++ (f ++ g) else b ∷ among made (f ++ g) (i - length b.1)) m
      ∙ ap (λ bs. b ∷ bs) (among_behind f g (i - length b.1) j h.1 (omega (arith, e, l, p)))

  pub among_here : (b : Piece) (g : List Piece) (j : ℕ) → j < length b.1 → among made (b ∷ g) j ≡ made b j ++ g
  among_here b g j h = ap (λ t. if t then made b j ++ g else b ∷ among made g (j - length b.1)) (lt_test j (length b.1) h)

-- ---- what stands around a place

-- the block in which a place stands, the blocks in front of it, and those behind it
pub record Around (bs : List Piece) (i : ℕ) : Type 0 where
  pub front : List Piece
  pub own : Piece
  pub at : ℕ
  pub behind : List Piece
  pub there : located bs i ≡ Some (own, at)
  pub blocks_are : bs ≡ front ++ own ∷ behind
  pub front_are : ArePieces front
  pub own_is : IsPiece own.0 own.1
  pub behind_are : ArePieces behind
  pub place_is : length (entries_of front) + at ≡ i
  pub within : at < length own.1

-- one block more in front
around_more : (c : Piece) (bs : List Piece) (i : ℕ) → IsPiece c.0 c.1 → nat_lt i (length c.1) ≡ false → Around bs (i - length c.1) → Around (c ∷ bs) i
around_more c bs i h t r =
    let w = not_lt_is i (length c.1) t in
    let n = piece_length c h in
    let m = length-append (piece_entries c) (entries_of r.front) in
    record {
      front = c ∷ r.front;
      own = r.own;
      at = r.at;
      behind = r.behind;
      there = ap (λ s. if s then Some (c, i) else located bs (i - length c.1)) t ∙ r.there;
      blocks_are = ap (λ xs. c ∷ xs) r.blocks_are;
      front_are = (h, r.front_are);
      own_is = r.own_is;
      behind_are = r.behind_are;
      place_is = let p = r.place_is in omega (arith, w, n, m, p);
      within = r.within;
    }

pub around : (bs : List Piece) (i : ℕ) → ArePieces bs → i < length (entries_of bs) → Around bs i
around [] i h l = absurd (omega arith)
around (c ∷ bs) i h l = go (nat_lt i (length c.1)) refl (λ k. around bs (i - length c.1) h.1 k)
  where
    go : (t : Bool) → nat_lt i (length c.1) ≡ t → (i - length c.1 < length (entries_of bs) → Around bs (i - length c.1)) → Around (c ∷ bs) i
    go true t ih =
        record {
          front = [];
          own = c;
          at = i;
          behind = bs;
          there = ap (λ s. if s then Some (c, i) else located bs (i - length c.1)) t;
          blocks_are = refl;
          front_are = tt;
          own_is = h.0;
          behind_are = h.1;
          place_is = omega arith;
          within = lt_is i (length c.1) t;
        }
    go false t ih =
        let w = not_lt_is i (length c.1) t in
        let n = piece_length c h.0 in
        let all = length-append (piece_entries c) (entries_of bs) in
        around_more c bs i h.0 t (ih (omega (arith, l, w, n, all)))

pub among_around : (made : Piece → ℕ → List Piece) (bs : List Piece) (i : ℕ) (r : Around bs i) → among made bs i ≡ r.front ++ (made r.own r.at ++ r.behind)
among_around made bs i r =
    ap (λ xs. among made xs i) r.blocks_are ∙ among_behind made r.front (r.own ∷ r.behind) i r.at r.front_are (sym r.place_is)
    ∙ ap (λ xs. r.front ++ xs) (among_here made r.own r.behind r.at r.within)

pub put_around : (n : Piece) (bs : List Piece) (i : ℕ) (r : Around bs i) → put_among n bs i ≡ r.front ++ put_in n r.own r.at ++ r.behind
put_around n bs i r = among_around (put_in n) bs i r ∙ sym (append_assoc r.front (put_in n r.own r.at) r.behind)

pub changed_around : (change : Change) (bs : List Piece) (i : ℕ) (r : Around bs i) → changed_at change bs i ≡ r.front ++ changed change r.own ∷ r.behind
changed_around change bs i r = among_around (λ b at. changed change b ∷ []) bs i r

-- the run leads to the first of the blocks from a place on
pub begins_is : (f g : List Piece) (i : ℕ) (r : List Tuple × ℕ) → ArePieces f → ArePieces g → length (entries_of f) ≡ i → begins_with (located (f ++ g) i) r ≡ leads_to (Some r) (runs_in g)
begins_is f g i r h k e = ap (λ p. begins_with p r) (located_behind f g i 0 h (omega (arith, e))) ∙ go g k
  where
    go : (g : List Piece) → ArePieces g → begins_with (located g 0) r ≡ leads_to (Some r) (runs_in g)
    go [] k = refl
    go (s ∷ g) k = ap (λ p. begins_with p r) (located_here s g 0 (piece_some s k.0))

-- the identifier goes on with the last of the blocks in front of a place
pub ends_is : (f g : List Piece) (i : ℕ) (x : List Tuple) → ArePieces f → length (entries_of f) ≡ i → 0 < i → ends_with (located (f ++ g) (i - 1)) x ≡ goes_on (last_run f) x
ends_is [] g i x h e l = absurd (omega (arith, e, l))
ends_is (b ∷ []) g i x h e l =
    let m = single_chars b h.0 in
    let s = piece_some b h.0 in
    let at : nat_eq (i - 1 + 1) (length b.1) ≡ true = eq_test (i - 1 + 1) (length b.1) (omega (arith, e, m, s)) in
    ap (λ p. ends_with p x) (located_here b g (i - 1) (omega (arith, e, m, s))) ∙ ap (λ t. t && follows x (run_last b.0)) at
ends_is (b ∷ c ∷ f) g i x h e l =
    let a = length-append (piece_entries b) (entries_of (c ∷ f)) in
    let p = piece_length b h.0 in
    let q = length-append (piece_entries c) (entries_of f) in
    let o = piece_length c h.1.0 in
    let s = piece_some c h.1.0 in
    let m = single_chars b h.0 in
    ap (λ k. ends_with k x) (located_behind (b ∷ []) ((c ∷ f) ++ g) (i - 1) (i - length b.1 - 1) (h.0, tt) (omega (arith, e, a, p, q, o, s, m)))
    ∙ ends_is (c ∷ f) g (i - length b.1) x h.1 (omega (arith, e, a, p)) (omega (arith, e, a, p, q, o, s))

-- no block stands in front of the first place
pub none_before : (f : List Piece) (x : List Tuple) → ArePieces f → length (entries_of f) ≡ 0 → goes_on (last_run f) x ≡ false
none_before [] x h e = refl
none_before (b ∷ f) x h e =
    let a = length-append (piece_entries b) (entries_of f) in
    let p = piece_length b h.0 in
    let s = piece_some b h.0 in
    absurd (omega (arith, e, a, p, s))

-- a block that begins at a place, and goes on with the run
pub begun : (bs : List Piece) (i : ℕ) (r : Around bs i) (q : List Tuple × ℕ) → begins_with (located bs i) q ≡ true → (r.at ≡ 0) × (follows r.own.0.0 (run_last q) ≡ true)
begun bs i r q e =
    let both : (nat_eq r.at 0 && follows r.own.0.0 (run_last q)) ≡ true = ap (λ p. begins_with p q) (sym r.there) ∙ e in
    (eq_is r.at 0 (and_left (nat_eq r.at 0) (follows r.own.0.0 (run_last q)) both), and_right (nat_eq r.at 0) (follows r.own.0.0 (run_last q)) both)

-- ---- around the block of a node

module _ (b : Piece) (l r link : List Piece) (i : ℕ) (is : link ≡ l ++ b ∷ r) (front : ArePieces l) (own : IsPiece b.0 b.1) where
  -- in front of the block
  pub there_front : i < length (entries_of l) → located l i ≡ located link i
  there_front h = sym (ap (λ bs. located bs i) is ∙ located_front l (b ∷ r) i front h)

  pub made_front : (made : Piece → ℕ → List Piece) → i < length (entries_of l) → among made l i ++ b ∷ r ≡ among made link i
  made_front made h = sym (ap (λ bs. among made bs i) is ∙ among_front made l (b ∷ r) i front h)

  -- in the block
  pub there_own : (j : ℕ) → i ≡ length (entries_of l) + j → j < length b.1 → Some (b, j) ≡ located link i
  there_own j e h = sym (ap (λ bs. located bs i) is ∙ located_behind l (b ∷ r) i j front e ∙ located_here b r j h)

  pub made_own : (made : Piece → ℕ → List Piece) (j : ℕ) → i ≡ length (entries_of l) + j → j < length b.1 → l ++ (made b j ++ r) ≡ among made link i
  made_own made j e h = ap (λ bs. l ++ bs) (sym (among_here made b r j h)) ∙ sym (ap (λ bs. among made bs i) is ∙ among_behind made l (b ∷ r) i j front e)

  -- after the block
  pub there_behind : (j : ℕ) → i ≡ length (entries_of l) + (length b.1 + j) → located r j ≡ located link i
  there_behind j e =
      sym (ap (λ bs. located bs i) is ∙ located_behind l (b ∷ r) i (length b.1 + j) front e ∙ located_behind (b ∷ []) r (length b.1 + j) j (own, tt) (omega (arith, single_chars b own)))

  pub made_behind : (made : Piece → ℕ → List Piece) (j : ℕ) → i ≡ length (entries_of l) + (length b.1 + j) → l ++ b ∷ among made r j ≡ among made link i
  made_behind made j e =
      ap (λ bs. l ++ bs) (sym (among_behind made (b ∷ []) r (length b.1 + j) j (own, tt) (omega (arith, single_chars b own))))
      ∙ sym (ap (λ bs. among made bs i) is ∙ among_behind made l (b ∷ r) i (length b.1 + j) front e)
