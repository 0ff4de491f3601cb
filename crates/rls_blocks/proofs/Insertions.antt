-- What a run put in at a place leaves.
use Rattle.std.proofs.Common.{◌≡◌, ℕ, zero, suc, ◌+◌, ◌-◌, ◌<◌, None, Some, Bool, true, false, List, [], ◌∷◌, ◌++◌, length, refl, sym, ap, subst, ◌∙◌, arith, append_assoc}
use Rattle.std.specs.Prelude.{nat_lt, nat_eq, ◌&&◌, IfSome, if◌then◌else◌}
use Rattle.std.specs.Borrow.{Bor}
use Rattle.rls_ident.specs.declared.tuple.Tuple.{Tuple}
use Rattle.rls_ident.specs.Identifiers.{follows}
use Rattle.rls_ident.proofs.Members.{and_left, and_right, eq_is, eq_test, lt_is, not_lt_is, not_true}
use Rattle.rls_runs.specs.Runs.{run_last, is_run, is_increasing}
use Rattle.rls_runs.specs.Entries.{idents_in}
use Rattle.rls_runs.proofs.RunOrder.{run_some}
use Rattle.rls_runs.proofs.Cuts.{joined_is}
use Rattle.rls_blocks.specs.declared.change.Change.TheVariants.{GrowFront, GrowBehind}
use Rattle.rls_blocks.specs.Trees.{Piece, IsPiece, ArePieces, piece_entries, entries_of, runs_in}
use Rattle.rls_blocks.specs.Edits.{joined, lengthened, lengthened_front, part_of, located, put_among, changed_at, MayChange, begins_with, ends_with, goes_on, leads_to, are_loose, inserted, Shows}
use Rattle.rls_blocks.specs.Beside.{located_before}
use Rattle.rls_blocks.proofs.Pieces.{entries_append, chars_append, are_append}
use Rattle.rls_blocks.proofs.Loose.{last_run, last_append}
use Rattle.rls_blocks.proofs.Changes.{put_between, joined_before}
use Rattle.rls_blocks.proofs.AtPlaces.{within_order, put_within, located_none}
use Rattle.rls_blocks.proofs.Cases.{new_shows, grown_last, grown_first, within_shows, single_chars}
use Rattle.rls_blocks.proofs.Placed.{Around, put_around, changed_around, begins_is, ends_is, none_before, begun}

-- ---- what stands beside a place

pub before_some : (bs : List Piece) (i : ℕ) (x : List Tuple) → ends_with (located_before None bs i) x ≡ true → 0 < i
before_some bs zero x e = absurd (cc)
before_some bs (suc i) x e = omega arith

pub before_there : (bs : List Piece) (i : ℕ) → 0 < i → located_before None bs i ≡ located bs (i - 1)
before_there bs zero h = absurd (omega (arith, h))
before_there bs (suc i) h = let e : i ≡ suc i - 1 = omega arith in ap (located bs) e

-- the identifier goes on with the last of the blocks before it
pub before_is : (f g : List Piece) (i : ℕ) (x : List Tuple) → ArePieces f → length (entries_of f) ≡ i → ends_with (located_before None (f ++ g) i) x ≡ goes_on (last_run f) x
before_is f g zero x h e = sym (none_before f x h e)
before_is f g (suc i) x h e = let s : 0 < suc i = omega arith in ap (λ p. ends_with p x) (before_there (f ++ g) (suc i) s) ∙ ends_is f g (suc i) x h e s

pub after_there : (bs : List Piece) (i : ℕ) (r : List Tuple × ℕ) → ArePieces bs → begins_with (located bs i) r ≡ true → i < length (entries_of bs)
after_there bs i r h e = go (nat_lt i (length (entries_of bs))) refl
  where
    go : (t : Bool) → nat_lt i (length (entries_of bs)) ≡ t → i < length (entries_of bs)
    go true t = lt_is i (length (entries_of bs)) t
    go false t = let none = ap (λ p. begins_with p r) (located_none bs i h (not_lt_is i (length (entries_of bs)) t)) in absurd (cc)

-- before all blocks
pub first_shows : (bs : List Piece) (n : Piece) (i : ℕ) → i ≡ 0 → ArePieces bs → are_loose None (runs_in bs) ≡ true → begins_with (located bs i) n.0 ≡ false → Shows (inserted i (piece_entries n) (entries_of bs)) (n ∷ bs)
first_shows bs n zero z h l e = new_shows [] bs n l refl (sym (begins_is [] bs 0 n.0 tt h refl) ∙ e)
first_shows bs n (suc i) z h l e = absurd (omega (arith, z))

-- beside the character at a place
module _ (bs : List Piece) (n : Piece) (j : ℕ) (r : Around bs j) (own : IsPiece n.0 n.1) (loose : are_loose None (runs_in bs) ≡ true) where
  sound : 0 < n.0.1
  sound = run_some n.0 own.sound

  all : bs ≡ r.front ++ (r.own ∷ []) ++ r.behind
  all = r.blocks_are ∙ sym (append_assoc r.front (r.own ∷ []) r.behind)

  parted : are_loose None (runs_in (r.front ++ (r.own ∷ []) ++ r.behind)) ≡ true
  parted = ap (λ xs. are_loose None (runs_in xs)) (sym all) ∙ loose

  -- in front of it, joined to its block
  pub front_shows : (text : Bor (List ℕ)) → text.now ≡ n.1 → begins_with (located bs j) n.0 ≡ true → ends_with (located_before None bs j) n.0.0 ≡ false → Shows (inserted j (piece_entries n) (entries_of bs)) (changed_at (GrowFront text) bs j)
  front_shows text same e a =
      let first = begun bs j r n.0 e in
      let none = first.0 in
      let place = r.place_is in
      let before : goes_on (last_run r.front) n.0.0 ≡ false = sym (before_is r.front (r.own ∷ r.behind) j n.0.0 r.front_are (omega (arith, none, place))) ∙ ap (λ xs. ends_with (located_before None xs j) n.0.0) (sym r.blocks_are) ∙ a in
      let shows = grown_first r.front r.behind r.own n parted own.as_many sound (run_some r.own.0 r.own_is.sound) before first.1 in
      let put = put_between (entries_of r.front) (piece_entries n) (entries_of (r.own ∷ r.behind)) j (omega (arith, none, place))
      ∙ ap (inserted j (piece_entries n)) (sym (entries_append r.front (r.own ∷ r.behind)) ∙ ap entries_of (sym r.blocks_are)) in
      let new = append_assoc r.front (joined n r.own ∷ []) r.behind ∙ ap (λ b. r.front ++ b ∷ r.behind) (sym (joined_before n r.own own first.1) ∙ ap (λ cs. lengthened_front cs r.own) (sym same)) ∙ sym (changed_around (GrowFront text) bs j r) in
      subst (λ es. Shows es (changed_at (GrowFront text) bs j)) put (subst (Shows (entries_of r.front ++ piece_entries n ++ entries_of (r.own ∷ r.behind))) new shows)

  -- behind it
  module _ (i : ℕ) (next : i ≡ j + 1) (begins : begins_with (located bs i) n.0 ≡ false) (rises : is_increasing (idents_in (inserted i (piece_entries n) (entries_of bs))) ≡ true) where
    cut_shows : nat_lt (r.at + 1) (length r.own.1) ≡ true → Shows (inserted i (piece_entries n) (entries_of bs)) (r.front ++ (part_of 0 (r.at + 1) r.own ∷ n ∷ part_of (r.at + 1) (r.own.0.1 - (r.at + 1)) r.own ∷ []) ++ r.behind)
    cut_shows t =
        let many = r.own_is.as_many in
        let w = lt_is (r.at + 1) (length r.own.1) t in
        let place = r.place_is in
        let put = put_within r.front r.behind r.own n (r.at + 1) i many (omega (arith, many, w)) (omega (arith, next, place)) ∙ ap (λ xs. inserted i (piece_entries n) (entries_of xs)) (sym all) in
        let order = within_order (entries_of r.front) (entries_of r.behind) r.own n (r.at + 1) many own.as_many (omega arith) (omega (arith, many, w)) sound (ap (λ es. is_increasing (idents_in es)) put ∙ rises) in
        subst (λ es. Shows es (r.front ++ (part_of 0 (r.at + 1) r.own ∷ n ∷ part_of (r.at + 1) (r.own.0.1 - (r.at + 1)) r.own ∷ []) ++ r.behind)) put
        (within_shows r.front r.behind r.own n (r.at + 1) r.own_is.sound own.sound (omega arith) (omega (arith, many, w)) sound order.0 order.1 parted)

    module _ (ends : nat_lt (r.at + 1) (length r.own.1) ≡ false) where
      place_is : length (entries_of (r.front ++ r.own ∷ [])) ≡ i
      place_is =
          let a = chars_append r.front (r.own ∷ []) in
          let s = single_chars r.own r.own_is in
          let w = not_lt_is (r.at + 1) (length r.own.1) ends in
          let v = r.within in
          let p = r.place_is in
          omega (arith, a, s, w, v, p, next)

      leads : leads_to (Some n.0) (runs_in r.behind) ≡ false
      leads = sym (begins_is (r.front ++ r.own ∷ []) r.behind i n.0 (are_append r.front r.own [] r.front_are r.own_is tt) r.behind_are place_is) ∙ ap (λ xs. begins_with (located xs i) n.0) (sym all) ∙ begins

      put : entries_of (r.front ++ r.own ∷ []) ++ piece_entries n ++ entries_of r.behind ≡ inserted i (piece_entries n) (entries_of bs)
      put = put_between (entries_of (r.front ++ r.own ∷ [])) (piece_entries n) (entries_of r.behind) i place_is
          ∙ ap (inserted i (piece_entries n)) (sym (entries_append (r.front ++ r.own ∷ []) r.behind) ∙ ap entries_of (sym all))

      grown_shows : follows n.0.0 (run_last r.own.0) ≡ true → Shows (inserted i (piece_entries n) (entries_of bs)) (r.front ++ (joined r.own n ∷ []) ++ r.behind)
      grown_shows t =
          subst (λ es. Shows es (r.front ++ (joined r.own n ∷ []) ++ r.behind)) put
          (grown_last r.front r.behind r.own n parted r.own_is.as_many (run_some r.own.0 r.own_is.sound) sound t leads)

      alone_shows : follows n.0.0 (run_last r.own.0) ≡ false → Shows (inserted i (piece_entries n) (entries_of bs)) (r.front ++ (r.own ∷ n ∷ []) ++ r.behind)
      alone_shows t =
          subst (λ es. Shows es (r.front ++ (r.own ∷ n ∷ []) ++ r.behind)) put
          (subst (Shows (entries_of (r.front ++ r.own ∷ []) ++ piece_entries n ++ entries_of r.behind)) (ap (λ xs. xs ++ r.behind) (append_assoc r.front (r.own ∷ []) (n ∷ [])))
          (new_shows (r.front ++ r.own ∷ []) r.behind n parted (ap (λ q. goes_on q n.0.0) (last_append r.front r.own) ∙ t) leads))

    -- joined to its block
    pub last_shows : (text : Bor (List ℕ)) → text.now ≡ n.1 → ends_with (located bs j) n.0.0 ≡ true → Shows (inserted i (piece_entries n) (entries_of bs)) (changed_at (GrowBehind text) bs j)
    last_shows text is e =
        let both : (nat_eq (r.at + 1) (length r.own.1) && follows n.0.0 (run_last r.own.0)) ≡ true = ap (λ p. ends_with p n.0.0) (sym r.there) ∙ e in
        let last = eq_is (r.at + 1) (length r.own.1) (and_left (nat_eq (r.at + 1) (length r.own.1)) (follows n.0.0 (run_last r.own.0)) both) in
        let ends : nat_lt (r.at + 1) (length r.own.1) ≡ false = not_true (nat_lt (r.at + 1) (length r.own.1)) (λ t. let w = lt_is (r.at + 1) (length r.own.1) t in omega (arith, last, w)) in
        let same : ◌≡◌ {A = Piece} (joined r.own n) (lengthened text.now r.own) = ap (λ k. ((r.own.0.0, r.own.0.1 + k), r.own.1 ++ n.1)) (sym own.as_many) ∙ ap (λ cs. lengthened cs r.own) (sym is) in
        subst (Shows (inserted i (piece_entries n) (entries_of bs))) (append_assoc r.front (joined r.own n ∷ []) r.behind ∙ ap (λ b. r.front ++ b ∷ r.behind) same ∙ sym (changed_around (GrowBehind text) bs j r))
        (grown_shows ends (and_right (nat_eq (r.at + 1) (length r.own.1)) (follows n.0.0 (run_last r.own.0)) both))

    -- as a block of its own
    pub behind_shows : ends_with (located bs j) n.0.0 ≡ false → Shows (inserted i (piece_entries n) (entries_of bs)) (put_among n bs j)
    behind_shows e = subst (Shows (inserted i (piece_entries n) (entries_of bs))) (sym (put_around n bs j r)) (go (nat_lt (r.at + 1) (length r.own.1)) refl)
      where
        cut_in : Bool → List Piece
        cut_in s = if s then part_of 0 (r.at + 1) r.own ∷ n ∷ part_of (r.at + 1) (r.own.0.1 - (r.at + 1)) r.own ∷ [] else r.own ∷ n ∷ []

        free : nat_lt (r.at + 1) (length r.own.1) ≡ false → follows n.0.0 (run_last r.own.0) ≡ false
        free s =
            let w = not_lt_is (r.at + 1) (length r.own.1) s in
            let v = r.within in
            let last : nat_eq (r.at + 1) (length r.own.1) ≡ true = eq_test (r.at + 1) (length r.own.1) (omega (arith, w, v)) in
            sym (ap (λ p. ends_with p n.0.0) r.there ∙ ap (λ t. t && follows n.0.0 (run_last r.own.0)) last) ∙ e

        go : (s : Bool) → nat_lt (r.at + 1) (length r.own.1) ≡ s → Shows (inserted i (piece_entries n) (entries_of bs)) (r.front ++ cut_in s ++ r.behind)
        go true s = cut_shows s
        go false s = alone_shows s (free s)

-- ---- a block that a run touches can grow by it

pub may_first : (bs : List Piece) (n : Piece) (j : ℕ) (text : Bor (List ℕ)) → text.now ≡ n.1 → Around bs j → IsPiece n.0 n.1 → begins_with (located bs j) n.0 ≡ true → IfSome (located bs j) (λ q. MayChange (GrowFront text) q.0)
may_first bs n j text same r own e =
    let touches = (begun bs j r n.0 e).1 in
    subst (λ p. IfSome p (λ q. MayChange (GrowFront text) q.0)) (sym r.there)
    (subst (λ (b : Piece). is_run b.0 ≡ true) (sym (ap (λ cs. lengthened_front cs r.own) same ∙ joined_before n r.own own touches)) (joined_is n.0 r.own.0 own.sound r.own_is.sound touches))

pub may_last : (bs : List Piece) (n : Piece) (j : ℕ) (text : Bor (List ℕ)) → text.now ≡ n.1 → Around bs j → IsPiece n.0 n.1 → ends_with (located bs j) n.0.0 ≡ true → IfSome (located bs j) (λ q. MayChange (GrowBehind text) q.0)
may_last bs n j text same r own e =
    let both : (nat_eq (r.at + 1) (length r.own.1) && follows n.0.0 (run_last r.own.0)) ≡ true = ap (λ p. ends_with p n.0.0) (sym r.there) ∙ e in
    let touches = and_right (nat_eq (r.at + 1) (length r.own.1)) (follows n.0.0 (run_last r.own.0)) both in
    subst (λ p. IfSome p (λ q. MayChange (GrowBehind text) q.0)) (sym r.there)
    (subst (λ k. is_run (r.own.0.0, r.own.0.1 + k) ≡ true) (sym (ap (λ (cs : List ℕ). length cs) same ∙ own.as_many)) (joined_is r.own.0 n.0 r.own_is.sound own.sound touches))
