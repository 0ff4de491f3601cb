-- The replica that a file says, and the file of a replica.
use Rattle.std.proofs.Common.{◌≡◌, ◌<◌, ◌∙◌, ℕ, not, List, [], ◌∷◌, None, refl, sym, ap, subst, arith, inl, inr}
use Rattle.std.specs.Prelude.{slice_index, if◌then◌else◌}
use Rattle.std.specs.List.{find}
use Rattle.rls_ident.specs.Lists.{IsIn}
use Rattle.rls_ident.specs.Vectors.{at_most}
use Rattle.rls_ident.proofs.Members.{in_filter}
use Rattle.rls_ops.specs.declared.op.Op.{Op}
use Rattle.rls_ops.specs.Rows.{is_covered}
use Rattle.rls_ops.specs.Shapes.{shape_fault}
use Rattle.rls_ops.specs.WellFormed.{IsInRange, IsOp, IsVector}
use Rattle.rls_model.specs.History.{History, Fresh, Then, Accepted, Acknowledged, members_of, count}
use Rattle.rls_model.specs.Legal.{AreWaiting, IsLegal, MayAccept}
use Rattle.rls_model.specs.Parts.{parts}
use Rattle.rls_model.specs.Receiving.{State}
use Rattle.rls_model.proofs.OneTree.{author_below}
use Rattle.rls_seen.specs.Kept.{dropped}
use Rattle.rls_seen.specs.Over.{acknowledged, holding}
use Rattle.rls_seen.specs.Sane.{AreHeld, IsSane, MayApply}
use Rattle.rls_seen.specs.Seen.{Seen, fresh, members, stable_over}
use Rattle.rls_seen.specs.Stands.{StandsFor}
use Rattle.rls_seen.proofs.Accepting.{accepted_stands}
use Rattle.rls_seen.proofs.Alike.{members_alike, refusal_alike}
use Rattle.rls_seen.proofs.Applied.{accepted_sane}
use Rattle.rls_seen.proofs.Dropped.{dropped_sane}
use Rattle.rls_seen.proofs.Keeping.{dropped_stands}
use Rattle.rls_seen.proofs.Noting.{acknowledged_stands}
use Rattle.rls_seen.proofs.Receiving.{holding_stands}
use Rattle.rls_seen.proofs.Starting.{fresh_stands}
use Rattle.rls_seen.proofs.Staying.{fresh_sane, holding_sane}
use Rattle.rls_parts.specs.Rules.{broken}
use Rattle.rls_file.specs.Files.{Journal, Snapshot}
use Rattle.rls_file.specs.FileLaws.{AreSpelled}
use Rattle.rls_file.specs.Journals.{seen_after}
use Rattle.rls_file.specs.SpelledFiles.{IsSpelledJournal, IsSpelledSnapshot}
use Rattle.rls_file.specs.Storable.{IsStorable}
use Rattle.rls_file.proofs.StoredLegal.{spelled_storable}
use Rattle.rls_file.specs.Loading.{seen_in}
use Rattle.rls_file.specs.Stored.{AreWritable}
use Rattle.rls_file.proofs.Snapshots.{snapshot_sane, snapshot_stands, snapshot_writable}
use Rattle.rls_file.proofs.Storable.{IsStoring, accept_storing, acknowledged_storing, fresh_writable, given_op, storing}

-- what is known of a replica that was read of a file which stands for a state
pub record IsOpenedAs (s : Seen) (t : State) : Type 0 where
  pub stands : StandsFor s t
  pub sane : IsSane s
  pub writable : AreWritable s

pub snapshot_opens : (form : ℕ) (t : State) → IsSpelledSnapshot form (parts t) → broken (parts t) ≡ None → IsLegal t.history → IsOpenedAs (seen_in (Snapshot form (parts t))) t
snapshot_opens form t f none legal = record { stands = snapshot_stands form t f none legal; sane = snapshot_sane form (parts t) f none; writable = snapshot_writable form (parts t) f none }

-- ---- a journal's entries, one after another

abbrev alone : History → State
alone H = record { history = H; waiting = [] }

record IsAfter (H : History) (s : Seen) : Type 0 where
  stands : StandsFor s (alone H)
  storing_is : IsStoring s

may_apply : (s : Seen) (H : History) (o : Op) → StandsFor s (alone H) → IsOp o → MayAccept H o → MayApply s o
may_apply s H o h w m =
    let next = m.next in
    let above : slice_index (count H) o.author < o.seq = omega (arith, next) in
    record {
      whole = w;
      shape = ap (λ n. shape_fault n o) (members_alike s (alone H) h) ∙ m.shape;
      above = subst (λ v. slice_index v o.author < o.seq) (sym h.vector) above;
      causes = ap (at_most o.context) h.vector ∙ m.causes;
      fits = refusal_alike s (alone H) o w (author_below (members_of H) o m.shape) h ∙ m.fits;
    }

after_entries : (H : History) → IsLegal H → AreSpelled H → IsAfter H (seen_after H)
after_entries (Fresh group me n) l p = record { stands = fresh_stands group me n l; storing_is = storing (fresh group me n) (fresh_sane group me n l) (fresh_writable group me n) }
after_entries (Then H (Accepted o)) l p =
    let s = seen_after H in
    let b = after_entries H l.0 p.0 in
    let g = given_op (members_of H) o p.1 in
    let may = may_apply s H o b.stands l.1 l.2 in
    record { stands = accepted_stands s (alone H) o l.1 l.2 b.stands; storing_is = accept_storing s o b.storing_is (accepted_sane s o b.storing_is.sane may g.ranged) g.size }
after_entries (Then H (Acknowledged a v)) l p =
    let s = seen_after H in
    let b = after_entries H l.0 p in
    let n = sym (members_alike s (alone H) b.stands) in
    let few = subst (λ m. a < m) n l.1.0 in
    let whole = subst (λ m. IsVector m v) n l.1.1 in
    record {
      stands = subst (λ x. StandsFor (acknowledged s a v) (if x then alone (Then H (Acknowledged a v)) else alone H)) l.2 (acknowledged_stands s (alone H) a v few whole b.stands);
      storing_is = acknowledged_storing s a v b.storing_is few whole.0;
    }

-- ---- what waits beside them

held_beside : (H : History) (W : List Op) → AreWaiting H W → ((w : Op) → IsIn w W → IsInRange w.body) → AreHeld (members_of H) (count H) W
held_beside H [] a r = tt
held_beside H (w ∷ ws) a r = (a.0, r w (inl refl), a.1, a.2, a.3, held_beside H ws a.4 (λ x p. r x (inr p)))

holding_writable : (s : Seen) (t : State) → IsStorable t → IsAfter t.history s → AreWritable (holding s t.waiting)
unfolding holding
holding_writable s t k b = record {
  log = (b.storing_is).sized.log;
  waiting = λ w p. (given_op (members_of t.history) w (k.waiting w p)).size;
  others = λ w p e. k.others w p (e ∙ b.stands.me);
  rest = ap (λ v. find (λ w. at_most w.context v) t.waiting) b.stands.vector ∙ k.rest;
}

-- ---- what is stable is dropped

pub dropped_writable : (s : Seen) → AreWritable s → AreWritable (dropped s)
unfolding dropped
dropped_writable s w = record { log = λ o p. w.log o (in_filter (λ x. not (is_covered (stable_over s) x)) o s.log p).0; waiting = w.waiting; others = w.others; rest = w.rest }

-- ---- all of a journal

pub journal_opens : (t : State) → IsSpelledJournal t → IsOpenedAs (seen_in (Journal t)) t
journal_opens t j =
    let H = t.history in
    let s = seen_after H in
    let k = spelled_storable t j in
    let b = after_entries H k.legal k.accepted in
    let n = sym (members_alike s (alone H) b.stands) in
    let beside = held_beside H t.waiting k.sound (λ w p. (given_op (members_of H) w (k.waiting w p)).ranged) in
    let held = subst (λ v. AreHeld (members s) v t.waiting) (sym b.stands.vector) (subst (λ m. AreHeld m (count H) t.waiting) n beside) in
    record {
      stands = dropped_stands (holding s t.waiting) t (holding_stands s (alone H) t.waiting b.stands k.sound);
      sane = dropped_sane (holding s t.waiting) (holding_sane s t.waiting b.storing_is.sane held);
      writable = dropped_writable (holding s t.waiting) (holding_writable s t k b);
    }
