-- In a world edits made all operations, of all members together and of each member's history.
use Rattle.std.proofs.Common.{◌≡◌, true, [], ◌∷◌, sym, ap, ◌∙◌, subst, arith}
use Rattle.rls_ident.specs.Lists.{IsIn}
use Rattle.rls_ident.specs.Vectors.{at_most}
use Rattle.rls_ident.proofs.Members.{in_left}
use Rattle.rls_ident.proofs.Vectors.{index_le}
use Rattle.rls_ops.specs.declared.op.Op.{Op}
use Rattle.rls_model.specs.History.{Accepted, History, Then, ops, count}
use Rattle.rls_model.specs.Legal.{IsLegal}
use Rattle.rls_model.specs.Editing.{made}
use Rattle.rls_model.specs.Worlds.{World}
use Rattle.rls_model.specs.Laws.{IsPartOf, IsGathered}
use Rattle.rls_model.proofs.HistoryNumbers.{number_counted, with_number, one_number, front_legal, front_me, front_ops, op_front}
use Rattle.rls_model.proofs.WorldsGathered as gathering
use Rattle.rls_model.proofs.WorldsInvariant.{IsGood, made_front}
use Rattle.rls_model.proofs.WorldsLaws.{good_after, worlds_legal}
use Rattle.rls_passages.specs.Passages.{AreMadeIn, PastsMade, WorldsApart}
use Rattle.rls_passages.proofs.Within.{context_counted}
use Rattle.rls_passages.proofs.Apart as apart

-- of what all members know
pub good_made : (w : World) (M : History) → IsGood w → IsGathered w M → AreMadeIn M
good_made w M g all o p =
    let k = (all.1 o).0 p in
    let t = (g.member k.0 k.1 k.2).home o k.3 in
    let s = t.0 in
    let its = g.member o.author s t.1 in
    let r = op_front s.history o t.2 in
    let H = r.0 in
    let K = Then H (Accepted o) in
    let e = (made_front K s.history r.1 its.own).1 (sym its.me ∙ sym (front_me K s.history r.1)) in
    (H, e.0, (front_legal K s.history r.1 its.legal).0, λ q i. (all.1 q).1 (o.author, s, t.1, front_ops K s.history r.1 q (in_left q (ops H) (o ∷ []) i)), e.1, e.2, e.3)

pub law : WorldsApart
law w hs M a g = apart.law M g.0 (good_made w M (good_after w hs a) g)

-- a legal part of a history of edits is one
part_made : (M H : History) → IsLegal M → AreMadeIn M → IsLegal H → IsPartOf H M → AreMadeIn H
unfolding made
part_made M H l all h part o p =
    let r = all o (part o p) in
    let K = r.0 in
    let k = r.2 in
    let c : count K ≡ o.context = ap (λ (x : Op). x.context) r.6 in
    let m : at_most (count K) (count H) ≡ true = subst (λ v. at_most v (count H) ≡ true) (sym c) (context_counted H h o p) in (
      K,
      r.1,
      k,
      λ q i. let n = number_counted K k q i in
          let le = index_le (count K) (count H) q.author m in
          let y = with_number H h q.author q.seq n.0 (omega (arith, n.1, le)) in
          subst (λ (x : Op). IsIn x (ops H)) (one_number M l y.0 q (part y.0 y.1) (r.3 q i) y.2 y.3) y.1,
      r.4,
      r.5,
      r.6,
    )

pub pasts_made : PastsMade
pasts_made w hs i H a p =
    let g = gathering.law w hs a in
    let M = g.0 in
    let s = p.0 in
    let h = front_legal H s.history p.2 (worlds_legal w hs i s a p.1).0 in
    (h, part_made M H g.1.0 (good_made w M (good_after w hs a) g.1) h (λ o q. (g.1.1 o).1 (i, s, p.1, front_ops H s.history p.2 o q)))
