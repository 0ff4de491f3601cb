use Rattle.std.proofs.Common.{◌∙◌, ◌++◌, ◌∷◌, [], ap, inl, inr, ⊎_elim}
use Rattle.rls_replica.proofs.Noting.{put_last, take_last}
use Rattle.rls_replica.proofs.gone.add.Goals as goal

pub loop-last-preserved : goal.loop-last-preserved
loop-last-preserved c = record {
  all = λ x p.
      ⊎_elim
      (λ q. ⊎_elim inl (λ r. inr (c.in_ok-ids.ensures.first x r)) (take_last c.loop-last.lists.items c.take_short.new.lists.items c.in-Some.last x c.in-Some.ensures.some q))
      (λ q. inr (c.in_ok-ids.ensures.second x q)) (c.loop-last.invariant.all x p);
  only = λ x p. c.loop-last.invariant.only x
      (⊎_elim (λ q. inl (put_last c.take_short.new.lists.items c.loop-last.lists.items c.in-Some.last x c.in-Some.ensures.some (inl q)))
      (λ q. ⊎_elim (λ r. inl (put_last c.take_short.new.lists.items c.loop-last.lists.items c.in-Some.last x c.in-Some.ensures.some (inr r))) inr (c.in_ok-ids.ensures.only x q)) p);
}

pub returns : goal.returns
returns c =
    let put = c.in_ok-push.ensures.items ∙ ap (λ ls. ls ++ c.loop-last.ids ∷ []) c.in_default.ensures.none in
    record {
      ok = λ x p. put_last c.loop-last.lists.items c.push.new.self.items c.loop-last.ids x put (c.loop-last.invariant.all x p);
      only = λ x p. c.loop-last.invariant.only x (take_last c.push.new.self.items c.loop-last.lists.items c.loop-last.ids x put p);
    }
