use Rattle.std.proofs.Common.{◌≡◌, ◌∙◌, ◌⊎◌, ℕ, List, Option, Some, None, map, refl, sym, subst, inl, inr}
use Rattle.std.specs.Prelude.{IfSome}
use Rattle.rls_ident.specs.declared.tuple.Tuple.{Tuple}
use Rattle.rls_ident.specs.Lists.{IsIn}
use Rattle.rls_runs.specs.Runs.{joined}
use Rattle.rls_rename.specs.Tree.{Epochs, greatest, translate}
use Rattle.rls_ops.specs.declared.op.Op.{Op}
use Rattle.rls_ops.specs.declared.op.Body.{Body}
use Rattle.rls_ops.specs.declared.op.Body.TheVariants.{Delete}
use Rattle.rls_replica.specs.declared.known.Known.{Known}
use Rattle.rls_replica.specs.Known.{KeepsKnown}
use Rattle.rls_replica.proofs.known.kept_known.Goals as goal

-- with a deletion that is stable at once its targets are lost
with_lost : (E : Epochs) (v : List ℕ) (o : Op) (targets : List (List Tuple)) (known : Option Known) (was : Known) (r : Option Known) → known ≡ Some was → o.body ≡ Delete targets → IfSome r (λ k. k.lists ≡ was.lists)
    → IfSome r (λ k. (x : List Tuple) → IsIn x (joined was.lost.items) ⊎ IsIn x (map (translate E.nodes o.epoch (greatest E.top E.nodes)) targets) → IsIn x (joined k.lost.items))
    → IfSome r (λ k. (w : Known) × (known ≡ Some w) × KeepsKnown E v o o.body w k)
with_lost E v o targets known was None e b l m = tt
with_lost E v o targets known was (Some k) e b l m = (was, e, subst (λ (c : Body). KeepsKnown E v o c was k) (sym b) (inr (l, m)))

pub returns-then-covers : goal.returns-then-covers
returns-then-covers c = record {
  kept = with_lost c.args.epochs.now.epochs c.args.stable.now c.args.op.now c.in-Delete.targets c.args.known c.in_ok-known.known c.without.result c.in_ok-known.was c.in-Delete.is c.without.ensures.lists c.without.ensures.lost;
}

pub returns-in-Insert : goal.returns-in-Insert
returns-in-Insert c =
    let k = c.in_ok-known.known in
    record { kept = (k, c.in_ok-known.was, subst (λ (b : Body). KeepsKnown c.args.epochs.now.epochs c.args.stable.now c.args.op.now b k k) (sym c.in-Insert.is) refl) }

pub returns-else-covers : goal.returns-else-covers
returns-else-covers c =
    let k = c.in_ok-known.known in
    record { kept = (k, c.in_ok-known.was, subst (λ (b : Body). KeepsKnown c.args.epochs.now.epochs c.args.stable.now c.args.op.now b k k) (sym c.in-Delete.is) (inl (sym c.covers.ensures.covered ∙ c.if-covers.false, refl))) }
