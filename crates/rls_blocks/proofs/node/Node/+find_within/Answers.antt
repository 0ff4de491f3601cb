use Rattle.std.proofs.Common.{length, take, sym, ap, ◌∙◌, inl, inr, ◌+◌, ◌∷◌, Ok, Err, arith, length-append}
use Rattle.rls_runs.specs.Runs.{run_idents, idents_of}
use Rattle.rls_runs.specs.Places.{find_ident}
use Rattle.rls_runs.specs.Fronts.{front_of, shared}
use Rattle.rls_runs.proofs.Finding.{run_length}
use Rattle.rls_runs.proofs.RunLists.{place_most}
use Rattle.rls_runs.proofs.RunPlaces.{moved}
use Rattle.rls_blocks.specs.Trees.{entries_of, runs_in}
use Rattle.rls_blocks.proofs.Parts.{found_most, in_own, within_own, before_own, after_own, after_found}
use Rattle.rls_blocks.proofs.Sides.{own_begins, left_side, right_side}
use Rattle.rls_blocks.proofs.node.Node.+find_within.Goals as goal

pub find_from-found-requires : goal.find_from-found-requires
find_from-found-requires t c =
    let r = c.requires in
    let begins = own_begins _ _ _ _ c.args.id.now (ap (λ v. v.blocks) c.self.view_is) c.self.invariant.own_is c.args.low c.args.high c.min.result (omega (arith, c.min.ensures)) (omega (arith, c.min.ensures)) r.low r.high in
    record { from = ap (λ q. take c.min.result q.0) c.run.ensures.run ∙ begins }

pub overflow_add-result : goal.overflow_add-result
overflow_add-result t c =
    let s = c.self.inside in
    let found = sym c.in-Ok.is ∙ c.find_from-found.ensures.find ∙ ap (λ q. find_ident (run_idents q.0 q.1) c.args.id.now) c.run.ensures.run in
    omega (arith, c.self.invariant.sum_is, run_length s.block.0.0 s.block.0.1, c.self.invariant.own_is.as_many, place_most (run_idents s.block.0.0 s.block.0.1) c.args.id.now c.in-Ok.place (inl (sym found)))

pub returns-in-Ok : goal.returns-in-Ok
returns-in-Ok t c =
    let found = sym c.in-Ok.is ∙ c.find_from-found.ensures.find ∙ ap (λ q. find_ident (run_idents q.0 q.1) c.args.id.now) c.run.ensures.run in
    record { find = ap (λ i. Ok (i + c.in-Ok.place)) c.self.invariant.front_is ∙ in_own _ _ _ _ c.args.id.now (ap (λ v. v.blocks) c.self.view_is) c.self.invariant.left_are c.self.invariant.own_is c.requires.rises c.in-Ok.place found }

pub returns-in_default : goal.returns-in_default
returns-in_default t c =
    let found = sym c.in-Err.is ∙ c.find_from-found.ensures.find ∙ ap (λ q. find_ident (run_idents q.0 q.1) c.args.id.now) c.run.ensures.run in
    record { find = ap (λ k. find_ident (idents_of (runs_in k.blocks)) c.args.id.now) (sym c.in_default.ensures.empty) ∙ before_own _ _ _ _ c.args.id.now (ap (λ v. v.blocks) c.self.view_is) c.self.invariant.left_are c.self.invariant.own_is c.requires.rises (ap (λ i. Err i) (sym c.if-below-eq0.true) ∙ found) }

pub find_within-requires : goal.find_within-requires
find_within-requires t c =
    let is = ap (λ v. v.blocks) c.self.view_is in
    (omega (arith, ap length is, length-append c.self.inside.left.blocks (c.self.inside.block ∷ c.self.inside.right.blocks), ap length c.in-Some.ensures.blocks), left_side _ _ _ _ c.args.id.now is c.self.invariant.own_is _ c.args.low c.find_from-found.result.1 c.in-Some.ensures.blocks c.self.invariant.left_are (c.find_from-found.ensures.shared ∙ ap (λ q. shared (front_of q.0) (front_of c.args.id.now)) c.run.ensures.run) c.requires.rises c.requires.low)

pub returns-then-below-eq0 : goal.returns-then-below-eq0
returns-then-below-eq0 t c =
    let found = sym c.in-Err.is ∙ c.find_from-found.ensures.find ∙ ap (λ q. find_ident (run_idents q.0 q.1) c.args.id.now) c.run.ensures.run in
    record { find = c.find_within.ensures.find ∙ ap (λ bs. find_ident (idents_of (runs_in bs)) c.args.id.now) c.in-Some.ensures.blocks ∙ before_own _ _ _ _ c.args.id.now (ap (λ v. v.blocks) c.self.view_is) c.self.invariant.left_are c.self.invariant.own_is c.requires.rises (ap (λ i. Err i) (sym c.if-below-eq0.true) ∙ found) }

pub returns-then-below-len : goal.returns-then-below-len
returns-then-below-len t c =
    let found = sym c.in-Err.is ∙ c.find_from-found.ensures.find ∙ ap (λ q. find_ident (run_idents q.0 q.1) c.args.id.now) c.run.ensures.run in
    record { find = ap (λ i. Err (i + c.in-Err.below)) c.self.invariant.front_is ∙ within_own _ _ _ _ c.args.id.now (ap (λ v. v.blocks) c.self.view_is) c.self.invariant.left_are c.self.invariant.own_is c.requires.rises c.in-Err.below found (omega arith) (omega arith) }

pub returns-in_default-node : goal.returns-in_default-node
returns-in_default-node t c =
    let s = c.self.inside in
    let found = sym c.in-Err.is ∙ c.find_from-found.ensures.find ∙ ap (λ q. find_ident (run_idents q.0 q.1) c.args.id.now) c.run.ensures.run in
    let none = ap (λ k. moved (length (entries_of s.left.blocks) + length s.block.1) (find_ident (idents_of (runs_in k.blocks)) c.args.id.now)) (sym c.in_default-node.ensures.empty) in
    record { find = ap (λ i. Err i) (omega arith) ∙ none ∙ after_own _ _ _ _ c.args.id.now (ap (λ v. v.blocks) c.self.view_is) c.self.invariant.left_are c.self.invariant.own_is c.requires.rises c.in-Err.below found (omega arith) }

pub find_within-requires-2 : goal.find_within-requires-2
find_within-requires-2 t c =
    let is = ap (λ v. v.blocks) c.self.view_is in
    (omega (arith, ap length is, length-append c.self.inside.left.blocks (c.self.inside.block ∷ c.self.inside.right.blocks), ap length c.in-Some-node.ensures.blocks), right_side _ _ _ _ c.args.id.now is c.self.invariant.own_is _ c.args.high c.find_from-found.result.1 c.in-Some-node.ensures.blocks c.self.invariant.left_are (c.find_from-found.ensures.shared ∙ ap (λ q. shared (front_of q.0) (front_of c.args.id.now)) c.run.ensures.run) c.requires.rises c.requires.high)

pub overflow_add-result-in-Ok-find_within : goal.overflow_add-result-in-Ok-find_within
overflow_add-result-in-Ok-find_within t c =
    let found = c.in-Ok-find_within.ensures.find ∙ ap (λ bs. find_ident (idents_of (runs_in bs)) c.args.id.now) c.in-Some-node.ensures.blocks in
    omega (arith, c.self.invariant.sum_is, found_most c.self.inside.right.blocks c.args.id.now c.in-Ok-find_within.place c.self.invariant.right_are (inl (sym found)))

pub overflow_add-result-in-Err-find_within : goal.overflow_add-result-in-Err-find_within
overflow_add-result-in-Err-find_within t c =
    let found = c.in-Err-find_within.ensures.find ∙ ap (λ bs. find_ident (idents_of (runs_in bs)) c.args.id.now) c.in-Some-node.ensures.blocks in
    omega (arith, c.self.invariant.sum_is, found_most c.self.inside.right.blocks c.args.id.now c.in-Err-find_within.below c.self.invariant.right_are (inr (sym found)))

pub returns-in-Ok-find_within : goal.returns-in-Ok-find_within
returns-in-Ok-find_within t c =
    let own = sym c.in-Err.is ∙ c.find_from-found.ensures.find ∙ ap (λ q. find_ident (run_idents q.0 q.1) c.args.id.now) c.run.ensures.run in
    let found = c.in-Ok-find_within.ensures.find ∙ ap (λ bs. find_ident (idents_of (runs_in bs)) c.args.id.now) c.in-Some-node.ensures.blocks in
    record { find = ap (λ i. Ok (i + c.in-Ok-find_within.place)) (omega arith) ∙ after_found _ _ _ _ c.args.id.now (ap (λ v. v.blocks) c.self.view_is) c.self.invariant.left_are c.self.invariant.own_is c.requires.rises (Ok c.in-Ok-find_within.place) found c.in-Err.below own (omega arith) }

pub returns-in-Err-find_within : goal.returns-in-Err-find_within
returns-in-Err-find_within t c =
    let own = sym c.in-Err.is ∙ c.find_from-found.ensures.find ∙ ap (λ q. find_ident (run_idents q.0 q.1) c.args.id.now) c.run.ensures.run in
    let found = c.in-Err-find_within.ensures.find ∙ ap (λ bs. find_ident (idents_of (runs_in bs)) c.args.id.now) c.in-Some-node.ensures.blocks in
    record { find = ap (λ i. Err (i + c.in-Err-find_within.below)) (omega arith) ∙ after_found _ _ _ _ c.args.id.now (ap (λ v. v.blocks) c.self.view_is) c.self.invariant.left_are c.self.invariant.own_is c.requires.rises (Err c.in-Err-find_within.below) found c.in-Err.below own (omega arith) }
