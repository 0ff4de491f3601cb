use Rattle.std.proofs.Common.{◌≡◌, ℕ, List, ◌-◌, ◌<◌, ◌∷◌, [], ◌++◌, length, get_or, take, refl, sym, ap, ◌∙◌, arith}
use Rattle.std.proofs.lemmas.Option.{slice_get_read}
use Rattle.std.specs.Prelude.{slice_get}
use Rattle.rls_steps.specs.declared.piece.Step.{Step}
use Rattle.rls_steps.specs.Recorded.{held_by}
use Rattle.rls_steps.proofs.EditsTold.{once_edits, stop_edits}
use Rattle.rls_steps.proofs.Grounded.{taken_stop, steps_once, steps_stop}
use Rattle.rls_steps.proofs.Grouping.{last_split, back_once}
use Rattle.rls_steps.proofs.undoing.back_one.Goals as goal

-- the last step stands behind the others
behind : (xs : List Step) (n : ℕ) (x : Step) → n ≡ length xs → 0 < length xs → x ≡ get_or xs (n - 1) x → xs ≡ take (n - 1) xs ++ x ∷ []
behind xs n x e some is =
    let g = ap (λ k. slice_get xs (k - 1)) (sym e) ∙ slice_get_read xs (length xs) (n - 1) x refl (omega (arith, some, e)) is in
    last_split xs x some g ∙ ap (λ k. take (k - 1) xs ++ x ∷ []) (sym e)

-- also behind what is left
behind_left : (xs left : List Step) (n : ℕ) (x : Step) → n ≡ length xs → 0 < length xs → x ≡ get_or xs (n - 1) x → left ≡ take (n - 1) xs → xs ≡ left ++ x ∷ []
behind_left xs left n x e some is l = behind xs n x e some is ∙ ap (λ (ys : List Step). ys ++ x ∷ []) (sym l)

pub returns-in-Ok-clause-after : goal.returns-in-Ok-clause-after
returns-in-Ok-clause-after c =
    let h = held_by c.args.replica.now c.args.next.now c.args.names.now in
    let all = behind_left c.args.from.now.items c.truncate.new.self.items c.len-n.result c.index.result.now (omega arith) (omega (arith, c.requires.some)) c.index.ensures c.truncate.ensures.items in
    back_once h _ _ _ c.args.to.now.items c.take_back.new.other.items c.index.result.now all c.in-Ok.ensures.held c.in-Ok.ensures.stack

pub returns-in-Ok-clause-exact : goal.returns-in-Ok-clause-exact
returns-in-Ok-clause-exact c = λ m.
    let h = held_by c.args.replica.now c.args.next.now c.args.names.now in
    let all = behind_left c.args.from.now.items c.truncate.new.self.items c.len-n.result c.index.result.now (omega arith) (omega (arith, c.requires.some)) c.index.ensures c.truncate.ensures.items in
    steps_once m h _ _ _ c.args.to.now.items c.take_back.new.other.items c.index.result.now all c.in-Ok.ensures.fits c.in-Ok.ensures.held c.in-Ok.ensures.stack

pub returns-in-Err-clause-refused : goal.returns-in-Err-clause-refused
returns-in-Err-clause-refused c = λ u m.
    let h = held_by c.args.replica.now c.args.next.now c.args.names.now in
    let x = c.index.result.now in
    let all = behind c.args.from.now.items c.len-n.result x (omega arith) (omega (arith, c.requires.some)) c.index.ensures in
    steps_stop m c.in-Err.error h _ _ _ _ _ x all (taken_stop c.in-Err.error h x.piece _ x.group c.args.to.now.items c.take_back.new.other.items u c.in-Err.ensures.fault c.in-Err.ensures.part)

pub returns-in-Ok-clause-edits : goal.returns-in-Ok-clause-edits
returns-in-Ok-clause-edits c = λ m.
    let h = held_by c.args.replica.now c.args.next.now c.args.names.now in
    let all = behind_left c.args.from.now.items c.truncate.new.self.items c.len-n.result c.index.result.now (omega arith) (omega (arith, c.requires.some)) c.index.ensures c.truncate.ensures.items in
    once_edits m h _ _ _ c.index.result.now c.args.changes.now.items c.take_back.new.changes.items all c.in-Ok.ensures.fits c.in-Ok.ensures.held c.in-Ok.ensures.changes

pub returns-in-Err-clause-refused_edits : goal.returns-in-Err-clause-refused_edits
returns-in-Err-clause-refused_edits c = λ u m.
    let h = held_by c.args.replica.now c.args.next.now c.args.names.now in
    let x = c.index.result.now in
    let all = behind c.args.from.now.items c.len-n.result x (omega arith) (omega (arith, c.requires.some)) c.index.ensures in
    let left = taken_stop c.in-Err.error h x.piece _ x.group c.args.to.now.items c.take_back.new.other.items u c.in-Err.ensures.fault c.in-Err.ensures.part in
    stop_edits m c.in-Err.error h _ _ _ _ _ x c.args.changes.now.items c.take_back.new.changes.items all left (c.in-Err.ensures.edits u)
