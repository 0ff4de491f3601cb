use Rattle.std.proofs.Common.{ℕ, Err, None, Ok, Option, Some, refl, subst, sym}
use Rattle.rls_report.specs.declared.failures.Failure.{Failure}
use Rattle.rls_report.specs.declared.failures.Failure.TheVariants.{NoCommand}
use Rattle.rls_top.specs.declared.words.Command.{Command}
use Rattle.rls_top.specs.Answered.{Performs}
use Rattle.rls_top.specs.Due.{due_of_words}
use Rattle.rls_top.specs.Stages.{IsStatusOf, of_make}
use Rattle.rls_top.proofs.Answered.{made_performs, stopped_performs}
use Rattle.rls_top.proofs.Closing.{finished_ends, unmade_ends}
use Rattle.rls_top.proofs.command.perform.Goals as goal

pub returns-in-None-clause-performs : goal.returns-in-None-clause-performs
returns-in-None-clause-performs g c =
    let k = c.args.keeper.now in
    let i = c.args.input.now in
    let o = c.args.output.now in
    let Ends : Option Command → Type 0 = λ words. (n : ℕ) → IsStatusOf (Err NoCommand) n → Performs g.K.Keeper.load_gives g.K.Keeper.store_gives g.S.Source.read_gives g.W.Sink.write_gives (due_of_words words) n k k i i o o in
    subst Ends c.in-None.ensures.command (λ n s. stopped_performs g.K.Keeper.load_gives g.K.Keeper.store_gives g.S.Source.read_gives g.W.Sink.write_gives (due_of_words None) n NoCommand k k i i o (record { file = None; found = refl; left = None; came = refl; is_due = refl }) s)

pub returns-in-Err : goal.returns-in-Err
returns-in-Err g c =
    let k = c.args.keeper.now in
    let l = c.make.new.keeper in
    let i = c.args.input.now in
    let j = c.make.new.input in
    let o = c.args.output.now in
    let Ends : Option Command → Failure → Type 0 = λ words f. (n : ℕ) → IsStatusOf (Err f) n → Performs g.K.Keeper.load_gives g.K.Keeper.store_gives g.S.Source.read_gives g.W.Sink.write_gives (due_of_words words) n k l i j o o in
    record {
      ends = rw (← c.in-Some.ensures.command, c.from.ensures) (unmade_ends c.in-Some.command c.in-Err.error k l i j o c.in-Err.ensures.ends);
      performs = subst (λ (words : Option Command). Ends words c.from.result) c.in-Some.ensures.command (subst (λ (f : Failure). Ends (Some c.in-Some.command) f) (sym c.from.ensures)
          (λ n s. stopped_performs g.K.Keeper.load_gives g.K.Keeper.store_gives g.S.Source.read_gives g.W.Sink.write_gives (due_of_words (Some c.in-Some.command)) n (of_make c.in-Err.error) k l i j o c.in-Err.ensures.came s));
    }

pub returns-in-Err-finish : goal.returns-in-Err-finish
returns-in-Err-finish g c =
    let k = c.args.keeper.now in
    let m = c.finish.new.keeper in
    let i = c.args.input.now in
    let j = c.make.new.input in
    let o = c.args.output.now in
    let p = c.finish.new.output in
    let Ends : Option Command → Failure → Type 0 = λ words f. (n : ℕ) → IsStatusOf (Err f) n → Performs g.K.Keeper.load_gives g.K.Keeper.store_gives g.S.Source.read_gives g.W.Sink.write_gives (due_of_words words) n k m i j o p in
    record {
      ends = rw (← c.in-Some.ensures.command, c.from-in-Err-finish.ensures) (finished_ends c.in-Some.command c.in-Ok.made (Err c.in-Err-finish.error) k c.make.new.keeper m i j o p c.in-Ok.ensures.ends c.in-Err-finish.ensures.ends);
      performs = subst (λ (words : Option Command). Ends words c.from-in-Err-finish.result) c.in-Some.ensures.command (subst (λ (f : Failure). Ends (Some c.in-Some.command) f) (sym c.from-in-Err-finish.ensures)
          (λ n s. made_performs g.K.Keeper.load_gives g.K.Keeper.store_gives g.S.Source.read_gives g.W.Sink.write_gives (due_of_words (Some c.in-Some.command)) n c.in-Ok.made (Err c.in-Err-finish.error) k c.make.new.keeper m i j o p c.in-Ok.ensures.came c.in-Err-finish.ensures.stores c.in-Err-finish.ensures.wrote s));
    }

pub returns-in-Ok-finish : goal.returns-in-Ok-finish
returns-in-Ok-finish g c =
    let k = c.args.keeper.now in
    let m = c.finish.new.keeper in
    let i = c.args.input.now in
    let j = c.make.new.input in
    let o = c.args.output.now in
    let p = c.finish.new.output in
    let Ends : Option Command → Type 0 = λ words. (n : ℕ) → IsStatusOf (Ok c.in-Ok.made) n → Performs g.K.Keeper.load_gives g.K.Keeper.store_gives g.S.Source.read_gives g.W.Sink.write_gives (due_of_words words) n k m i j o p in
    record {
      ends = rw (← c.in-Some.ensures.command) (finished_ends c.in-Some.command c.in-Ok.made (Ok tt) k c.make.new.keeper m i j o p c.in-Ok.ensures.ends c.in-Ok-finish.ensures.ends);
      performs = subst Ends c.in-Some.ensures.command
          (λ n s. made_performs g.K.Keeper.load_gives g.K.Keeper.store_gives g.S.Source.read_gives g.W.Sink.write_gives (due_of_words (Some c.in-Some.command)) n c.in-Ok.made (Ok tt) k c.make.new.keeper m i j o p c.in-Ok.ensures.came c.in-Ok-finish.ensures.stores c.in-Ok-finish.ensures.wrote s);
    }
