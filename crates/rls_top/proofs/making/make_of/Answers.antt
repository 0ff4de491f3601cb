use Rattle.std.proofs.Common.{Ok, rules}
use Rattle.rls_codec.specs.Reading.{message_of}
use Rattle.rls_script.specs.Scripts.{script_of}
use Rattle.rls_top.specs.declared.stages.InputError.TheVariants.{SourceFault}
use Rattle.rls_top.specs.Due.{due_of_message, due_of_script}
use Rattle.rls_top.proofs.Answered.{input_due}
use Rattle.rls_top.proofs.Pieces.{ok_is_not_err}
use Rattle.rls_top.proofs.making.make_of.Goals as goal
use Rattle.rls_top.proofs.making.make_of.Goals.{in-Text+in_ok-made-in-Text, in-Ids+in_ok-made-in-Ids, in-Stat+in_ok-made-in-Stat, in-Send+in_ok-made-in-Send, in-Leave+in_ok-made-in-Leave, in-Edit+in_ok-script-in-Edit+in_ok-made-in-Edit, in-Take+in_ok-message-in-Take+in_ok-made-in-Take}

pub returns-clause-came : goal.returns-clause-came
returns-clause-came g c = elim c.match-command.branch [
  | in-Text+in_ok-made-in-Text w ↦ search rules
  | in-Ids+in_ok-made-in-Ids w ↦ search rules
  | in-Stat+in_ok-made-in-Stat w ↦ search rules
  | in-Send+in_ok-made-in-Send w ↦ search rules
  | in-Leave+in_ok-made-in-Leave w ↦ search rules
  | in-Edit+in_ok-script-in-Edit+in_ok-made-in-Edit w ↦
      rw (w.in-Edit.is, w.input-is, w.made-is) (λ reads. input_due g.S.Source.read_gives c.args.input.now w.read.new.input (λ bytes. due_of_script c.args.replica.now (script_of bytes)) w.in_ok-script-in-Edit.script.items
      (Ok w.in_ok-made-in-Edit.made) w.in_ok-script-in-Edit.ensures.came w.in_ok-made-in-Edit.ensures.due (ok_is_not_err w.in_ok-made-in-Edit.made SourceFault))
  | in-Take+in_ok-message-in-Take+in_ok-made-in-Take w ↦
      rw (w.in-Take.is, w.input-is, w.made-is) (λ reads. input_due g.S.Source.read_gives c.args.input.now w.read-in-Take.new.input (λ bytes. due_of_message c.args.replica.now (message_of bytes)) w.in_ok-message-in-Take.message.items
      (Ok w.in_ok-made-in-Take.made) w.in_ok-message-in-Take.ensures.came w.in_ok-made-in-Take.ensures.due (ok_is_not_err w.in_ok-made-in-Take.made SourceFault))
]
