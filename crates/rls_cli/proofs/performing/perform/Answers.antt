use Rattle.std.proofs.Common.{◌≡◌, ◌∙◌, true, false, sym}
use Rattle.rls_cli.proofs.Ending.{command_ending, session_ending}
use Rattle.rls_cli.proofs.performing.perform.Goals as goal

pub returns-then-begins_session : goal.returns-then-begins_session
returns-then-begins_session g c = record { ends = session_ending (sym c.begins_session.ensures.session ∙ c.if-begins_session.true) c.serve.ensures.ends; performs = λ isnt. absurd (let never : true ≡ false = sym (sym c.begins_session.ensures.session ∙ c.if-begins_session.true) ∙ isnt in cc); serves = λ is. c.serve.ensures.performs }

pub returns : goal.returns
returns g c = record { ends = command_ending (sym c.begins_session.ensures.session ∙ c.if-begins_session.false) c.run.ensures.ends; performs = λ isnt. c.run.ensures.performs; serves = λ is. absurd (let never : true ≡ false = sym is ∙ (sym c.begins_session.ensures.session ∙ c.if-begins_session.false) in cc) }
