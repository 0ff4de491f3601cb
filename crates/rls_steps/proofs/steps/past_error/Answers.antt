use Rattle.rls_steps.proofs.steps.past_error.Goals as goal

pub returns-in-Dropped-clause-dropped : goal.returns-in-Dropped-clause-dropped
returns-in-Dropped-clause-dropped c = λ e. (λ h. (cc), λ h. (cc))

pub returns-in-OutOfMemory-clause-dropped : goal.returns-in-OutOfMemory-clause-dropped
returns-in-OutOfMemory-clause-dropped c = λ e. (λ h. (cc), λ h. (cc))
