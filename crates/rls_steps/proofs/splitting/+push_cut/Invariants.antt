use Rattle.rls_steps.proofs.splitting.+push_cut.Given as goal

abbrev pub decreases-push_cut : goal.decreases-push_cut
decreases-push_cut l = l.more
