use Rattle.certificate_check.proofs.tests.optima_alone_are_entered.Goals as goal

pub verdict-forgotten-requires : goal.verdict-forgotten-requires
verdict-forgotten-requires g c = c.forget.ensures.forgotten c.in_ok-w.w.query c.in_ok-w.w.stats
