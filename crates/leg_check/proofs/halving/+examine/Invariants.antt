use Rattle.leg_check.proofs.halving.+examine.Given as goal

abbrev pub decreases-examine : goal.decreases-examine
decreases-examine g l = l.piece.half
