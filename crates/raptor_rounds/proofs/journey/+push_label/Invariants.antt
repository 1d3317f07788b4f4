use Rattle.raptor_rounds.proofs.journey.+push_label.Given as goal

abbrev pub decreases-push_label : goal.decreases-push_label
decreases-push_label g l = l.label
