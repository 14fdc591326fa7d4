use Rattle.sharing.proofs.admission.admit.Given as goal

abbrev pub ghost-weigh : goal.ghost-weigh
ghost-weigh a = λ r. r.demand

abbrev pub ghost-weigh-2 : goal.ghost-weigh-2
ghost-weigh-2 a = λ r. r.deviation
