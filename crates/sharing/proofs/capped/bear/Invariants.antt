use Rattle.sharing.proofs.capped.bear.Given as goal

abbrev pub ghost-pro_rata : goal.ghost-pro_rata
ghost-pro_rata a = λ r. r.deviation
