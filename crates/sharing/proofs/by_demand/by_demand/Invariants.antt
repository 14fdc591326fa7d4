use Rattle.sharing.proofs.by_demand.by_demand.Given as goal

abbrev pub ghost-pro_rata : goal.ghost-pro_rata
ghost-pro_rata a = λ r. r.demand
