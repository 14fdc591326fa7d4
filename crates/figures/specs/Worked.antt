-- The cases that are worked by hand in the rules, as one fact.
use Rattle.sharing.specs.WorkedShares.{WorkedShares}
use Rattle.tariff.specs.Worked.{Worked}

pub record WorkedCases : Type 0 where
  pub rounding_periods_and_uplift : Worked
  pub shares : WorkedShares
