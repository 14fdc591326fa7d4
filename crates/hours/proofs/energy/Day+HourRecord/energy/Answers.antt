use Rattle.std.proofs.Common.{Option, None, ℤ, pos, ap, arith, rules, tests}
use Rattle.std.specs.List.{zip}
use Rattle.std.proofs.lemmas.Iterator.{YieldsList-from_slice, YieldsList-from_map, YieldsList-from_zip}
use Rattle.std.proofs.lemmas.Iterator.Consumers.{fold_from_yields_List}
use Rattle.std.proofs.lemmas.Slice.Zip.{length-zip, get_or-zip}
use Rattle.hours.specs.declared.records.HourRecord.{HourRecord}
use Rattle.hours.specs.declared.records.Price.{Price}
use Rattle.money.proofs.Sums.{held}
use Rattle.hours.specs.Days.{counted, price_or0, record_at, price_at}
use Rattle.hours.specs.Energy.{hour_energy, energy_at}
use Rattle.hours.proofs.Sizes.{energy_size}
use Rattle.hours.proofs.Sums.{held_day}
use Rattle.hours.proofs.energy.Day+HourRecord.energy.Goals as goal

abbrev slot_energy : Option HourRecord × Option Price → ℤ
slot_energy p = hour_energy (counted p.0) (price_or0 p.1)

pub returns : goal.returns
returns c =
    let slots = c.args.self.now.slots in
    let prices = c.args.prices.now.slots in
    let all = held_day (energy_at slots prices) 60000000 (λ i. energy_size (record_at slots i) (price_at prices i)) (omega arith) slot_energy (None, None)
    (zip slots prices) (omega (arith, length-zip slots prices)) (λ i h. ap slot_energy (get_or-zip slots prices i (None, None) (omega arith) (omega arith)))
    c.fold.result (record { sfits = c.fold.type_inv }) (fold_from_yields_List _ held (pos 0) c.fold.result c.fold.ensures.ran
    (YieldsList-from_map _ slot_energy (YieldsList-from_zip (YieldsList-from_slice slots cc) (YieldsList-from_slice prices cc)) c.map.ensures.closure (λ x r q k. search (rules, tests)))
    (λ a x b q k. search rules)) in
    record { value = all.0; bound = all.1 }
