-- A capped tier keeps the share law over any rule that keeps it.
--
--   rest   what the own amounts leave of a total
use Rattle.std.specs.Prelude.{◌≡◌, ℕ, ◌-◌, ◌+◌, ◌<◌, ◌≤◌, min, List, length, sum, slice_index, slice_index_or, refl}
use Rattle.std.proofs.Common.{sym, ap, ap₂, ◌∙◌, arith}
use Rattle.std.proofs.lemmas.List.{length-map, get_or-map}
use Rattle.std.proofs.lemmas.Int.{ints}
use Rattle.sharing.specs.declared.rows.MemberRow.{MemberRow}
use Rattle.sharing.specs.Rows.{deviations}
use Rattle.sharing.specs.Admission.{Due}
use Rattle.sharing.specs.ShareLaw.{Fair}
use Rattle.sharing.specs.ProRata.{pro_rata}
use Rattle.sharing.specs.Rules.{cap, caps, own_amounts, capped}
use Rattle.sharing.specs.Both.{length_both, get_or-both, sum_both, sum_lesser}
use Rattle.sharing.specs.Quotients.{length-pro_rata, pro_rata-within, pro_rata-idle}

pub due_less : (t s : ℕ) (rows : List MemberRow) → s ≤ t → Due t rows → Due s rows
due_less t s rows h due = record {
  total_in_range = omega (arith, due.total_in_range);
  few_rows = due.few_rows;
  demand_in_range = due.demand_in_range;
  deviation_in_range = due.deviation_in_range;
  somebody_bears = λ above. due.somebody_bears (omega (arith, above));
}

module _ (rate : ℕ) (rows : List MemberRow) where
  pub length-caps : length (caps rate rows) ≡ length rows
  length-caps = length-map (deviations rows) (cap rate) ∙ length-map rows (λ (r : MemberRow). r.deviation)

  pub get_or-caps : (i : ℕ) (d : MemberRow) → i < length rows → slice_index (caps rate rows) i ≡ cap rate (slice_index_or rows i d).deviation
  get_or-caps i d h =
      let long = length-map rows (λ (r : MemberRow). r.deviation) in
      get_or-map (cap rate) (deviations rows) i 0 0 (omega arith) ∙ ap (cap rate) (get_or-map (λ (r : MemberRow). r.deviation) rows i d 0 h)

module _ (rate total : ℕ) (rows : List MemberRow) where
  one-cap-each : length (pro_rata total (deviations rows)) ≡ length (caps rate rows)
  one-cap-each = length-pro_rata total (deviations rows) ∙ sym (length-map (deviations rows) (cap rate))

  pub length_own : length (own_amounts rate total rows) ≡ length rows
  length_own =
      length_both min (pro_rata total (deviations rows)) (caps rate rows) one-cap-each ∙ one-cap-each ∙ length-caps rate rows

  pub own_within : sum (own_amounts rate total rows) ≤ total
  own_within = omega (arith, sum_lesser (pro_rata total (deviations rows)) (caps rate rows), pro_rata-within total (deviations rows))

  own_idle : (k : ℕ) → slice_index (deviations rows) k ≡ 0 → slice_index (own_amounts rate total rows) k ≡ 0
  own_idle k none =
      omega (arith, get_or-both min (pro_rata total (deviations rows)) (caps rate rows) one-cap-each refl k, pro_rata-idle total (deviations rows) k none)

  abbrev pub rest : ℕ
  rest = total - sum (own_amounts rate total rows)

  pub capped_fair : (below : ℕ → List MemberRow → List ℕ) → Fair rest rows (below rest rows) → Fair total rows (capped rate below total rows)
  capped_fair below fair =
      let own = own_amounts rate total rows in
      let others = below rest rows in
      let same : length own ≡ length others = length_own ∙ sym fair.as_many in
      record {
        as_many = length_both ◌+◌ own others same ∙ length_own;
        adds_up = omega (arith, sum_both own others same, fair.adds_up, own_within);
        nobody_below_zero = λ k. omega (arith, ints);
        idle_bear_nothing = λ k a b. get_or-both ◌+◌ own others same refl k ∙ ap₂ ◌+◌ (own_idle k b) (fair.idle_bear_nothing k a b);
      }
