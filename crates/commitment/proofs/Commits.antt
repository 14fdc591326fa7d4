-- The laws of a day's self-commitment hold.
use Rattle.std.proofs.Common.{ℕ, ◌+◌, ◌-◌, ◌<◌, ◌≤◌, Bool, ◌&&◌, ◌⊎◌, List, length, refl, inl, inr, ⊎_elim, arith}
use Rattle.std.proofs.lemmas.Bool.{cond_both}
use Rattle.commitment.specs.declared.stretch.Stretch.{Stretch}
use Rattle.commitment.specs.Stretches.{covers}
use Rattle.commitment.specs.Commitment.{limit_of, after_mrt, after_mdt, joins}
use Rattle.commitment.specs.StretchLaws.{In}
use Rattle.commitment.specs.CommitmentLaws.{Flagged, HeldOn, Between, JoinedDown, SelfCommitted}
use Rattle.commitment.proofs.Holding.{held_rising, flagged-held, held_explained, held_long}
use Rattle.commitment.proofs.Fills.{Fills, fills_rising, fills_in, fills_reach, bridged-fills, bridged-apart}
use Rattle.commitment.proofs.Joins.{joins-down, down_few, joins_in, joins_reach}

module _ (mrt mdt mds : ℕ) (carried : Bool) (flags : List Bool) where
  -- the periods after steps 1 and 2, how many may remain, and how many joins that takes
  abbrev held : List Stretch
  held = after_mrt mrt flags

  abbrev apart : List Stretch
  apart = after_mdt mrt mdt flags

  abbrev limit : ℕ
  limit = limit_of mds carried apart

  abbrev surplus : ℕ
  surplus = length apart - limit

  bridges : Fills (λ g. g < mdt) held apart
  bridges = bridged-fills mdt held

  belongs : (h : ℕ) → Flagged flags h → In (joins surplus apart) h
  belongs h f =
      let rising = held_rising mrt flags in
      joins_in surplus 1 apart (fills_rising bridges 1 rising) h (fills_in bridges 1 rising h (flagged-held mrt flags h f))

  -- step by step, the reason why an hour belongs
  abbrev Reason : ℕ → Type 0
  Reason h = Flagged flags h ⊎ (HeldOn mrt held h ⊎ (Between (λ g. g < mdt) held h ⊎ Between (λ _. Unit {0}) apart h))

  held-reason : (h : ℕ) → In held h → Reason h
  held-reason h i = ⊎_elim inl (λ on. inr (inl on)) (held_explained mrt flags h i)

  apart-reason : (h : ℕ) → In apart h → Reason h
  apart-reason h i = ⊎_elim (held-reason h) (λ b. inr (inr (inl b))) (fills_reach (λ g. g < mdt) h bridges (inl i))

  reason : (h : ℕ) → In (joins surplus apart) h → Reason h
  reason h i = ⊎_elim (apart-reason h) (λ b. inr (inr (inr b))) (joins_reach surplus apart h (inl i))

  down : 1 ≤ mds → JoinedDown limit apart (joins surplus apart)
  down l =
      let some : 1 ≤ limit = cond_both (carried && covers apart 1) (mds + 1) mds (λ n. 1 ≤ n) (λ _. omega arith) (λ _. l) in
      joins-down limit some surplus apart refl

  pub self_committed : 1 ≤ mds → SelfCommitted mrt mdt mds carried flags
  self_committed l = record {
    flagged_hours_belong = belongs;
    others_have_a_reason = reason;
    long_enough = held_long mrt flags;
    far_apart = bridged-apart mdt held;
    joined_down = down l;
    few_remain = down_few (down l);
  }
