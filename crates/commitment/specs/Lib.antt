pub mod Stretches
pub mod StretchLaws
pub mod Commitment
pub mod CommitmentLaws
