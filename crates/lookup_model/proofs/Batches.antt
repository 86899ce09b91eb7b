-- Batches of AIRs: which faults one has, that its plain witness is the only satisfied one where no
-- denominator vanishes, and that its terminals sum to zero where its messages balance.
pub mod Accepted
pub mod OnlyWitness
pub mod Rekeyed
pub mod SentFacts
pub mod SolutionSums
pub mod Succeeds
pub mod TableResults
pub mod Totals
