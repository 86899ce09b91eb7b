-- Lookups: their faults and flags, their plain result, nets of keys, and that the plain result
-- satisfies the constraints.
pub mod FractionSums
pub mod KeyLaws
pub mod LookupFaults
pub mod PlainResults
pub mod Regrouping
pub mod Rows
pub mod RunningSums
pub mod SatisfiedFractions
pub mod SatisfiedRows
pub mod SatisfiedWitnesses
pub mod Selections
pub mod Selectors
pub mod SentRows
pub mod Terminals
