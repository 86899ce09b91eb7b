-- Counts: all but few betas leave few alphas at which a batch that does not balance is accepted.
pub mod AcceptingAlphas
pub mod BetaPolynomials
pub mod DistinctLists
pub mod JointPairs
pub mod LawfulFlags
pub mod LawfulKeys
pub mod LinearBound
pub mod MessageNumbers
pub mod Numbers
pub mod NumeratorPolynomials
pub mod SharingBetas
pub mod Soundness
