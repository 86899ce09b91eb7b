pub mod Constrained
pub mod EnforcedPlans
pub mod HeightBounds
pub mod PlanRefusals
pub mod Queries
pub mod Weights
