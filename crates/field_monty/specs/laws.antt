pub mod Quartic
pub mod QuarticField
pub mod QuarticResidues
pub mod Montgomery
pub mod BabyBear
pub mod KoalaBear
pub mod Four
pub mod Lanes
