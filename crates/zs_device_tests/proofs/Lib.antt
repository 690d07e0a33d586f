pub mod TestSets
pub mod ThreeLanes
