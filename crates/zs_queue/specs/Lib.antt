pub mod Waiting
pub mod Kept
pub mod Order
pub mod Lists
pub mod Lowest
pub mod Start
