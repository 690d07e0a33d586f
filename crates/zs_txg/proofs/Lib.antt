pub mod Entries
pub mod Slots
pub mod LateLaws
pub mod Sums
pub mod Walk
pub mod Order
