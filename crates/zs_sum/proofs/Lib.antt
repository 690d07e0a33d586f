pub mod Fields
pub mod Faultless
pub mod Pointers
