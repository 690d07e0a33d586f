pub mod Examples
pub mod Roots
