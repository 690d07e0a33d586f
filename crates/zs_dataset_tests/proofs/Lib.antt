pub mod OneHead
pub mod Examples
pub mod Roots
