pub mod Closures
pub mod Picking
