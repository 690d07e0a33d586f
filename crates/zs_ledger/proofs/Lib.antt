pub mod Agrees
pub mod Births
