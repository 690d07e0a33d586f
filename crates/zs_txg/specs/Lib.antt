pub mod Txg
pub mod Late
