mod Keep
mod Set
pub mod GoingOn
