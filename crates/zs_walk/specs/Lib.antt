pub mod Walking
pub mod Left
pub mod Laws
