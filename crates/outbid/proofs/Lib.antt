pub mod Laws
pub mod Turn
