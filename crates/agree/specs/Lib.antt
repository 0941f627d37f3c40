pub mod Translation
pub mod Picture
pub mod Laws
pub mod Agreement
