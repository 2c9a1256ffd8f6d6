pub mod Order
pub mod Altered
pub mod Graph
pub mod Degree
pub mod Walk
pub mod Total
pub mod Halving
pub mod Alike
