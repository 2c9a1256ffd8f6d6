pub mod Arcs
pub mod Formula
pub mod Sums
pub mod Inner
