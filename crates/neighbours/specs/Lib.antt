pub mod Formula
pub mod Inner
