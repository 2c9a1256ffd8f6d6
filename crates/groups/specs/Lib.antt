pub mod Sizes
pub mod Formula
pub mod Plans
pub mod Instance
