pub mod Formula
pub mod Plans
pub mod Decoding
pub mod Best
pub mod Instance
pub mod Inner
