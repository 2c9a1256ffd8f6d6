pub mod Formula
pub mod Plans
pub mod Repair
pub mod Instance
