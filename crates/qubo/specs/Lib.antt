pub mod Formula
pub mod Table
pub mod Norm
pub mod Terms
pub mod Rows
pub mod Best
pub mod Instance
pub mod Decoding
