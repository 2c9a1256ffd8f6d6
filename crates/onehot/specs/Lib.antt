pub mod Choices
pub mod Inner
