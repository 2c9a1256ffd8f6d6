pub mod Parents
pub mod Spanning
