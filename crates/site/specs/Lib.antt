pub mod Layout
pub mod Image
pub mod Refusal
pub mod Edits
pub mod Reading
pub mod Inner
