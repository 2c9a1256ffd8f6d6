pub mod Kinds
pub mod Refusals
pub mod Answers
pub mod Calls
pub mod Best
pub mod Surveys
pub mod Inner
