pub mod Links
pub mod Survey
