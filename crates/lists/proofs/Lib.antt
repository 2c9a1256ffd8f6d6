pub mod Tests
pub mod Sums
pub mod Members
pub mod Stores
pub mod Walks
pub mod Rest
