pub mod Audited
pub mod Audit
pub mod Follows
pub mod Stops
pub mod Steps
pub mod Laws
pub mod Events
