pub mod Access
pub mod Notification
pub mod Found
