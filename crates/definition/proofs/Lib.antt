pub mod Cases
pub mod Found
pub mod Inside
pub mod Next
pub mod Firsts
