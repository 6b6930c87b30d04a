pub mod Token
pub mod Cut
pub mod Law
pub mod Table
