pub mod Digits
pub mod FrontLaws
pub mod Left
pub mod OctetLaws
pub mod Positions
pub mod Signs
pub mod WordLaws
