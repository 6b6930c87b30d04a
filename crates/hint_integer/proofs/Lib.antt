pub mod FormLaws
pub mod SignedLaws
