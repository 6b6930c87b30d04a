pub mod CutLaws
pub mod CharacterLaws
