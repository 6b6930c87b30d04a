pub mod FaultLaws
pub mod HintLaws
pub mod PieceLaws
