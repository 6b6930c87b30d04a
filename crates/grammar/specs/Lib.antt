pub mod Rule
pub mod Grammar
pub mod Answer
pub mod Derivation
pub mod Automaton
pub mod Table
pub mod Allowed
pub mod Reading
