-- The written rules of texts (document 02, U1), in the order of its sentences.
pub mod TextTokens
pub mod TextGrammar
pub mod TextWords
pub mod TextWriter
pub mod Text
pub mod TextProgram
pub mod All
