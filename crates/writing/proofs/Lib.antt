pub mod TextParts
pub mod LiteralLaws
pub mod LengthLaws
pub mod DeckLaws
pub mod PublicWriting
pub mod SumLaws
