pub mod SymbolLaws
