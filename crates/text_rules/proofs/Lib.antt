-- Reading what was written, the grammar as trees, and tables of texts.
pub mod TextTable
pub mod TextScan
pub mod TextTerms
pub mod TextRead
pub mod TextTrees
pub mod TextRuns
