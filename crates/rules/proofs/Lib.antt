-- Tables of runs.
pub mod Cases
pub mod Table
pub mod MoreRuns
pub mod CostRuns
pub mod IndexTable
-- Lists and terms.
pub mod ListLaws
pub mod TermLaws
pub mod NumberingLaws
-- Reading and writing.
pub mod CellLaws
pub mod ForwardLaws
pub mod GoalLaws
pub mod SymbolLaws
pub mod DeckLaws
pub mod FormatOne
pub mod DeckWords
pub mod FirstGoal
-- Drill terms.
pub mod DrillLaws
-- Unification, selection, and the evaluation's equations.
pub mod UnifyLaws
pub mod SelectLaws
pub mod IndexLaws
pub mod NextLaws
pub mod LevelLaws
pub mod EndLaws
-- What every goal of a run is.
pub mod Keeps
pub mod FormedLaws
pub mod GoalsKept
-- Demand 3.
pub mod Existence
pub mod Values
pub mod UnifySound
pub mod Renaming
pub mod ResolventSound
pub mod LevelSound
pub mod Cover
pub mod Continued
pub mod Demand3
-- Open goals in a store.
pub mod StoredLaws
pub mod CarryTable
pub mod Carried
-- Previews.
pub mod CopyLaws
pub mod PreviewRuns
-- Columns.
pub mod MeanLaws
pub mod ColumnLaws
pub mod ColumnRuns
-- Presses.
pub mod PressList
pub mod PressTable
pub mod PressLaws
pub mod Limits
pub mod Presses
pub mod PressWords
pub mod PressedQuery
-- What a run passes on every level.
pub mod PassLaws
-- Loose variables.
pub mod OccursLaws
pub mod TightLaws
pub mod TightRuns
-- Which rules rest on which.
pub mod RankLaws
pub mod RankSearch
pub mod RankTelling
pub mod RankRuns
-- Closed sites.
pub mod Reach
pub mod SameDecks
pub mod ClosedSites
pub mod SamePresses
pub mod MemberRuns
pub mod ClosedRuns
pub mod RightsTable
-- Both formats of a deck in runs.
pub mod FormatRuns
-- The tests on cells, and on the decks of the tables.
pub mod FlatLaws
pub mod DeckCases
pub mod GrowingRun
pub mod RankTable
-- Three values.
pub mod ValueLaws
pub mod Fitting
pub mod ThreeCover
pub mod Contradiction
pub mod Needed
-- Runs that pin the rules: the words left, the order of things, the bounds, the checks, the listing and the programs.
pub mod WordRuns
pub mod SearchRuns
pub mod StoreRuns
pub mod RefusalRuns
pub mod ListingRuns
pub mod DrillRuns
pub mod FormatTable
pub mod PreviewTable
