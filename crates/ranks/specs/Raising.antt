-- Ranks by symbol, in words that are raised clause by clause.
use Rattle.std.specs.Prelude.{ℕ, ◌+◌, ◌≤◌, ◌<◌, ◌≡◌, Bool, true, false, length, get_or, set}
use mathlib.Core.List.{List, Memᴰ}
use Rattle.rules.specs.Syntax.{Literal, Clause, predicate_of}
use Rattle.rules.specs.Ranks.{nots, greatest, rests_on, Least, Circular}
use Rattle.ranks.specs.declared.raising.Pass.{Pass}
use Rattle.ranks.specs.declared.raising.Pass.TheVariants.{Same, Raised, Above}

-- The word of a symbol, 0 past the end.
abbrev pub at : List ℕ → ℕ → ℕ
at ws p = get_or ws p 0

-- What a literal comes to: its predicate's word, and one more where it is negated.
abbrev pub number : List ℕ → Literal → ℕ
number ws l = nots l + at ws (predicate_of l)

-- Words that come from others by raising a predicate's word to what a literal in its bodies comes to.
pub data Raises (clauses : List Clause) (start : List ℕ) : List ℕ → Type 0 where
  none : Raises clauses start start
  more : {ws : List ℕ} (p : ℕ) (l : Literal) → Raises clauses start ws → p < length ws → Memᴰ l (rests_on clauses p)
      → at ws p < number ws l → Raises clauses start (set ws p (number ws l))

-- Each predicate's word is at least what those in its bodies came to at the start.
abbrev pub Covers : List Clause → List ℕ → List ℕ → Type 0
Covers clauses start now = (p : ℕ) → greatest (number start) (rests_on clauses p) ≤ at now p

-- Some word was raised.
abbrev pub Rose : List ℕ → List ℕ → Type 0
Rose start now = (p : ℕ) × (at start p < at now p)

-- A literal comes to more than 4,096.
abbrev pub Exceeds : List Clause → List ℕ → Type 0
Exceeds clauses now = (p : ℕ) × (l : Literal) × Memᴰ l (rests_on clauses p) × (p < length now) × (at now p < number now l) × (4096 < number now l)

-- What one clause does: nothing, or one raise.
abbrev pub Stepped : List Clause → Clause → List ℕ → List ℕ → Pass → Type 0
Stepped clauses c start now Same = (now ≡ start) × (greatest (number start) c.body ≤ at now c.predicate)
Stepped clauses c start now Raised = Raises clauses start now × (greatest (number start) c.body ≤ at now c.predicate) × Rose start now
Stepped clauses c start now Above = (now ≡ start) × Exceeds clauses now

-- What a pass over all clauses does.
abbrev pub Passed : List Clause → List ℕ → List ℕ → Pass → Type 0
Passed clauses start now Same = (now ≡ start) × Covers clauses start now
Passed clauses start now Raised = Raises clauses start now × Covers clauses start now × Rose start now
Passed clauses start now Above = Raises clauses start now × Exceeds clauses now

-- All words are 0.
abbrev pub Zero : List ℕ → Type 0
Zero ws = (length ws ≡ 4096) × ((p : ℕ) → at ws p ≡ 0)

-- The least ranks are in the words; or there are none.
abbrev pub RankSays : List Clause → List ℕ → Bool → Type 0
RankSays clauses now true = Least clauses (at now)
RankSays clauses now false = (s : ℕ) × Circular clauses s
