-- The words that runs leave: those of the answers, and those at the start of the store. The tables' runs once more, word by word.
use Prim.Native.Nat.{ℕ}
use mathlib.Core.Path.{◌≡◌, refl}
use mathlib.Core.List.{List, [], ◌∷◌, ◌++◌, map}
use Rattle.rules.specs.Refusals.{Checked}
use Rattle.rules.specs.Evaluation.{Outcome}
use Rattle.rules.specs.Run.{answers_after, store_start}
use Rattle.rules.specs.All.{rules}
use Rattle.rules.proofs.Cases.{Case, Line, shown, outcome_of, words_of_run}
use Rattle.rules.proofs.Table.{starred}
use Rattle.rules.proofs.MoreRuns.{nested, more}

-- The answers' words, then the store's.
pub data Words : Type 0 where
  words : List ℕ → List ℕ → Words

abbrev pub words_left : Checked Outcome → Words
words_left c = words (words_of_run (λ o. answers_after o []) c) (words_of_run store_start c)

abbrev pub leaves : Case → Words
leaves c = words_left (outcome_of c)

-- A case with the words that its run is to leave; what the run shows and leaves; what it is to show and to leave.
pub record Row : Type 0 where
  pub run : Case
  pub left : Words

abbrev pub row : Case → Words → Row
row c ws = record { run = c; left = ws }

pub data Shown : Type 0 where
  both : Checked Line → Words → Shown

abbrev pub shows_and_leaves : Checked Outcome → Shown
shows_and_leaves c = both (shown c) (words_left c)

abbrev pub found : Row → Shown
found r = shows_and_leaves (outcome_of r.run)

abbrev pub wanted : Row → Shown
wanted r = both r.run.expected r.left

-- Budget 13: the answer b. Budget 12: b, not yet listed. Budgets 8 and 7: both goals, each with its "not". Budget 4: the body. Budget 0: the first goal.
-- Then nothing, the empty query's answer, nothing, the answer of a query without variables, nothing.
pub starred-words :
    map leaves starred
    ≡ words (3 ∷ 1 ∷ 1 ∷ []) []
    ∷ words [] (3 ∷ 1 ∷ 1 ∷ [])
    ∷ words [] (5 ∷ 1 ∷ 0 ∷ 16387 ∷ 0 ∷ 5 ∷ 1 ∷ 1 ∷ 16387 ∷ 1 ∷ [])
    ∷ words [] (5 ∷ 1 ∷ 0 ∷ 16387 ∷ 0 ∷ 5 ∷ 1 ∷ 1 ∷ 16387 ∷ 1 ∷ [])
    ∷ words [] (7 ∷ 1 ∷ 32768 ∷ 2 ∷ 32768 ∷ 16387 ∷ 32768 ∷ [])
    ∷ words [] (5 ∷ 1 ∷ 32768 ∷ 4 ∷ 32768 ∷ [])
    ∷ words [] []
    ∷ words (2 ∷ 0 ∷ []) []
    ∷ words [] []
    ∷ words (2 ∷ 0 ∷ []) []
    ∷ words [] []
    ∷ []
unfolding rules
starred-words = refl

-- In the order of `more`: the undecided goal, with mark 2; f(a); nothing; the goal itself with mark 3, or as it was; the answer that fitted and the goal that did not;
-- the goals as they were before the step that did not fit, and the oversized one after the pending one; the goals as they were before their "not".
pub more-words :
    map leaves more
    ≡ words [] (8195 ∷ 0 ∷ 16384 ∷ [])
    ∷ words (4 ∷ 2 ∷ 0 ∷ 3 ∷ []) []
    ∷ words [] []
    ∷ words [] (12392 ∷ 0 ∷ 2 ∷ nested 100)
    ∷ words [] (104 ∷ 0 ∷ 2 ∷ nested 100)
    ∷ words (3 ∷ 1 ∷ 0 ∷ []) (3 ∷ 1 ∷ 1 ∷ [])
    ∷ words [] (407 ∷ 1 ∷ 32768 ∷ 2 ∷ 32768 ∷ 3 ∷ nested 400)
    ∷ words [] ((344 ∷ 0 ∷ 4 ∷ nested 340) ++ (12632 ∷ 0 ∷ 3 ∷ nested 340))
    ∷ words [] ((483 ∷ 0 ∷ 16387 ∷ nested 479) ++ (483 ∷ 0 ∷ 16387 ∷ nested 479))
    ∷ words [] (344 ∷ 0 ∷ 16389 ∷ nested 340)
    ∷ words (2 ∷ 0 ∷ []) []
    ∷ words [] (3 ∷ 0 ∷ 16385 ∷ [])
    ∷ words [] []
    ∷ words [] []
    ∷ []
unfolding rules
more-words = refl
