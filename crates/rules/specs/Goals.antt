-- Goals (document 01, "Goals"): words, marks and lengths; renumbering; the first goal; goals read from the start of a list of words.
use Rattle.std.specs.Prelude.{ℕ, zero, suc, ◌+◌, ◌-◌, ◌*◌, ◌/◌, ◌%◌, Bool, true, false, ◌&&◌, ◌||◌, List, [], ◌∷◌, ◌++◌, length, take, drop, leb, eqb}
use Rattle.std.proofs.Math.Option.{Option, none, some}
use Rattle.rules.specs.Terms.{var, Terms, nil, cons, sizes, renames}
use Rattle.rules.specs.Syntax.{Symbol, Literal, Goal, map_goal, vars_literals, vars_goal}
use Rattle.rules.specs.Cells.{write_terms, write_literals, Row, row, read_row}

-- Marks: 0 pending, 1 floundered, 2 undecided, 3 oversized, 4 deep. A parked goal has one of the last four.
pub data Mark : Type 0 where
  pending floundered undecided oversized deep : Mark

unfoldable pub mark_number : Mark → ℕ
mark_number pending = 0
mark_number floundered = 1
mark_number undecided = 2
mark_number oversized = 3
mark_number deep = 4

-- A goal with its mark.
pub record Marked : Type 0 where
  pub mark : Mark
  pub goal : Goal

abbrev pub marked : Mark → Goal → Marked
marked m g = record { mark = m; goal = g }

-- Goals with mark 0.
abbrev pub unmarked : List Goal → List Marked
unmarked [] = []
unmarked (g ∷ gs) = marked pending g ∷ unmarked gs

-- A goal takes 2 words and its cells.
unfoldable pub goal_cells : Goal → List ℕ
goal_cells g = write_terms g.answer_terms (write_literals g.literals)

unfoldable pub goal_words : Goal → ℕ
goal_words g = 2 + length (goal_cells g)

-- Word 0 is its whole length plus 4,096 × its mark, word 1 is the number of answer-term cells.
unfoldable pub write_goal : Marked → List ℕ
write_goal m = (goal_words m.goal + 4096 * mark_number m.mark) ∷ sizes m.goal.answer_terms ∷ goal_cells m.goal

unfoldable pub write_goals : List Marked → List ℕ
write_goals [] = []
write_goals (m ∷ ms) = write_goal m ++ write_goals ms

-- The words that goals take.
abbrev pub words_of : List Goal → ℕ
words_of [] = 0
words_of (g ∷ gs) = goal_words g + words_of gs

abbrev pub marked_words : List Marked → ℕ
marked_words [] = 0
marked_words (m ∷ ms) = goal_words m.goal + marked_words ms

-- The variables in order of first appearance, after those of `seen`.
unfoldable pub member : ℕ → List ℕ → Bool
member x [] = false
member x (y ∷ ys) = eqb x y || member x ys

unfoldable pub appearing : List ℕ → List ℕ → List ℕ
appearing seen [] = seen
appearing seen (v ∷ vs) = elim (member v seen) [ true ↦ appearing seen vs | false ↦ appearing (seen ++ (v ∷ [])) vs ]

unfoldable pub position : List ℕ → ℕ → ℕ
position [] v = 0
position (x ∷ xs) v = elim (eqb v x) [ true ↦ 0 | false ↦ suc (position xs v) ]

-- Every goal is renumbered by first appearance, answer terms first.
unfoldable pub renumber : Goal → Goal
renumber g = map_goal (renames (position (appearing [] (vars_goal g)))) g

-- The first goal has the query's variables in order as its answer terms, then the query. It is numbered by first appearance as it stands.
unfoldable pub variables : List ℕ → Terms
variables [] = nil
variables (v ∷ vs) = cons (var v) (variables vs)

unfoldable pub query_variables : List Literal → List ℕ
query_variables query = appearing [] (vars_literals query)

unfoldable pub first_goal : List Literal → Goal
first_goal query = record { answer_terms = variables (query_variables query); literals = query }

-- Reading goals is the inverse of writing them, up to 4,095 words: a length is read modulo 4,096. It asks neither for the numbering nor for at most 1,024 words.
unfoldable pub read_mark : ℕ → Option Mark
read_mark zero = some pending
read_mark (suc zero) = some floundered
read_mark (suc (suc zero)) = some undecided
read_mark (suc (suc (suc zero))) = some oversized
read_mark (suc (suc (suc (suc zero)))) = some deep
read_mark (suc (suc (suc (suc (suc n))))) = none

-- A goal that was read, and the words after it.
pub data GoalRead : Type 0 where
  goal_read : Marked → List ℕ → GoalRead

-- The goal of a mark, the number of answer-term cells and what the cells read as.
unfoldable pub as_goal : Option Mark → ℕ → Option Row → List ℕ → Option GoalRead
as_goal none a r rest = none
as_goal (some m) a none rest = none
as_goal (some m) a (some (row ts ls)) rest =
    elim (eqb (sizes ts) a) [ true ↦ some (goal_read (marked m (record { answer_terms = ts; literals = ls })) rest) | false ↦ none ]

unfoldable pub read_goal : List Symbol → List ℕ → Option GoalRead
read_goal symbols [] = none
read_goal symbols (w ∷ []) = none
read_goal symbols (w ∷ a ∷ ws) =
    let n = w % 4096 in
    elim (leb 2 n && leb (n - 2) (length ws)) [
      | true ↦ as_goal (read_mark (w / 4096)) a (read_row symbols (take (n - 2) ws)) (drop (n - 2) ws)
      | false ↦ none
    ]

unfoldable pub with_goal : Marked → Option (List Marked) → Option (List Marked)
with_goal m none = none
with_goal m (some ms) = some (m ∷ ms)

unfoldable pub goals_after : (List ℕ → Option (List Marked)) → Option GoalRead → Option (List Marked)
goals_after others none = none
goals_after others (some (goal_read m rest)) = with_goal m (others rest)

-- So many goals, from the start of a list of words.
unfoldable pub read_goals : List Symbol → ℕ → List ℕ → Option (List Marked)
read_goals symbols zero ws = some []
read_goals symbols (suc n) ws = goals_after (λ rest. read_goals symbols n rest) (read_goal symbols ws)
