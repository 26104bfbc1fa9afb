-- The selected literal and the resolvents, which document 01 calls derived goals ("The evaluation").
use Rattle.std.specs.Prelude.{ℕ, zero, suc, ◌+◌, ◌*◌, ◌/◌, ◌%◌, Bool, true, false, ◌||◌, List, [], ◌∷◌, ◌++◌, length, ltb, eqb}
use Rattle.std.proofs.Math.Option.{Option, none, some}
use Rattle.rules.specs.Terms.{var, app, Terms, nil, cons, vars_terms, renames}
use Rattle.rules.specs.Syntax.{Symbol, functor, predicate, Literal, pos, neg, Clause, Goal, map_literals, map_goal, top_goal}
use Rattle.rules.specs.Goals.{goal_words, renumber}
use Rattle.rules.specs.Unification.{Unification, fails, spent, solved, equations, applys, unify}

-- Select the leftmost literal that is positive, or negative without variables. It comes with the literals before and after it.
-- Where there is none, the goal has no literals, or it has floundered.
pub data Selection : Type 0 where
  nothing : Selection
  positive negative : List Literal → ℕ → Terms → List Literal → Selection

unfoldable pub ground : Terms → Bool
ground ts = elim (vars_terms ts []) [ [] ↦ true | v ∷ vs ↦ false ]

unfoldable pub behind : Literal → Selection → Selection
behind l nothing = nothing
behind l (positive before p ts after) = positive (l ∷ before) p ts after
behind l (negative before p ts after) = negative (l ∷ before) p ts after

unfoldable pub select : List Literal → Selection
select [] = nothing
select (pos p ts ∷ ls) = positive [] p ts ls
select (neg p ts ∷ ls) = elim (ground ts) [ true ↦ negative [] p ts ls | false ↦ behind (neg p ts) (select ls) ]

-- The clauses about a predicate, in deck order.
unfoldable pub clauses_about : ℕ → List Clause → List Clause
clauses_about p [] = []
clauses_about p (c ∷ cs) = elim (eqb c.predicate p) [ true ↦ c ∷ clauses_about p cs | false ↦ clauses_about p cs ]

-- Clause variables are made fresh first: they come after the N variables of the goal.
abbrev pub fresh : ℕ → Terms → Terms
fresh N ts = renames (λ v. N + v) ts

-- The clause's body comes after the remaining literals (U3), so that the oldest literal is selected first.
abbrev pub place : List Literal → List Literal → List Literal → List Literal
place before body after = before ++ (after ++ body)

-- All substituted, and renumbered; nothing where the head does not match.
unfoldable pub resolved : Goal → Unification → Option Goal
resolved g (fails k) = none
resolved g spent = none
resolved g (solved k es) = some (renumber (map_goal (applys es) g))

-- The derived goal for the answer terms `ans` and the literals `before`, p(ts), `after`, by a clause about p.
unfoldable pub resolvent : ℕ → Terms → List Literal → Terms → List Literal → Clause → Option Goal
resolvent N ans before ts after c =
    resolved (record { answer_terms = ans; literals = place before (map_literals (fresh N) c.body) after }) (unify ts (fresh N c.arguments))

unfoldable pub keep_some : Option Goal → List Goal → List Goal
keep_some none gs = gs
keep_some (some g) gs = g ∷ gs

unfoldable pub collect : (Clause → Option Goal) → List Clause → List Goal
collect by [] = []
collect by (c ∷ cs) = keep_some (by c) (collect by cs)

-- For each clause about that predicate, in deck order, whose head matches.
unfoldable pub resolvents : List Clause → Goal → List Literal → ℕ → Terms → List Literal → List Goal
resolvents clauses g before p ts after = collect (resolvent (top_goal g) g.answer_terms before ts after) (clauses_about p clauses)

-- Any exceeds 1,024 words.
unfoldable pub any_oversized : List Goal → Bool
any_oversized [] = false
any_oversized (g ∷ gs) = ltb 1024 (goal_words g) || any_oversized gs

-- The index: which clauses a literal tries, of those about its predicate. A row is chosen by the number, modulo 16, of the first argument's
-- outermost functor. A variable has no row, nor has a literal without arguments.
unfoldable pub row_of : Terms → Option ℕ
row_of nil = none
row_of (cons (var v) ts) = none
row_of (cons (app f us) ts) = some (f % 16)

-- A clause is in the row of its head's first argument; one whose head starts with a variable is in each row.
unfoldable pub in_row : ℕ → Option ℕ → Bool
in_row r none = true
in_row r (some s) = eqb r s

-- The clauses of a row, in order.
unfoldable pub row_clauses : ℕ → List Clause → List Clause
row_clauses r [] = []
row_clauses r (c ∷ cs) = elim (in_row r (row_of c.arguments)) [ true ↦ c ∷ row_clauses r cs | false ↦ row_clauses r cs ]

-- A predicate with over 64 clauses has rows, if it has arguments.
unfoldable pub has_rows : List Clause → Bool
has_rows cs = ltb 64 (length cs)

-- A literal without rows, or whose first argument is a variable, tries all clauses.
unfoldable pub tried_by : Bool → Option ℕ → List Clause → List Clause
tried_by false r cs = cs
tried_by true none cs = cs
tried_by true (some r) cs = row_clauses r cs

-- The clauses that a literal with these arguments tries, of the clauses about its predicate.
unfoldable pub tried : Terms → List Clause → List Clause
tried ts cs = tried_by (has_rows cs) (row_of ts) cs

-- The words that 16 rows of one bit a clause take, in words of 64 bits.
unfoldable pub rows_words : ℕ → ℕ
rows_words n = elim (ltb 64 n) [ true ↦ 16 * ((n + 63) / 64) | false ↦ 0 ]

-- The same for a symbol that n clauses are about: only a predicate with arguments has rows.
unfoldable pub rows_of : Symbol → ℕ → ℕ
rows_of (functor k) n = 0
rows_of (predicate zero) n = 0
rows_of (predicate (suc k)) n = rows_words n

-- The words that the index takes, over the symbols numbered from p.
unfoldable pub index_words : List Clause → ℕ → List Symbol → ℕ
index_words clauses p [] = 0
index_words clauses p (s ∷ symbols) = rows_of s (length (clauses_about p clauses)) + index_words clauses (suc p) symbols

-- COST (document 02, U6). Matching reports how many equations it took from its list, the failing one included; here summed over clauses.
unfoldable pub matchings : ℕ → Terms → List Clause → ℕ
matchings N ts [] = 0
matchings N ts (c ∷ cs) = equations (unify ts (fresh N c.arguments)) + matchings N ts cs

-- A positive step costs 1 plus that number, summed over every clause tried. Other steps cost 1.
unfoldable pub selected_cost : List Clause → Goal → Selection → ℕ
selected_cost clauses g nothing = 1
selected_cost clauses g (positive before p ts after) = suc (matchings (top_goal g) ts (tried ts (clauses_about p clauses)))
selected_cost clauses g (negative before p ts after) = 1

-- What a step on the goal costs.
unfoldable pub cost_of : List Clause → Goal → ℕ
cost_of clauses g = selected_cost clauses g (select g.literals)
