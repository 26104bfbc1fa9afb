-- A goal with a selected positive literal, a clause about its predicate, and the derived goal.
use Rattle.std.specs.Prelude.{ℕ, ◌+◌, ◌≤◌, ◌<◌, ◌≡◌, List, ◌∷◌, ◌++◌, length, take, Option, Some, None}
use Rattle.std.proofs.Math.Option as math
use Rattle.std.proofs.Math.Option.{none, some}
use Rattle.rules.specs.Terms.{app, var, Terms, nil, cons, count}
use Rattle.rules.specs.Syntax.{Symbol, Literal, pos, Clause, Goal, top_goal}
use Rattle.rules.specs.Decks.{write_clause}
use Rattle.rules.specs.Unification.{fails, equations, unify}
use Rattle.rules.specs.Resolution.{fresh, resolvent}
use Rattle.rules.specs.Goals.{goal_words, marked, pending, write_goal}
use Rattle.rules.specs.WellFormed.{WfClause}
use Rattle.matching.specs.Bindings.{NoBindings}
use Rattle.matching.specs.declared.bindings.Table.{Table}
use Rattle.resolvents.specs.declared.put.Draft.{Draft}
use Rattle.resolvents.specs.Selecting.{GoalCells, Spans}
use Rattle.resolvents.specs.declared.resolve.Call.{Call}
use Rattle.resolvents.specs.declared.resolve.Resolved.{Resolved}
use Rattle.resolvents.specs.declared.resolve.Resolved.TheVariants.{Nothing, Child, Oversized}

-- The table and the draft of a run between two clauses: nothing is bound, marked or named.
pub record Rows (table : Table) (draft : Draft) : Type 0 where
  pub blank : NoBindings table.bind table.stamps
  pub empty : table.bound ≡ 0
  pub none_named : draft.named ≡ 0

-- The call's first cells are those of the goal g, and its literal is the positive one p(ts), with `before` and `after` around it; the variables
-- are below offset.
pub record Calls (ar cells : List ℕ) (call : Call) (offset : ℕ) (S : List Symbol) (g : Goal) (before : List Literal) (p : ℕ) (ts : Terms) (after : List Literal) : Type 0 where
  pub inside : call.len ≤ length cells
  pub goal : GoalCells ar (take call.len cells) call.answer_cells S g
  pub literals : g.literals ≡ before ++ (pos p ts ∷ after)
  pub span : Spans g.answer_terms before (pos p ts) call.s call.e
  pub fresh : offset ≡ top_goal g

-- There are such a goal and such a literal: for a `requires`, which cannot quantify over what the rules have.
pub record SomeGoalCall (ar cells : List ℕ) (call : Call) : Type 0 where
  pub offset : ℕ
  pub symbols : List Symbol
  pub goal : Goal
  pub before : List Literal
  pub predicate : ℕ
  pub terms : Terms
  pub after : List Literal
  pub calls : Calls ar cells call offset symbols goal before predicate terms after

-- The symbol that the first of the terms begins with: none where there is no term, or a variable.
abbrev pub leading_symbol : Terms → Option ℕ
leading_symbol nil = None
leading_symbol (cons (var v) ts) = None
leading_symbol (cons (app f us) ts) = Some f

-- The clause's cells are those of c, which is about p.
pub record About (clause : List ℕ) (S : List Symbol) (p : ℕ) (c : Clause) : Type 0 where
  pub well_formed : WfClause S c
  pub cells : clause ≡ write_clause c
  pub about : c.predicate ≡ p

-- There are such a goal and such a clause: for a `requires`, which cannot quantify over what the rules have.
pub record SomeCall (ar cells clause : List ℕ) (call : Call) (offset : ℕ) : Type 0 where
  pub symbols : List Symbol
  pub goal : Goal
  pub before : List Literal
  pub predicate : ℕ
  pub terms : Terms
  pub after : List Literal
  pub clause' : Clause
  pub calls : Calls ar cells call offset symbols goal before predicate terms after
  pub about : About clause symbols predicate clause'

-- The answer is the derived goal: its words are at the start of `child`; or it exceeds 1,024 words; or there is none.
abbrev pub IsResolvent : math.Option Goal → List ℕ → Resolved → Type 0
IsResolvent none child Nothing = Unit {0}
IsResolvent none child (Child w) = ⊥
IsResolvent none child Oversized = ⊥
IsResolvent (some g) child Nothing = ⊥
IsResolvent (some g) child (Child w) = (w ≡ goal_words g) × (w ≤ 1024) × (take w child ≡ write_goal (marked pending g))
IsResolvent (some g) child Oversized = 1024 < goal_words g

-- The equations that the unification of the literal's terms with a clause's head takes, the failing one included.
abbrev pub equations_of : ℕ → Terms → Clause → ℕ
equations_of offset ts c = equations (unify ts (fresh offset c.arguments))

-- The same where the unification takes k equations and `left` may be taken: the answer and what is left; or k is more than that.
abbrev pub IsAttempt : math.Option Goal → ℕ → ℕ → List ℕ → Option (Resolved × ℕ) → Type 0
IsAttempt o k left child (Some x) = (k + x.1 ≡ left) × IsResolvent o child x.0
IsAttempt o k left child None = left < k

-- Whatever goal and literal the call is of: r is the symbol that the literal's first argument begins with.
abbrev pub BeginsWith : List ℕ → List ℕ → Call → Option ℕ → Type 0
BeginsWith ar cells call r =
    (S : List Symbol) (g : Goal) (before : List Literal) (p : ℕ) (ts : Terms) (after : List Literal) (offset : ℕ) → Calls ar cells call offset S g before p ts after
    → r ≡ leading_symbol ts

-- Whatever clause has these cells: its unification with a literal whose first argument begins with `first` fails at the first equation.
abbrev pub FailsFirst : Option ℕ → List ℕ → Type 0
FailsFirst first clause =
    (ts : Terms) (c : Clause) (offset : ℕ) → first ≡ leading_symbol ts → count ts ≡ count c.arguments → clause ≡ write_clause c
    → unify ts (fresh offset c.arguments) ≡ fails 1

-- Whatever goal and literal the call is of, and whatever clause about its predicate has these cells: the answer is their derived goal.
abbrev pub ResolvesClause : List ℕ → List ℕ → Call → ℕ → List ℕ → ℕ → List ℕ → Option (Resolved × ℕ) → Type 0
ResolvesClause ar cells call offset clause left child r =
    (S : List Symbol) (g : Goal) (before : List Literal) (p : ℕ) (ts : Terms) (after : List Literal) (c : Clause)
    → Calls ar cells call offset S g before p ts after → About clause S p c
    → IsAttempt (resolvent offset g.answer_terms before ts after c) (equations_of offset ts c) left child r
