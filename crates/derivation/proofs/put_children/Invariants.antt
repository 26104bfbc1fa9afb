-- `put_children` meets its contract. The loop's invariant: the goals that the clauses so far gave are counted, and in the store as far as
-- there is room, unless one is oversized; and their equations are paid. Assumes nothing.
use Rattle.std.proofs.Common.{ℕ, ◌≡◌, ◌+◌, ◌-◌, ◌*◌, ◌≤◌, Option, Some, List, length, get_or, take}
use Rattle.rules.specs.Terms.{Terms}
use Rattle.rules.specs.Syntax.{Literal, Deck, Goal}
use Rattle.rules.specs.Resolution.{resolvent, resolvents}
use Rattle.clauses.specs.Tried.{left}
use Rattle.clauses.specs.declared.Clauses.{Clauses}
use Rattle.clauses.specs.declared.tried.Tried.{Tried}
use Rattle.derivation.specs.Derives.{Tries, sum_of}
use Rattle.derivation.specs.declared.Attempt.{Attempt}
use Rattle.derivation.proofs.ChildrenLaws.{Going}
use Rattle.derivation.proofs.put_children.Given as goal

pub record Loop (clauses : Clauses) (store₀ cells₀ : List ℕ) (base budget : ℕ) (a : Attempt) (store cells : List ℕ) (end : Option ℕ) (rest : ℕ) (tried : Tried) : Type 0 where
  pub store_length : length store ≡ length store₀
  pub goal_cells : take a.call.len cells ≡ take a.call.len cells₀
  pub same_clauses : tried.clauses ≡ clauses
  pub predicate : tried.p ≡ get_or cells₀ a.call.s 0
  pub few : length tried.numbers.now ≤ 8192
  pub counted : (k : ℕ) → end ≡ Some k → k + 1024 * (length tried.numbers.now - tried.next) ≤ base + 1024 * 8192
  pub going : (d : Deck) (g : Goal) (before : List Literal) (p : ℕ) (ts : Terms) (after : List Literal) → Tries clauses.deck.words.now cells₀ a d g before p ts after
      → Going (resolvent a.offset g.answer_terms before ts after) a.offset ts (resolvents d.clauses g before p ts after) (sum_of d g p ts) store₀ base budget store end rest (left d tried)

abbrev pub invariant-loop-i : goal.invariant-loop-i
invariant-loop-i l =
    Loop l.clauses l.initial.store l.initial.work.cells.now l.base l.left l.attempt l.store l.work.cells.now l.held l.rest l.i-iterator
