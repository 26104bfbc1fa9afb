-- Every goal that a run leaves is well formed: its symbols have the deck's arities, it is numbered by first appearance, and it has at most
-- 1,024 words. From any pending and parked goals that are so.
use Prim.Native.Nat.{ℕ}
use mathlib.Core.Path.{◌≡◌, subst}
use mathlib.Core.List.{List, [], ◌∷◌, ◌++◌}
use native.Mathlib.Omega.{arith}
use Rattle.rules.specs.Terms.{Terms, vars_terms}
use Rattle.rules.specs.Syntax.{Symbol, Literal, neg, Clause, Deck, Goal}
use Rattle.rules.specs.Cells.{numbered}
use Rattle.rules.specs.Goals.{Marked}
use Rattle.rules.specs.WellFormed.{All, WfLiteral, WfLiterals, WfClause, WfDeck, WfGoal, WfMarked}
use Rattle.rules.specs.Evaluation.{evaluate}
use Rattle.rules.proofs.ListLaws.{all_append, all_split}
use Rattle.rules.proofs.NumberingLaws.{vars-without}
use Rattle.rules.proofs.FormedLaws.{resolvents-wf, atom-wf, without-shorter, atom-shorter}
use Rattle.rules.proofs.Keeps.{Invariant, atom_goal, with_literals, Kept, OutcomeHas, evaluate-has}

-- Of a goal with a negative literal that has no variables: the goal of its atom, and the goal without it.
module _ (S : List Symbol) (ans : Terms) (before : List Literal) (p : ℕ) (ts : Terms) (after : List Literal) (closed : vars_terms ts [] ≡ []) where
  abbrev whole : Goal
  whole = record { answer_terms = ans; literals = before ++ (neg p ts ∷ after) }

  module _ (w : WfGoal S whole) where
    parts : WfLiterals S before × WfLiterals S (neg p ts ∷ after)
    parts = all_split (WfLiteral S) before (neg p ts ∷ after) w.literals

    atom-kept : WfGoal S (atom_goal p ts)
    unfolding numbered
    atom-kept = record {
      answer_terms = tt;
      literals = (atom-wf S p ts parts.1.0, tt);
      in_order = rw closed;
      short = omega (arith, w.short, atom-shorter ans before (neg p ts) after p);
    }

    without-kept : WfGoal S (with_literals whole (before ++ after))
    without-kept = record {
      answer_terms = w.answer_terms;
      literals = all_append (WfLiteral S) before after parts.0 parts.1.1;
      in_order = rw (vars-without before (neg p ts) after closed) at w.in_order;
      short = omega (arith, w.short, without-shorter ans before (neg p ts) after);
    }

-- Well-formedness as a property that runs keep: of a goal at any level, and of what an evaluation leaves.
abbrev pub WellFormed : List Symbol → Invariant
WellFormed S = record { pending = WfGoal S; parked = WfMarked S; answer = WfGoal S }

pub wf-kept : (S : List Symbol) (clauses : List Clause) → All (WfClause S) clauses → (g : Goal) → WfGoal S g → Kept (WellFormed S) clauses g
wf-kept S clauses wf g w = record {
  answered = λ e. w;
  parks = λ m h s. w;
  derives = resolvents-wf S clauses wf g (record { answer_terms = w.answer_terms; literals = w.literals });
  asks = λ before p ts after e closed.
      let v : WfGoal S (with_literals g (before ++ (neg p ts ∷ after))) = subst (λ ls. WfGoal S (with_literals g ls)) e w in
      (atom-kept S g.answer_terms before p ts after closed v, without-kept S g.answer_terms before p ts after closed v);
}

pub evaluate-keeps :
    (deck : Deck) → WfDeck deck → (answer_room store_size : ℕ) (pending : List Goal) (parked : List Marked) (total : ℕ)
    → All (WfGoal deck.symbols) pending → All (WfMarked deck.symbols) parked
    → OutcomeHas (WellFormed deck.symbols) (evaluate deck answer_room store_size pending parked total)
evaluate-keeps deck wf = evaluate-has (WellFormed deck.symbols) deck (wf-kept deck.symbols deck.clauses wf.clauses)
