-- What the completed deck says in three values (Fitting, Kunen), for decks that no interpretation of `Meaning` satisfies ("p if not p").
use Rattle.std.specs.Prelude.{ℕ, ◌≡◌, ◌↔◌, ◌⊎◌, List}
use Rattle.rules.specs.Syntax.{Literal, pos, neg, Clause, Deck, Goal}
use Rattle.rules.specs.Goals.{Marked}
use Rattle.rules.specs.WellFormed.{All}
use Rattle.rules.specs.Meaning.{Inds, Filling, evals, Some, individual}

-- A value is two facts: true, false, or else (where neither is had) unknown. Two values are equal if they have the same facts.
pub record Value : Type 1 where
  pub is_true : Type 0
  pub is_false : Type 0

infix 50 ◌≈◌
abbrev pub ◌≈◌ : Value → Value → Type 0
v ≈ w = (v.is_true ↔ w.is_true) × (v.is_false ↔ w.is_false)

-- The facts of v are facts of w: only what is unknown may differ.
infix 50 ◌⊑◌
abbrev pub ◌⊑◌ : Value → Value → Type 0
v ⊑ w = (v.is_true → w.is_true) × (v.is_false → w.is_false)

-- The order of values: false is lowest, true highest and unknown between.
infix 50 ◌≼◌
abbrev pub ◌≼◌ : Value → Value → Type 0
v ≼ w = (v.is_true → w.is_true) × (w.is_false → v.is_false)

-- "not" swaps the first two.
abbrev pub swap : Value → Value
swap v = record { is_true = v.is_false; is_false = v.is_true }

-- A conjunction takes its lowest value and a disjunction its highest, with false lowest and unknown between: of the elements of a list,
abbrev pub lowest {ℓ} : {A : Type ℓ} → (A → Value) → List A → Value
lowest v xs = record { is_true = All (λ x. (v x).is_true) xs; is_false = ∥ Some (λ x. (v x).is_false) xs ∥₁ }

abbrev pub highest {ℓ} : {A : Type ℓ} → (A → Value) → List A → Value
highest v xs = record { is_true = ∥ Some (λ x. (v x).is_true) xs ∥₁; is_false = All (λ x. (v x).is_false) xs }

-- and of the fillings that match. Where there is none, the highest is false.
abbrev pub highest_over : (Filling → Type 0) → (Filling → Value) → Value
highest_over Matches v = record { is_true = ∥ ((ν : Filling) × Matches ν × (v ν).is_true) ∥₁; is_false = (ν : Filling) → Matches ν → (v ν).is_false }

-- An interpretation in three values: an atom is true, false (two facts, never both) or else unknown.
pub record Interpretation3 : Type 1 where
  pub value : ℕ → Inds → Value
  pub true_proposition : (p : ℕ) (us : Inds) → IsProp (value p us).is_true
  pub false_proposition : (p : ℕ) (us : Inds) → IsProp (value p us).is_false
  pub never_both : (p : ℕ) (us : Inds) → (value p us).is_true → ¬ (value p us).is_false

-- The value of a literal, and of a list of literals, with individuals for its variables.
abbrev pub literal_value : Interpretation3 → Filling → Literal → Value
literal_value I ν (pos p ts) = I.value p (evals ν ts)
literal_value I ν (neg p ts) = swap (I.value p (evals ν ts))

abbrev pub literals_value : Interpretation3 → Filling → List Literal → Value
literals_value I ν ls = lowest (literal_value I ν) ls

-- The value that a clause gives to an atom: the highest of its body, over the fillings under which the clause's head is that atom.
abbrev pub clause_value : Interpretation3 → ℕ → Inds → Clause → Value
clause_value I p us c = highest_over (λ ν. (c.predicate ≡ p) × (evals ν c.arguments ≡ us)) (λ ν. literals_value I ν c.body)

-- An interpretation satisfies the completed deck: an atom's value equals the highest over its clauses' bodies, false where no clause gives it.
unfoldable pub Satisfies3 : Interpretation3 → Deck → Type 0
Satisfies3 I deck = (p : ℕ) (us : Inds) → I.value p us ≈ highest (clause_value I p us) deck.clauses

-- The query's value at a choice.
unfoldable pub query_value : Interpretation3 → List Literal → Inds → Value
query_value I query choice = literals_value I (individual choice) query

-- The value that a goal gives at a choice: the highest of its literals, over the fillings of its own variables under which its answer terms
-- are the choice's individuals. The highest value that the goals of a list give.
abbrev pub goal_value : Interpretation3 → Inds → Goal → Value
goal_value I choice g = highest_over (λ ν. evals ν g.answer_terms ≡ choice) (λ ν. literals_value I ν g.literals)

unfoldable pub goals_value : Interpretation3 → Inds → List Marked → Value
goals_value I choice ms = highest (λ m. goal_value I choice m.goal) ms

-- Excluded middle, for propositions. It is a premise where it is used.
abbrev pub ExcludedMiddle : Type 1
ExcludedMiddle = (P : Type 0) → IsProp P → P ⊎ (¬ P)
