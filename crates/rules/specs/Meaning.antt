-- What the completed deck says (document 01, the section of that name; Clark's completed data base).
use Rattle.std.specs.Prelude.{ℕ, zero, suc, ◌≡◌, ◌↔◌, ◌⊎◌, List, [], ◌∷◌}
use Rattle.rules.specs.Terms.{Term, var, app, Terms, nil, cons}
use Rattle.rules.specs.Syntax.{Literal, pos, neg, Clause, Deck, Goal}
use Rattle.rules.specs.Goals.{Marked}

-- An individual is any finite term built from whole numbers as functors, with any list of argument terms.
mutual
  pub data Ind : Type 0 where
    node : ℕ → Inds → Ind

  pub data Inds : Type 0 where
    inil : Inds
    icons : Ind → Inds → Inds

-- Individuals for variables.
abbrev pub Filling : Type 0
Filling = ℕ → Ind

-- The individual that a term is, with individuals for its variables. The deck's functors are their numbers.
abbrev mutual
  pub eval : Filling → Term → Ind
  eval ν (var v) = ν v
  eval ν (app f ts) = node f (evals ν ts)

  pub evals : Filling → Terms → Inds
  evals ν nil = inil
  evals ν (cons t ts) = icons (eval ν t) (evals ν ts)

-- A set of atoms, a predicate's number and its individuals, in the wide sense: an atom may be in it in several ways.
abbrev pub Atoms : Type 1
Atoms = ℕ → Inds → Type 0

-- An interpretation is any set of atoms: for each atom a proposition.
pub record Interpretation : Type 1 where
  pub atoms : Atoms
  pub proposition : (p : ℕ) (us : Inds) → IsProp (atoms p us)

-- Which atoms make a positive literal hold, those inside, and which a negated one, those outside.
pub record Reading : Type 1 where
  pub inside : Atoms
  pub outside : Atoms

-- With two values the atoms outside are those that are not in the set.
abbrev pub two_valued : Atoms → Reading
two_valued I = record { inside = I; outside = λ p us. ¬ I p us }

-- A list of literals holds when its positive literals are in the set and its negated atoms are not; the empty list holds.
abbrev pub Holds : Reading → Filling → List Literal → Type 0
Holds I ν [] = Unit {0}
Holds I ν (pos p ts ∷ ls) = I.inside p (evals ν ts) × Holds I ν ls
Holds I ν (neg p ts ∷ ls) = I.outside p (evals ν ts) × Holds I ν ls

-- Some element of a list has the property.
abbrev pub Some {ℓ} : {A : Type ℓ} → (A → Type 0) → List A → Type 0
Some P [] = ⊥
Some P (x ∷ xs) = P x ⊎ Some P xs

-- The clause, with individuals for its variables, has that atom as head and a body that holds.
abbrev pub Gives : Reading → ℕ → Inds → Clause → Type 0
Gives I p us c = (ν : Filling) × (c.predicate ≡ p) × (evals ν c.arguments ≡ us) × Holds I ν c.body

-- How "there is some" is read: `∥◌∥₁` forgets which (mere existence), and the identity keeps it at hand.
-- An atom is in the set exactly if some clause gives it.
abbrev pub SatisfiesBy : (Type 0 → Type 0) → Reading → List Clause → Type 0
SatisfiesBy M I clauses = (p : ℕ) (us : Inds) → I.inside p us ↔ M (Some (Gives I p us) clauses)

-- An interpretation satisfies the completed deck.
unfoldable pub Satisfies : Interpretation → Deck → Type 0
Satisfies I deck = SatisfiesBy (λ A. ∥ A ∥₁) (two_valued I.atoms) deck.clauses

-- A choice gives an individual to each of the query's variables, here the list of them by the variables' numbers.
-- Other variables do not stand in the query; they get any individual.
abbrev pub individual : Inds → Filling
individual inil v = node 0 inil
individual (icons u us) zero = u
individual (icons u us) (suc v) = individual us v

abbrev pub individuals : Inds → ℕ
individuals inil = 0
individuals (icons u us) = suc (individuals us)

-- The query holds for a choice when its literals, so filled, hold.
unfoldable pub QueryHolds : Interpretation → List Literal → Inds → Type 0
QueryHolds I query choice = Holds (two_valued I.atoms) (individual choice) query

-- Under some filling of its own variables, the goal's answer terms are in order equal to the choice's individuals and its literals hold.
abbrev pub CoversBy : Reading → Inds → Goal → Type 0
CoversBy I choice g = (ν : Filling) × (evals ν g.answer_terms ≡ choice) × Holds I ν g.literals

-- A goal covers a choice.
unfoldable pub Covers : Interpretation → Inds → Goal → Type 0
Covers I choice g = ∥ CoversBy (two_valued I.atoms) choice g ∥₁

-- Some goal of a list covers the choice.
unfoldable pub SomeCovers : Interpretation → Inds → List Marked → Type 0
SomeCovers I choice ms = ∥ Some (λ m. Covers I choice m.goal) ms ∥₁
