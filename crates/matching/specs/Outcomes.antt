-- What unification leaves in the bindings. Assumes nothing.
use Rattle.std.specs.Prelude.{ℕ, suc, ◌+◌, ◌<◌, ◌≡◌, List}
use Rattle.std.proofs.Math.Logic.{ite}
use Rattle.std.proofs.Math.Decide.{ℕ_discrete}
use Rattle.rules.specs.Terms.{Term, occ}
use Rattle.rules.specs.Unification.{Substitution, done, bind, Unification, fails, solved, equations, unify, join}
use Rattle.matching.specs.Taking.{take_t}
use Rattle.matching.specs.Cells.{from}
use Rattle.matching.specs.Bindings.{Places, elims, value, alone, seen, Triangular, State, Trailed}
use Rattle.matching.specs.declared.unify.Outcome.{Outcome}
use Rattle.matching.specs.declared.unify.Outcome.TheVariants.{Unified, Failed, Broken}

-- the outcome of an equation between the variable x and another term s, with no equation after it
unfoldable pub eliminated : ℕ → Term → Unification
eliminated x s = ite (ℕ_discrete (occ x s) 0) (solved 1 (bind x s done)) (fails 1)

-- the highest stamp after a unification that leaves n bindings: an occurs check that failed leaves its own
abbrev pub highest : ℕ → Outcome → ℕ
highest n (Unified l) = n
highest n (Failed l) = n + 1
highest n Broken = n

-- a is the outcome o, with what is left of `left` after the equations of o, and the eliminations are `before` and then those of o;
-- or o takes more equations than `left`
abbrev pub OutcomeFrom : Unification → ℕ → Substitution → Substitution → Outcome → Type 0
OutcomeFrom o left before after (Unified l) = (k : ℕ) × (es : Substitution) × (o ≡ solved k es) × (after ≡ join before es) × (k + l ≡ left)
OutcomeFrom o left before after (Failed l) = (k : ℕ) × (o ≡ fails k) × (k + l ≡ left)
OutcomeFrom o left before after Broken = left < equations o

-- what a unification whose outcome is o leaves, with n' bindings
pub record UnifiesFrom (ar cells : List ℕ) (bs : Places) (trail : List ℕ) (n : ℕ) (o : Unification) (left : ℕ) (bs' : Places) (trail' stamps' : List ℕ) (n' : ℕ) (a : Outcome) : Type 0 where
  pub state : State ar cells bs' trail' stamps' n' (highest n' a)
  pub tells : OutcomeFrom o left (elims ar cells bs trail n) (elims ar cells bs' trail' n') a

-- the same of an equation between the free variable v and the term at p, after which `rest` is left; between the terms at a and b;
-- between the k terms at p and those at q
abbrev pub UnifiesVariable : List ℕ → List ℕ → Places → List ℕ → ℕ → ℕ → ℕ → ℕ → Places → List ℕ → List ℕ → ℕ → Outcome → Type 0
UnifiesVariable ar cells bs trail n v p rest bs' trail' stamps' n' a = UnifiesFrom ar cells bs trail n (eliminated v (value ar cells bs trail n p)) (suc rest) bs' trail' stamps' n' a

abbrev pub UnifiesPair : List ℕ → List ℕ → Places → List ℕ → ℕ → ℕ → ℕ → ℕ → Places → List ℕ → List ℕ → ℕ → Outcome → Type 0
UnifiesPair ar cells bs trail n p q left bs' trail' stamps' n' a = UnifiesFrom ar cells bs trail n (unify (alone ar cells bs trail n p) (alone ar cells bs trail n q)) left bs' trail' stamps' n' a

abbrev pub UnifiesPairs : List ℕ → List ℕ → Places → List ℕ → ℕ → ℕ → ℕ → ℕ → ℕ → Places → List ℕ → List ℕ → ℕ → Outcome → Type 0
UnifiesPairs ar cells bs trail n p q k left bs' trail' stamps' n' a = UnifiesFrom ar cells bs trail n (unify (seen ar cells bs trail n p k) (seen ar cells bs trail n q k)) left bs' trail' stamps' n' a

-- the unification of the first `number` terms at p with those at q
abbrev pub unified : List ℕ → List ℕ → ℕ → ℕ → ℕ → Unification
unified ar cells p q number = unify (take_t number (from ar cells p)) (take_t number (from ar cells q))

-- a is the outcome o, whose substitution is es, with what is left of `left`; or o takes more
abbrev pub OutcomeOf : Unification → ℕ → Substitution → Outcome → Type 0
OutcomeOf o left es (Unified l) = (k : ℕ) × (o ≡ solved k es) × (k + l ≡ left)
OutcomeOf o left es (Failed l) = (k : ℕ) × (o ≡ fails k) × (k + l ≡ left)
OutcomeOf o left es Broken = left < equations o

-- what the unification of two lists of terms, whose outcome is o, leaves where no variable was bound before
pub record Unifies (ar cells : List ℕ) (o : Unification) (left : ℕ) (bs : Places) (trail stamps : List ℕ) (n : ℕ) (a : Outcome) : Type 0 where
  pub triangular : Triangular ar cells bs trail n
  pub trailed : Trailed bs trail stamps n
  pub is : OutcomeOf o left (elims ar cells bs trail n) a

-- the same of the first `number` terms at p and those at q
abbrev pub UnifiesTerms : List ℕ → List ℕ → ℕ → ℕ → ℕ → ℕ → Places → List ℕ → List ℕ → ℕ → Outcome → Type 0
UnifiesTerms ar cells p q number left bs trail stamps n a = Unifies ar cells (unified ar cells p q number) left bs trail stamps n a
