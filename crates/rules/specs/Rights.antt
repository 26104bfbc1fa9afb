-- Closed sites (document 02, U9): the predicates that literals name and reach, and a member's list, which bars some of them.
use Rattle.std.specs.Prelude.{ℕ, zero, suc, ◌≡◌, Bool, true, false, ◌&&◌, ◌||◌, not, length, get_or, leb, eqb}
use mathlib.Core.List.{List, [], ◌∷◌, ◌++◌, map, Memᴰ}
use Rattle.rules.specs.Syntax.{Symbol, functor, predicate, Literal, Clause, Deck, predicate_of}
use Rattle.rules.specs.Refusals.{bad_bars, barred_reached, Checked, and_then as ◌>>=◌, require}
use Rattle.rules.specs.Goals.{Marked, member, appearing}
use Rattle.rules.specs.Resolution.{clauses_about}

-- The predicates that literals name, negated or not; the literals of goals.
abbrev pub predicates : List Literal → List ℕ
predicates ls = map predicate_of ls

abbrev pub literals_of : List Marked → List Literal
literals_of [] = []
literals_of (m ∷ ms) = m.goal.literals ++ literals_of ms

-- A predicate is reached that a starting literal names, or the body of a clause about a predicate that is reached and may be passed.
pub data ReachesBy (passed : ℕ → Type 0) (clauses : List Clause) (starts : List Literal) : ℕ → Type 0 where
  named : {p : ℕ} → Memᴰ p (predicates starts) → ReachesBy passed clauses starts p
  onward : {c : Clause} {p : ℕ} → ReachesBy passed clauses starts c.predicate → passed c.predicate → Memᴰ c clauses
      → Memᴰ p (predicates c.body) → ReachesBy passed clauses starts p

-- Whatever is passed on the way.
abbrev pub Reaches : List Clause → List Literal → ℕ → Type 0
Reaches clauses starts p = ReachesBy (λ q. Unit {0}) clauses starts p

-- The same, computed. One pass over the clauses, in deck order: where the head's predicate is seen, the body's are seen after it.
unfoldable pub pass : List Clause → List ℕ → List ℕ
pass [] seen = seen
pass (c ∷ cs) seen = elim (member c.predicate seen) [ true ↦ pass cs (appearing seen (predicates c.body)) | false ↦ pass cs seen ]

unfoldable pub passes : ℕ → List Clause → List ℕ → List ℕ
passes zero clauses seen = seen
passes (suc n) clauses seen = passes n clauses (pass clauses seen)

-- As many passes as there are clauses are enough (`reached-closed`).
unfoldable pub reached : List Clause → List Literal → List ℕ
reached clauses starts = passes (length clauses) clauses (predicates starts)

-- A member's list has one word a symbol: 1 bars a predicate, 0 doesn't, and functors have 0.
unfoldable pub bar_fits : Symbol → ℕ → Bool
bar_fits (functor k) w = eqb w 0
bar_fits (predicate k) w = leb w 1

unfoldable pub bars_fit : List Symbol → List ℕ → Bool
bars_fit [] [] = true
bars_fit [] (w ∷ bars) = false
bars_fit (s ∷ symbols) [] = false
bars_fit (s ∷ symbols) (w ∷ bars) = bar_fits s w && bars_fit symbols bars

abbrev pub barred : List ℕ → ℕ → Bool
barred bars p = eqb (get_or bars p 0) 1

abbrev pub Unbarred : List ℕ → ℕ → Type 0
Unbarred bars p = barred bars p ≡ false

unfoldable pub any_barred : List ℕ → List ℕ → Bool
any_barred bars [] = false
any_barred bars (p ∷ ps) = barred bars p || any_barred bars ps

-- Refusal 15, a list of the wrong length or with other words; 16, a barred predicate is reached. The starting points are the goals' literals.
unfoldable pub check_rights : Deck → List ℕ → List Marked → Checked (Unit {0})
check_rights deck bars goals = do
  _ ← require bad_bars (bars_fit deck.symbols bars)
  require barred_reached (not (any_barred bars (reached deck.clauses (literals_of goals))))

-- Two lists of clauses with the same clauses, in the same order, about each unbarred predicate that the starting literals reach, in both,
-- through unbarred ones. Any other reading of "names or reaches" (in the first deck, in the second, through barred predicates too) asks more.
abbrev pub SameClauses : List Clause → List Clause → List ℕ → List Literal → Type 0
SameClauses cs ds bars starts =
    (p : ℕ) → Unbarred bars p → ReachesBy (Unbarred bars) cs starts p → ReachesBy (Unbarred bars) ds starts p
    → clauses_about p cs ≡ clauses_about p ds
