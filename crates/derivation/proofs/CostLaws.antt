-- The clauses of a row take an equation each, at least. Assumes nothing.
use Prim.Native.Nat.{ℕ, suc, ◌+◌, ◌≤◌, ◌<◌}
use mathlib.Core.Path.{◌≡◌, refl, ap}
use mathlib.Core.Bool.{Bool, true, false}
use mathlib.Core.Option.{some}
use mathlib.Core.List.{List, [], ◌∷◌}
use native.Mathlib.Omega.{arith}
use native.Mathlib.Decide.{ℕ_discrete}
use lib.ListN.{length}
use Rattle.rules.specs.Terms.{Term, Terms, nil, cons, count}
use Rattle.rules.specs.Syntax.{Clause}
use Rattle.rules.specs.Unification.{equations, unify}
use Rattle.rules.specs.Resolution.{clauses_about, row_of, in_row, row_clauses, fresh, matchings}
use Rattle.rules.proofs.UnifyLaws.{taken-cons}
use Rattle.clauses.specs.Clauses.{ClauseAt}
use Rattle.clauses.specs.Rows.{Argued}
use Rattle.clauses.proofs.GroupLaws.{about-here, about-other}

-- A head with arguments.
head-taken : (N : ℕ) (t : Term) (ts us : Terms) → 0 < count us → 0 < equations (unify (cons t ts) (fresh N us))
head-taken N t ts nil h = absurd (omega arith)
head-taken N t ts (cons u us) h = taken-cons t _ ts _

module _ (r N : ℕ) (t : Term) (ts : Terms) where
  -- The equations are at least as many as the clauses.
  Pays : List Clause → Type 0
  Pays cs = length (row_clauses r cs) ≤ matchings N (cons t ts) (row_clauses r cs)

  pays-one : (c : Clause) (cs : List Clause) → 0 < count c.arguments → Pays cs → Pays (c ∷ cs)
  unfolding Pays row_clauses matchings
  pays-one c cs h i = go (in_row r (row_of c.arguments)) refl
    where
      go : (b : Bool) → in_row r (row_of c.arguments) ≡ b → length (row_clauses r (c ∷ cs)) ≤ matchings N (cons t ts) (row_clauses r (c ∷ cs))
      go true e = rw (e, row_clauses, matchings) (omega (arith, i, head-taken N t ts c.arguments h))
      go false e = rw (e, row_clauses) i

  pays-about : (p : ℕ) (cs : List Clause) → ((i : ℕ) (c : Clause) → ClauseAt cs i c → c.predicate ≡ p → 0 < count c.arguments) → Pays (clauses_about p cs)
  unfolding Pays row_clauses clauses_about
  pays-about p [] h = omega arith
  pays-about p (c ∷ cs) h =
      go (ℕ_discrete c.predicate p)
      (pays-about p cs (λ i c' at e. h (suc i) c' (let k : suc i + 1 ≡ suc (i + 1) = omega arith in rw k at) e))
    where
      go : Dec (c.predicate ≡ p) → Pays (clauses_about p cs) → Pays (clauses_about p (c ∷ cs))
      go (yes q) i = rw (about-here p c cs q) (pays-one c (clauses_about p cs) (h 0 c refl q) i)
      go (no q) i = rw (about-other p c cs q) i

  pub pays-row : (p : ℕ) (cs : List Clause) → Argued p cs → length (row_clauses r (clauses_about p cs)) ≤ matchings N (cons t ts) (row_clauses r (clauses_about p cs))
  unfolding Pays
  pays-row p cs a = pays-about p cs a.some

-- A literal whose row has more clauses than what is left cannot be paid.
pub row-unpaid : (N left r p : ℕ) (ts : Terms) (cs todo : List Clause) → row_of ts ≡ some r → (0 < count ts → Argued p cs) → todo ≡ row_clauses r (clauses_about p cs)
    → left < length todo → left < matchings N ts todo
unfolding row_of
row-unpaid N left r p nil cs todo q a e h = cc
row-unpaid N left r p (cons t ts) cs todo q a e h = rw e (omega (arith, ap length e, pays-row r N t ts p cs (a (omega arith))))
