-- The first goal of a well-formed query of at most 500 cells is well formed: with the query's variables in order, its answer terms are the first numbers.
use Prim.Native.Nat.{ℕ, zero, suc, ◌+◌, ◌≤◌, max}
use mathlib.Core.Path.{◌≡◌, refl, ap, ◌∙◌}
use mathlib.Core.Bool.{true, and-eq-true_iff}
use mathlib.Core.List.{List, [], ◌∷◌, ◌++◌, append_assoc}
use native.Mathlib.Omega.{arith}
use lib.ListN.{length, length-append}
use lib.Dec.{leb}
use borrow.Author.Tests.{le-leb, leb-true}
use Rattle.rules.specs.Terms.{sizes, vars_terms}
use Rattle.rules.specs.Syntax.{Symbol, Literal, vars_literals}
use Rattle.rules.specs.Cells.{numbered}
use Rattle.rules.specs.Goals.{appearing, variables, query_variables, first_goal}
use Rattle.rules.specs.WellFormed.{WfTerms, WfQuery, WfGoal}
use Rattle.rules.proofs.CellLaws.{literals-length, literals-vars}
use Rattle.rules.proofs.GoalLaws.{goal-words}
use Rattle.rules.proofs.NumberingLaws.{Appearing, again, first, appears, up_to, above, numbered-appearing}

-- No more variables appear than there are places.
appearing-length : (seen vs : List ℕ) → length (appearing seen vs) ≤ length seen + length vs
unfolding appearing
appearing-length seen [] = omega arith
appearing-length seen (v ∷ vs) = go (appears v vs seen) (appearing-length seen vs) (appearing-length (seen ++ (v ∷ [])) vs)
  where
    go :
        Appearing v vs seen → length (appearing seen vs) ≤ length seen + length vs → length (appearing (seen ++ (v ∷ [])) vs) ≤ length (seen ++ (v ∷ [])) + length vs
        → length (appearing seen (v ∷ vs)) ≤ length seen + length (v ∷ vs)
    go (again h e) a b = omega (arith, ap length e)
    go (first h e) a b = omega (arith, ap length e, length-append seen (v ∷ []))

-- What is in order is in order after more variables, and after the first numbers in order.
numbered-later : (a b : ℕ) (vs : List ℕ) → a ≤ b → numbered a vs ≡ true → numbered b vs ≡ true
unfolding numbered
numbered-later a b [] h e = refl
numbered-later a b (v ∷ vs) h e =
    let t = (and-eq-true_iff (leb v a) (numbered (max a (suc v)) vs)).0 e in
    (and-eq-true_iff (leb v b) (numbered (max b (suc v)) vs)).1
    (le-leb v b (omega (arith, leb-true v a t.0)), numbered-later (max a (suc v)) (max b (suc v)) vs (omega arith) t.1)

numbers-first : (n : ℕ) (vs : List ℕ) → numbered 0 (up_to n ++ vs) ≡ numbered n vs
unfolding numbered
numbers-first zero vs = refl
numbers-first (suc n) vs =
    let m : max n (suc n) ≡ suc n = omega arith in
    ap (numbered 0) (append_assoc (up_to n) (n ∷ []) vs) ∙ numbers-first n (n ∷ vs) ∙ rw (le-leb n n (omega arith), m)

-- Variables as terms.
variables-wf : (S : List Symbol) (vs : List ℕ) → WfTerms S (variables vs)
unfolding variables
variables-wf S [] = tt
variables-wf S (v ∷ vs) = (tt, variables-wf S vs)

pub variables-vars : (vs rest : List ℕ) → vars_terms (variables vs) rest ≡ vs ++ rest
unfolding variables
variables-vars [] rest = refl
variables-vars (v ∷ vs) rest = ap (v ∷◌) (variables-vars vs rest)

variables-size : (vs : List ℕ) → sizes (variables vs) ≡ length vs
unfolding variables
variables-size [] = refl
variables-size (v ∷ vs) = omega (arith, variables-size vs)

pub first_goal-wf : (S : List Symbol) (q : List Literal) → WfQuery S q → WfGoal S (first_goal q)
unfolding first_goal query_variables
first_goal-wf S q w =
    let vs = vars_literals q in
    record {
      answer_terms = variables-wf S (appearing [] vs);
      literals = w.literals;
      in_order =
          ap (numbered 0) (variables-vars (appearing [] vs) vs ∙ ap (◌++ vs) (numbered-appearing vs w.in_order))
          ∙ numbers-first (above vs) vs
          ∙ numbered-later 0 (above vs) vs (omega arith) w.in_order;
      short =
          omega (arith, w.short, appearing-length [] vs, goal-words (first_goal q), variables-size (appearing [] vs), literals-length q, literals-vars q);
    }
