-- The printed text of terms and answers: in parts, and how long it is.
use Prim.Native.Nat.{ℕ, ◌+◌, ◌*◌, ◌≤◌, ◌<◌}
use mathlib.Core.Path.{◌≡◌, refl, ap, sym, ◌∙◌}
use mathlib.Core.List.{List, [], ◌∷◌, ◌++◌, append_assoc}
use native.Mathlib.Omega.{arith}
use lib.ListN.{length, length-append}
use Rattle.rules.specs.Terms.{Term, var, app, Terms, nil, cons, count, size, sizes, vars_term, vars_terms}
use Rattle.rules.specs.Syntax.{Symbol, Goal}
use Rattle.rules.specs.Cells.{function, read_cell}
use Rattle.rules.specs.WellFormed.{All, WfTerm, WfTerms, WfGoal}
use Rattle.rules.specs.Listing.{decimal, print_term, print_arguments, print_more, print_spaced, print_answer, print_answers, true_text}
use Rattle.rules.specs.Goals.{words_of}
use Rattle.rules.proofs.GoalLaws.{goal-words, goal-small}
use Rattle.rules.proofs.CellLaws.{Small, after-term, written_as}
use Rattle.listing.specs.Standing.{show_term, show_arguments, show_more}
use Rattle.listing.proofs.DigitLaws.{decimal-append, decimal-length}

-- What follows is put behind.
module _ (sign : ℕ) where
  mutual
    pub show-append : (t : Term) (xs rest : List ℕ) → show_term sign t (xs ++ rest) ≡ show_term sign t xs ++ rest
    show-append (var v) xs rest = ap {B = List ℕ} (λ x. sign ∷ x) (decimal-append v xs rest)
    show-append (app f ts) xs rest =
        ap {B = List ℕ} (λ x. 115 ∷ x) (ap (decimal f) (arguments-append ts xs rest) ∙ decimal-append f (show_arguments sign ts xs) rest)

    arguments-append : (ts : Terms) (xs rest : List ℕ) → show_arguments sign ts (xs ++ rest) ≡ show_arguments sign ts xs ++ rest
    arguments-append nil xs rest = refl
    arguments-append (cons t ts) xs rest =
        ap {B = List ℕ} (λ x. 40 ∷ x) (ap (show_term sign t) (more-append ts (41 ∷ xs) rest) ∙ show-append t (show_more sign ts (41 ∷ xs)) rest)

    more-append : (ts : Terms) (xs rest : List ℕ) → show_more sign ts (xs ++ rest) ≡ show_more sign ts xs ++ rest
    more-append nil xs rest = refl
    more-append (cons t ts) xs rest =
        ap {B = List ℕ} (λ x. 44 ∷ x) (ap (show_term sign t) (more-append ts xs rest) ∙ show-append t (show_more sign ts xs) rest)

  -- Terms after commas, and the closing bracket.
  pub after-comma : (t : Term) (ts : Terms) (rest : List ℕ) → show_more sign (cons t ts) rest ≡ (44 ∷ []) ++ (show_term sign t [] ++ show_more sign ts rest)
  after-comma t ts rest = ap {B = List ℕ} (λ x. 44 ∷ x) (show-append t [] (show_more sign ts rest))

  in-brackets : (t : Term) (ts : Terms) → show_arguments sign (cons t ts) [] ≡ (40 ∷ []) ++ (show_term sign t [] ++ show_more sign ts (41 ∷ []))
  in-brackets t ts = ap {B = List ℕ} (λ x. 40 ∷ x) (show-append t [] (show_more sign ts (41 ∷ [])))

  -- A symbol without arguments, and with them.
  pub no_arguments : (f : ℕ) (ts : Terms) → count ts ≡ 0 → (show_term sign (app f ts) [] ≡ 115 ∷ decimal f []) × (sizes ts ≡ 0)
  no_arguments f nil e = (refl, refl)
  no_arguments f (cons t ts) e = absurd (omega arith)

  pub name-apart : (f : ℕ) (ts : Terms) → show_term sign (app f ts) [] ≡ (115 ∷ decimal f []) ++ show_arguments sign ts []
  name-apart f ts = ap {B = List ℕ} (λ x. 115 ∷ x) (decimal-append f [] (show_arguments sign ts []))

  pub applied-parts :
      (f : ℕ) (t : Term) (ts : Terms)
      → show_term sign (app f (cons t ts)) [] ≡ (115 ∷ decimal f []) ++ ((40 ∷ []) ++ (show_term sign t [] ++ show_more sign ts (41 ∷ [])))
  applied-parts f t ts = name-apart f (cons t ts) ∙ ap ((115 ∷ decimal f []) ++◌) (in-brackets t ts)

-- The listing's terms.
mutual
  shown-printed : (t : Term) (rest : List ℕ) → show_term 118 t rest ≡ print_term t rest
  shown-printed (var v) rest = refl
  shown-printed (app f ts) rest = ap {B = List ℕ} (λ x. 115 ∷ decimal f x) (arguments-printed ts rest)

  arguments-printed : (ts : Terms) (rest : List ℕ) → show_arguments 118 ts rest ≡ print_arguments ts rest
  arguments-printed nil rest = refl
  arguments-printed (cons t ts) rest = ap {B = List ℕ} (λ x. 40 ∷ x) (ap (show_term 118 t) (more-printed ts (41 ∷ rest)) ∙ shown-printed t (print_more ts (41 ∷ rest)))

  more-printed : (ts : Terms) (rest : List ℕ) → show_more 118 ts rest ≡ print_more ts rest
  more-printed nil rest = refl
  more-printed (cons t ts) rest = ap {B = List ℕ} (λ x. 44 ∷ x) (ap (show_term 118 t) (more-printed ts rest) ∙ shown-printed t (print_more ts rest))

term-append : (t : Term) (xs rest : List ℕ) → print_term t (xs ++ rest) ≡ print_term t xs ++ rest
term-append t xs rest = sym (shown-printed t (xs ++ rest)) ∙ show-append 118 t xs rest ∙ ap (◌++ rest) (shown-printed t xs)

pub first-shown : (t : Term) (rest : List ℕ) → print_term t rest ≡ show_term 118 t [] ++ rest
first-shown t rest = sym (shown-printed t rest) ∙ show-append 118 t [] rest

spaced-append : (ts : Terms) (xs rest : List ℕ) → print_spaced ts (xs ++ rest) ≡ print_spaced ts xs ++ rest
spaced-append nil xs rest = refl
spaced-append (cons t ts) xs rest =
    ap {B = List ℕ} (λ x. 32 ∷ x) (ap (print_term t) (spaced-append ts xs rest) ∙ term-append t (print_spaced ts xs) rest)

-- A term after a space; an answer's line.
pub after-space : (t : Term) (ts : Terms) → print_spaced (cons t ts) [] ≡ 32 ∷ (show_term 118 t [] ++ print_spaced ts [])
after-space t ts = ap {B = List ℕ} (λ x. 32 ∷ x) (first-shown t (print_spaced ts []))

pub line-parts : (t : Term) (ts : Terms) → print_answer (cons t ts) (10 ∷ []) ≡ show_term 118 t [] ++ (print_spaced ts [] ++ (10 ∷ []))
unfolding print_answer
line-parts t ts = ap (print_term t) (spaced-append ts [] (10 ∷ [])) ∙ first-shown t (print_spaced ts [] ++ (10 ∷ []))

answer-append : (ts : Terms) (xs rest : List ℕ) → print_answer ts (xs ++ rest) ≡ print_answer ts xs ++ rest
unfolding print_answer
answer-append nil xs rest = sym (append_assoc true_text xs rest)
answer-append (cons t ts) xs rest = ap (print_term t) (spaced-append ts xs rest) ∙ term-append t (print_spaced ts xs) rest

pub answers-parts : (g : Goal) (gs : List Goal) → print_answers (g ∷ gs) ≡ print_answer g.answer_terms (10 ∷ []) ++ print_answers gs
unfolding print_answers
answers-parts g gs = answer-append g.answer_terms (10 ∷ []) (print_answers gs)

-- A term takes at most 8 bytes a cell: a letter, five digits, its closing bracket and the byte in front of it.
decimal-rest : (k n : ℕ) (rest : List ℕ) → length (decimal n []) ≤ k → length (decimal n rest) ≤ k + length rest
decimal-rest k n rest h = omega (arith, ap length (decimal-append n [] rest), length-append (decimal n []) rest)

functor-digits : (S : List Symbol) (f k : ℕ) → read_cell S f ≡ function f k → length (decimal f []) ≤ 5
functor-digits S f k e = let l : f < 16384 = (written_as S f (function f k) e).1 in decimal-length 4 f (omega arith)

module _ (S : List Symbol) where
  mutual
    pub term-short : (t : Term) (vs rest : List ℕ) → WfTerm S t → All Small (vars_term t vs) → 1 + length (print_term t rest) ≤ 8 * size t + length rest
    term-short (var v) vs rest w s =
        let l : v ≤ 1023 = s.0 in
        omega (arith, decimal-rest 4 v rest (decimal-length 3 v (omega arith)))
    term-short (app f ts) vs rest w s =
        omega (arith, decimal-rest 5 f (print_arguments ts rest) (functor-digits S f (count ts) w.0), arguments-short ts vs rest w.1 s)

    arguments-short : (ts : Terms) (vs rest : List ℕ) → WfTerms S ts → All Small (vars_terms ts vs) → length (print_arguments ts rest) ≤ 1 + 8 * sizes ts + length rest
    arguments-short nil vs rest w s = omega arith
    arguments-short (cons t ts) vs rest w s =
        omega (arith, term-short t (vars_terms ts vs) (print_more ts (41 ∷ rest)) w.0 s, more-short ts vs (41 ∷ rest) w.1 (after-term Small t (vars_terms ts vs) s))

    more-short : (ts : Terms) (vs rest : List ℕ) → WfTerms S ts → All Small (vars_terms ts vs) → length (print_more ts rest) ≤ 8 * sizes ts + length rest
    more-short nil vs rest w s = omega arith
    more-short (cons t ts) vs rest w s =
        omega (arith, term-short t (vars_terms ts vs) (print_more ts rest) w.0 s, more-short ts vs rest w.1 (after-term Small t (vars_terms ts vs) s))

  spaced-short : (ts : Terms) (vs rest : List ℕ) → WfTerms S ts → All Small (vars_terms ts vs) → length (print_spaced ts rest) ≤ 8 * sizes ts + length rest
  spaced-short nil vs rest w s = omega arith
  spaced-short (cons t ts) vs rest w s =
      omega (arith, term-short t (vars_terms ts vs) (print_spaced ts rest) w.0 s, spaced-short ts vs rest w.1 (after-term Small t (vars_terms ts vs) s))

  answer-short :
      (ts : Terms) (rest : List ℕ) → WfTerms S ts → All Small (vars_terms ts []) → length (print_answer ts (10 ∷ rest)) ≤ 5 + 8 * sizes ts + length rest
  unfolding print_answer true_text
  answer-short nil rest w s = omega arith
  answer-short (cons t ts) rest w s =
      omega (arith, term-short t (vars_terms ts []) (print_spaced ts (10 ∷ rest)) w.0 s, spaced-short ts [] (10 ∷ rest) w.1 (after-term Small t (vars_terms ts []) s))

  -- Answers take at most 8 bytes a word, and each of them two words at least.
  pub answers-short : (gs : List Goal) → All (WfGoal S) gs → All (λ g. g.literals ≡ []) gs → (length (print_answers gs) ≤ 8 * words_of gs) × (2 * length gs ≤ words_of gs)
  unfolding print_answers
  answers-short [] w b = (omega arith, omega arith)
  answers-short (g ∷ gs) w b =
      let r = answers-short gs w.1 b.1 in
      let small : All Small (vars_terms g.answer_terms []) = rw b.0 at (goal-small S g w.0) in
      (omega (arith, r.0, answer-short g.answer_terms (print_answers gs) w.0.answer_terms small, goal-words g), omega (arith, r.1, goal-words g))
