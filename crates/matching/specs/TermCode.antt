-- Terms are told apart by a code: a functor with the number of its arguments, or a variable, in prefix order. So facts about equal terms
-- may stand in a ghost field.
use Rattle.std.specs.Prelude.{ℕ, zero, suc, ◌≡◌, List, [], ◌∷◌}
use Rattle.std.specs.Coded.{Coded, code_by, coded×, coded_ℕ, coded_list}
use Rattle.std.proofs.Common.{refl, ap, ◌∙◌}
use Rattle.rules.specs.Terms.{Term, Terms, var, app, nil, cons, ◌+++◌, count}
use Rattle.matching.specs.Taking.{take_t, drop_t, head_t, take-join, drop-join}

abbrev mutual
  pub code_after : Term → List (ℕ × ℕ) → List (ℕ × ℕ)
  code_after (var v) rest = (0, v) ∷ rest
  code_after (app f ts) rest = (suc (count ts), f) ∷ codes_after ts rest

  pub codes_after : Terms → List (ℕ × ℕ) → List (ℕ × ℕ)
  codes_after nil rest = rest
  codes_after (cons t ts) rest = code_after t (codes_after ts rest)

abbrev pub decoded_one : ℕ → ℕ → Terms → Terms
decoded_one zero v ts = cons (var v) ts
decoded_one (suc n) f ts = cons (app f (take_t n ts)) (drop_t n ts)

abbrev pub decoded : List (ℕ × ℕ) → Terms
decoded [] = nil
decoded (c ∷ cs) = decoded_one c.0 c.1 (decoded cs)

mutual
  pub decoded-code : (t : Term) (rest : List (ℕ × ℕ)) → decoded (code_after t rest) ≡ cons t (decoded rest)
  decoded-code (var v) rest = refl
  decoded-code (app f ts) rest =
      ap (decoded_one (suc (count ts)) f) (decoded-codes ts rest) ∙ ap (λ us. cons (app f us) (drop_t (count ts) (ts +++ decoded rest))) (take-join ts (decoded rest)) ∙ ap (cons (app f ts)) (drop-join ts (decoded rest))

  pub decoded-codes : (ts : Terms) (rest : List (ℕ × ℕ)) → decoded (codes_after ts rest) ≡ ts +++ decoded rest
  decoded-codes nil rest = refl
  decoded-codes (cons t ts) rest = decoded-code t (codes_after ts rest) ∙ ap (cons t) (decoded-codes ts rest)

abbrev pub term_code : Coded Term
term_code = code_by (List (ℕ × ℕ)) (coded_list (coded× coded_ℕ coded_ℕ)) (λ t. code_after t []) (λ cs. head_t (decoded cs)) (λ t. ap head_t (decoded-code t []))
