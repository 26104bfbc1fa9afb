-- The drill terms after a given one: over the sizes, and as the cells hold the next.
use Prim.Native.Nat.{ℕ, suc, ◌+◌, ◌-◌, ◌≤◌, ◌<◌}
use mathlib.Core.Path.{◌≡◌, refl, ap, ap₂, sym, ◌∙◌}
use mathlib.Core.Bool.{true, false}
use mathlib.Core.List.{List, [], ◌∷◌, ◌++◌}
use native.Mathlib.Numerals.{add-one}
use native.Mathlib.Omega.{arith}
use lib.ListN.{length}
use lib.Seq.{length-take-le}
use Rattle.rules.specs.Syntax.{Symbol}
use Rattle.rules.specs.Drill.{fillings, terms_from}
use Rattle.drill.specs.Successors.{fills, followers, Heads, nonempty, rest_after}
use Rattle.drill.specs.Holding.{term_cells, Least, BeginsHere}
use Rattle.drill.specs.declared.term.Term.{Term}
use Rattle.drill.proofs.FillLaws.{empty}

-- The terms of `size` cells and more, n at most.
terms-step : (S : List Symbol) (n size : ℕ) → size ≤ n → terms_from S size (suc n - size) ≡ fillings S size 1 ++ terms_from S (suc size) (n - size)
unfolding terms_from
terms-step S n size h = let e : suc n - size ≡ suc (n - size) = omega arith in ap (terms_from S size) e

pub terms-end : (S : List Symbol) (n size : ℕ) → n < size → terms_from S size (suc n - size) ≡ []
unfolding terms_from
terms-end S n size h = let e : suc n - size ≡ 0 = omega arith in ap (terms_from S size) e

pub terms-skip : (S : List Symbol) (n size : ℕ) → size ≤ n → nonempty (fillings S size 1) ≡ false → terms_from S size (suc n - size) ≡ terms_from S (size + 1) (suc n - (size + 1))
terms-skip S n size h e =
    let m : n - size ≡ suc n - (size + 1) = omega arith in
    terms-step S n size h
    ∙ ap (◌++ terms_from S (suc size) (n - size)) (empty (fillings S size 1) e)
    ∙ ap₂ (terms_from S) (sym (add-one size)) m

pub term-length : (t : Term) → length (term_cells t) ≡ t.size
term-length t = length-take-le t.size t.cells (omega (arith, t.wide, t.sized))

-- A term whose cells are ys, the first of the list.
pub begins-with :
    (S : List Symbol) (n : ℕ) (list : List (List ℕ)) (t : Term) (ys : List ℕ) → term_cells t ≡ ys → t.size ≤ n → fills S 1 ys ≡ true
    → list ≡ ys ∷ rest_after S n ys → BeginsHere S n list t
begins-with S n list t ys c l v e = record { is = record { short = l; valid = rw c v }; begins = rw c e }

-- The least term of a size.
pub rest-least : (S : List Symbol) (n size : ℕ) (ys : List ℕ) → size ≤ n → length ys ≡ size → Heads S 1 (fillings S size 1) ys → terms_from S size (suc n - size) ≡ ys ∷ rest_after S n ys
unfolding rest_after
rest-least S n size ys h l w =
    terms-step S n size h ∙ ap (◌++ terms_from S (suc size) (n - size)) w.begins ∙ ap (λ m. ys ∷ (followers S 1 ys ++ terms_from S (suc m) (n - m))) (sym l)

pub least-begins : (S : List Symbol) (n size : ℕ) (list : List (List ℕ)) (t : Term) → size ≤ n → Least S size t → list ≡ terms_from S size (suc n - size) → BeginsHere S n list t
least-begins S n size list t h w e =
    let l : length (term_cells t) ≡ size = term-length t ∙ w.is in
    record {
      is = record { short = omega (arith, w.is); valid = w.heads.valid };
      begins = e ∙ rest-least S n size (term_cells t) h l w.heads;
    }

-- The next term of the same size.
pub rest-next : (S : List Symbol) (n : ℕ) (x ys : List ℕ) → length ys ≡ length x → Heads S 1 (followers S 1 x) ys → rest_after S n x ≡ ys ∷ rest_after S n ys
unfolding rest_after
rest-next S n x ys l w =
    ap (◌++ terms_from S (suc (length x)) (n - length x)) w.begins ∙ ap (λ m. ys ∷ (followers S 1 ys ++ terms_from S (suc m) (n - m))) (sym l)

-- The last term of a size.
pub rest-larger : (S : List Symbol) (n size : ℕ) (x : List ℕ) → length x ≡ size → followers S 1 x ≡ [] → rest_after S n x ≡ terms_from S (size + 1) (suc n - (size + 1))
unfolding rest_after
rest-larger S n size x l e =
    let m : n - length x ≡ suc n - (size + 1) = omega arith in
    let s : suc (length x) ≡ size + 1 = omega arith in
    ap (◌++ terms_from S (suc (length x)) (n - length x)) e ∙ ap₂ (terms_from S) s m

-- From the start.
pub rest-start : (S : List Symbol) (n : ℕ) → rest_after S n [] ≡ terms_from S 1 (suc n - 1)
unfolding followers
rest-start S n = rest-larger S n 0 [] refl refl
